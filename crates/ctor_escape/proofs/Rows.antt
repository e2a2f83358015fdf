-- Worked examples: where `this` escapes, each beside its nearest neighbour. A break is told by the first byte of its place.
use Rattle.std.proofs.Common.{◌≡◌, ℕ, ◌+◌, List, [], ◌∷◌, map, Option, Some, None, refl}
use Rattle.std.specs.Prelude.{Bool, true, false}
use Rattle.je_base.specs.declared.span.Span.{Span}
use Rattle.je_core.specs.declared.program.Access.TheVariants.{Public}
use Rattle.je_core.specs.declared.program.Sort.TheVariants as sort
use Rattle.je_core.specs.declared.types.Base.TheVariants as base
use Rattle.je_core.specs.declared.types.ClassId.{ClassId}
use Rattle.je_core.specs.declared.types.Ty.{Ty}
use Rattle.je_core.specs.Core.{Core, CoreForm, CoreStmt, CoreCapture, CoreInitializer, CoreMethod, CoreClass, CoreProgram, node, cores, a_core, stmt, core_stmts}
use Rattle.je_core.specs.Core as core
use Rattle.je_classes.specs.Hierarchy.{library_class, object_class}
use Rattle.je_classes.specs.Members.{constructor_place}
use Rattle.rule_breaks.specs.declared.breaks.Break.{Break}
use Rattle.rule_breaks.specs.Breaks.{Breaks}
use Rattle.rule_breaks.specs.way.Found.{followed_by}
use Rattle.ctor_escape.specs.Expressions.{escapes}
use Rattle.ctor_escape.specs.Programs.{program_escapes}

abbrev c : ℕ → ClassId
c n = record { 0 = n }

abbrev at : ℕ → Span
at n = record { file = 0; start = n; end = n + 1 }

abbrev a : Ty
a = record { base = base.Class (c 1); dims = 0 }

abbrev void : Ty
void = record { base = base.Void; dims = 0 }

abbrev e : ℕ → CoreForm → Core
e n form = node form a (at n) (at n)

abbrev this : ℕ → Core
this n = e n core.This

abbrev block : List Core → CoreStmt
block es = stmt (core.Block [] (core_stmts (map (λ x. stmt (core.Do x) (at 0) (at 0)) es))) (at 0) (at 0)

-- ---- class A { { .. } static { .. } A() { .. } void m() { .. } }, with the names 1 new, 2 m; a field `outer` at the place 0

abbrev method : ℕ → List Core → CoreMethod
method n es = record {
  name = record { 0 = n };
  span = at 0;
  params = [];
  returns = void;
  flags = record { is_static = false; is_final = false; is_abstract = false; is_native = false; is_finalizer = false; access = Public };
  throws = [];
  locals = [];
  body = Some (block es);
}

abbrev initializer : Bool → List Core → CoreInitializer
initializer is_static es = record { is_static = is_static; span = at 0; locals = []; body = block es }

abbrev class : List CoreInitializer → List CoreMethod → CoreClass
class initializers methods = record {
  name = record { 0 = 0 };
  span = at 0;
  kind = record { sort = sort.Class; is_abstract = false; is_final = false; is_static = false };
  superclass = None;
  interfaces = [];
  heads = [];
  fields = [];
  initializers = initializers;
  methods = methods;
  enclosing = None;
  captured = 0;
  within = None;
  nth = 0;
  top = c 0;
  bridges = [];
}

program : List CoreInitializer → List CoreMethod → CoreProgram
program initializers methods = record {
  classes = class [] (method 3 [] ∷ method 4 [] ∷ method 1 [] ∷ []) ∷ class initializers methods ∷ [];
  texts = [];
}

abbrev p : CoreProgram
p = program [] (method 1 [] ∷ method 2 [] ∷ [])

abbrev places : Breaks → List ℕ
places breaks = map (λ (b : Break). b.span.start) (followed_by [] breaks)

abbrev of : Core → List ℕ
of x = places (escapes p x)

-- ---- expressions

abbrev field : Core → Core
field object = e 7 (core.Field object (c 1) 1)

-- `this` as a value, and `this.x`
itself : (of (this 5) ≡ 5 ∷ []) × (of (field (this 5)) ≡ [])
itself = (refl, refl)

-- `((A) this).x`, and `this.x.x`
of_a_cast : (of (field (e 6 (core.Cast (this 5)))) ≡ 5 ∷ []) × (of (field (field (this 5))) ≡ [])
of_a_cast = (refl, refl)

-- `b.o = this`, and `this.o = b`
stored : (of (e 8 (core.Assign (field (e 4 (core.Local 0))) (this 5))) ≡ 5 ∷ []) × (of (e 8 (core.Assign (field (this 5)) (e 4 (core.Local 0)))) ≡ [])
stored = (refl, refl)

-- `m()`, whose `this` stands at its name, and `this.x.m()`
called : (of (e 5 (core.CallVirtual (this 5) (c 1) 1 (cores []))) ≡ 5 ∷ []) × (of (e 5 (core.CallVirtual (field (this 4)) (c 1) 1 (cores []))) ≡ [])
called = (refl, refl)

-- `super.m()`, and `super(..)`
by_super : (of (e 5 (core.CallExact (a_core (this 5)) (c 1) 1 (cores []))) ≡ 5 ∷ []) × (of (e 5 (core.CallExact (a_core (this 5)) (c 1) 0 (cores []))) ≡ [])
unfolding program constructor_place object_class library_class
by_super = (refl, refl)

-- `super(this)`, and `super(this.x)`
handed : (of (e 5 (core.CallExact (a_core (this 5)) (c 1) 0 (cores (this 6 ∷ [])))) ≡ 6 ∷ []) × (of (e 5 (core.CallExact (a_core (this 5)) (c 1) 0 (cores (field (this 6) ∷ [])))) ≡ [])
unfolding program constructor_place object_class library_class
handed = (refl, refl)

-- a static method called by `this.s()`, and a static field read by `this.S`
selected : (of (e 9 (core.CallExact (a_core (this 5)) (c 1) 1 (cores []))) ≡ 5 ∷ []) × (of (e 9 (core.Static (a_core (this 5)) (c 1) 0)) ≡ [])
unfolding program constructor_place object_class library_class
selected = (refl, refl)

abbrev begins : Option ℕ → List (ClassId × ℕ) → CoreCapture
begins local path = record { class = c 2; field = 0; local = local; path = path }

abbrev new : CoreCapture → Core
new capture = e 5 (core.New (c 2) 0 (cores []) (capture ∷ []) (at 4))

-- `new I()`, an inner class of this one, and of the class round this one; a local class that captures a local
made : (of (new (begins None [])) ≡ 5 ∷ []) × (of (new (begins None ((c 1, 0) ∷ []))) ≡ []) × (of (new (begins (Some 0) [])) ≡ [])
made = (refl, refl, refl)

-- ---- programs

abbrev of_program : List CoreInitializer → List CoreMethod → List ℕ
of_program initializers methods = places (program_escapes (program initializers methods))

-- in a constructor, and in a method
in_a_constructor : (of_program [] (method 1 (this 5 ∷ []) ∷ method 2 [] ∷ []) ≡ 5 ∷ []) × (of_program [] (method 1 [] ∷ method 2 (this 5 ∷ []) ∷ []) ≡ [])
unfolding program program_escapes constructor_place object_class library_class
in_a_constructor = (refl, refl)

-- in an instance initializer; a static one has no `this`, and is no code that makes an object
in_an_initializer : (of_program (initializer false (this 5 ∷ []) ∷ []) [] ≡ 5 ∷ []) × (of_program (initializer true (this 5 ∷ []) ∷ []) [] ≡ [])
unfolding program program_escapes constructor_place object_class library_class
in_an_initializer = (refl, refl)
