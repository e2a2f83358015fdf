-- Worked examples of the rules on single expressions, each beside its nearest neighbour. A break is told by the first byte of its place.
use Rattle.std.proofs.Common.{◌≡◌, ℕ, zero, suc, ◌+◌, List, [], ◌∷◌, ◌++◌, map, Option, Some, None, refl}
use Rattle.std.specs.Prelude.{Bool, true, false}
use Rattle.je_base.specs.declared.span.Span.{Span}
use Rattle.je_core.specs.declared.expr.BinOp.{BinOp}
use Rattle.je_core.specs.declared.expr.BinOp.TheVariants as op
use Rattle.je_core.specs.declared.program.Access.TheVariants.{Public}
use Rattle.je_core.specs.declared.program.Sort.{Sort}
use Rattle.je_core.specs.declared.program.Sort.TheVariants as sort
use Rattle.je_core.specs.declared.types.Base.TheVariants as base
use Rattle.je_core.specs.declared.types.ClassId.{ClassId}
use Rattle.je_core.specs.declared.types.Ty.{Ty}
use Rattle.je_core.specs.declared.value.Value.TheVariants as value
use Rattle.je_core.specs.Core.{Core, CoreForm, CoreMethod, CoreClass, CoreProgram, node, cores, no_core, a_core}
use Rattle.je_core.specs.Core as core
use Rattle.je_classes.specs.Hierarchy.{is_below, library_class, object_class}
use Rattle.je_classes.specs.Members.{constructor_place}
use Rattle.je_classes.specs.Methods.{find_method, methods_named}
use Rattle.library_places.specs.Places.{library_place}
use Rattle.overlay_types.specs.Overlay.{has, is_marked}
use Rattle.plain_programs.specs.Wild.{text_place}
use Rattle.taming_db.specs.Rows.{Row, member_place}
use Rattle.rule_breaks.specs.declared.breaks.Break.{Break}
use Rattle.rule_breaks.specs.Breaks.{Breaks}
use Rattle.rule_breaks.specs.way.Found.{followed_by}
use Rattle.node_rules.specs.Comparisons.{comparison_breaks}
use Rattle.node_rules.specs.Enabled.{may_use}
use Rattle.node_rules.specs.ObjectTexts.{text_breaks}
use Rattle.node_rules.specs.Uses.{member_breaks}

abbrev c : ℕ → ClassId
c n = record { 0 = n }

abbrev at : ℕ → Span
at n = record { file = 0; start = n; end = n + 1 }

abbrev object : ℕ → Ty
object n = record { base = base.Class (c n); dims = 0 }

abbrev int : Ty
int = record { base = base.Int; dims = 0 }

abbrev places : Breaks → List ℕ
places breaks = map (λ (b : Break). b.span.start) (followed_by [] breaks)

-- ---- members, with a text that enables Integer's `MIN_VALUE`

abbrev rows : List Row
rows = record { class = 3; honorary = []; extend = false; enable = 28 ∷ [] } ∷ []

abbrev may : Bool → ℕ → ℕ → Bool
may is_field class n = may_use rows is_field (record { class = c class; at = n })

-- `MIN_VALUE` and `MAX_VALUE` of Integer, and that of Long
fields : (may true 3 1 ≡ true) × (may true 3 0 ≡ false) × (may true 4 1 ≡ false)
unfolding library_place member_place
fields = (refl, refl, refl)

-- the constructor of Object, its `equals(Object)`, `identityHashCode(Object)` of System, and a method of a program's own
methods : (may false 0 2 ≡ true) × (may false 0 0 ≡ false) × (may false 6 0 ≡ false) × (may false 39 0 ≡ true)
unfolding library_place member_place
methods = (refl, refl, refl, refl)

-- at the name: a static method, a constructor, a field that a constant names, and a method of a program's own
named : (places (member_breaks rows (at 5) (core.CallExact no_core (c 6) 0 (cores []))) ≡ 5 ∷ []) × (places (member_breaks rows (at 5) (core.New (c 14) 0 (cores []) [] (at 4))) ≡ 5 ∷ [])
    × (places (member_breaks rows (at 5) (core.Const (value.Bool true) (record { class = c 3; field = 1; span = at 6 } ∷ record { class = c 3; field = 0; span = at 8 } ∷ []))) ≡ 8 ∷ [])
    × (places (member_breaks rows (at 5) (core.CallExact no_core (c 39) 0 (cores []))) ≡ [])
unfolding library_place member_place
named = (refl, refl, refl, refl)

-- ---- the library's classes by their numbers alone, and class A { String toString() }, class B implements Equatable, class D, enum E

-- names: 1 new, 7 toString
abbrev method : ℕ → CoreMethod
method n = record {
  name = record { 0 = n };
  span = at 0;
  params = [];
  returns = int;
  flags = record { is_static = false; is_final = false; is_abstract = false; is_native = false; is_finalizer = false; access = Public };
  throws = [];
  locals = [];
  body = None;
}

abbrev class : Sort → Option ClassId → List ClassId → List CoreMethod → CoreClass
class s super interfaces methods = record {
  name = record { 0 = 0 };
  span = at 0;
  kind = record { sort = s; is_abstract = false; is_final = false; is_static = false };
  superclass = super;
  interfaces = interfaces;
  heads = [];
  fields = [];
  initializers = [];
  methods = methods;
  enclosing = None;
  captured = 0;
  within = None;
  nth = 0;
  top = c 0;
  bridges = [];
}

abbrev fill : ℕ → List CoreClass
fill zero = []
fill (suc n) = class sort.Class None [] [] ∷ fill n

program : CoreProgram
program = record {
  classes = class sort.Class None [] (method 5 ∷ method 6 ∷ method 1 ∷ method 7 ∷ []) ∷ fill 38 ++
      class sort.Class (Some (c 0)) [] (method 7 ∷ []) ∷ class sort.Class (Some (c 0)) (c 12 ∷ []) [] ∷ class sort.Class (Some (c 0)) [] [] ∷ class sort.Enum (Some (c 0)) [] [] ∷ [];
  texts = [];
}

abbrev local : Ty → ℕ → Core
local t n = node (core.Local 0) t (at n) (at n)

-- ---- texts

abbrev joined : Ty → List ℕ
joined t = places (text_breaks program [] (core.Concat (local (object 1) 4) (local t 6)))

-- `s + o`, of an Object and of an A
objects : (joined (object 0) ≡ 6 ∷ []) × (joined (object 39) ≡ [])
unfolding program library_place member_place object_class library_class text_place find_method methods_named constructor_place
objects = (refl, refl)

-- of a D, which has Object's `toString()`, of a String and of an int
others : (joined (object 41) ≡ 6 ∷ []) × (joined (object 1) ≡ []) × (joined int ≡ [])
unfolding program library_place member_place object_class library_class text_place find_method methods_named constructor_place
others = (refl, refl, refl)

-- of an array, and of null
without_class : (joined (record { base = base.Int; dims = 1 }) ≡ 6 ∷ []) × (joined (record { base = base.Null; dims = 0 }) ≡ [])
unfolding program library_place member_place object_class library_class text_place find_method methods_named constructor_place
without_class = (refl, refl)

-- `o + s`, and `s += o`
elsewhere : (places (text_breaks program [] (core.Concat (local (object 0) 4) (local (object 1) 6))) ≡ 4 ∷ [])
    × (places (text_breaks program [] (core.Update (local (object 1) 4) op.Add (a_core (local (object 0) 6)) false)) ≡ 6 ∷ [])
unfolding program library_place member_place object_class library_class text_place find_method methods_named constructor_place
elsewhere = (refl, refl)

-- ---- comparisons

abbrev compared : BinOp → Ty → Ty → List ℕ
compared o s t = places (comparison_breaks program [] (at 5) (core.Binary o (local s 4) (local t 6)))

-- `a == a`, `a != a`, `a < a`, and of ints
references : (compared op.Eq (object 39) (object 39) ≡ 5 ∷ []) × (compared op.Ne (object 39) (object 39) ≡ 5 ∷ []) × (compared op.Lt (object 39) (object 39) ≡ []) × (compared op.Eq int int ≡ [])
unfolding program has is_marked is_below library_class
references = (refl, refl, refl, refl)

-- with a B, and with an E
granted : (compared op.Eq (object 0) (object 40) ≡ []) × (compared op.Eq (object 40) (object 0) ≡ []) × (compared op.Eq (object 42) (object 0) ≡ [])
unfolding program has is_marked is_below library_class
granted = (refl, refl, refl)

abbrev null : Core
null = node (core.Const value.Null []) (record { base = base.Null; dims = 0 }) (at 6) (at 6)

-- with the literal null, and with `(A) null`
with_null : (places (comparison_breaks program [] (at 5) (core.Binary op.Eq (local (object 39) 4) null)) ≡ [])
    × (places (comparison_breaks program [] (at 5) (core.Binary op.Eq (local (object 39) 4) (node (core.Cast null) (object 39) (at 6) (at 6)))) ≡ 5 ∷ [])
unfolding program has is_marked is_below library_class
with_null = (refl, refl)
