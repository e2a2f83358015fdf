-- Worked examples: which constructors call one of the superclass by no word of their own.
use Rattle.std.proofs.Common.{◌≡◌, ℕ, List, [], ◌∷◌, map, Option, Some, None, refl}
use Rattle.std.specs.Prelude.{Bool, true, false}
use Rattle.je_base.specs.declared.span.Span.{Span}
use Rattle.je_core.specs.declared.program.Access.TheVariants.{Public}
use Rattle.je_core.specs.declared.program.Sort.TheVariants as sort
use Rattle.je_core.specs.declared.types.Base.TheVariants as base
use Rattle.je_core.specs.declared.types.ClassId.{ClassId}
use Rattle.je_core.specs.declared.types.Ty.{Ty}
use Rattle.je_core.specs.Core.{Core, CoreStmt, CoreMethod, CoreClass, CoreProgram, node, cores, no_core, stmt, core_stmts}
use Rattle.je_core.specs.Core as core
use Rattle.je_classes.specs.Hierarchy.{library_class, object_class}
use Rattle.je_classes.specs.Members.{Member, constructor_place}
use Rattle.constructor_calls.specs.Calls.{begins_with_call, implicitly_called}

abbrev at : Span
at = record { file = 0; start = 0; end = 0 }

abbrev int : Ty
int = record { base = base.Int; dims = 0 }

-- names: 1 new, 2 m
abbrev method : ℕ → List Ty → Option CoreStmt → CoreMethod
method n params body = record {
  name = record { 0 = n };
  span = at;
  params = params;
  returns = int;
  flags = record { is_static = false; is_final = false; is_abstract = false; is_native = false; is_finalizer = false; access = Public };
  throws = [];
  locals = [];
  body = body;
}

abbrev class : List CoreMethod → CoreClass
class methods = record {
  name = record { 0 = 0 };
  span = at;
  kind = record { sort = sort.Class; is_abstract = false; is_final = false; is_static = false };
  superclass = None;
  interfaces = [];
  heads = [];
  fields = [];
  initializers = [];
  methods = methods;
  enclosing = None;
  captured = 0;
  within = None;
  nth = 0;
  top = record { 0 = 0 };
  bridges = [];
}

abbrev statement : ℕ → CoreStmt
statement n = stmt (core.Do (node (core.CallExact no_core (record { 0 = 1 }) n (cores [])) int at at)) at at

abbrev block : List CoreStmt → CoreStmt
block ss = stmt (core.Block [] (core_stmts ss)) at at

-- class Object { .. Object() }, class B { B(int i) B() m() }, and a class that has no constructor without parameters
program : CoreProgram
program = record {
  classes = class (method 3 [] None ∷ method 4 [] None ∷ method 1 [] None ∷ []) ∷
      class (method 1 (int ∷ []) None ∷ method 1 [] None ∷ method 2 [] None ∷ []) ∷
      class (method 1 (int ∷ []) None ∷ []) ∷ [];
  texts = [];
}

abbrev calls : Option ClassId → ℕ → List CoreStmt → Option Member
calls superclass name ss = implicitly_called program superclass (method name [] (Some (block ss)))

abbrev b : Option ClassId
b = Some (record { 0 = 1 })

abbrev plain_of_b : Option Member
plain_of_b = Some (record { class = record { 0 = 1 }; at = 1 })

-- an empty constructor, one that begins with the call of another, and one that begins with the call of a method
constructors : (calls b 1 [] ≡ plain_of_b) × (calls b 1 (statement 0 ∷ []) ≡ None) × (calls b 1 (statement 2 ∷ []) ≡ plain_of_b)
unfolding program constructor_place object_class library_class
constructors = (refl, refl, refl)

-- a method, a constructor of a class without superclass, and one whose superclass has no constructor without parameters
others : (calls b 2 [] ≡ None) × (calls None 1 [] ≡ None) × (calls (Some (record { 0 = 2 })) 1 [] ≡ None)
unfolding program constructor_place object_class library_class
others = (refl, refl, refl)

-- a call that stands further behind is no beginning
behind : (begins_with_call program (block (statement 0 ∷ statement 2 ∷ [])) ≡ true) × (begins_with_call program (block (statement 2 ∷ statement 0 ∷ [])) ≡ false)
unfolding program constructor_place object_class library_class
behind = (refl, refl)
