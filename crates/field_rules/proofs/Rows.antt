-- Worked rows: each beside its nearest neighbour.
use Rattle.std.proofs.Common.{◌≡◌, ℕ, zero, suc, List, [], ◌∷◌, Option, Some, None, refl}
use Rattle.std.specs.Prelude.{Bool, true, false}
use Rattle.je_base.specs.declared.span.Span.{Span}
use Rattle.je_core.specs.declared.program.Access.{Access}
use Rattle.je_core.specs.declared.program.Access.TheVariants as access
use Rattle.je_core.specs.declared.program.Sort.TheVariants as sort
use Rattle.je_core.specs.declared.types.Base.TheVariants as base
use Rattle.je_core.specs.declared.types.ClassId.{ClassId}
use Rattle.je_core.specs.declared.types.Ty.{Ty}
use Rattle.je_core.specs.Core.{CoreField, CoreClass, CoreProgram}
use Rattle.rule_breaks.specs.declared.rules.ConfinementRule.TheVariants as rule
use Rattle.rule_breaks.specs.Breaks.{none, ◌∪◌, break_at}
use Rattle.overlay_types.specs.Overlay.{has}
use Rattle.overlay_types.specs.Guests.{guest_superclasses}
use Rattle.field_rules.specs.FieldRules.{change_breaks, grant_breaks, immutable_breaks}

at : Span
at = record { file = 0; start = 22; end = 23 }

of_class : Span
of_class = record { file = 0; start = 6; end = 7 }

numbered : ℕ → ClassId
numbered n = record { 0 = n }

int : Ty
int = record { base = base.Int; dims = 0 }

ints : Ty
ints = record { base = base.Int; dims = 1 }

field_of : Access → Bool → Bool → Ty → CoreField
field_of a is_static is_final t =
    record { name = record { 0 = 0 }; span = at; ty = t; is_static = is_static; is_final = is_final; access = a; constant = None }

field : Bool → Bool → Ty → CoreField
field is_static is_final t = field_of access.Package is_static is_final t

none_there : CoreProgram
none_there = record { classes = []; texts = [] }

-- of an immutable class: `final int n`, `int n`, `final int[] n`, `static int[] n`, and a hidden `int[]`
changes : (change_breaks none_there [] (field false true int) ≡ none) × (change_breaks none_there [] (field false false int) ≡ break_at rule.ImmutableField at)
    × (change_breaks none_there [] (field false true ints) ≡ break_at rule.ImmutableField at) × (change_breaks none_there [] (field true false ints) ≡ none)
    × (change_breaks none_there [] (field_of access.Hidden false true ints) ≡ none)
unfolding none_there field field_of int ints has
changes = (refl, refl, refl, refl, refl)

-- of a powerless class: `int n`, `final int[] n`
grants : (grant_breaks none_there [] (field false false int) ≡ none) × (grant_breaks none_there [] (field false true ints) ≡ break_at rule.PowerlessField at)
unfolding none_there field field_of int ints has
grants = (refl, refl)

class : Option ClassId → List CoreField → CoreClass
class superclass fields = record {
  name = record { 0 = 0 };
  span = of_class;
  kind = record { sort = sort.Class; is_abstract = false; is_final = false; is_static = false };
  superclass = superclass;
  interfaces = [];
  heads = [];
  fields = fields;
  initializers = [];
  methods = [];
  enclosing = None;
  captured = 0;
  within = None;
  nth = 0;
  top = numbered 0;
  bridges = [];
}

-- the library's classes, a class with these fields, and one below it that declares none
before : ℕ → List CoreClass → List CoreClass
before zero cs = cs
before (suc n) cs = class None [] ∷ before n cs

child : CoreClass
child = class (Some (numbered 39)) []

with_parent : List CoreField → CoreProgram
with_parent fields = record { classes = before 39 (class (Some (numbered 0)) fields ∷ child ∷ []); texts = [] }

-- its superclass has `int n`, `final int n`, `static int n`
inherits : (immutable_breaks (with_parent (field false false int ∷ [])) [] child ≡ (none ∪ break_at rule.ImmutableField of_class))
    × (immutable_breaks (with_parent (field false true int ∷ [])) [] child ≡ (none ∪ none))
    × (immutable_breaks (with_parent (field true false int ∷ [])) [] child ≡ (none ∪ none))
unfolding with_parent child before class field field_of int numbered of_class has guest_superclasses
inherits = (refl, refl, refl)
