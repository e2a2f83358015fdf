-- Worked rows: each beside its nearest neighbour.
use Rattle.std.proofs.Common.{◌≡◌, ℕ, List, [], ◌∷◌, Option, Some, None, refl}
use Rattle.std.specs.Prelude.{Bool, true, false}
use Rattle.je_base.specs.declared.span.Span.{Span}
use Rattle.je_core.specs.declared.program.Access.TheVariants as access
use Rattle.je_core.specs.declared.program.Sort.TheVariants as sort
use Rattle.je_core.specs.declared.types.Base.TheVariants as base
use Rattle.je_core.specs.declared.types.ClassId.{ClassId}
use Rattle.je_core.specs.declared.types.Ty.{Ty}
use Rattle.je_core.specs.Core.{CoreField, CoreClass, CoreProgram}
use Rattle.je_classes.specs.Hierarchy.{is_below, library_class}
use Rattle.rule_breaks.specs.declared.rules.ConfinementRule.TheVariants as rule
use Rattle.rule_breaks.specs.Breaks.{none, ◌∪◌, break_at}
use Rattle.taming_db.specs.declared.marker.Marker.TheVariants.{Immutable, Powerless}
use Rattle.overlay_types.specs.Overlay.{interface_of, is_marked, has, is_under_immutable}
use Rattle.overlay_types.specs.Guests.{guest_superclasses}
use Rattle.inner_capture.specs.InnerCapture.{class_breaks, is_other}

at : Span
at = record { file = 0; start = 22; end = 23 }

numbered : ℕ → ClassId
numbered n = record { 0 = n }

int : Ty
int = record { base = base.Int; dims = 0 }

ints : Ty
ints = record { base = base.Int; dims = 1 }

hidden : Ty → CoreField
hidden t =
    record { name = record { 0 = 0 }; span = at; ty = t; is_static = false; is_final = true; access = access.Hidden; constant = None }

class : List ClassId → Option ClassId → List CoreField → ℕ → CoreClass
class interfaces enclosing fields captured = record {
  name = record { 0 = 0 };
  span = at;
  kind = record { sort = sort.Local; is_abstract = false; is_final = false; is_static = false };
  superclass = None;
  interfaces = interfaces;
  heads = [];
  fields = fields;
  initializers = [];
  methods = [];
  enclosing = enclosing;
  captured = captured;
  within = None;
  nth = 0;
  top = numbered 0;
  bridges = [];
}

-- the class is judged as the first of a program whose second class has no marker
program : CoreClass → CoreProgram
program c = record { classes = c ∷ class [] None [] 0 ∷ []; texts = [] }

frozen : List ClassId
frozen = interface_of Immutable ∷ []

-- an immutable class captures an int, or an array; a class of no marker captures an array
captures_int : CoreClass
captures_int = class frozen None (hidden int ∷ []) 1

captures_array : CoreClass
captures_array = class frozen None (hidden ints ∷ []) 1

plain_captures_array : CoreClass
plain_captures_array = class [] None (hidden ints ∷ []) 1

captures : (class_breaks (program captures_int) [] (numbered 0) captures_int ≡ (none ∪ none))
    × (class_breaks (program captures_array) [] (numbered 0) captures_array ≡ (break_at rule.CapturedLocal at ∪ none))
    × (class_breaks (program plain_captures_array) [] (numbered 0) plain_captures_array ≡ (none ∪ none))
unfolding program captures_int captures_array plain_captures_array frozen class hidden int ints numbered at has is_marked is_below library_class is_under_immutable guest_superclasses is_other
captures = (refl, refl, refl)

-- an immutable class in an instance of a class of no marker, and of one of its own; a class of no marker in another one
in_other : CoreClass
in_other = class frozen (Some (numbered 1)) [] 0

in_itself : CoreClass
in_itself = class frozen (Some (numbered 0)) [] 0

plain_in_other : CoreClass
plain_in_other = class [] (Some (numbered 1)) [] 0

encloses : (class_breaks (program in_other) [] (numbered 0) in_other ≡ (none ∪ break_at rule.EnclosingObject at))
    × (class_breaks (program in_itself) [] (numbered 0) in_itself ≡ (none ∪ none))
    × (class_breaks (program plain_in_other) [] (numbered 0) plain_in_other ≡ (none ∪ none))
unfolding program in_other in_itself plain_in_other frozen class hidden int ints numbered at has is_marked is_below library_class is_under_immutable guest_superclasses is_other
encloses = (refl, refl, refl)
