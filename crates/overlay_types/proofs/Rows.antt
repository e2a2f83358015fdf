-- Worked rows: a class of a marker, an enum and a plain class, and what a taming text gives.
use Rattle.std.proofs.Common.{◌≡◌, ℕ, List, [], ◌∷◌, Option, Some, None, refl}
use Rattle.std.specs.Prelude.{Bool, true, false}
use Rattle.je_core.specs.declared.program.Sort.{Sort}
use Rattle.je_core.specs.declared.program.Sort.TheVariants as sort
use Rattle.je_core.specs.declared.types.Base.TheVariants as base
use Rattle.je_core.specs.declared.types.ClassId.{ClassId}
use Rattle.je_core.specs.declared.types.Ty.{Ty}
use Rattle.je_core.specs.Core.{CoreClass, CoreProgram}
use Rattle.je_classes.specs.Hierarchy.{is_below, library_class}
use Rattle.taming_db.specs.declared.marker.Marker.TheVariants.{Immutable, Powerless, Selfless, Equatable}
use Rattle.taming_db.specs.Rows.{Row}
use Rattle.overlay_types.specs.Overlay.{interface_of, is_marked, class_has, has, holds, is_under_immutable}

numbered : ℕ → ClassId
numbered n = record { 0 = n }

class_below : Sort → List ClassId → CoreClass
unfolding numbered
class_below s interfaces = record {
  name = record { 0 = 0 };
  span = record { file = 0; start = 0; end = 0 };
  kind = record { sort = s; is_abstract = false; is_final = false; is_static = false };
  superclass = None;
  interfaces = interfaces;
  heads = [];
  fields = [];
  initializers = [];
  methods = [];
  enclosing = None;
  captured = 0;
  within = None;
  nth = 0;
  top = numbered 0;
  bridges = [];
}

-- a class of the marker Powerless, an enum, and a class of no marker
program : CoreProgram
program = record { classes = class_below sort.Class (interface_of Powerless ∷ []) ∷ class_below sort.Enum [] ∷ class_below sort.Class [] ∷ []; texts = [] }

-- the taming text makes the third class Selfless
text : List Row
text = record { class = 2; honorary = Selfless ∷ []; extend = false; enable = [] } ∷ []

of_class : ℕ → Ty
of_class n = record { base = base.Class (numbered n); dims = 0 }

array_of : ℕ → Ty
array_of n = record { base = base.Class (numbered n); dims = 1 }

int : Ty
int = record { base = base.Int; dims = 0 }

null : Ty
null = record { base = base.Null; dims = 0 }

powerless_class : (has program text Powerless (of_class 0) ≡ true) × (has program text Immutable (of_class 0) ≡ true) × (has program text Selfless (of_class 0) ≡ false) × (has program text Equatable (of_class 0) ≡ false)
unfolding program text of_class numbered class_below has is_marked is_below library_class
powerless_class = (refl, refl, refl, refl)

an_enum : (has program text Powerless (of_class 1) ≡ true) × (has program text Immutable (of_class 1) ≡ true) × (has program text Equatable (of_class 1) ≡ true) × (has program text Selfless (of_class 1) ≡ false)
unfolding program text of_class numbered class_below has is_marked is_below library_class
an_enum = (refl, refl, refl, refl)

by_text : (has program text Selfless (of_class 2) ≡ true) × (has program [] Selfless (of_class 2) ≡ false) × (has program text Powerless (of_class 2) ≡ false)
unfolding program text of_class numbered class_below has is_marked is_below library_class
by_text = (refl, refl, refl)

-- no array has a marker; the type of `null` has each; a primitive one has none, and keeps the promise of each
other_types : (has program text Powerless (array_of 0) ≡ false) × (has program text Equatable null ≡ true) × (has program text Powerless int ≡ false) × (holds program text Powerless int ≡ true) × (holds program text Powerless (array_of 0) ≡ false)
unfolding program text array_of null int numbered class_below has is_marked is_below library_class
other_types = (refl, refl, refl, refl, refl)
