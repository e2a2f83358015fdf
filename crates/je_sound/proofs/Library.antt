-- The library's classes whose objects have no slots.
use Rattle.std.proofs.Common.{◌≡◌, ℕ, zero, suc, List, [], ◌∷◌, ◌++◌, Option, Some, None, refl, sym, ap, ◌∙◌}
use Rattle.std.specs.Prelude.{slice_get, codes}
use Rattle.std.specs.List.{All}
use Rattle.std.proofs.lemmas.List.Elements.{All-nil, All-cons}
use Rattle.je_base.specs.declared.span.NameId.{NameId}
use Rattle.je_core.specs.declared.types.ClassId.{ClassId}
use Rattle.je_core.specs.Core.{CoreClass, CoreProgram}
use Rattle.je_table.specs.declared.classes.LibraryClass.TheVariants as class
use Rattle.je_table.specs.Library.{class_row}
use Rattle.je_classes.specs.Hierarchy.{class_at, library_class, supers_in, supers_of, object_class}
use Rattle.je_classes.specs.Slots.{own_slots, behind_above, fields_upwards, slot_fields}
use Rattle.je_java.specs.LibraryClasses.{string_class, builder_class}
use Rattle.library_classes.specs.Library.{LibraryStands, all_due, class_due, rows}
use Rattle.je_sound.specs.Objects.{const_row, int_row, text_row, device_interfaces}
use Rattle.je_sound.specs.way.Bare.{from_text_row, from_int_row, from_rows, from_builder, from_string, AreBare}
use Rattle.je_sound.proofs.Lists.{in-front}

-- a class of the library without instance fields, and what stands above it
record IsDue (number : List ℕ → NameId) (k : ClassId) (above : Option ClassId) : Type 0 where
  c : CoreClass
  there : slice_get (all_due number) k.0 ≡ Some c
  super : c.superclass ≡ above
  own : own_slots c ≡ []

object-due : (number : List ℕ → NameId) → IsDue number object_class None
unfolding library_class object_class all_due rows
object-due number = record { c = class_due number 0 (class_row class.Object); there = refl; super = refl; own = refl }

object-alone : (number : List ℕ → NameId) → supers_in (slice_get (all_due number) object_class.0) ≡ []
unfolding library_class object_class all_due rows
object-alone number = refl

string-due : (number : List ℕ → NameId) → IsDue number string_class (Some object_class)
unfolding library_class object_class string_class all_due rows
string-due number = record { c = class_due number 1 (class_row class.String); there = refl; super = refl; own = refl }

builder-due : (number : List ℕ → NameId) → IsDue number builder_class (Some object_class)
unfolding library_class object_class builder_class all_due rows
builder-due number = record { c = class_due number 2 (class_row class.StringBuilder); there = refl; super = refl; own = refl }

const-row-due : (number : List ℕ → NameId) → IsDue number const_row (Some object_class)
unfolding library_class object_class const_row all_due rows
const-row-due number = record { c = class_due number 15 (class_row class.ConstRow); there = refl; super = refl; own = refl }

int-row-due : (number : List ℕ → NameId) → IsDue number int_row (Some object_class)
unfolding library_class object_class int_row all_due rows
int-row-due number = record { c = class_due number 16 (class_row class.IntRow); there = refl; super = refl; own = refl }

text-row-due : (number : List ℕ → NameId) → IsDue number text_row (Some object_class)
unfolding library_class object_class text_row all_due rows
text-row-due number = record { c = class_due number 17 (class_row class.TextRow); there = refl; super = refl; own = refl }

abbrev console : ClassId
console = library_class (codes "host.Console")

abbrev cell : ClassId
cell = library_class (codes "host.Cell")

abbrev clock : ClassId
clock = library_class (codes "host.Clock")

abbrev inbox : ClassId
inbox = library_class (codes "host.Inbox")

abbrev store : ClassId
store = library_class (codes "host.Store")

abbrev from_store : List ClassId
from_store = store ∷ []

abbrev from_inbox : List ClassId
from_inbox = inbox ∷ from_store

abbrev from_clock : List ClassId
from_clock = clock ∷ from_inbox

abbrev from_cell : List ClassId
from_cell = cell ∷ from_clock

console-due : (number : List ℕ → NameId) → IsDue number console None
unfolding library_class all_due rows
console-due number = record { c = class_due number 18 (class_row class.Console); there = refl; super = refl; own = refl }

cell-due : (number : List ℕ → NameId) → IsDue number cell None
unfolding library_class all_due rows
cell-due number = record { c = class_due number 19 (class_row class.Cell); there = refl; super = refl; own = refl }

clock-due : (number : List ℕ → NameId) → IsDue number clock None
unfolding library_class all_due rows
clock-due number = record { c = class_due number 20 (class_row class.Clock); there = refl; super = refl; own = refl }

inbox-due : (number : List ℕ → NameId) → IsDue number inbox None
unfolding library_class all_due rows
inbox-due number = record { c = class_due number 21 (class_row class.Inbox); there = refl; super = refl; own = refl }

store-due : (number : List ℕ → NameId) → IsDue number store None
unfolding library_class all_due rows
store-due number = record { c = class_due number 22 (class_row class.Store); there = refl; super = refl; own = refl }

module _ (p : CoreProgram) (s : LibraryStands p) where
  pub there-too : (k : ClassId) (c : CoreClass) → slice_get (all_due s.number) k.0 ≡ Some c → class_at p k ≡ Some c
  there-too k c e = ap (λ cs. slice_get cs k.0) s.first ∙ in-front (all_due s.number) s.others k.0 c e

  above-none : (n : ℕ) → fields_upwards p n None ≡ []
  above-none zero = refl
  above-none (suc n) = refl

  -- where nothing above a class has instance fields
  of-due : (k : ClassId) (above : Option ClassId) → IsDue s.number k above → ((n : ℕ) → fields_upwards p n above ≡ []) → (n : ℕ) → fields_upwards p n (Some k) ≡ []
  of-due k above d none zero = refl
  of-due k above d none (suc n) =
      ap (behind_above (fields_upwards p n)) (there-too k d.c d.there) ∙ ap (λ o. fields_upwards p n o ++ own_slots d.c) d.super ∙ ap (λ fs. fs ++ own_slots d.c) (none n) ∙ d.own

  abbrev IsBare : ClassId → Type 0
  IsBare k = slot_fields p (Some k) ≡ []

  top-bare : (k : ClassId) → IsDue s.number k None → IsBare k
  unfolding slot_fields
  top-bare k d = of-due k None d above-none _

  below-bare : (k : ClassId) → IsDue s.number k (Some object_class) → IsBare k
  unfolding slot_fields
  below-bare k d = of-due k (Some object_class) d (of-due object_class None (object-due s.number) above-none) _

  devices-bare : All IsBare device_interfaces
  unfolding device_interfaces
  devices-bare = All-cons IsBare console from_cell (top-bare console (console-due s.number)) (All-cons IsBare cell from_clock (top-bare cell (cell-due s.number))
      (All-cons IsBare clock from_inbox (top-bare clock (clock-due s.number)) (All-cons IsBare inbox from_store (top-bare inbox (inbox-due s.number))
      (All-cons IsBare store [] (top-bare store (store-due s.number)) (All-nil IsBare)))))

  rows-bare : All IsBare from_rows
  rows-bare = All-cons IsBare const_row from_int_row (below-bare const_row (const-row-due s.number)) (All-cons IsBare int_row from_text_row (below-bare int_row (int-row-due s.number))
      (All-cons IsBare text_row device_interfaces (below-bare text_row (text-row-due s.number)) devices-bare))

  pub are-bare : AreBare p
  are-bare = All-cons IsBare object_class from_string (top-bare object_class (object-due s.number)) (All-cons IsBare string_class from_builder (below-bare string_class (string-due s.number))
      (All-cons IsBare builder_class from_rows (below-bare builder_class (builder-due s.number)) rows-bare))

  pub alone : supers_of p object_class ≡ []
  alone =
      let d = object-due s.number in
      ap supers_in (there-too object_class d.c d.there ∙ sym d.there) ∙ object-alone s.number
