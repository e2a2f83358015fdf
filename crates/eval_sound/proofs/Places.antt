-- Where fields and constant strings stand.
use Rattle.std.proofs.Common.{◌≡◌, ℕ, suc, ◌+◌, List, [], ◌∷◌, take, Option, Some, None, refl, sym, ap, ◌∙◌, arith}
use Rattle.std.specs.Prelude.{Bool, true, false, cond, count_by, slice_get, option_map, if◌then◌else◌}
use Rattle.std.specs.Str.{bytes_eq}
use Rattle.std.proofs.lemmas.List.Sums.{sum_by-cons}
use Rattle.std.proofs.lemmas.Slice.Eq.{bytes_eq-Decides}
use Rattle.je_base.specs.Names.{place_of}
use Rattle.je_core.specs.declared.types.ClassId.{ClassId}
use Rattle.je_core.specs.Core.{CoreField, CoreClass, CoreProgram}
use Rattle.je_classes.specs.Fields.{fields_in}
use Rattle.je_classes.specs.Hierarchy.{class_at}
use Rattle.je_classes.specs.Slots.{is_instance, slots_above, slot_after, field_slot_in, field_slot}
use Rattle.je_classes.specs.Statics.{is_static, statics_before, static_after, static_place_in, static_place}
use Rattle.je_fitting.specs.Expressions.{field_at, StandOnce}
use Rattle.je_java.specs.Classes.{statics_of, text_place}

-- the class of a field that is there
pub record FieldClass (p : CoreProgram) (class : ClassId) (at : ℕ) (field : CoreField) : Type 0 where
  pub the_class : CoreClass
  pub there : class_at p class ≡ Some the_class
  pub its : slice_get the_class.fields at ≡ Some field

pub class-of-field : (p : CoreProgram) (class : ClassId) (at : ℕ) (field : CoreField) → field_at p class at ≡ Some field → FieldClass p class at field
class-of-field p class at field e = by (class_at p class) refl e
  where
    by : (o : Option CoreClass) → class_at p class ≡ o → slice_get (fields_in o) at ≡ Some field → FieldClass p class at field
    by None q h = absurd cc
    by (Some c) q h = record { the_class = c; there = q; its = h }

-- an instance field has a slot
pub slot-there : (p : CoreProgram) (class : ClassId) (at : ℕ) (field : CoreField) → field_at p class at ≡ Some field → field.is_static ≡ false → (slot : ℕ) × (field_slot p class at ≡ Some slot)
slot-there p class at field e s =
    let c = class-of-field p class at field e in
    let slot = slots_above p c.the_class + count_by is_instance (take at c.the_class.fields) in
    (slot, ap (λ o. field_slot_in p o at) c.there ∙ ap (λ f. slot_after f slot) c.its ∙ ap (λ b. if b then None else Some slot) s)

-- and a static one has a place
pub static-there : (p : CoreProgram) (class : ClassId) (at : ℕ) (field : CoreField) → field_at p class at ≡ Some field → field.is_static ≡ true → (place : ℕ) × (static_place p class at ≡ Some place)
static-there p class at field e s =
    let c = class-of-field p class at field e in
    let place = statics_before p class.0 + count_by is_static (take at c.the_class.fields) in
    (place, ap (λ o. static_place_in p class o at) c.there ∙ ap (λ f. static_after f place) c.its ∙ ap (λ b. if b then Some place else None) s)

-- a text that stands among texts has a place there
has-place : (texts : List (List ℕ)) (units : List ℕ) → (place_of texts units ≡ None) → count_by (λ t. bytes_eq t units) texts ≡ 0
has-place [] units e = refl
has-place (t ∷ texts) units e = by (has-place texts units) (bytes_eq units t) refl (place_of texts units) refl e
  where
    no : bytes_eq units t ≡ false → bytes_eq t units ≡ false
    no q = by-no (bytes_eq t units) refl
      where
        by-no : (b : Bool) → bytes_eq t units ≡ b → b ≡ false
        by-no false h = refl
        by-no true h = let same = sym ((bytes_eq-Decides t units).0 h) in let yes = (bytes_eq-Decides units t).1 same in absurd cc

    by : (place_of texts units ≡ None → count_by (λ t. bytes_eq t units) texts ≡ 0) → (b : Bool) → bytes_eq units t ≡ b → (o : Option ℕ) → place_of texts units ≡ o → (if b then Some 0 else option_map suc o) ≡ None → count_by (λ t. bytes_eq t units) (t ∷ texts) ≡ 0
    by more true q o r h = absurd cc
    by more false q (Some n) r h = absurd cc
    by more false q None r h = sum_by-cons (λ y. cond (bytes_eq y units) 1 0) t texts ∙ ap (λ b. cond b 1 0 + count_by (λ t. bytes_eq t units) texts) (no q) ∙ let z : 0 + count_by (λ t. bytes_eq t units) texts ≡ count_by (λ t. bytes_eq t units) texts = omega arith in z ∙ more r

pub text-there : (p : CoreProgram) (units : List ℕ) → StandOnce units p.texts → (place : ℕ) × (text_place p units ≡ Some place)
text-there p units once = by (place_of p.texts units) refl
  where
    by : (o : Option ℕ) → place_of p.texts units ≡ o → (place : ℕ) × (option_map (λ n. statics_of p.classes + n) o ≡ Some place)
    by (Some n) q = (statics_of p.classes + n, refl)
    by None q = let none = has-place p.texts units q in absurd (let one : 1 ≡ 0 = sym once ∙ none in omega (arith, one))
