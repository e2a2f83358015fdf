-- Which fields have no value, class by class.
use Rattle.std.proofs.Common.{◌≡◌, ℕ, zero, suc, List, [], ◌∷◌, map, refl, ap, ◌∙◌}
use Rattle.std.specs.Prelude.{Bool, slice_get, unwrap_or}
use Rattle.std.specs.declared.vec.Vec.{Vec}
use Rattle.std.specs.declared.alloc.Global.{Global}
use Rattle.je_classes.specs.Members.{Member}
use Rattle.name_typing.specs.Program.{Program}
use Rattle.body_scopes.specs.View.{blank_seen, flags_in, is_set}
use Rattle.class_typing.specs.ConstantFields.{field_value, is_blank, is_without}
use Rattle.class_typing.specs.ConstantFields as words
use Rattle.field_values.specs.declared.values.FieldValue.{FieldValue}
use Rattle.field_values.specs.Values.{value_at, values_in}
use Rattle.field_values.specs.way.Blank.{flags, flags_due, has_none}

abbrev row : List (List Bool) → ℕ → List Bool
row rows c = unwrap_or (slice_get rows c) []

row-of : (all : List (Vec Bool Global)) (c : ℕ) → flags_in (slice_get all c) ≡ row (map flags all) c
row-of [] c = refl
row-of (blank ∷ all) zero = refl
row-of (blank ∷ all) (suc c) = row-of all c

due-of : (values : List (Vec FieldValue Global)) (c : ℕ) → row (map flags_due values) c ≡ map has_none (values_in (slice_get values c))
due-of [] c = refl
due-of (vs ∷ values) zero = refl
due-of (vs ∷ values) (suc c) = due-of values c

set-at : (vs : List words.FieldValue) (at : ℕ) → is_set (slice_get (map has_none vs) at) ≡ has_none (unwrap_or (slice_get vs at) words.unwritten)
set-at [] at = refl
set-at (v ∷ vs) zero = refl
set-at (v ∷ vs) (suc at) = set-at vs at

module _ (p : Program) (hidden : ℕ → ℕ) where
  same-test : (v : words.FieldValue) → has_none v ≡ is_without p hidden v
  same-test words.unwritten = refl
  same-test words.no_value = refl
  same-test (words.by e) = refl

  pub blank_is : (all : List (Vec Bool Global)) (values : List (Vec FieldValue Global)) → map flags all ≡ map flags_due values →
      value_at values ≡ field_value p hidden → blank_seen all ≡ is_blank p hidden
  unfolding is_blank
  blank_is all values e shows = (λ i. λ m. here m i) ∙ ap (λ (value : Member → words.FieldValue). λ (m : Member). is_without p hidden (value m)) shows
    where
      here : (m : Member) → blank_seen all m ≡ is_without p hidden (value_at values m)
      here m =
          ap (λ (bs : List Bool). is_set (slice_get bs m.at)) (row-of all m.class.0 ∙ ap (λ (rows : List (List Bool)). row rows m.class.0) e ∙ due-of values m.class.0)
          ∙ set-at (values_in (slice_get values m.class.0)) m.at
          ∙ same-test (value_at values m)
