-- The slots of a class's instances, by a walk upwards.
use Rattle.std.proofs.Common.{◌≡◌, ◌<◌, ◌-◌, ◌+◌, ℕ, zero, suc, List, [], ◌++◌, length, Option, Some, None, refl, sym, ap, ◌∙◌, arith, length-append}
use Rattle.std.specs.Prelude.{filter, count_by}
use Rattle.std.proofs.lemmas.List.Sums.{length-filter}
use Rattle.je_core.specs.declared.types.ClassId.{ClassId}
use Rattle.je_core.specs.Core.{CoreClass, CoreProgram}
use Rattle.je_classes.specs.Fields.{fields_in}
use Rattle.je_classes.specs.Hierarchy.{class_at}
use Rattle.je_classes.specs.Slots.{is_instance, behind_above, fields_upwards, slot_fields}
use Rattle.je_java.specs.Subclasses.{superclass_in, superclass_of}
use Rattle.object_parts.specs.way.Slots.{instance_fields}

module _ (p : CoreProgram) where
  pub all_above : (n : ℕ) (o : Option ClassId) → n ≡ length p.classes → fields_upwards p n o ≡ slot_fields p o
  unfolding slot_fields
  all_above n o e = ap (λ k. fields_upwards p k o) e

  pub none_above : (n : ℕ) → fields_upwards p n None ≡ []
  none_above zero = refl
  none_above (suc n) = refl

  pub none_left : (o : Option ClassId) → fields_upwards p 0 o ≡ []
  none_left None = refl
  none_left (Some class) = refl

  behind-one : (n : ℕ) (o : Option CoreClass) → behind_above (fields_upwards p n) o ≡ fields_upwards p n (superclass_in o) ++ filter is_instance (fields_in o)
  behind-one n None = sym (ap (λ fs. fs ++ []) (none_above n))
  behind-one n (Some k) = refl

  pub above_step : (n : ℕ) (class : ClassId) → 0 < n → fields_upwards p n (Some class) ≡ fields_upwards p (n - 1) (superclass_of p class) ++ instance_fields p class
  above_step zero class l = absurd (omega arith)
  above_step (suc n) class l =
      let e : n ≡ suc n - 1 = omega arith in
      behind-one n (class_at p class) ∙ ap (λ k. fields_upwards p k (superclass_of p class) ++ instance_fields p class) e

  -- how many

  pub size_step : (n : ℕ) (class : ClassId) (k : CoreClass) → 0 < n → class_at p class ≡ Some k →
      length (fields_upwards p n (Some class)) ≡ length (fields_upwards p (n - 1) k.superclass) + count_by is_instance k.fields
  size_step n class k l e =
      ap length (above_step n class l) ∙ length-append (fields_upwards p (n - 1) (superclass_of p class)) (instance_fields p class)
      ∙ ap (λ o. length (fields_upwards p (n - 1) (superclass_in o)) + length (filter is_instance (fields_in o))) e
      ∙ ap (λ n'. length (fields_upwards p (n - 1) k.superclass) + n') (length-filter is_instance k.fields)

  pub size_not_there : (n : ℕ) (class : ClassId) → class_at p class ≡ None → length (fields_upwards p n (Some class)) ≡ 0
  size_not_there zero class e = refl
  size_not_there (suc n) class e = ap (λ o. length (behind_above (fields_upwards p n) o)) e
