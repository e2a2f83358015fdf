-- The fields of the classes on the way up from one.
use Rattle.std.proofs.Common.{◌≡◌, ◌<◌, ◌-◌, ◌+◌, ℕ, List, [], ◌∷◌, ◌++◌, length, take, get_or, Some, refl, sym, ap, ◌∙◌, append_assoc}
use Rattle.std.proofs.lemmas.List.{take_more}
use Rattle.je_core.specs.declared.types.ClassId.{ClassId}
use Rattle.je_core.specs.Core.{CoreProgram}
use Rattle.je_classes.specs.Slots.{fields_upwards}
use Rattle.je_java.specs.Subclasses.{superclass_of}
use Rattle.object_parts.proofs.Upwards.{above_step}
use Rattle.object_parts.specs.way.Slots.{instance_fields}
use Rattle.machine_parts.specs.way.Slots.{fields_along}

module _ (p : CoreProgram) where
  pub along_more : (path : List ClassId) (class : ClassId) → fields_along p (path ++ class ∷ []) ≡ instance_fields p class ++ fields_along p path
  along_more [] class = sym (append-nil (instance_fields p class))
    where
      append-nil : {A : Type 0} (xs : List A) → xs ++ [] ≡ xs
      append-nil [] = refl
      append-nil (x ∷ xs) = ap (λ ys. x ∷ ys) (append-nil xs)
  along_more (c ∷ path) class = ap (λ fs. fs ++ instance_fields p c) (along_more path class) ∙ append_assoc (instance_fields p class) (fields_along p path) (instance_fields p c)

  -- one class more from the end
  pub along_back : (path : List ClassId) (i : ℕ) (d : ClassId) → i < length path → fields_along p (take (i + 1) path) ≡ instance_fields p (get_or path i d) ++ fields_along p (take i path)
  along_back path i d l = ap (fields_along p) (take_more path i d l) ∙ along_more (take i path) (get_or path i d)

  -- one class more on the way up
  pub up_more : (n : ℕ) (class : ClassId) (path : List ClassId) → 0 < n →
      fields_upwards p (n - 1) (superclass_of p class) ++ fields_along p (path ++ class ∷ []) ≡ fields_upwards p n (Some class) ++ fields_along p path
  up_more n class path l =
      let above = fields_upwards p (n - 1) (superclass_of p class) in
      ap (λ fs. above ++ fs) (along_more path class) ∙ sym (append_assoc above (instance_fields p class) (fields_along p path))
      ∙ sym (ap (λ fs. fs ++ fields_along p path) (above_step p n class l))
