-- Constants depend on the bodies round the classes that are asked alone.
use Rattle.std.proofs.Common.{◌≡◌, ℕ, zero, suc, List, length, Option, None, Some, refl, ◌∙◌}
use Rattle.std.specs.Prelude.{Bool, true, false, if◌then◌else◌}
use Rattle.std.specs.List.{sum_by}
use Rattle.je_classes.proofs.Lists.{bool_cases}
use Rattle.je_classes.specs.Members.{Member}
use Rattle.declarations.specs.Declarations.{DeclaredClass, DeclaredField}
use Rattle.name_typing.specs.Fields.{field_at}
use Rattle.name_typing.specs.Program.{Constant, Frame, Program}
use Rattle.body_typing.specs.Expressions.{expression, initial, value}
use Rattle.class_typing.specs.ConstantFields.{FieldValue, by, no_value, unwritten}
use Rattle.class_typing.specs.ConstantFields.{constant_by, constant_next, constants_of, constants_within, field_value}
use Rattle.class_typing.specs.ConstantFields.{if_final, in_initializer, nothing_known}

module _ (p : Program) (hidden : ℕ → ℕ) (round other : ℕ → List Frame) where
  by-same : (known told : Member → Option Constant) → known ≡ told → (m : Member) → round m.class.0 ≡ other m.class.0 →
      (o : Option DeclaredField) (v : FieldValue) → constant_by p hidden round known m o v ≡ constant_by p hidden other told m o v
  by-same known told k m r None v = refl
  by-same known told k m r (Some f) unwritten = refl
  by-same known told k m r (Some f) no_value = refl
  by-same known told k m r (Some f) (by e) = λ i.
      if_final f (value (expression (record p { constants = k i }) (nothing_known (record p { constants = k i }))
      (in_initializer f.is_static m.class.0 m.at (r i)) (initial f.ty) e))

  module _ (asked : ℕ → Bool) (known : Member → Option Constant) (same : (c : ℕ) → asked c ≡ true → round c ≡ other c) where
    within-same : (n : ℕ) (m : Member) → constants_within p hidden round n asked known m ≡ constants_within p hidden other n asked known m
    within-same zero m = refl
    within-same (suc n) m =
        bool_cases (λ b. asked m.class.0 ≡ b →
        (if b then constant_next p hidden round (constants_within p hidden round n asked known) m else known m)
        ≡ (if b then constant_next p hidden other (constants_within p hidden other n asked known) m else known m))
        (asked m.class.0)
        (λ _ e. by-same (constants_within p hidden round n asked known) (constants_within p hidden other n asked known)
        (λ i. λ l. within-same n l i) m (same m.class.0 e) (field_at p.classes m) (field_value p hidden m))
        (λ _ e. refl)
        refl

    pub same_constants : constants_of p hidden round asked known ≡ constants_of p hidden other asked known
    unfolding constants_of
    same_constants = λ i. λ m. within-same (suc (sum_by (λ (d : DeclaredClass). length d.fields) p.classes)) m i
