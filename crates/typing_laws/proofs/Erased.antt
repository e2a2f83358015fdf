-- Erasures: a type variable is erased to a class, and only `void` to `void`.
use Rattle.std.proofs.Common.{◌≡◌, ℕ, zero, suc, List, refl, sym, ap, ◌∙◌}
use Rattle.std.specs.Prelude.{Bool, true, false}
use Rattle.je_core.specs.declared.types.Base.{Base}
use Rattle.je_core.specs.declared.types.Base.TheVariants as base
use Rattle.je_core.specs.declared.types.Ty.{Ty}
use Rattle.je_classes.proofs.Lists.{bool_cases}
use Rattle.je_classes.proofs.Same.{same_type-equal}
use Rattle.je_fitting.specs.Types.{is_void as is_void_type, void}
use Rattle.je_scopes.specs.SourceTypes.{SourceType, SourceTypes, plain, of_class, of_variable}
use Rattle.source_types.specs.Erasure.{erased, erased_within}
use Rattle.source_types.specs.Heads.{ClassHead, bound_of, variable_count}
use Rattle.je_typing.specs.Typed.{is_void}
use Rattle.source_types.specs.Laws.{is_class_or_variable}
use Rattle.typing_laws.specs.Fitting.{BoundsFit}

abbrev of_plain : Base → ℕ → Ty
of_plain b n = record { base = b; dims = n }

abbrev pub is_class_base : Base → Bool
is_class_base (base.Class c) = true
is_class_base b = false

-- `void` is no class, and is not under dimensions
void-or : (P : Type 0) (t : Ty) → (t ≡ void → P) → (is_void_type t ≡ false → P) → P
void-or P t is other = bool_cases (λ b. is_void_type t ≡ b → P) (is_void_type t) (λ _ e. is (same_type-equal t void e)) (λ _ e. other e) refl

module _ (heads : List ClassHead) (bounds : BoundsFit heads) where
  class-class : (steps c : ℕ) (ts : SourceTypes) (n : ℕ) → is_class_base (erased_within heads steps (of_class c ts n)).base ≡ true
  class-class zero c ts n = refl
  class-class (suc k) c ts n = refl

  bound-class : (steps : ℕ) → ((c at n : ℕ) → is_class_base (erased_within heads steps (of_variable c at n)).base ≡ true)
      → (t : SourceType) → is_class_or_variable t ≡ true → is_class_base (erased_within heads steps t).base ≡ true
  bound-class steps variables (of_class c ts n) h = class-class steps c ts n
  bound-class steps variables (of_variable c at n) h = variables c at n
  bound-class steps variables (plain b n) h = absurd cc

  pub variable-class : (steps c at n : ℕ) → is_class_base (erased_within heads steps (of_variable c at n)).base ≡ true
  variable-class zero c at n = refl
  variable-class (suc steps) c at n = bound-class steps (λ d i m. variable-class steps d i m) (bound_of heads c at) (bounds c at)

  class-not-void : (t : Ty) → is_class_base t.base ≡ true → is_void_type t ≡ false
  class-not-void t h = void-or (is_void_type t ≡ false) t (λ e. let none : false ≡ true = ap (λ (u : Ty). is_class_base u.base) (sym e) ∙ h in absurd cc) (λ e. e)

  void-plain : (b : Base) (n : ℕ) → of_plain b n ≡ void → is_void (plain b n) ≡ true
  void-plain b n e = ap (λ (u : Ty). is_void (plain u.base u.dims)) e

  plain-erased : (steps : ℕ) (b : Base) (n : ℕ) → erased_within heads steps (plain b n) ≡ of_plain b n
  plain-erased zero b n = refl
  plain-erased (suc k) b n = refl

  plain-not-void : (b : Base) (n : ℕ) → is_void (plain b n) ≡ false → is_void_type (of_plain b n) ≡ false
  plain-not-void b n h = void-or (is_void_type (of_plain b n) ≡ false) (of_plain b n) (λ e. let none : true ≡ false = sym (void-plain b n e) ∙ h in absurd cc) (λ e. e)

  within-not-void : (steps : ℕ) (t : SourceType) → is_void t ≡ false → is_void_type (erased_within heads steps t) ≡ false
  within-not-void steps (plain b n) h = ap is_void_type (plain-erased steps b n) ∙ plain-not-void b n h
  within-not-void steps (of_class c ts n) h = class-not-void (erased_within heads steps (of_class c ts n)) (class-class steps c ts n)
  within-not-void steps (of_variable c at n) h = class-not-void (erased_within heads steps (of_variable c at n)) (variable-class steps c at n)

  pub erased-not-void : (t : SourceType) → is_void t ≡ false → is_void_type (erased heads t) ≡ false
  unfolding erased
  erased-not-void t h = within-not-void (variable_count heads) t h
