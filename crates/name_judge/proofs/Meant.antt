-- The type of a name that means a class.
use Rattle.std.proofs.Common.{◌≡◌, ℕ, nat_eq, refl, sym, ap, ◌∙◌}
use Rattle.std.specs.Prelude.{Bool, if◌then◌else◌}
use Rattle.std.proofs.lemmas.Bool.{eqb-true, eq-eqb}
use Rattle.je_core.specs.declared.types.Base.TheVariants as base
use Rattle.je_classes.proofs.Lists.{bool_cases}
use Rattle.je_scopes.specs.Looks.{Look, a_class}
use Rattle.je_scopes.specs.Source.{Source}
use Rattle.je_scopes.specs.SourceTypes.{SourceTypes, plain, of_class, arity_of, null_type, type_for}

module _ (p : Source) (c : ℕ) (look : Look) (k : ℕ) (ts : SourceTypes) (n : ℕ) (is : look ≡ a_class c) where
  pub other_count : (k ≡ arity_of p c → ⊥) → plain base.Null n ≡ type_for p look k ts n
  other_count h = bool_cases (λ (b : Bool). plain base.Null n ≡ (if b then of_class c ts n else null_type n)) (nat_eq k (arity_of p c)) (λ e. absurd (h (eqb-true k (arity_of p c) e))) (λ e. refl)
      ∙ ap (λ (l : Look). type_for p l k ts n) (sym is)

  pub same_count : k ≡ arity_of p c → of_class c ts n ≡ type_for p look k ts n
  same_count h = ap (λ (b : Bool). if b then of_class c ts n else null_type n) (sym (eq-eqb k (arity_of p c) h))
      ∙ ap (λ (l : Look). type_for p l k ts n) (sym is)
