-- The test of one argument, and then of those behind it.
use Rattle.std.proofs.Common.{◌≡◌, ◌<◌, ◌+◌, ℕ, zero, suc, List, [], ◌∷◌, length, drop, get_or, Some, None, true, false, refl, sym, ap, ◌∙◌, add-one}
use Rattle.std.proofs.Math.Seq.{drop-cons}
use Rattle.std.proofs.lemmas.Option.{none-some}
use Rattle.std.specs.Prelude.{Option, Bool, slice_get}
use Rattle.je_core.specs.declared.types.Ty.{Ty}
use Rattle.je_core.specs.declared.value.Value.{Value}
use Rattle.je_core.specs.Core.{CoreProgram}
use Rattle.je_java.specs.Steps.{State, Run, Exits, Computation, Nothing, ret, bind, seq, raise, throw, wrong, admit}
use Rattle.je_java.specs.Meaning.{admit_all}
use Rattle.machine_forms.specs.way.Admitting.{admitted_ways}
use Rattle.machine_forms.proofs.Making.{drop-got}

module _ (p : CoreProgram) (m n : Computation Nothing) (s : State) where
  -- the test came to that in this state
  abbrev pub Tests : Option Bool → Type 0
  Tests found = (go : Nothing → Run) (exits : Exits) → admitted_ways p found go exits s ≡ m go exits s

  pub passes_then : Tests (Some true) → (go : Nothing → Run) (exits : Exits) → n go exits s ≡ seq m n go exits s
  unfolding seq ret
  passes_then h go exits = h (λ u. n go exits) exits

  pub fails_then : Tests (Some false) → (go : Nothing → Run) (exits : Exits) → admitted_ways p (Some false) go exits s ≡ seq m n go exits s
  unfolding seq bind raise throw
  fails_then h go exits = h (λ u. n go exits) exits

  pub none_then : Tests None → (go : Nothing → Run) (exits : Exits) → admitted_ways p None go exits s ≡ seq m n go exits s
  unfolding seq wrong
  none_then h go exits = h (λ u. n go exits) exits

types_from : (types : List Ty) (at : ℕ) (default : Ty) → at < length types → drop at types ≡ get_or types at default ∷ drop (at + 1) types
types_from types at default below = rw add-one (drop-cons types at default below)

pub none_of : (found : Option Value) → ((value : Value) → found ≡ Some value → ⊥) → found ≡ None
none_of None differs = refl
none_of (Some value) differs = absurd (differs value refl)

values_past : (values : List Value) (at : ℕ) → slice_get values at ≡ None → drop at values ≡ []
values_past [] zero none = refl
values_past [] (suc at) none = refl
values_past (value ∷ values) zero none = absurd (none-some value (sym none))
values_past (value ∷ values) (suc at) none = values_past values at none

pub admit_step : (p : CoreProgram) (types : List Ty) (values : List Value) (at : ℕ) (default : Ty) (value : Value) →
    at < length types → slice_get values at ≡ Some value →
    admit_all p (drop at types) (drop at values) ≡
    seq (admit p (get_or types at default) value) (admit_all p (drop (at + 1) types) (drop (at + 1) values))
admit_step p types values at default value below e =
    ap (λ ts. admit_all p ts (drop at values)) (types_from types at default below)
    ∙ ap (admit_all p (get_or types at default ∷ drop (at + 1) types)) (drop-got values at value e)

-- where there is no value more
pub admit_past : (p : CoreProgram) (types : List Ty) (values : List Value) (at : ℕ) (default : Ty) →
    at < length types → slice_get values at ≡ None → admit_all p (drop at types) (drop at values) ≡ ret tt
admit_past p types values at default below none =
    ap (λ ts. admit_all p ts (drop at values)) (types_from types at default below)
    ∙ ap (admit_all p (get_or types at default ∷ drop (at + 1) types)) (values_past values at none)
