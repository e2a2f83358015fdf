-- Classes that have a rank.
use Rattle.std.proofs.Common.{◌≡◌, ℕ, zero, suc, ◌<◌, List, [], ◌∷◌, ◌++◌, refl, subst, nat_lt}
use Rattle.std.specs.Prelude.{true, slice_index}
use Rattle.std.specs.List.{Contains, list_all}
use Rattle.std.proofs.lemmas.Bool.{and_parts, ltb-true}
use Rattle.je_core.specs.declared.types.ClassId.{ClassId}
use Rattle.je_classes.proofs.Lists.{contains-cases}
use Rattle.je_scopes.proofs.Either.{by_either, nothing-in}
use Rattle.name_lookup.specs.View.{numbers}

pub each_ranked : (ranks : List ℕ) (cs : List ClassId) → list_all (λ (c : ClassId). nat_lt 0 (slice_index ranks c.0)) cs ≡ true → (d : ℕ) → Contains (numbers cs) d → 0 < slice_index ranks d
each_ranked ranks [] e d q = absurd (nothing-in d q)
each_ranked ranks (c ∷ cs) e d q =
    let parts = and_parts _ _ e in
    by_either (λ (s : c.0 ≡ d). subst (λ n. 0 < slice_index ranks n) s (ltb-true 0 (slice_index ranks c.0) parts.0)) (λ r. each_ranked ranks cs parts.1 d r) (contains-cases c.0 d (numbers cs) q)

-- one more without a rank
pub none_more : (ranks : List ℕ) → ((c : ℕ) → slice_index ranks c ≡ 0) → (c : ℕ) → slice_index (ranks ++ 0 ∷ []) c ≡ 0
none_more [] h zero = refl
none_more [] h (suc c) = refl
none_more (r ∷ ranks) h zero = h zero
none_more (r ∷ ranks) h (suc c) = none_more ranks (λ k. h (suc k)) c
