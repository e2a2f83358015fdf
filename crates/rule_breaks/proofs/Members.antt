-- What a walk has found is what was found before and the members of its set.
use Rattle.std.proofs.Common.{◌⊎◌, inl, inr, List, [], ◌∷◌, ◌++◌, sym, subst, arith}
use Rattle.std.specs.List.{Contains}
use Rattle.std.proofs.lemmas.List.Elements.{Contains-append_left, Contains-push, Contains-push_cases}
use Rattle.rule_breaks.specs.declared.breaks.Break.{Break}
use Rattle.rule_breaks.specs.Breaks.{Breaks, none, one, ◌∪◌, IsAmong}
use Rattle.rule_breaks.specs.way.Found.{followed_by}

pub Contains-before : (s : Breaks) (before : List Break) (b : Break) → Contains before b → Contains (followed_by before s) b
Contains-before none before b h = h
Contains-before (one c) before b h = Contains-append_left before (c ∷ []) b h
Contains-before (s ∪ t) before b h = Contains-before t (followed_by before s) b (Contains-before s before b h)

pub Contains-added : (s : Breaks) (before : List Break) (b : Break) → IsAmong b s → Contains (followed_by before s) b
Contains-added none before b h = absurd h
Contains-added (one c) before b h = let P : Break → Type 0 = λ x. Contains (before ++ c ∷ []) x in subst P (sym h) (Contains-push before c)
Contains-added (s ∪ t) before b h =
    elim h [ inl p ↦ Contains-before t (followed_by before s) b (Contains-added s before b p) | inr p ↦ Contains-added t (followed_by before s) b p ]

pub Contains-cases : (s : Breaks) (before : List Break) (b : Break) → Contains (followed_by before s) b → Contains before b ⊎ IsAmong b s
Contains-cases none before b h = inl h
Contains-cases (one c) before b h = elim (Contains-push_cases before c b h) [ inl p ↦ inl p | inr p ↦ inr (sym p) ]
Contains-cases (s ∪ t) before b h =
    elim (Contains-cases t (followed_by before s) b h) [
      | inl p ↦ elim (Contains-cases s before b p) [ inl q ↦ inl q | inr q ↦ inr (inl q) ]
      | inr p ↦ inr (inr p)
    ]

-- an empty list has no member
pub Contains-nil : (b : Break) → Contains [] b → ⊥
Contains-nil b h = omega (arith, h.1)

-- what is found from nothing is the set
pub found-is-among : (s : Breaks) (b : Break) → Contains (followed_by [] s) b → IsAmong b s
found-is-among s b h = elim (Contains-cases s [] b h) [ inl p ↦ absurd (Contains-nil b p) | inr p ↦ p ]
