-- The class that a name means, by the local classes in scope.
use Rattle.std.proofs.Common.{◌≡◌, ℕ, ap, ◌∙◌}
use Rattle.je_scopes.specs.Looks.{Look, a_class, nothing, or_further}

pub local_class : (c : ℕ) (local further : Look) → a_class c ≡ local → a_class c ≡ or_further local further
local_class c local further e = ap (λ (l : Look). or_further l further) e

pub further_class : (look local further : Look) → nothing ≡ local → look ≡ further → look ≡ or_further local further
further_class look local further e h = h ∙ ap (λ (l : Look). or_further l further) e

pub ruleset classes = (local_class, further_class)
