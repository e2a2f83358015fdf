use Rattle.std.proofs.Common.{◌≡◌, ℕ, ◌<◌, length, get_or}
use Rattle.je_scopes.specs.Headers.{top_of}
use Rattle.name_walk.specs.View.{sites_of}
use Rattle.name_sites.proofs.indexes.tops.Given as goal

abbrev pub invariant-loop-at : goal.invariant-loop-at
invariant-loop-at l = (length l.tops.items ≡ l.at) × ((c : ℕ) → c < l.at → get_or l.tops.items c 0 ≡ top_of (sites_of l.classes) c)
