use Rattle.std.proofs.Common.{◌≡◌, ◌≤◌, ◌+◌, ℕ, List, drop}
use Rattle.std.specs.Prelude.{cond, count_by, fold}
use Rattle.std.specs.Str.{bytes_eq}
use Rattle.fit_parts.proofs.parts.stands_once.Given as goal

abbrev pub invariant-loop-text : goal.invariant-loop-text
invariant-loop-text l = (fold (λ (n : ℕ) (t : List ℕ). n + cond (bytes_eq t l.units) 1 0) l.count (drop l.text-index l.program.texts.items) ≡ count_by (λ t. bytes_eq t l.units) l.program.texts.items) × (l.count ≤ l.text-index)
