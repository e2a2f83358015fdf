use Rattle.std.proofs.Common.{ℕ, ◌+◌, nat_eq, Option, Some, ap, ◌∙◌}
use Rattle.std.specs.Prelude.{◌&&◌, if◌then◌else◌}
use Rattle.std.specs.Option.{option_eq}
use Rattle.std.specs.HashMap.{get}
use Rattle.binary_names.specs.Counts.{counted, same_key}
use Rattle.binary_names.proofs.Counting.{counts_more}
use Rattle.binary_names.proofs.counts.Counts.next.Goals as goal

pub returns-clause-counts : goal.returns-clause-counts
unfolding counted
returns-clause-counts c = λ p x. counts_more (λ q y. get same_key c.args.self.now.values (q, y)) (λ q y. get same_key c.insert.new.self (q, y)) c.args.place c.args.name (c.count-count.result + 1) (ap (λ (k : ℕ). k + 1) c.count-count.ensures)
    (λ q y. c.in_ok-insert.ensures.updates.0 (q, y) ∙ ap (λ (k : Option ℕ). if (option_eq nat_eq c.args.place q && option_eq nat_eq k y) then Some (c.count-count.result + 1) else get same_key c.args.self.now.values (q, y)) c.number.ensures) p x
