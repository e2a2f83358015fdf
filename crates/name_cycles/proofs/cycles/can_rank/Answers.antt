use Rattle.std.proofs.Common.{sym, ◌∙◌}
use Rattle.name_cycles.proofs.Ranks.{each_ranked}
use Rattle.name_cycles.proofs.cycles.can_rank.Goals as goal

pub returns-then-not-is_ranked-clause-above : goal.returns-then-not-is_ranked-clause-above
returns-then-not-is_ranked-clause-above c = λ e d q. each_ranked c.args.ranks.now c.args.above.now (sym c.are_ranked.ensures ∙ e) d q
