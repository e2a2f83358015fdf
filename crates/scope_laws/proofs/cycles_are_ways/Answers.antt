use Rattle.scope_laws.proofs.Cycles.{ranked_is_free, depends_by_ways}
use Rattle.scope_laws.proofs.cycles_are_ways.Goals as goal

pub returns-clause-ways : goal.returns-clause-ways
returns-clause-ways c = depends_by_ways

pub returns-clause-free : goal.returns-clause-free
returns-clause-free c = ranked_is_free
