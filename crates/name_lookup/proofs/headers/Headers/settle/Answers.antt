use Rattle.std.proofs.Common.{arith}
use Rattle.name_lookup.specs.View.{known_of, unknown_count}
use Rattle.name_lookup.proofs.Tables.{sum-fewer}
use Rattle.name_lookup.proofs.headers.Headers.settle.Goals as goal

pub returns-clause-fewer : goal.returns-clause-fewer
unfolding known_of unknown_count
returns-clause-fewer c = λ e. sum-fewer c.args.self.now.supers.items c.args.class.0 c.args.supers c.requires e
