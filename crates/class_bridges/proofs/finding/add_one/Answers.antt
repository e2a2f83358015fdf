use Rattle.std.proofs.Common.{rules}
use Rattle.class_methods.specs.View.{method_seen}
use Rattle.class_bridges.proofs.Steps.{else_written}
use Rattle.class_bridges.proofs.finding.add_one.Goals as goal

pub returns-in_ok-add : goal.returns-in_ok-add
returns-in_ok-add c = λ at. let h = else_written c.args.found.now c.place_of.result (method_seen c.args.method.now) at in search rules
