use Rattle.std.proofs.Common.{rules}
use Rattle.je_core.specs.View.{stmt_view}
use Rattle.je_typing.specs.Judged.{bind}
use Rattle.type_statements.proofs.switches.switch_judged.Goals as goal

pub returns-clause-ok : goal.returns-clause-ok
unfolding bind stmt_view
returns-clause-ok c = λ pr. search rules
