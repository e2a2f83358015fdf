use Rattle.je_core.specs.View.{method_view}
use Rattle.machine_moves.proofs.Members.{body_goes}
use Rattle.machine_moves.proofs.start.start_body.Goals as goal

pub returns-clause-goes : goal.returns-clause-goes
returns-clause-goes c =
    body_goes c.args.program.now c.args.context.now c.args.heap.now c.args.reply c.begin_body.new.context c.args.heap.now (λ m s. m.exec s) (method_view c.args.method.now) c.args.this c.args.args
    c.in_ok-locals.locals c.args.body.value c.in_ok-locals.ensures c.requires.body c.requires.end c.begin_body.result c.begin_body.ensures.goes
