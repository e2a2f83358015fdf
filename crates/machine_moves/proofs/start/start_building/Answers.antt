use Rattle.je_core.specs.View.{method_view}
use Rattle.machine_moves.proofs.Members.{body_goes}
use Rattle.machine_moves.proofs.start.start_building.Goals as goal

pub returns-clause-goes : goal.returns-clause-goes
returns-clause-goes c =
    body_goes c.args.program.now c.args.context.now c.args.heap.now c.args.reply c.begin_constructor.new.context c.begin_constructor.new.heap (λ m s. m.build c.args.class s) (method_view c.args.constructor.now) c.args.this c.args.args
    c.in_ok-locals.locals c.args.body.value c.in_ok-locals.ensures c.requires.body c.requires.end c.begin_constructor.result c.begin_constructor.ensures.goes
