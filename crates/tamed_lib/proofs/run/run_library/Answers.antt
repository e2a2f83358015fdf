use Rattle.std.proofs.Common.{sym}
use Rattle.je_core.specs.View.{program_view}
use Rattle.tamed_lib.specs.Outcomes.{state_in}
use Rattle.tamed_lib.proofs.Places.{ran_without_class, ran_without_row}
use Rattle.tamed_lib.proofs.run.run_library.Goals as goal

pub returns-in_default-clause-goes : goal.returns-in_default-clause-goes
returns-in_default-clause-goes c = λ go exits begun outside own. ran_without_row (program_view c.args.program.now) c.args.own c.args.at c.args.this c.args.given.now go exits
    (state_in c.args.left.now begun c.args.heap.now.world outside own)
    c.in_default.ensures

pub returns-in_default-class_of_number-clause-goes : goal.returns-in_default-class_of_number-clause-goes
returns-in_default-class_of_number-clause-goes c = λ go exits begun outside own. ran_without_class (program_view c.args.program.now) c.args.own c.args.at c.args.this c.args.given.now go exits
    (state_in c.args.left.now begun c.args.heap.now.world outside own)
    (sym c.in_default-class_of_number.ensures)
