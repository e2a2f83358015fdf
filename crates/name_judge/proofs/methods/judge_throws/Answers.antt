use Rattle.std.proofs.Common.{subst, arith}
use Rattle.je_ast.specs.declared.name.Name.{Name}
use Rattle.je_ast.specs.Types.{name_view}
use Rattle.je_scopes.specs.Faults.{of_thrown}
use Rattle.name_lookup.specs.View.{part_view}
use Rattle.name_faults.specs.View.{Adds}
use Rattle.name_faults.proofs.Left.{left_end, left_next}
use Rattle.type_faults.specs.Program.{source_in}
use Rattle.name_judge.proofs.methods.judge_throws.Goals as goal

pub loop-name-preserved : goal.loop-name-preserved
loop-name-preserved c =
    left_next (of_thrown (source_in c.args.program.now) c.args.place.class.0 (part_view c.args.place.part)) name_view c.args.throws.now c.loop-name.name-index c.name-item.result _ (omega arith) c.loop-name.invariant
    (subst (λ (n : Name). Adds c.loop-name.faults c.judge_name.new.faults (of_thrown (source_in c.args.program.now) c.args.place.class.0 (part_view c.args.place.part) (name_view n))) c.name-item.is c.in_ok-judge_name.ensures)

pub returns : goal.returns
returns c = left_end (of_thrown (source_in c.args.program.now) c.args.place.class.0 (part_view c.args.place.part)) name_view c.args.throws.now c.loop-name.name-index _ (omega arith) c.loop-name.invariant
