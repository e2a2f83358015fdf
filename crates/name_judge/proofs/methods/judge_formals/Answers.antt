use Rattle.std.proofs.Common.{subst, arith}
use Rattle.je_ast.specs.declared.decl.Formal.{Formal}
use Rattle.je_ast.specs.Types.{formal_view}
use Rattle.je_scopes.specs.Faults.{of_formal}
use Rattle.name_lookup.specs.View.{part_view}
use Rattle.name_faults.specs.View.{Adds}
use Rattle.name_faults.proofs.Left.{left_end, left_next}
use Rattle.type_faults.specs.Program.{source_in}
use Rattle.name_judge.proofs.methods.judge_formals.Goals as goal

pub loop-formal-preserved : goal.loop-formal-preserved
loop-formal-preserved c =
    left_next (of_formal (source_in c.args.program.now) c.args.place.class.0 (part_view c.args.place.part)) formal_view c.args.formals.now c.loop-formal.formal-index c.formal-item.result _ (omega arith) c.loop-formal.invariant
    (subst (λ (f : Formal). Adds c.loop-formal.faults c.judge_type.new.faults (of_formal (source_in c.args.program.now) c.args.place.class.0 (part_view c.args.place.part) (formal_view f))) c.formal-item.is c.in_ok-judge_type.ensures)

pub returns : goal.returns
returns c = left_end (of_formal (source_in c.args.program.now) c.args.place.class.0 (part_view c.args.place.part)) formal_view c.args.formals.now c.loop-formal.formal-index _ (omega arith) c.loop-formal.invariant
