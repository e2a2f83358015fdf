use Rattle.std.proofs.Common.{◌∙◌, arith, ap, sym, length, ◌++◌, ◌-◌, ◌+◌}
use Rattle.je_core.specs.View.{program_view}
use Rattle.class_names.specs.BinaryNames.{round_within}
use Rattle.class_names.proofs.Joining.{way_ends, way_on, way_cut}
use Rattle.class_names.proofs.binary_names.round_of.Goals as goal

pub returns-in_default : goal.returns-in_default
returns-in_default c =
    let program = program_view c.args.program.now in
    c.in_ok-push.ensures.items ∙
    way_ends program (length program.classes - c.out.counter) c.out.next c.out.round.items (omega (arith, c.out-test.true, c.class_count-end.ensures)) (sym c.in_default.ensures) ∙
    c.out.invariant

pub out-preserved : goal.out-preserved
out-preserved c =
    let program = program_view c.args.program.now in
    ap (λ cs. cs ++ round_within program (length program.classes - (c.out.counter + 1)) c.in-Some.outer) c.in_ok-push.ensures.items ∙
    way_on program (length program.classes) c.out.counter c.out.next c.in-Some.outer c.out.round.items
    (omega (arith, c.out-test.true, c.class_count-end.ensures)) (sym c.in-Some.ensures) ∙
    c.out.invariant

pub returns : goal.returns
returns c =
    let program = program_view c.args.program.now in
    sym (way_cut program (length program.classes) c.out.counter c.out.next c.out.round.items (omega (arith, c.out-test.false, c.class_count-end.ensures))) ∙
    c.out.invariant
