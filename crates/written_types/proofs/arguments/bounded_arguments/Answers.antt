use Rattle.std.proofs.Common.{arith}
use Rattle.std.proofs.lemmas.Result.{err_from_is_err_and}
use Rattle.name_types.specs.View.{all_shown}
use Rattle.source_subtypes.specs.View.{heads_of}
use Rattle.written_types.proofs.Bounds.{next_in_bound, next_out_of_bound}
use Rattle.written_types.proofs.arguments.bounded_arguments.Goals as goal

pub loop-at-preserved : goal.loop-at-preserved
loop-at-preserved c =
    next_in_bound (heads_of c.args.heads.now) c.args.arguments.class.0 (all_shown c.args.arguments.types.now) c.args.written.now c.loop-at.at _ c.index-written-at.result c.span_of.result c.in_ok-below.below
    (omega arith) c.index-written-at.is c.loop-at.invariant c.span_of.ensures c.in_ok-below.ensures tt c.in_ok-check.ensures.ok

pub returns-in_err-check-clause-err : goal.returns-in_err-check-clause-err
returns-in_err-check-clause-err c =
    let p = err_from_is_err_and c.from_residual-in_err-check.result c.from_residual-in_err-check.ensures.1 in
    rw (p.1, p.2) (next_out_of_bound (heads_of c.args.heads.now) c.args.arguments.class.0 (all_shown c.args.arguments.types.now) c.args.written.now c.loop-at.at _ c.index-written-at.result c.span_of.result c.in_ok-below.below
    (omega arith) c.index-written-at.is c.loop-at.invariant c.span_of.ensures c.in_ok-below.ensures _ c.in_err-check.ensures.err)
