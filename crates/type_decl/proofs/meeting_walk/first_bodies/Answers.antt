use Rattle.std.proofs.Common.{◌≡◌, length, arith}
use Rattle.std.proofs.lemmas.Result.{err_from_is_err_and}
use Rattle.name_sites.specs.View.{source_of}
use Rattle.class_typing.specs.Elaboration.{first_bodies}
use Rattle.type_decl.specs.way.Seen.{bodies_met_seen}
use Rattle.type_decl.proofs.Walking.{class_fails, class_on}
use Rattle.type_decl.proofs.meeting_walk.first_bodies.Goals as goal

pub returns-in_err-done-clause-err : goal.returns-in_err-done-clause-err
returns-in_err-done-clause-err c =
    let p = err_from_is_err_and c.from_residual-in_err-done.result c.from_residual-in_err-done.ensures.1 in
    rw (p.1, p.2)
    (class_fails (source_of c.args.sites.now) (first_bodies (source_of c.args.sites.now)) (bodies_met_seen c.loop-at.done) c.loop-at.at
    (length (source_of c.args.sites.now).sites) _ (omega (arith, c.len-at-end.ensures.count, c.loop-at-test.true)) c.loop-at.invariant.left c.in_err-done.ensures.err)

pub loop-at-preserved : goal.loop-at-preserved
loop-at-preserved c = record {
  placed = c.in_ok-done.ensures.placed;
  left = class_on (source_of c.args.sites.now) (first_bodies (source_of c.args.sites.now)) (bodies_met_seen c.loop-at.done) (bodies_met_seen c.in_ok-done.done)
      c.loop-at.at (length (source_of c.args.sites.now).sites) (omega (arith, c.len-at-end.ensures.count, c.loop-at-test.true)) c.loop-at.invariant.left
      c.in_ok-done.ensures.ok;
}
