use Rattle.std.proofs.Common.{◌<◌, List, map, subst, ◌∙◌, arith, inl}
use Rattle.body_places.specs.View.{program_seen}
use Rattle.body_walks.specs.Seen.{met_seen}
use Rattle.class_places.specs.declared.kept.Kept.{Kept}
use Rattle.class_places.specs.way.Kept.{Gains, IsDirect}
use Rattle.class_places.proofs.UserRounds.{next_round, rounds_begin, rounds_done, rounds_stop}
use Rattle.class_places.proofs.kept.all_kept.Goals as goal

pub loop-init : goal.loop-init
loop-init c = rounds_begin (program_seen c.args.program.now) (map met_seen c.args.met.now) c.in_ok-users.users c.in_ok-users.ensures c.add_direct.new.all.keys
    (subst (λ (l : List Kept). Gains (program_seen c.args.program.now) (IsDirect (map met_seen c.args.met.now)) l c.add_direct.new.all.keys) c.new-all.ensures.empty c.in_ok-add_direct.ensures)

pub loop-preserved : goal.loop-preserved
loop-preserved c =
    let some : 0 < c.loop.counter = omega arith in
    next_round (program_seen c.args.program.now) (map met_seen c.args.met.now) c.in_ok-users.users c.in_ok-users.ensures c.loop.counter c.loop.start c.loop.all.keys some c.loop.invariant
    c.add_step.new.all.keys c.in_ok-add_step.ensures _ _ (omega arith) c.len-last.ensures.len

pub returns-then-start-last : goal.returns-then-start-last
returns-then-start-last c =
    let some : 0 < c.loop.counter = omega arith in
    rounds_stop (program_seen c.args.program.now) (map met_seen c.args.met.now) c.in_ok-users.users c.in_ok-users.ensures c.loop.counter c.loop.start c.loop.all.keys some c.loop.invariant
    (inl (omega arith)) (c.if-start-last.true ∙ c.len-last.ensures.len)

pub returns : goal.returns
returns c =
    let some : 0 < c.loop.counter = omega arith in
    rounds_done (program_seen c.args.program.now) (map met_seen c.args.met.now) c.in_ok-users.users c.in_ok-users.ensures c.loop.counter c.loop.start c.loop.all.keys some c.loop.invariant
    (λ l. omega (arith, l)) (omega arith)
