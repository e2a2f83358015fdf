use Rattle.je_core.specs.View.{view, views, stmt_view}
use Rattle.assignment_rules.specs.View.{ends_view, follow_view}
use Rattle.assigned_statements.proofs.Loops.{loop_ended, do_ended, IfOk-ends}
use Rattle.assigned_statements.proofs.pairs.+pairs.Goals as goal

pub pair_do_loop-returns-clause-first : goal.pair_do_loop-returns-clause-first
pair_do_loop-returns-clause-first t c =
    IfOk-ends c.end_turns.result (λ e. ends_view e.first) _ _ c.end_turns.ensures.first
    (do_ended (follow_view c.args.follow.now) c.args.label (stmt_view c.args.body.now) (view c.args.condition.now) _ _ _ _ c.in_ok-turns.ensures.turn c.in_ok-turns.ensures.all c.in_ok-turns.ensures.none)

pub pair_do_loop-returns-clause-second : goal.pair_do_loop-returns-clause-second
pair_do_loop-returns-clause-second t c =
    IfOk-ends c.end_turns.result (λ e. ends_view e.second) _ _ c.end_turns.ensures.second
    (do_ended (follow_view c.args.follow.now) c.args.label (stmt_view c.args.body.now) (view c.args.condition.now) _ _ _ _ c.in_ok-turns.ensures.turn c.in_ok-turns.ensures.all c.in_ok-turns.ensures.none)

pub pair_loop-returns-clause-first : goal.pair_loop-returns-clause-first
pair_loop-returns-clause-first t c =
    IfOk-ends c.end_turns.result (λ e. ends_view e.first) _ _ c.end_turns.ensures.first
    (loop_ended (follow_view c.args.follow.now) c.args.label (view c.args.condition.now) (views c.args.steps.now) (stmt_view c.args.body.now) _ _ _ _ c.in_ok-turns.ensures.turn c.in_ok-turns.ensures.all c.in_ok-turns.ensures.none)

pub pair_loop-returns-clause-second : goal.pair_loop-returns-clause-second
pair_loop-returns-clause-second t c =
    IfOk-ends c.end_turns.result (λ e. ends_view e.second) _ _ c.end_turns.ensures.second
    (loop_ended (follow_view c.args.follow.now) c.args.label (view c.args.condition.now) (views c.args.steps.now) (stmt_view c.args.body.now) _ _ _ _ c.in_ok-turns.ensures.turn c.in_ok-turns.ensures.all c.in_ok-turns.ensures.none)
