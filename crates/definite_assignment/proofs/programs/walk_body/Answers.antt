-- What is followed is what `following` says.
use Rattle.std.proofs.Common.{◌≡◌, subst}
use Rattle.std.specs.Prelude.{IfOk, OnOk}
use Rattle.je_core.specs.View.{stmt_view}
use Rattle.flow_base.specs.way.Kept.{first_of}
use Rattle.variable_sets.specs.SetView.{set_view}
use Rattle.assignment_rules.specs.Rules.{Follow}
use Rattle.assignment_rules.specs.View.{ends_view}
use Rattle.definite_assignment.specs.Programs.{ends_of, faults_of}
use Rattle.definite_assignment.proofs.programs.walk_body.Goals as goal

pub returns-clause-ends : goal.returns-clause-ends
unfolding ends_of
returns-clause-ends c =
    subst (λ (f : Follow). IfOk c.walk_statement.result (λ e. ends_view e ≡ ends_of f (set_view c.args.before) (stmt_view c.args.body.now)))
    c.in_ok-follow.ensures c.walk_statement.ensures.ends

pub returns-clause-faults : goal.returns-clause-faults
unfolding faults_of
returns-clause-faults c =
    subst (λ (f : Follow). OnOk c.walk_statement.result (c.walk_statement.new.found ≡ first_of c.args.found.now (faults_of f (set_view c.args.before) (stmt_view c.args.body.now))))
    c.in_ok-follow.ensures c.walk_statement.ensures.faults
