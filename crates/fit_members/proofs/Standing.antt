-- A statement that is tested where equal bodies and targets stand.
use Rattle.std.proofs.Common.{◌≡◌, Result, IfOk, subst}
use Rattle.std.specs.Prelude.{Bool}
use Rattle.je_core.specs.Core.{CoreStmt, CoreProgram}
use Rattle.je_fitting.specs.Expressions.{Body}
use Rattle.je_fitting.specs.Statements.{Targets}
use Rattle.je_fitting.specs.way.DecidingStatements.{is_statement_fit}

pub same_place : {E : Type 0} (r : Result Bool E) (p : CoreProgram) (b b' : Body) (j j' : Targets) (s s' : CoreStmt) →
    b ≡ b' → j ≡ j' → s ≡ s' → IfOk r (λ fits. fits ≡ is_statement_fit p b j s) →
    IfOk r (λ fits. fits ≡ is_statement_fit p b' j' s')
same_place r p b b' j j' s s' e f g h =
    subst (λ (x : Body). IfOk r (λ fits. fits ≡ is_statement_fit p x j' s')) e
    (subst (λ (y : Targets). IfOk r (λ fits. fits ≡ is_statement_fit p b y s')) f
    (subst (λ (z : CoreStmt). IfOk r (λ fits. fits ≡ is_statement_fit p b j z)) g h))
