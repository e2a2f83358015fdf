use Rattle.std.proofs.Common.{sym, ap, ◌∙◌}
use Rattle.je_core.specs.Core.{CoreStmt}
use Rattle.je_typing.specs.Judged.{gives}
use Rattle.body_typing.specs.Bodies.{one}
use Rattle.statement_forms.proofs.simple.empty_statement.Goals as goal

pub returns-clause-ok : goal.returns-clause-ok
returns-clause-ok c = λ s pr.
    ap (λ (code : CoreStmt). gives (one code s pr)) (sym c.make_empty.ensures) ∙ ap gives (sym (c.in_ok-whole.ensures s pr))
