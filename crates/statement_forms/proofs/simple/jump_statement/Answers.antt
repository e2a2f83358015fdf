use Rattle.std.proofs.Common.{sym, ap, ◌∙◌}
use Rattle.je_typing.specs.Judged.{gives}
use Rattle.je_typing.proofs.Walks.{bind_gives}
use Rattle.body_typing.specs.Bodies.{one}
use Rattle.statement_forms.proofs.Jumping.{jump_is}
use Rattle.statement_forms.proofs.simple.jump_statement.Goals as goal

pub returns-clause-ok : goal.returns-clause-ok
returns-clause-ok c = λ s pr.
    jump_is c.args.walk c.args.targets.now c.args.again c.args.word c.args.to s pr
    ∙ bind_gives _ (λ code. gives (one code s pr)) _ c.in_ok-code.ensures.ok
    ∙ ap gives (sym (c.in_ok-whole.ensures s pr))
