use Rattle.std.proofs.Common.{◌≡◌, IfErr, IfOk, subst}
use Rattle.je_scopes.specs.SourceTypes.{SourceType}
use Rattle.je_typing.specs.Answers.{IsFault}
use Rattle.je_typing.specs.Judged.{Judged, gives}
use Rattle.name_types.specs.View.{shown}
use Rattle.body_type_steps.proofs.Bases.{primitive_sized}
use Rattle.body_type_steps.proofs.written.primitive_type.Goals as goal

pub returns-clause-ok : goal.returns-clause-ok
returns-clause-ok c =
    subst (λ (j : Judged SourceType). IfOk c.sized.result (λ t. j ≡ gives (shown t)))
    (primitive_sized c.args.primitive c.base_of.result c.args.dims c.args.span c.base_of.ensures) c.sized.ensures.ok

pub returns-clause-err : goal.returns-clause-err
returns-clause-err c =
    subst (λ (j : Judged SourceType). IfErr c.sized.result (IsFault j))
    (primitive_sized c.args.primitive c.base_of.result c.args.dims c.args.span c.base_of.ensures) c.sized.ensures.err
