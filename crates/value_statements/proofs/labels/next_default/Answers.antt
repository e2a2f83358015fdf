use Rattle.std.proofs.Common.{sym, ◌∙◌}
use Rattle.std.specs.Prelude.{None}
use Rattle.std.proofs.lemmas.Result.{err_from_is_err_and}
use Rattle.je_typing.specs.Judged.{gives}
use Rattle.value_statements.proofs.Labelled.{default_gives, default_twice}
use Rattle.value_statements.proofs.labels.next_default.Goals as goal

pub returns-in_err-check-clause-err : goal.returns-in_err-check-clause-err
returns-in_err-check-clause-err c =
    let p = err_from_is_err_and c.from_residual.result c.from_residual.ensures.1 in
    rw (p.1, p.2) (λ heads selector before k. default_twice heads selector before c.args.span c.meet_default-is_met.result _ (c.meet_default-is_met.ensures.before before k) c.in_err-check.ensures.err)

pub returns-clause-ok : goal.returns-clause-ok
returns-clause-ok c =
    λ heads selector before k. default_gives heads selector before c.args.span c.meet_default-is_met.result tt (c.meet_default-is_met.ensures.before before k) c.in_ok-check.ensures.ok
    ∙ (λ i. gives (record { value = None; uses = sym c.new.ensures.items i; span = c.args.span }))
