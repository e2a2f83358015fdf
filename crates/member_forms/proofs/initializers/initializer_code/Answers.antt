use Rattle.std.proofs.Common.{rules, ◌≡◌, ◌∷◌, [], map, ap, ◌∙◌}
use Rattle.je_core.specs.View.{stmt_view}
use Rattle.class_typing.specs.Members.{nothing}
use Rattle.statement_forms.specs.Bodies.{met_seen}
use Rattle.statement_forms.specs.Seen.{progress_seen}
use Rattle.member_forms.proofs.initializers.initializer_code.Goals as goal

pub returns : goal.returns
returns c = λ s.
    let kept : c.in_ok-new.field-0.value ≡ c.in_ok-code.code = search rules in
    c.in_ok-members.ensures
    ∙ (λ i. record nothing {
      initializers =
          record {
            is_static = c.is_static_word.ensures i;
            span = c.args.block.now.opening;
            locals = c.args.progress.locals.items;
            body = (ap stmt_view kept ∙ c.in_ok-code.ensures s (progress_seen c.args.progress)) i;
          }
          ∷ [];
      met = map met_seen c.args.progress.met.items;
    })
