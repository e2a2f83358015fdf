use Rattle.std.proofs.Common.{◌≡◌, ◌++◌, ◌∷◌, [], ◌∙◌, ap, sym, subst}
use Rattle.program_tables.specs.way.Once.{Has}
use Rattle.program_tables.proofs.Once.{has_new}
use Rattle.program_tables.proofs.text_listing.add_text.Goals as goal

pub returns-in_ok-push-clause-has : goal.returns-in_ok-push-clause-has
returns-in_ok-push-clause-has c =
    let one : c.push.new.self.items ≡ c.args.texts.now.items ++ c.as_slice.result.now ∷ [] =
    c.in_ok-push.ensures.items ∙ ap (λ t. c.args.texts.now.items ++ t ∷ []) (c.in_ok-copied.ensures ∙ c.as_slice-then-branch.ensures ∙ sym c.as_slice.ensures) in
    subst (Has c.insert.new.self) (sym one) (has_new _ _ c.as_slice.result c.args.texts.now.items c.requires c.in_ok-insert.ensures.updates)
