use Rattle.std.proofs.Common.{◌∙◌, ap, List, [], ◌∷◌, ◌++◌}
use Rattle.variable_sets.specs.declared.exits.Exit.{Exit}
use Rattle.variable_sets.specs.ExitsView.{exits_view}
use Rattle.variable_sets.proofs.Looks.{exits_one}
use Rattle.variable_sets.proofs.exits.Exits.one.Goals as goal

pub returns : goal.returns
unfolding exits_view
returns c =
    exits_one _ (record { way = c.args.way; before = c.args.before })
    (c.in_ok-push.ensures.items ∙ ap (λ (l : List Exit). l ++ record { way = c.args.way; before = c.args.before } ∷ []) c.new-list.ensures.items)
