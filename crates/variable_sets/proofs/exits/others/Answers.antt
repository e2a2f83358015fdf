use Rattle.std.proofs.Common.{◌∙◌, ap, sym, List, [], ◌∷◌, ◌++◌}
use Rattle.variable_sets.specs.declared.exits.Exit.{Exit}
use Rattle.variable_sets.proofs.Looks.{others_taken, others_kept}
use Rattle.variable_sets.proofs.exits.others.Goals as goal

pub loop-exit-preserved-in-Continue-1 : goal.loop-exit-preserved-in-Continue-1
loop-exit-preserved-in-Continue-1 c =
    c.in_ok-push.ensures.items
    ∙ ap (λ (l : List Exit). l ++ c.in-Some.exit ∷ []) c.loop-exit.invariant
    ∙ sym (others_kept c.args.way c.loop-exit.yielded c.in-Some.exit (sym c.if-not-is_same.ensures))

pub loop-exit-preserved : goal.loop-exit-preserved
loop-exit-preserved c =
    c.loop-exit.invariant ∙ sym (others_taken c.args.way c.loop-exit.yielded c.in-Some.exit (sym c.if-not-is_same.ensures))
