use Rattle.std.proofs.Common.{subst, sym, refl, List, [], ◌∷◌, ◌++◌}
use Rattle.variable_sets.specs.declared.exits.Exit.{Exit}
use Rattle.variable_sets.specs.Sets.{either}
use Rattle.variable_sets.specs.SetView.{set_view}
use Rattle.variable_sets.specs.way.Lists.{Each}
use Rattle.variable_sets.proofs.Looks.{each_append}
use Rattle.variable_sets.proofs.exits.gained.Goals as goal

pub loop-exit-preserved : goal.loop-exit-preserved
loop-exit-preserved c =
    subst (λ (l : List Exit). Each (λ s. either s (set_view c.args.gain.now)) (c.loop-exit.yielded ++ c.in-Some.exit ∷ []) l) (sym c.in_ok-push.ensures.items)
    (each_append (λ s. either s (set_view c.args.gain.now)) c.loop-exit.yielded c.loop-exit.more.items c.in-Some.exit (record { way = c.in-Some.exit.way; before = c.in_ok-before.before }) c.loop-exit.invariant refl c.in_ok-before.ensures)
