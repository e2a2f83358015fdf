use Rattle.std.proofs.Common.{refl}
use Rattle.je_core.specs.View.{initializer_view}
use Rattle.program_tables.specs.way.Words.{all_made, made_of}
use Rattle.program_tables.proofs.Placed.{placed_further}
use Rattle.program_tables.proofs.made.constants_made.Goals as goal

pub loop-at-preserved : goal.loop-at-preserved
loop-at-preserved c =
    placed_further initializer_view (all_made c.args.of) (made_of c.args.of) (λ at id ids. refl) c.args.of.constants.now _ c.loop-at.at
    c.loop-at.all.items _ c.in_ok-constant_made.field-0 _ c.loop-at-test.true c.loop-at.invariant c.in_ok-push.ensures.items
    c.in_ok-constant_made.ensures
