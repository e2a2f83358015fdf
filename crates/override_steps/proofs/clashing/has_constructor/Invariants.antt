use Rattle.std.proofs.Common.{◌≡◌, drop, map}
use Rattle.std.specs.List.{list_any}
use Rattle.std.specs.Prelude.{◌&&◌}
use Rattle.source_subtypes.specs.View.{heads_of}
use Rattle.declarations.specs.Declarations.{DeclaredMethod}
use Rattle.declarations.specs.View.{method_shown}
use Rattle.overriding.specs.Overrides.{have_one_erasure}
use Rattle.override_steps.proofs.clashing.has_constructor.Given as goal

abbrev pub invariant-loop-at : goal.invariant-loop-at
invariant-loop-at l =
    list_any (λ (n : DeclaredMethod). n.is_constructor && have_one_erasure (heads_of l.heads) (method_shown l.constructor) n) (map method_shown (drop l.at l.earlier))
    ≡ list_any (λ (n : DeclaredMethod). n.is_constructor && have_one_erasure (heads_of l.heads) (method_shown l.constructor) n) (map method_shown l.earlier)
