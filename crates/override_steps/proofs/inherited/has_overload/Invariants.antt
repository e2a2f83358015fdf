use Rattle.std.specs.Prelude.{not, ◌&&◌}
use Rattle.std.proofs.Common.{◌≡◌, drop, map}
use Rattle.std.specs.List.{list_any}
use Rattle.source_subtypes.specs.View.{heads_of}
use Rattle.overriding.specs.Methods.{have_one_name, is_subsignature}
use Rattle.class_methods.specs.View.{method_seen}
use Rattle.override_steps.proofs.inherited.has_overload.Given as goal

abbrev pub invariant-loop-at : goal.invariant-loop-at
invariant-loop-at l =
    list_any (λ n. have_one_name (method_seen l.method) n && not (is_subsignature (heads_of l.heads) (method_seen l.method) n)) (map method_seen (drop l.at l.above))
    ≡ list_any (λ n. have_one_name (method_seen l.method) n && not (is_subsignature (heads_of l.heads) (method_seen l.method) n)) (map method_seen l.above)
