use Rattle.std.proofs.Common.{◌++◌, ◌∙◌}
use Rattle.overriding.specs.Methods.{object_for}
use Rattle.class_methods.proofs.Sets.{all_types}
use Rattle.class_methods.proofs.above.types_above.Goals as goal

pub returns : goal.returns
returns c = all_types _ _ _ _ _ c.in_ok-own.ensures c.in_ok-above.ensures
    (c.in_ok-types.ensures ∙ (λ i. c.in_ok-others.ensures i ++ object_for (c.is_interface.ensures i)))
