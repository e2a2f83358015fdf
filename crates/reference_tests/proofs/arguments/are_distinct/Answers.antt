use Rattle.std.proofs.Common.{◌∙◌, nat_eq}
use Rattle.name_types.specs.View.{all_shown}
use Rattle.je_typing.specs.Castable.{some_are_distinct}
use Rattle.source_subtypes.proofs.Equal.{first-true, first-false, number-same, number-other}
use Rattle.reference_tests.proofs.Distinct.{of_two_classes}
use Rattle.reference_tests.proofs.arguments.are_distinct.Goals as goal

pub returns-then-class-other : goal.returns-then-class-other
returns-then-class-other c = c.some_are_distinct.ensures
    ∙ (λ i. some_are_distinct (all_shown (c.deref.ensures.value i)) (all_shown (c.deref-then-class-other.ensures.value i)))
    ∙ first-true (nat_eq c.in-Made.class.0 c.in-Made-base.other.0) (some_are_distinct (all_shown c.in-Made.types.items) (all_shown c.in-Made-base.others.items)) _
    (number-same c.in-Made.class.0 c.in-Made-base.other.0 c.if-class-other.true)
    (of_two_classes c.args.ty.now c.args.other.now c.in-Made.class c.in-Made-base.other c.in-Made.types c.in-Made-base.others c.in-Made.is c.in-Made-base.is)

pub returns-else-class-other : goal.returns-else-class-other
returns-else-class-other c =
    first-false (nat_eq c.in-Made.class.0 c.in-Made-base.other.0) (some_are_distinct (all_shown c.in-Made.types.items) (all_shown c.in-Made-base.others.items)) _
    (number-other c.in-Made.class.0 c.in-Made-base.other.0 c.if-class-other.false)
    (of_two_classes c.args.ty.now c.args.other.now c.in-Made.class c.in-Made-base.other c.in-Made.types c.in-Made-base.others c.in-Made.is c.in-Made-base.is)
