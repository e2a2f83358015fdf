use Rattle.std.proofs.Common.{sym, ap, ◌∙◌}
use Rattle.name_types.proofs.Views.{rolled_is}
use Rattle.source_types.specs.Subtypes.{element_of}
use Rattle.source_subtypes.proofs.Equal.{shown-element}
use Rattle.reference_tests.proofs.castable.flat.Goals as goal

pub returns-clause-element : goal.returns-clause-element
returns-clause-element c = rolled_is _ ∙ sym (shown-element c.in_ok-copy.copy) ∙ ap element_of c.in_ok-copy.ensures
