use Rattle.std.proofs.Common.{◌∙◌}
use Rattle.je_scopes.specs.SourceTypes.{of_class}
use Rattle.name_types.proofs.Bases.{made_base}
use Rattle.name_types.proofs.Views.{rolled_is}
use Rattle.library_declarations.proofs.types.super_type.Goals as goal

pub returns : goal.returns
returns c = rolled_is _ ∙ made_base c.class_id.result c.in_ok-arguments_of.field-0 0
    ∙ (λ i. of_class (c.class_id.ensures i).0 (c.in_ok-arguments_of.ensures i) 0)
