use Rattle.std.proofs.Common.{ap, ◌∙◌}
use Rattle.je_core.specs.declared.types.Base.TheVariants as base
use Rattle.je_core.specs.declared.types.ClassId.{ClassId}
use Rattle.je_scopes.specs.SourceTypes.{of_class, no_source_types}
use Rattle.name_types.proofs.Bases.{plain_base}
use Rattle.name_types.proofs.Views.{rolled_is}
use Rattle.header_steps.proofs.supers.throwable.Goals as goal

pub returns : goal.returns
returns c = rolled_is _ ∙ plain_base (base.Class c.throwable_class.result) 0 ∙ ap (λ (k : ClassId). of_class k.0 no_source_types 0) c.throwable_class.ensures
