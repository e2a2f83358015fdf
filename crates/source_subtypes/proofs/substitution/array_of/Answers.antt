use Rattle.std.proofs.Common.{sym, ap, ◌∙◌}
use Rattle.je_scopes.specs.SourceTypes.{SourceType}
use Rattle.name_types.specs.View.{base_shown}
use Rattle.name_types.proofs.Views.{rolled_is, type_is}
use Rattle.source_types.specs.Substitution.{array_over}
use Rattle.source_subtypes.proofs.Putting.{array-shown}
use Rattle.source_subtypes.proofs.substitution.array_of.Goals as goal

pub returns : goal.returns
returns c = rolled_is _ ∙ ap (base_shown c.in_ok-copy.copy.base) c.added_dims.ensures
    ∙ array-shown c.in_ok-copy.copy.base c.in_ok-copy.copy.dims c.args.dims
    ∙ ap (λ (t : SourceType). array_over t c.args.dims) (sym (type_is c.in_ok-copy.copy) ∙ c.in_ok-copy.ensures)
