use Rattle.std.proofs.Common.{◌≡◌, ◌+◌, min, sym, ap, ◌∙◌, arith}
use Rattle.je_scopes.specs.SourceTypes.{SourceType}
use Rattle.name_types.specs.View.{base_shown}
use Rattle.name_types.proofs.Views.{rolled_is, type_is}
use Rattle.source_types.specs.Substitution.{array_over}
use Rattle.source_subtypes.proofs.Putting.{array-shown}
use Rattle.reference_tests.proofs.bounds.array_over_type.Goals as goal

pub returns : goal.returns
returns c =
    let sum : c.saturating_add.result ≡ min 255 (c.in_ok-copy.copy.dims + c.args.dims) = omega (arith, c.saturating_add.ensures) in
    rolled_is _ ∙ ap (base_shown c.in_ok-copy.copy.base) sum
    ∙ array-shown c.in_ok-copy.copy.base c.in_ok-copy.copy.dims c.args.dims
    ∙ ap (λ (t : SourceType). array_over t c.args.dims) (sym (type_is c.in_ok-copy.copy) ∙ c.in_ok-copy.ensures)
