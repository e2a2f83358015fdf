use Rattle.std.proofs.Common.{◌≡◌, sym, ap, ◌∙◌, arith}
use Rattle.std.specs.Prelude.{min}
use Rattle.je_scopes.specs.SourceTypes.{with_dims}
use Rattle.name_types.specs.View.{base_shown}
use Rattle.name_types.proofs.Views.{rolled_is}
use Rattle.operator_steps.proofs.Dimensions.{added_dims}
use Rattle.type_expr.proofs.arrays.sized.Goals as goal

pub returns : goal.returns
returns c =
    let few : c.min.result ≡ min 255 c.args.dims = omega arith in
    rolled_is _ ∙ sym (added_dims c.args.base c.min.result) ∙ ap (with_dims (base_shown c.args.base 0)) few
