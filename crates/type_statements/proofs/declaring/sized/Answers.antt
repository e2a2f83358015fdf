use Rattle.std.proofs.Common.{◌≡◌, ◌+◌, min, sym, ap, ◌∙◌, arith}
use Rattle.name_types.specs.View.{base_shown, shown}
use Rattle.name_types.proofs.Limits.{with_more}
use Rattle.name_types.proofs.Views.{rolled_is, type_is}
use Rattle.type_statements.proofs.declaring.sized.Goals as goal

pub returns : goal.returns
returns c =
    let sum : c.min.result ≡ min 255 (c.in_ok-one.one.dims + c.args.dims) = omega (arith, c.min.ensures, c.saturating_add.ensures) in
    rolled_is _ ∙ ap (base_shown c.in_ok-one.one.base) sum
    ∙ with_more c.in_ok-one.one.base (shown c.args.ty.now) c.args.dims c.in_ok-one.one.dims
    (sym (type_is c.in_ok-one.one) ∙ c.in_ok-one.ensures ∙ sym c.requires)
