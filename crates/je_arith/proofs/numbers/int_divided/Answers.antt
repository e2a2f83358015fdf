use Rattle.std.proofs.Common.{ap, ◌∙◌}
use Rattle.std.specs.Int.{w32, cast_signed, cast_unsigned, int_wrapping_div}
use Rattle.std.proofs.lemmas.Int.{to_z-of_z, SFits-int_wrap}
use Rattle.je_arith.proofs.Wraps.{int_div_is}
use Rattle.je_arith.proofs.numbers.int_divided.Goals as goal

pub returns : goal.returns
returns c =
    let x = to_z-of_z w32 c.args.x c.ranges.x in
    let y = to_z-of_z w32 c.args.y c.ranges.y in
    ap (λ z. cast_signed w32 (cast_unsigned w32 z)) (c.wrapping_div.ensures ∙ (λ i. int_wrapping_div w32 (x i) (y i)) ∙ int_div_is c.args.x c.args.y c.ranges.x) ∙ to_z-of_z w32 _ (SFits-int_wrap w32 _)
