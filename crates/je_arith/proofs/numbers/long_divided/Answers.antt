use Rattle.std.proofs.Common.{ap, ◌∙◌}
use Rattle.std.specs.Int.{w64, cast_signed, cast_unsigned, int_wrapping_div}
use Rattle.std.proofs.lemmas.Int.{to_z-of_z, SFits-int_wrap}
use Rattle.je_arith.proofs.Wraps.{long_div_is}
use Rattle.je_arith.proofs.numbers.long_divided.Goals as goal

pub returns : goal.returns
returns c =
    let x = to_z-of_z w64 c.args.x c.ranges.x in
    let y = to_z-of_z w64 c.args.y c.ranges.y in
    ap (λ z. cast_signed w64 (cast_unsigned w64 z)) (c.wrapping_div.ensures ∙ (λ i. int_wrapping_div w64 (x i) (y i)) ∙ long_div_is c.args.x c.args.y c.ranges.x) ∙ to_z-of_z w64 _ (SFits-int_wrap w64 _)
