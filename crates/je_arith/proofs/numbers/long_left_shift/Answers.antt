use Rattle.std.proofs.Common.{◌^◌, ◌%◌, ap, ◌∙◌}
use Rattle.std.specs.Prelude.{pos, ◌*ℤ◌}
use Rattle.std.specs.Int.{w64, cast_signed, cast_unsigned, int_shl, int_wrap}
use Rattle.std.proofs.lemmas.Int.{to_z-of_z, SFits-int_wrap}
use Rattle.je_arith.specs.Shifts.{distance}
use Rattle.je_arith.proofs.Wraps.{long_shl_is}
use Rattle.je_arith.proofs.numbers.long_left_shift.Goals as goal

pub returns : goal.returns
returns c =
    let times = long_shl_is c.args.x c.long_distance.result c.long_distance.ensures.small c.ranges.x in
    let same = ap (λ k. int_wrap w64 (c.args.x *ℤ pos (2 ^ k))) (c.long_distance.ensures.value ∙ ap (distance w64) (to_z-of_z w64 c.args.s c.ranges.s)) in
    ap (λ z. cast_signed w64 (cast_unsigned w64 z)) (c.wrapping_shl.ensures ∙ ap (λ x. int_shl w64 x (c.long_distance.result % 64)) (to_z-of_z w64 c.args.x c.ranges.x) ∙ times ∙ same) ∙ to_z-of_z w64 _ (SFits-int_wrap w64 _)
