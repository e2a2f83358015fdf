use Rattle.std.proofs.Common.{ap, ◌∙◌, arith}
use Rattle.std.specs.Int.{w32, cast_unsigned}
use Rattle.std.proofs.lemmas.Int.{to_z-of_z}
use Rattle.text_numbers.proofs.Ones.{bit_count_is}
use Rattle.text_numbers.proofs.measures.bit_count.Goals as goal

pub returns : goal.returns
returns c =
    let bits = c.cast_unsigned-bits.ensures
    ∙ ap (cast_unsigned w32) (to_z-of_z w32 c.args.number c.ranges.number) in
    bit_count_is c.args.number c.cast_unsigned-bits.result (omega arith) bits
