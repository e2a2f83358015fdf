-- The binary digits of an int that are 1, as std counts them.
use Rattle.std.proofs.Common.{◌≡◌, ℕ, zero, suc, ◌+◌, ◌/◌, ◌%◌, ◌^◌, ◌<◌, ◌≤◌, ap, ◌∙◌, arith, pow-suc}
use Rattle.std.specs.Prelude.{ℤ, pos}
use Rattle.std.specs.Int.{w32, cast_signed, cast_unsigned}
use Rattle.std.proofs.lemmas.Int.{ints}
use Rattle.std.specs.Int.Count.{ones as count_ones, ones_step, ones-le}
use Rattle.text_numbers.specs.Measures.{bit_count, ones_among}

no_ones : (number : ℕ) → number ≡ 0 → count_ones number ≡ 0
unfolding count_ones
no_ones number none = ap count_ones none

ones_below : (count number : ℕ) → number < 2 ^ count → count_ones number ≡ ones_among count number
unfolding ones_among
ones_below zero number h = no_ones number (omega arith)
ones_below (suc count) number h =
    let half : number / 2 < 2 ^ count = omega (arith, pow-suc 2 count) in
    ones_step number ∙ ap (λ ones. number % 2 + ones) (ones_below count (number / 2) half)

ones_are_among : (number : ℕ) → number < 2 ^ 32 → count_ones number ≡ ones_among 32 number
ones_are_among number h = ones_below 32 number h

pub bit_count_is : (number : ℤ) (bits : ℕ) → bits < 2 ^ 32 → bits ≡ cast_unsigned w32 number →
    cast_signed w32 (count_ones bits) ≡ bit_count number
bit_count_is number bits h e =
    let few : count_ones bits ≤ 32 = ones-le 32 bits h in
    let plain : cast_signed w32 (count_ones bits) ≡ pos (count_ones bits) = omega (arith, ints) in
    plain ∙ ap pos (ones_are_among bits h ∙ ap (ones_among 32) e)
