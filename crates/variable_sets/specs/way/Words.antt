-- The set that words of 64 bits hold, with one word for all behind the last.
use Rattle.std.specs.Prelude.{ℕ, bit_and, bit_xor, ◌/◌, ◌%◌, List, nat_eq, slice_index_or}
use Rattle.std.specs.Int.{bit_at}
use Rattle.variable_sets.specs.Sets.{Set}

unfoldable pub words_hold : List ℕ → ℕ → Set
words_hold words rest = record { has = λ v. nat_eq (bit_at (slice_index_or words (v / 64) rest) (v % 64)) 1 }

-- the bits of a where those of x are 1, and those of b elsewhere
abbrev pub picked_word : ℕ → ℕ → ℕ → ℕ
picked_word x a b = bit_xor b (bit_and (bit_xor a b) x)
