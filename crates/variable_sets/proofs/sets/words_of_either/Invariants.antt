use Rattle.std.proofs.Common.{◌≡◌, ℕ, ◌<◌, vec_len, get_or, bit_or}
use Rattle.variable_sets.proofs.sets.words_of_either.Given as goal

abbrev pub invariant-loop-k : goal.invariant-loop-k
invariant-loop-k l = record {
  len : vec_len l.words ≡ l.k;
  words : (k : ℕ) → k < l.k → get_or l.words.items k (bit_or l.one_rest l.other_rest) ≡ bit_or (get_or l.one k l.one_rest) (get_or l.other k l.other_rest);
}
