use Rattle.std.proofs.Common.{◌≡◌, ℕ, ◌<◌, vec_len, get_or, bit_and}
use Rattle.variable_sets.proofs.sets.words_of_both.Given as goal

abbrev pub invariant-loop-k : goal.invariant-loop-k
invariant-loop-k l = record {
  len : vec_len l.words ≡ l.k;
  words : (k : ℕ) → k < l.k → get_or l.words.items k (bit_and l.one_rest l.other_rest) ≡ bit_and (get_or l.one k l.one_rest) (get_or l.other k l.other_rest);
}
