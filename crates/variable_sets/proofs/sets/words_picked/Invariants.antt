use Rattle.std.proofs.Common.{◌≡◌, ℕ, ◌<◌, vec_len, get_or}
use Rattle.variable_sets.specs.way.Words.{picked_word}
use Rattle.variable_sets.proofs.sets.words_picked.Given as goal

abbrev pub invariant-loop-k : goal.invariant-loop-k
invariant-loop-k l = record {
  len : vec_len l.words ≡ l.k;
  words : (k : ℕ) → k < l.k → get_or l.words.items k (picked_word l.which.rest l.yes.rest l.no.rest) ≡ picked_word (get_or l.which.words.items k l.which.rest) (get_or l.yes.words.items k l.yes.rest) (get_or l.no.words.items k l.no.rest);
}
