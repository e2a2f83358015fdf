use Rattle.std.proofs.Common.{◌≡◌, ℕ, vec_len, get_or}
use Rattle.variable_sets.proofs.sets.grow.Given as goal

abbrev pub invariant-loop-end : goal.invariant-loop-end
invariant-loop-end l = record {
  long : vec_len l.words ≡ l._end;
  same : (k : ℕ) → get_or l.words.items k l.rest ≡ get_or l.fn.words.items k l.rest;
}
