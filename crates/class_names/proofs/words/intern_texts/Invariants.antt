use Rattle.std.proofs.Common.{◌≡◌, ◌≤◌, ◌+◌, length, map, drop}
use Rattle.class_names.specs.Words.{StayNumbered, all_interned}
use Rattle.class_names.proofs.words.intern_texts.Given as goal

abbrev pub invariant-loop-word : goal.invariant-loop-word
invariant-loop-word l =
    (all_interned l.names (map (λ w. w.now) (drop l.word-index l.words)) ≡ all_interned l.initial.names (map (λ w. w.now) l.words))
    × StayNumbered l.initial.names l.names
    × (length l.names ≤ length l.initial.names + l.word-index)
