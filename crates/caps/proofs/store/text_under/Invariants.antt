use Rattle.std.proofs.Common.{◌≡◌, drop}
use Rattle.caps.specs.Table.{text_under}
use Rattle.caps.proofs.store.text_under.Given as goal

-- the text is the first one under the key among the pairs that are left
abbrev pub invariant-loop-pair : goal.invariant-loop-pair
invariant-loop-pair l = text_under l.key l.pairs ≡ text_under l.key (drop l.pair-index l.pairs)
