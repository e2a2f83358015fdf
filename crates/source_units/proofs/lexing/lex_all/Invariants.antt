use Rattle.std.proofs.Common.{◌≡◌, length}
use Rattle.source_units.proofs.Lexed.{AreLexed}
use Rattle.source_units.proofs.lexing.lex_all.Given as goal

abbrev pub invariant-loop-bytes : goal.invariant-loop-bytes
invariant-loop-bytes l = AreLexed l.files l.bytes-index l.all.items × (length l.all.items ≡ l.bytes-index)
