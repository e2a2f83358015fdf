use Rattle.std.proofs.Common.{◌≡◌, ◌+◌, length}
use Rattle.je_lexer.specs.way.Symbols.{fits}
use Rattle.je_lexer.proofs.words.fits.Given as goal

abbrev pub invariant-loop-b : goal.invariant-loop-b
invariant-loop-b l = (fits l.bytes l.rest ≡ fits l.symbol l.text) × (length l.bytes + length l.text ≡ length l.symbol + length l.rest)

abbrev pub decreases-loop-b : goal.decreases-loop-b
decreases-loop-b l = length l.bytes
