use Rattle.std.proofs.Common.{◌≡◌, length, None}
use Rattle.je_lexer.specs.way.Symbols.{longest, all_symbols, FitsIn}
use Rattle.je_lexer.proofs.words.symbol_at.Given as goal

abbrev pub invariant-loop-s : goal.invariant-loop-s
invariant-loop-s l = (longest l.best l.symbols l.text ≡ longest None all_symbols l.text) × FitsIn l.best l.text

abbrev pub decreases-loop-s : goal.decreases-loop-s
decreases-loop-s l = length l.symbols
