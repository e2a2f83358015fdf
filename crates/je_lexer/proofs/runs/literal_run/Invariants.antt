use Rattle.std.proofs.Common.{◌≡◌, ◌+◌, length, false}
use Rattle.je_lexer.specs.way.Runs.{literal_run}
use Rattle.je_lexer.proofs.runs.literal_run.Given as goal

abbrev pub invariant-loop-c : goal.invariant-loop-c
invariant-loop-c l = (l.n + literal_run l.quote l.escaped l.rest ≡ literal_run l.quote false l.text) × (l.n + length l.rest ≡ length l.text)

abbrev pub decreases-loop-c : goal.decreases-loop-c
decreases-loop-c l = length l.rest
