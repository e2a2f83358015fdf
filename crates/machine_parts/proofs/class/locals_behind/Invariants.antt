use Rattle.std.proofs.Common.{◌≡◌, ◌++◌, drop, length}
use Rattle.je_java.specs.Classes.{defaults_of}
use Rattle.machine_parts.proofs.class.locals_behind.Given as goal

abbrev pub invariant-loop-at : goal.invariant-loop-at
invariant-loop-at l = l.values ++ defaults_of (drop l.at l.locals) ≡ l.initial.values ++ defaults_of (drop (length l.initial.values) l.locals)
