use Rattle.std.proofs.Common.{◌≡◌, ◌+◌, drop}
use Rattle.std.specs.Prelude.{option_map}
use Rattle.je_base.specs.Names.{place_of}
use Rattle.machine_parts.proofs.variable.place_of.Given as goal

abbrev pub invariant-loop-at : goal.invariant-loop-at
invariant-loop-at l = option_map (λ n. l.at + n) (place_of (drop l.at l.texts) l.units) ≡ place_of l.texts l.units
