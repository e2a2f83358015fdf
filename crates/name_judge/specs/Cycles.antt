-- When the cycles are those of a program.
use Rattle.std.specs.Prelude.{◌≡◌, ℕ, ◌<◌, Some, length, slice_get}
use Rattle.je_scopes.specs.Source.{Source}
use Rattle.je_scopes.specs.Settled as specs
use Rattle.name_cycles.specs.Graph.{AreDependencesOf}
use Rattle.name_judge.specs.declared.cycles.Cycles.{Cycles}

-- They say of each class on which it depends, and whether it depends on itself.
pub record AreCyclesOf (p : Source) (k : Cycles) : Type 0 where
  pub graph : AreDependencesOf p k.graph
  pub whole : length k.on_cycle.items ≡ length p.sites
  pub each : (c : ℕ) → c < length p.sites → slice_get k.on_cycle.items c ≡ Some (specs.depends p c c)
