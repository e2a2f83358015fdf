-- One class of each walk.
use Rattle.std.specs.Prelude.{ℕ, List, ◌++◌, map, suc, zero, ◌∷◌, []}
use Rattle.je_core.specs.Core.{CoreClass}
use Rattle.je_scopes.specs.Source.{Source}
use Rattle.je_typing.specs.Judged.{Judged, gives, ◌>>=◌}
use Rattle.class_typing.specs.Classes.{core_class}
use Rattle.class_typing.specs.Elaboration.{BodiesMet, World, constants_behind, first_world}
use Rattle.class_typing.specs.Elaboration.{members_of, nothing_captured}
use Rattle.class_typing.specs.Programs.{CapturedLocal}
use Rattle.body_typing.specs.Bodies.{Met}

-- one class further
abbrev pub walked : Source → BodiesMet → ℕ → Judged BodiesMet
walked source b c = do
  d ← members_of source (first_world source b.constants) (nothing_captured source) b.met c
  gives (record { met = b.met ++ d.met; constants = constants_behind source b.met d.met b.constants })

-- a class of the core program
abbrev pub made : Source → World → (ℕ → List CapturedLocal) → List Met → ℕ → Judged CoreClass
made source w captured met c = do
  d ← members_of source w captured met c
  gives (core_class w.program captured c d)
