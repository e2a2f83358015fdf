-- A turn: what its writes have replaced, in order, and the world in which it began, which these give again.
use Rattle.std.specs.Prelude.{ℕ, List, [], ◌∷◌, ◌++◌, take, Option, Some, None, slice_set, nat_lt, if◌then◌else◌}
use Rattle.je_core.specs.declared.value.ObjId.{ObjId}
use Rattle.je_core.specs.declared.value.Value.{Value}
use Rattle.je_java.specs.World.{World, with_slot, with_units_at}
use Rattle.je_heap.specs.Growing.{shortened}
use Rattle.je_heap.specs.declared.turn.Saved.{Saved}
use Rattle.je_heap.specs.declared.turn.Saved.TheVariants.{Slot, Variable, Units, Length}

-- `made_before` is how many objects there were when it began
pub record Turn : Type 0 where
  pub made_before : ℕ
  pub journal : List Saved

-- a turn that begins in a world of so many objects
abbrev pub turn_from : ℕ → Turn
turn_from count = record { made_before = count; journal = [] }

abbrev pub noted : Saved → Turn → Turn
noted saved turn = record turn { journal = turn.journal ++ saved ∷ [] }

-- what a write replaces is noted where the object was there before the turn
abbrev pub slot_noted : ObjId → ℕ → Option Value → Turn → Turn
slot_noted id at None turn = turn
slot_noted id at (Some old) turn = if nat_lt id.0 turn.made_before then noted (Slot id at old) turn else turn

abbrev pub units_noted : ObjId → Option (List ℕ) → Turn → Turn
units_noted id None turn = turn
units_noted id (Some old) turn = if nat_lt id.0 turn.made_before then noted (Units id old) turn else turn

-- of units that are put behind a builder's own, how many those are
abbrev pub length_noted : ObjId → Option ℕ → Turn → Turn
length_noted id None turn = turn
length_noted id (Some count) turn = if nat_lt id.0 turn.made_before then noted (Length id count) turn else turn

abbrev pub variable_noted : ℕ → Option Value → Turn → Turn
variable_noted at None turn = turn
variable_noted at (Some old) turn = noted (Variable at old) turn

-- the world in which what a write replaced stands again
abbrev pub undone : World → Saved → World
undone world (Slot id at old) = record world { objects = with_slot world.objects id.0 at old }
undone world (Units id old) = record world { objects = with_units_at world.objects id.0 old }
undone world (Length id count) = record world { objects = shortened world.objects id.0 count }
undone world (Variable at old) = record world { statics = slice_set world.statics at old }

-- that in which all of a journal does, the latest first
abbrev pub all_undone : World → List Saved → World
all_undone world [] = world
all_undone world (saved ∷ journal) = undone (all_undone world journal) saved

-- the first objects alone
abbrev pub with_first : ℕ → World → World
with_first count world = record world { objects = take count world.objects }

-- the world in which the turn began
abbrev pub before : World → Turn → World
before world turn = with_first turn.made_before (all_undone world turn.journal)
