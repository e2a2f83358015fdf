-- What a heap holds.
use Rattle.std.specs.Prelude.{ℕ, List, length, Option, Some, None, option_map}
use Rattle.je_core.specs.declared.object.Obj.{Obj}
use Rattle.je_core.specs.declared.value.ObjId.{ObjId}
use Rattle.je_core.specs.declared.value.Value.{Value}
use Rattle.je_java.specs.World.{World, slot_of, units_of, with_slot, with_units_at}
use Rattle.std.specs.Prelude.{slice_get, slice_set}
use Rattle.je_heap.specs.Growing.{lengthened}
use Rattle.je_heap.specs.Turns.{Turn, before, length_noted, slot_noted, units_noted, variable_noted}

-- a world, the turn that has begun, and how many writes the last one that ended had noted
pub record Contents : Type 0 where
  pub world : World
  pub turn : Option Turn
  pub last : ℕ

abbrev pub with_objects : Contents → List Obj → Contents
with_objects contents objects = record contents { world = record contents.world { objects = objects } }

abbrev pub with_statics : Contents → List Value → Contents
with_statics contents statics = record contents { world = record contents.world { statics = statics } }

-- the contents after a write to a slot
abbrev pub with_slot_written : Contents → ObjId → ℕ → Value → Contents
with_slot_written contents id at value = record contents {
  world = record contents.world { objects = with_slot contents.world.objects id.0 at value };
  turn = option_map (slot_noted id at (slot_of contents.world.objects id.0 at)) contents.turn;
}

-- to a builder's units
abbrev pub with_units_written : Contents → ObjId → List ℕ → Contents
with_units_written contents id units = record contents {
  world = record contents.world { objects = with_units_at contents.world.objects id.0 units };
  turn = option_map (units_noted id (units_of contents.world.objects id.0)) contents.turn;
}

-- behind a builder's units
abbrev pub with_units_added : Contents → ObjId → List ℕ → Contents
with_units_added contents id more = record contents {
  world = record contents.world { objects = lengthened contents.world.objects id.0 more };
  turn = option_map (length_noted id (option_map length (units_of contents.world.objects id.0))) contents.turn;
}

-- and to a class variable
abbrev pub with_static_written : Contents → ℕ → Value → Contents
with_static_written contents at value = record contents {
  world = record contents.world { statics = slice_set contents.world.statics at value };
  turn = option_map (variable_noted at (slice_get contents.world.statics at)) contents.turn;
}

-- the world in which the turn began, where one has
abbrev pub world_before : Contents → Option World
world_before contents = option_map (before contents.world) contents.turn

abbrev pub saved_in : Contents → Option Turn → ℕ
saved_in contents None = contents.last
saved_in contents (Some turn) = length turn.journal

-- how many writes were noted since a turn began
abbrev pub saved_of : Contents → ℕ
saved_of contents = saved_in contents contents.turn
