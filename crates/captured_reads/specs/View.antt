-- What contracts see of a walk, of what it comes to, and of a class that stands in a body.
use Rattle.std.specs.Prelude.{map}
use Rattle.captured_reads.specs.declared.reads.Standing.{Standing as HeldStanding}
use Rattle.captured_reads.specs.declared.walks.Met.{Met as HeldMet}
use Rattle.captured_reads.specs.declared.walks.Met.TheVariants as held
use Rattle.captured_reads.specs.declared.walks.Placed.{Placed as HeldPlaced}
use Rattle.captured_reads.specs.declared.walks.Walk.{Walk as HeldWalk}
use Rattle.captured_reads.specs.Standing.{Standing}
use Rattle.captured_reads.specs.Walks.{Met, Placed, Walk, a_field, a_class}

abbrev pub placed_view : HeldPlaced → Placed
placed_view p = record { class = p.class; span = p.span; home = p.home; names = p.names.items }

abbrev pub met_view : HeldMet → Met
met_view (held.Field class field span) = a_field class field span
met_view (held.Class placed) = a_class (placed_view placed)

abbrev pub walk_view : HeldWalk → Walk
walk_view w = record { met = map met_view w.met.items; ahead = w.ahead.now; scope = w.scope.items }

abbrev pub standing_view : HeldStanding → Standing
standing_view s = record { class = s.class; span = s.span; home = s.home; reads = s.reads.items }
