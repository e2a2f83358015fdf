-- What a walk over statements holds, as contracts see it.
use Rattle.reachability.specs.declared.jumps.Jumps.{Jumps as HeldJumps}
use Rattle.reachability.specs.declared.statements.Ends.{Ends as HeldEnds}
use Rattle.reachability.specs.Jumps.{Jumps, jumps_of}
use Rattle.reachability.specs.Reachable.{Ends, ends}

unfoldable pub jumps_view : HeldJumps → Jumps
jumps_view j = jumps_of j.ways.items

abbrev pub ends_view : HeldEnds → Ends
ends_view e = ends e.completes (jumps_view e.jumps)
