use Rattle.std.proofs.Common.{◌≡◌, map, take}
use Rattle.body_places.specs.Places.{frame_seen}
use Rattle.body_walks.proofs.keeping.copied_frames.Given as goal

abbrev pub invariant-loop-frame : goal.invariant-loop-frame
invariant-loop-frame l = map frame_seen l.copies.items ≡ map frame_seen (take l.frame-index l.frames)
