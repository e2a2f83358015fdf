use Rattle.std.proofs.Common.{◌≡◌, ◌++◌, drop, map, string_bytes, option_map}
use Rattle.taming_db.specs.Shape.{markers_of}
use Rattle.taming_db.proofs.shape.markers_of.Given as goal

-- the markers so far, and those of the rest
abbrev pub invariant-loop-text : goal.invariant-loop-text
invariant-loop-text l = option_map (λ ms. l.markers.items ++ ms) (markers_of (map string_bytes (drop l.text-index l.texts))) ≡ markers_of (map string_bytes l.texts)
