use Rattle.std.proofs.Common.{◌≡◌, ◌++◌, drop, map, string_bytes, option_map}
use Rattle.toml.specs.View.{items_view}
use Rattle.taming_db.specs.Shape.{texts_of}
use Rattle.taming_db.proofs.shape.texts_of.Given as goal

-- the texts so far, and those of the rest
abbrev pub invariant-loop-value : goal.invariant-loop-value
invariant-loop-value l = option_map (λ ss. map string_bytes l.texts.items ++ ss) (texts_of (items_view (drop l.value-index l.values))) ≡ texts_of (items_view l.values)
