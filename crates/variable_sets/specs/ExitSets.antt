-- For each way out of a statement whether an exit by it is there, and the variables that are in the set before every one.
use Rattle.std.specs.Prelude.{Bool, true, false, ◌||◌, if◌then◌else◌}
use Rattle.flow_base.specs.declared.jumps.Way.{Way}
use Rattle.flow_base.specs.Ways.{same_way}
use Rattle.variable_sets.specs.Sets.{Set, everything, both, either, pick}

pub record Exits : Type 0 where
  pub by : Way → Set
  pub is_there : Way → Bool

unfoldable pub no_exits : Exits
no_exits = record { by = λ w. everything; is_there = λ w. false }

unfoldable pub exit_by : Way → Set → Exits
exit_by w b = record { by = λ v. if same_way w v then b else everything; is_there = λ v. if same_way w v then true else false }

-- the exits of both
unfoldable pub met : Exits → Exits → Exits
met a b = record { by = λ v. both (a.by v) (b.by v); is_there = λ v. a.is_there v || b.is_there v }

-- the exits but for those by that way
unfoldable pub beyond : Way → Exits → Exits
beyond w a = record { by = λ v. if same_way w v then everything else a.by v; is_there = λ v. if same_way w v then false else a.is_there v }

-- each exit, once more is in the set before it
unfoldable pub gaining : Set → Exits → Exits
gaining g a = record { by = λ v. either (a.by v) g; is_there = a.is_there }

-- each exit, and in the set before it only what is in this one too
unfoldable pub limited : Set → Exits → Exits
limited g a = record { by = λ v. if a.is_there v then both (a.by v) g else a.by v; is_there = a.is_there }

-- the exits of both; before each, of the variables in x those of a, and of all others those of b
unfoldable pub picked : Set → Exits → Exits → Exits
picked x a b = record { by = λ v. pick x (a.by v) (b.by v); is_there = λ v. a.is_there v || b.is_there v }
