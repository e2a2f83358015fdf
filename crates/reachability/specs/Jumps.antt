-- The reachable jumps that leave a statement: for each way whether there is one.
use Rattle.std.specs.Prelude.{Bool, false, ◌&&◌, ◌||◌, List, [], ◌∷◌, if◌then◌else◌}
use Rattle.flow_base.specs.declared.jumps.Way.{Way}
use Rattle.flow_base.specs.Ways.{same_way}

pub record Jumps : Type 0 where
  pub by : Way → Bool

unfoldable pub no_jumps : Jumps
no_jumps = record { by = λ v. false }

-- a jump, where it can be reached
unfoldable pub jump_where : Bool → Way → Jumps
jump_where reachable w = record { by = λ v. reachable && same_way w v }

unfoldable pub joined : Jumps → Jumps → Jumps
joined a b = record { by = λ v. a.by v || b.by v }

-- the jumps but for those by that way
unfoldable pub beyond : Way → Jumps → Jumps
beyond w a = record { by = λ v. if same_way w v then false else a.by v }

-- ---- of the ways of a list

abbrev pub any_by : List Way → Way → Bool
any_by [] v = false
any_by (w ∷ ws) v = same_way w v || any_by ws v

unfoldable pub jumps_of : List Way → Jumps
jumps_of ws = record { by = any_by ws }

abbrev pub others : Way → List Way → List Way
others w [] = []
others w (x ∷ xs) = if same_way x w then others w xs else x ∷ others w xs
