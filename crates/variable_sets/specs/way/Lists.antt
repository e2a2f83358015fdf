-- The exits that a list holds.
use Rattle.std.specs.Prelude.{◌≡◌, Bool, true, false, List, [], ◌∷◌, if◌then◌else◌}
use Rattle.flow_base.specs.declared.jumps.Way.{Way}
use Rattle.flow_base.specs.Ways.{same_way}
use Rattle.variable_sets.specs.declared.exits.Exit.{Exit}
use Rattle.variable_sets.specs.Sets.{Set, everything, both, either}
use Rattle.variable_sets.specs.ExitSets.{Exits, met, exit_by}
use Rattle.variable_sets.specs.SetView.{set_view}

-- exit for exit the same way, and before it what the function makes of what was before it
abbrev pub Each : (Set → Set) → List Exit → List Exit → Type 0
Each f [] [] = Unit {0}
Each f [] (y ∷ ys) = ⊥
Each f (x ∷ xs) [] = ⊥
Each f (x ∷ xs) (y ∷ ys) = (y.way ≡ x.way) × (set_view y.before ≡ f (set_view x.before)) × Each f xs ys

-- the set, and what is before each exit by that way
abbrev pub look : Set → List Exit → Way → Set
look a [] w = a
look a (x ∷ xs) w = look (if same_way x.way w then both a (set_view x.before) else a) xs w

abbrev pub others : Way → List Exit → List Exit
others w [] = []
others w (x ∷ xs) = if same_way x.way w then others w xs else x ∷ others w xs

-- whether there is an exit by that way
abbrev pub there : List Exit → Way → Bool
there [] w = false
there (x ∷ xs) w = if same_way x.way w then true else there xs w

unfoldable pub exits_of : List Exit → Exits
exits_of xs = record { by = λ v. look everything xs v; is_there = λ v. there xs v }

-- these exits, each once more is in the set before it, beside others
abbrev pub putting : Set → List Exit → Exits → Exits
putting g [] e = e
putting g (x ∷ xs) e = putting g xs (met e (exit_by x.way (either (set_view x.before) g)))
