-- No variable looks at another. So what a statement leaves from a set is, variable by variable, what it leaves from everything
-- or from nothing.
use Rattle.variable_sets.specs.Sets.{Set, pick}
use Rattle.variable_sets.specs.ExitSets.{picked}
use Rattle.assignment_rules.specs.Ends.{Ends, ends}

-- of the variables in x what a leaves, and of all others what b leaves
abbrev pub pick_ends : Set → Ends → Ends → Ends
pick_ends x a b = ends (pick x a.after b.after) (picked x a.exits b.exits)
