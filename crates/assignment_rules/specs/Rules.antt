-- JLS 16 follows two things by one text: which variables are definitely assigned, and which are definitely unassigned. What is
-- followed differs in the steps below; all else is the same for both.
use Rattle.std.specs.Prelude.{ℕ, Option, List, [], ◌∷◌}
use Rattle.je_core.specs.declared.types.ClassId.{ClassId}
use Rattle.captured_reads.specs.Standing.{Standing}
use Rattle.assignment_rules.specs.declared.rules.Rule.{Rule}
use Rattle.assignment_rules.specs.declared.rules.Rule.TheVariants.{Assigned, Unassigned}
use Rattle.variable_sets.specs.Numbers.{local_number}
use Rattle.variable_sets.specs.Sets.{Set, everything, nothing, both, adding, removing}

-- what is followed, the class whose fields are, the variables that may be assigned only once, and the classes that stand in the body
pub record Follow : Type 0 where
  pub rule : Rule
  pub home : Option ClassId
  pub finals : Set
  pub standing : List Standing

-- A variable that is assigned is assigned, and is no longer unassigned.
abbrev pub marking : Rule → ℕ → Set → Set
marking Assigned v a = adding v a
marking Unassigned v a = removing v a

-- A local that is declared is unassigned, and isn't assigned, also where no run comes and all others count as both.
abbrev pub declaring : Rule → ℕ → Set → Set
declaring Assigned v a = removing v a
declaring Unassigned v a = adding v a

abbrev pub declared : Rule → List ℕ → Set → Set
declared rule [] a = a
declared rule (local ∷ locals) a = declared rule locals (declaring rule (local_number local) a)

-- where no variable was assigned yet, and where all count as assigned
abbrev pub none_marked : Rule → Set
none_marked Assigned = nothing
none_marked Unassigned = everything

abbrev pub all_marked : Rule → Set
all_marked Assigned = everything
all_marked Unassigned = nothing

-- 16.2.10 to 16.2.12: V is unassigned where each turn of a loop begins if it is before the loop and, were it so there, after a turn.
-- V is assigned there if it is before the loop.
abbrev pub entry : Rule → Set → Set → Set
entry Assigned b turn = b
entry Unassigned b turn = both b turn

-- 16.2.15: V is unassigned before a catch or a `finally` if it is before the `try` and is assigned nowhere in what comes between.
-- V is assigned there if it is before the `try`.
abbrev pub handled : Rule → Set → Set → Set
handled Assigned b untouched = b
handled Unassigned b untouched = both b untouched
