-- Classes by their numbers.
use Rattle.std.specs.Prelude.{ℕ, suc, Option, Some, None, option_map}
use Rattle.je_core.specs.declared.types.ClassId.{ClassId}

-- a class's number
abbrev pub number_of : ClassId → ℕ
number_of c = c.0

abbrev pub number_in : Option ClassId → Option ℕ
number_in c = option_map number_of c

-- how many classes there are up to and including it
abbrev pub count_to : Option ClassId → ℕ
count_to None = 0
count_to (Some c) = suc c.0
