-- Which calls are to fail, where that is told: the numbers, from 1, of those that do, and how many calls were made, a
-- number of 64 bits that stays at its greatest value once it is there.
use Rattle.std.specs.Prelude.{ℕ, ◌+◌, ◌-◌, ◌^◌, min, List, Contains, IfSome, option_map}
use Rattle.std.specs.declared.option.Option.{Option}

pub record Plan : Type 0 where
  pub to_fail : List ℕ
  pub made : ℕ

abbrev pub next_call : Plan → ℕ
next_call plan = min (plan.made + 1) (2 ^ 64 - 1)

abbrev pub after_call : Plan → Plan
after_call plan = record { to_fail = plan.to_fail; made = next_call plan }

-- what is told of the plan, after a call
abbrev pub after_one : Option Plan → Option Plan
after_one = option_map after_call

-- the next call is to fail
abbrev pub FailsNext : Plan → Type 0
FailsNext plan = Contains plan.to_fail (next_call plan)

-- the next call is to fail, by what is told of the plan
abbrev pub IsPlanned : Option Plan → Type 0
IsPlanned plan = IfSome plan FailsNext
