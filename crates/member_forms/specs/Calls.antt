-- Calls between constructors, and the table of them.
use Rattle.std.specs.Prelude.{ℕ, zero, suc, Bool, false, ◌||◌, List, Option, Some, None, if◌then◌else◌, nat_eq, slice_get}
use Rattle.class_typing.specs.Constructors.{OwnCall}
use Rattle.member_forms.specs.declared.cycles.OwnCall.{OwnCall as Call}

abbrev pub own_call_seen : Call → OwnCall
own_call_seen c = record { place = c.place; word = c.word; to = c.to }

-- ---- a table

abbrev pub or_none : Option (Option ℕ) → Option ℕ
or_none None = None
or_none (Some to) = to

-- the constructor that another one calls, by their places
abbrev pub called_in : List (Option ℕ) → ℕ → Option ℕ
called_in table n = or_none (slice_get table n)

-- what a constructor calls, if it calls nothing yet
abbrev pub or_called : Option ℕ → Bool → ℕ → Option ℕ
or_called (Some other) is_here to = Some other
or_called None is_here to = if is_here then Some to else None

abbrev pub to_of : Option OwnCall → Option ℕ
to_of None = None
to_of (Some c) = Some c.to

-- ---- whether calls lead from one to another, so many at most, by what each calls

abbrev pub leads_on_by : (ℕ → Bool) → Option ℕ → Bool
leads_on_by further None = false
leads_on_by further (Some to) = further to

abbrev pub leads_by : (ℕ → Option ℕ) → ℕ → ℕ → ℕ → Bool
leads_by called zero to from = false
leads_by called (suc n) to from = leads_on_by (λ at. nat_eq at to || leads_by called n to at) (called from)

abbrev pub leads_back_by : (ℕ → Option ℕ) → ℕ → OwnCall → Bool
leads_back_by called n c = leads_by called n c.place c.place
