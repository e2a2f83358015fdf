-- Where a class stands in a body: behind `new` (JLS 15.9.5), or in a list of statements, between two of them (14.3). A list is told by
-- the first byte of the token that it begins with, since no two tokens of a body begin at one byte.
use Rattle.std.specs.Prelude.{ℕ, Bool, false, not, ◌&&◌, Option, Some, None, is_some, nat_eq, nat_lt}
use Rattle.je_base.specs.declared.span.Span.{Span}
use Rattle.captured_reads.specs.Standing.{Standing}
use Rattle.assignment_rules.specs.declared.sites.Site.{Site}
use Rattle.assignment_rules.specs.declared.sites.Site.TheVariants.{Creation, Declaration}

abbrev pub begins_list : ℕ → Option Span → Bool
begins_list list None = false
begins_list list (Some home) = nat_eq home.start list

-- from one byte on, before another one or, where there is none, to the end
abbrev pub is_between : ℕ → Option ℕ → ℕ → Bool
is_between from None at = not (nat_lt at from)
is_between from (Some to) at = not (nat_lt at from) && nat_lt at to

-- A local class isn't declared where it is made.
abbrev pub stands_at : Site → Standing → Bool
stands_at (Creation class) s = not (is_some s.home) && nat_eq s.class.0 class.0
stands_at (Declaration list from to) s = begins_list list s.home && is_between from to s.span.start
