-- A map from names in places: a place is a number, or none, as the class round a class.
use Rattle.std.specs.Prelude.{ℕ, Bool, ◌&&◌, Option, Some, None, nat_eq, if◌then◌else◌}
use Rattle.std.specs.Option.{option_eq}
use Rattle.std.specs.HashMap.{get}
use Rattle.je_base.specs.declared.span.NameId.{NameId}
use Rattle.je_scopes.specs.Headers.{same_name}
use Rattle.je_scopes.specs.Scope.{same_place}
use Rattle.name_sites.specs.declared.by_name.ByName.{ByName}

abbrev pub same_key : Option ℕ × ℕ → Option ℕ × ℕ → Bool
same_key a b = option_eq nat_eq a.0 b.0 && nat_eq a.1 b.1

-- what stands under a name in a place
unfoldable pub kept : ByName → Option ℕ → NameId → Option ℕ
kept m place x = get same_key m.values (place, x.0)

-- the first that there is
abbrev pub or_else : Option ℕ → Option ℕ → Option ℕ
or_else None b = b
or_else (Some n) b = Some n

-- the value, where this is its place and name
abbrev pub at_key : Option ℕ → NameId → ℕ → Option ℕ → NameId → Option ℕ
at_key place x value p y = if same_place place p && same_name x y then Some value else None
