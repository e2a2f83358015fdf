-- Counts by names in classes.
use Rattle.std.specs.Prelude.{ℕ, Bool, ◌&&◌, Option, Some, None, nat_eq, unwrap_or}
use Rattle.std.specs.Option.{option_eq}
use Rattle.std.specs.HashMap.{get}
use Rattle.je_base.specs.declared.span.NameId.{NameId}
use Rattle.je_scopes.specs.Sites.{Site}
use Rattle.je_scopes.specs.Headers.{is_local_sort, within, name_in}
use Rattle.je_scopes.specs.Scope.{same_place}
use Rattle.je_scopes.specs.BinaryNames.{same_names}
use Rattle.binary_names.specs.declared.counts.Counts.{Counts}

abbrev pub name_number : Option NameId → Option ℕ
name_number None = None
name_number (Some x) = Some x.0

abbrev pub same_key : Option ℕ × Option ℕ → Option ℕ × Option ℕ → Bool
same_key a b = option_eq nat_eq a.0 b.0 && option_eq nat_eq a.1 b.1

-- how many of a name were counted in a class
unfoldable pub counted : Counts → Option ℕ → Option NameId → ℕ
counted m place name = unwrap_or (get same_key m.values (place, name_number name)) 0

-- a local or anonymous class of a name directly in a class
abbrev pub is_there : Option ℕ → Option NameId → Site → Bool
is_there place name t = is_local_sort t.sort && same_place place (within t) && same_names name (name_in t.written)
