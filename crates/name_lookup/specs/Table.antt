-- When headers are those of a program.
use Rattle.std.specs.Prelude.{◌≡◌, ℕ, ◌<◌, List, length, Some, None}
use Rattle.std.specs.List.{Contains}
use Rattle.je_scopes.specs.Source.{Source}
use Rattle.je_scopes.specs.Scope.{Known}
use Rattle.je_scopes.specs.Settled.{settled}
use Rattle.je_scopes.specs.Laws.{Extends, header_of}
use Rattle.name_lookup.specs.declared.headers.Headers.{Headers}
use Rattle.name_lookup.specs.View.{known_of}

-- They say something of each class of the program, and name no others.
pub record AreHeadersOf (p : Source) (h : Headers) : Type 0 where
  pub whole : length h.supers.items ≡ length p.sites
  pub within : (c d : ℕ) (ds : List ℕ) → known_of h c ≡ Some ds → Contains ds d → d < length p.sites

-- and what is known is settled
pub record AreSettling (p : Source) (h : Headers) : Type 0 where
  pub fit : AreHeadersOf p h
  pub settled_so : Extends (known_of h) (settled p)

-- each of the first classes whose header isn't known waits
abbrev pub AllWait : Source → Known → ℕ → Type 0
AllWait p known n = (c : ℕ) → c < n → known c ≡ None → header_of p known c ≡ None
