-- What holds of look-ups, and is cited by the code that makes them.
use Rattle.std.specs.Prelude.{◌≡◌, ◌↔◌, ℕ, ◌<◌, true, Bool, List, length, Some, slice_index}
use Rattle.std.specs.List.{Contains}
use Rattle.je_base.specs.declared.span.NameId.{NameId}
use Rattle.je_scopes.specs.Looks.{nothing, joined_over}
use Rattle.je_scopes.specs.Source.{Source}
use Rattle.je_scopes.specs.Scope.{Known, declared, member_class, inherited}
use Rattle.je_scopes.specs.Laws.{HasLibrary, header_of}
use Rattle.je_scopes.specs.Settled.{dependences, depends}
use Rattle.scope_laws.specs.Walks.{brings, IsWalk, inherited_from, AreKnown}
use Rattle.scope_laws.specs.Ways.{Leads, IsGrounding}

-- What is inherited from classes is the union of what the classes of a walk from them bring.
abbrev pub WalkIsMember : Type 0
WalkIsMember = (p : Source) (known : Known) (x : NameId) (starts met : List ℕ) → IsWalk p known x starts met →
    joined_over (brings p known x) met ≡ inherited_from p known x starts

-- Where no class declares a member class under a name, one above which all headers are known neither has nor inherits one.
abbrev pub NothingIsFound : Type 0
NothingIsFound = (p : Source) (known : Known) (x : NameId) (clear : ℕ → Bool) → AreKnown known clear → ((c : ℕ) → declared p (Some c) x ≡ nothing) →
    (c : ℕ) → clear c ≡ true → (member_class p known x c ≡ nothing) × (inherited p known x c ≡ nothing)

-- ---- cycles

-- A class that has a rank doesn't lead back to itself.
abbrev pub RankedIsFree : Type 0
RankedIsFree = (edges : ℕ → List ℕ) (ranks : List ℕ) → IsGrounding edges ranks → (c : ℕ) → 0 < slice_index ranks c → ¬ Leads edges c c

-- A class depends on another one exactly where a way by direct dependences leads there.
abbrev pub DependsByWays : Type 0
DependsByWays = (p : Source) (edges : ℕ → List ℕ) → ((c : ℕ) → edges c ≡ dependences p c) → (c d : ℕ) → (depends p c d ≡ true) ↔ Leads edges c d

-- ---- headers

-- A header names classes of the program.
abbrev pub HeadersAreWithin : Type 0
HeadersAreWithin = (p : Source) → HasLibrary p → (known : Known) (c : ℕ) (ds : List ℕ) → header_of p known c ≡ Some ds → (d : ℕ) → Contains ds d → d < length p.sites
