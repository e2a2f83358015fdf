-- What holds of these definitions.
use Rattle.std.specs.Prelude.{◌≡◌, ◌↔◌, ℕ, ◌+◌, ◌<◌, ◌≤◌, true, false, List, length, Some, None}
use Rattle.std.specs.List.{Contains}
use Rattle.je_table.specs.Library.{classes}
use Rattle.je_ast.specs.Trees.{CompilationUnit}
use Rattle.je_scopes.specs.Source.{Source, source}
use Rattle.je_scopes.specs.Scope.{Known}
use Rattle.je_scopes.specs.Settled.{heads_of, supers_in, settled, settled_within, dependences, Depends, depends}
use Rattle.je_scopes.specs.Faults.{Fault, faults, first_fault, stands_before}

-- ---- the first fault

-- a fault of the program before which no other stands
pub record IsFirst (p : Source) (f : Fault) : Type 0 where
  pub there : Contains (faults p) f
  pub first : (g : Fault) → Contains (faults p) g → stands_before g f ≡ false

abbrev pub FirstIsFound : Type 0
FirstIsFound = (p : Source) (f : Fault) → (first_fault p ≡ Some f) ↔ IsFirst p f

abbrev pub NoneIsFaultFree : Type 0
NoneIsFaultFree = (p : Source) → first_fault p ≡ None → (f : Fault) → ¬ Contains (faults p) f

-- ---- dependence

abbrev pub DependsIsDecided : Type 0
DependsIsDecided = (p : Source) (c d : ℕ) → (depends p c d ≡ true) ↔ Depends p c d

-- The library's classes stand among the classes.
abbrev pub HasLibrary : Source → Type 0
HasLibrary p = length classes ≤ length p.sites

abbrev pub SourcesHaveLibrary : Type 0
SourcesHaveLibrary = (texts : List (List ℕ)) (units : List CompilationUnit) → HasLibrary (source texts units)

-- No class depends on itself: each has a depth less than the number of classes, and each that it directly depends on has a
-- smaller one.
pub record IsAcyclic (p : Source) : Type 0 where
  pub depth : ℕ → ℕ
  pub falls : (c d : ℕ) → Contains (dependences p c) d → depth d < depth c
  pub within : (c : ℕ) → c < length p.sites → depth c < length p.sites

abbrev pub FaultFreeIsAcyclic : Type 0
FaultFreeIsAcyclic = (p : Source) → HasLibrary p → first_fault p ≡ None → IsAcyclic p

-- ---- headers

-- what the one knows, the other knows
abbrev pub Extends : Known → Known → Type 0
Extends known more = (c : ℕ) (ds : List ℕ) → known c ≡ Some ds → more c ≡ Some ds

-- what a class's header names, as far as headers are known
abbrev pub header_of : Source → Known → Known
header_of p known c = supers_in p known c (heads_of p c)

abbrev pub SettledStays : Type 0
SettledStays = (p : Source) (m n : ℕ) → Extends (settled_within p n) (settled_within p (m + n))

-- a settled header names what it names when all that is settled is known
abbrev pub SettledHolds : Type 0
SettledHolds = (p : Source) → Extends (settled p) (header_of p (settled p))

-- Another round settles nothing more.
abbrev pub RoundsSuffice : Type 0
RoundsSuffice = (p : Source) → Extends (header_of p (settled p)) (settled p)

-- What a header names, when no more is known than what is settled, is settled.
abbrev pub ReadingSettles : Type 0
ReadingSettles = (p : Source) (known : Known) → Extends known (settled p) → Extends (header_of p known) (settled p)

-- Headers that are read in any order, until each that isn't known waits: these are the settled ones.
abbrev pub AnyOrderDecides : Type 0
AnyOrderDecides = (p : Source) (known : Known) → Extends known (settled p) → ((c : ℕ) → known c ≡ None → header_of p known c ≡ None) → (c : ℕ) → settled p c ≡ known c
