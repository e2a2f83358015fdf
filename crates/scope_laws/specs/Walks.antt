-- A look-up of the member classes that are inherited, as a walk over the classes that it comes by (JLS 8.5).
use Rattle.std.specs.Prelude.{◌≡◌, Bool, true, ℕ, zero, suc, ◌<◌, ◌≤◌, List, [], length, Option, Some, None, slice_index_or}
use Rattle.std.specs.List.{Contains}
use Rattle.je_base.specs.declared.span.NameId.{NameId}
use Rattle.je_scopes.specs.Looks.{Look, waits, nothing, joined_over}
use Rattle.je_scopes.specs.Source.{Source}
use Rattle.je_scopes.specs.Scope.{Known, declared, inheritable, member_class}

abbrev pub above_one : Look → Option (List ℕ) → List ℕ
above_one nothing (Some ds) = ds
above_one look known = []

-- the classes above one that declares no member class under a name, as far as its header is known
abbrev pub leads_to : Source → Known → NameId → ℕ → List ℕ
leads_to p known x c = above_one (declared p (Some c) x) (known c)

abbrev pub of_one : Source → Look → Option (List ℕ) → Look
of_one p nothing None = waits
of_one p nothing (Some ds) = nothing
of_one p look known = inheritable p look

-- What a class itself brings under a name: the member class that it declares, if that is inherited. Where it declares none
-- and its header isn't known, the look-up waits.
abbrev pub brings : Source → Known → NameId → ℕ → Look
brings p known x c = of_one p (declared p (Some c) x) (known c)

-- a class is met in so many steps from these
pub data IsMetIn (p : Source) (known : Known) (x : NameId) (starts : List ℕ) : ℕ → ℕ → Type 0 where
  at_start : {c : ℕ} → Contains starts c → IsMetIn p known x starts zero c
  one_up : {n c d : ℕ} → IsMetIn p known x starts n c → Contains (leads_to p known x c) d → IsMetIn p known x starts (suc n) d

-- in at most so many steps
pub record IsMetWithin (p : Source) (known : Known) (x : NameId) (starts : List ℕ) (n c : ℕ) : Type 0 where
  pub steps : ℕ
  pub few : steps ≤ n
  pub met : IsMetIn p known x starts steps c

-- The classes that a walk comes by, each once: those that it begins with, and those above each that leads further. The class
-- at place n was met in at most n steps.
pub record IsWalk (p : Source) (known : Known) (x : NameId) (starts met : List ℕ) : Type 0 where
  pub begins : (c : ℕ) → Contains starts c → Contains met c
  pub goes_on : (c d : ℕ) → Contains met c → Contains (leads_to p known x c) d → Contains met d
  pub in_turn : (i : ℕ) → i < length met → IsMetWithin p known x starts i (slice_index_or met i 0)
  pub few : length met ≤ length p.sites

-- what classes have to be inherited under a name: the union over them
abbrev pub inherited_from : Source → Known → NameId → List ℕ → Look
inherited_from p known x ds = joined_over (λ d. inheritable p (member_class p known x d)) ds

-- a class whose header is known, with all of those above it among some classes
pub record Above (known : Known) (clear : ℕ → Bool) (c : ℕ) : Type 0 where
  pub supers : List ℕ
  pub known_so : known c ≡ Some supers
  pub above : (d : ℕ) → Contains supers d → clear d ≡ true

-- classes above which all headers are known: those directly above each are among them
abbrev pub AreKnown : Known → (ℕ → Bool) → Type 0
AreKnown known clear = (c : ℕ) → clear c ≡ true → Above known clear c
