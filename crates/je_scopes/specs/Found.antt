-- The member classes of a class, as a set, and what a look-up is to find of it (JLS 8.5, 9.5).
use Rattle.std.specs.Prelude.{◌≡◌, ℕ, ◌<◌, false, List, length, Option, Some, None}
use Rattle.std.specs.List.{Contains}
use Rattle.je_base.specs.declared.span.NameId.{NameId}
use Rattle.je_scopes.specs.Headers.{site_at, is_private}
use Rattle.je_scopes.specs.Looks.{Look, nothing, a_class, unclear}
use Rattle.je_scopes.specs.Source.{Source}
use Rattle.je_scopes.specs.Scope.{Known, declared, member_class}
use Rattle.je_scopes.specs.Settled.{settled}
use Rattle.je_scopes.specs.Faults.{first_fault}
use Rattle.je_scopes.specs.Laws.{HasLibrary}

-- A class has the member class that it declares under a name. Where it declares none, it has what its supers have and isn't
-- private.
pub data HasMember (p : Source) (known : Known) (x : NameId) : ℕ → ℕ → Type 0 where
  own : {c m : ℕ} → declared p (Some c) x ≡ a_class m → HasMember p known x c m
  from_above : {c d m : ℕ} {ds : List ℕ} → declared p (Some c) x ≡ nothing → known c ≡ Some ds → Contains ds d → HasMember p known x d m →
      is_private (site_at p.sites m) ≡ false → HasMember p known x c m

-- what a set of classes is found to be, by its size
pub data IsFound (P : ℕ → Type 0) : Look → Type 0 where
  none_there : ((m : ℕ) → ¬ P m) → IsFound P nothing
  one_there : {m : ℕ} → P m → ((n : ℕ) → P n → n ≡ m) → IsFound P (a_class m)
  several_there : {m n : ℕ} → P m → P n → ¬ m ≡ n → IsFound P unclear

-- Where no name has a fault, each look-up of a member class finds the set of them.
abbrev pub MembersAreFound : Type 0
MembersAreFound = (p : Source) (c : ℕ) (x : NameId) → HasLibrary p → first_fault p ≡ None → c < length p.sites →
    IsFound (HasMember p (settled p) x c) (member_class p (settled p) x c)
