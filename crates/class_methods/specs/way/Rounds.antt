-- What classes have, round by round: each round goes one step up.
use Rattle.std.specs.Prelude.{◌≡◌, ◌≤◌, ℕ, zero, suc, Bool, true, false, List, [], ◌∷◌, ◌++◌, length, Option, Some, None, slice_get}
use Rattle.std.specs.List.{list_all}
use Rattle.je_scopes.specs.SourceTypes.{SourceType}
use Rattle.source_types.specs.Heads.{ClassHead}
use Rattle.declarations.specs.Declarations.{DeclaredClass}
use Rattle.overriding.specs.Methods.{Method, own, has_within, inherited_by, inherited_from}
use Rattle.class_methods.specs.way.Parts.{Parts, in_table, parts_of}

-- what a function gives for the numbers below one
abbrev pub list_to : {A : Type 0} → (ℕ → A) → ℕ → List A
list_to f zero = []
list_to f (suc n) = list_to f n ++ f n ∷ []

abbrev pub next_methods : List ClassHead → List DeclaredClass → List (List Method) → ℕ → List Method
next_methods heads classes table c = own classes c ++ inherited_by heads classes (in_table table) c

-- ---- which classes have all that they will have

abbrev pub or_false : Option Bool → Bool
or_false None = false
or_false (Some b) = b

abbrev pub in_bools : List Bool → ℕ → Bool
in_bools bs c = or_false (slice_get bs c)

abbrev pub is_settled_if : List Bool → Option Parts → Bool
is_settled_if settled None = true
is_settled_if settled (Some p) = in_bools settled p.class

abbrev pub is_settled : List Bool → SourceType → Bool
is_settled settled t = is_settled_if settled (parts_of t)

abbrev pub next_settled : List ClassHead → List Bool → ℕ → Bool
next_settled heads settled c = list_all (is_settled settled) (inherited_from heads c)

-- ---- what holds after so many rounds

pub record AfterRounds (heads : List ClassHead) (classes : List DeclaredClass) (n : ℕ) (table : List (List Method)) (settled : List Bool) : Type 0 where
  pub methods : (c : ℕ) → in_table table c ≡ has_within heads classes n c
  pub lasting : (c k : ℕ) → in_bools settled c ≡ true → n ≤ k → has_within heads classes k c ≡ has_within heads classes n c

-- what the classes have in the end
pub record AfterAll (heads : List ClassHead) (classes : List DeclaredClass) (table : List (List Method)) : Type 0 where
  pub each : (c : ℕ) → in_table table c ≡ has_within heads classes (length classes) c
