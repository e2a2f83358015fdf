-- The faults of flow as sets, and the first of a set in reading order.
use Rattle.std.specs.Prelude.{◌≡◌, ℕ, Bool, false, ◌&&◌, ◌||◌, ◌⊎◌, List, [], ◌∷◌, Option, Some, None, nat_eq, nat_lt, if◌then◌else◌}
use Rattle.je_base.specs.declared.span.Span.{Span}
use Rattle.flow_base.specs.declared.faults.FaultKind.{FaultKind}
use Rattle.flow_base.specs.declared.faults.FaultKind.TheVariants as kind
use Rattle.flow_base.specs.declared.faults.FlowFault.{FlowFault}

infixr 20 ◌∪◌
-- a set of faults, as it is put together
pub data Faults : Type 0 where
  none : Faults
  one : FlowFault → Faults
  ◌∪◌ : Faults → Faults → Faults

abbrev pub fault : FaultKind → Span → Faults
fault kind at = one (record { kind = kind; span = at })

-- one fault, where the test holds
abbrev pub fault_where : Bool → FaultKind → Span → Faults
fault_where test kind at = if test then fault kind at else none

-- the faults of each of some parts
abbrev pub of_each : {A : Type 0} → (A → Faults) → List A → Faults
of_each f [] = none
of_each f (x ∷ xs) = f x ∪ of_each f xs

abbrev pub IsAmong : FlowFault → Faults → Type 0
IsAmong f none = ⊥
IsAmong f (one g) = f ≡ g
IsAmong f (a ∪ b) = IsAmong f a ⊎ IsAmong f b

abbrev pub number_of : FaultKind → ℕ
number_of kind.NotAssigned = 1
number_of kind.AssignedTwice = 2
number_of kind.Unreachable = 3
number_of kind.MissingReturn = 4
number_of kind.Unreported = 5

-- by file, first byte, number, last byte
abbrev pub stands_before : FlowFault → FlowFault → Bool
stands_before f g = before_then f.span.file g.span.file (before_then f.span.start g.span.start (before_then (number_of f.kind) (number_of g.kind) (nat_lt f.span.end g.span.end))) where
  before_then : ℕ → ℕ → Bool → Bool
  before_then m n further = nat_lt m n || (nat_eq m n && further)

-- It is a fault of the set, and none of the set stands before it.
pub record IsFirst (faults : Faults) (f : FlowFault) : Type 0 where
  pub among : IsAmong f faults
  pub first : (g : FlowFault) → IsAmong g faults → stands_before g f ≡ false

-- the first fault of a set, where it has one
abbrev pub IsFirstOf : Faults → Option FlowFault → Type 0
IsFirstOf faults None = (f : FlowFault) → ¬ IsAmong f faults
IsFirstOf faults (Some f) = IsFirst faults f
