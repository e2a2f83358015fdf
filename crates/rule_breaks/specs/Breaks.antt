-- The rules of Joe-E that a program breaks, as a set of breaks, and the list of a set. The rules are those of the Joe-E
-- language (Mettler, Wagner, Close, 'Joe-E: A Security-Oriented Subset of Java', NDSS 2010), numbered here.
use Rattle.std.specs.Prelude.{◌≡◌, ◌↔◌, ◌⊎◌, ℕ, Bool, List, [], ◌∷◌, if◌then◌else◌}
use Rattle.std.specs.List.{Contains}
use Rattle.std.specs.List.Sorted.{IsStrictlySortedBy}
use Rattle.std.specs.declared.cmp.Ordering.{Ordering}
use Rattle.std.specs.Ordering.{nat_cmp, on, then_cmp}
use Rattle.je_base.specs.declared.span.Span.{Span}
use Rattle.rule_breaks.specs.declared.rules.ConfinementRule.{ConfinementRule}
use Rattle.rule_breaks.specs.declared.rules.ConfinementRule.TheVariants as rule
use Rattle.rule_breaks.specs.declared.breaks.Break.{Break}

abbrev pub number_of : ConfinementRule → ℕ
number_of rule.StaticField = 1
number_of rule.ImmutableField = 2
number_of rule.PowerlessField = 3
number_of rule.SelflessClass = 4
number_of rule.SelflessEquatable = 5
number_of rule.ThisEscapes = 6
number_of rule.CapturedLocal = 7
number_of rule.EnclosingObject = 8
number_of rule.IdentityComparison = 9
number_of rule.ObjectText = 10
number_of rule.NativeMethod = 11
number_of rule.Finalizer = 12
number_of rule.CatchError = 13
number_of rule.Finally = 14
number_of rule.NotEnabled = 15
number_of rule.NotExtensible = 16

infixr 20 ◌∪◌
-- a set of breaks, as it is put together
pub data Breaks : Type 0 where
  none : Breaks
  one : Break → Breaks
  ◌∪◌ : Breaks → Breaks → Breaks

abbrev pub break_at : ConfinementRule → Span → Breaks
break_at rule at = one (record { rule = rule; span = at })

-- one break, where the test holds
abbrev pub break_where : Bool → ConfinementRule → Span → Breaks
break_where test rule at = if test then break_at rule at else none

-- the breaks of each of some parts
abbrev pub of_each : {A : Type 0} → (A → Breaks) → List A → Breaks
of_each f [] = none
of_each f (x ∷ xs) = f x ∪ of_each f xs

abbrev pub IsAmong : Break → Breaks → Type 0
IsAmong b none = ⊥
IsAmong b (one c) = b ≡ c
IsAmong b (s ∪ t) = IsAmong b s ⊎ IsAmong b t

-- by file, first byte, byte behind the last, number of the rule
abbrev pub break_order : Break → Break → Ordering
break_order = then_cmp (then_cmp (then_cmp (on (λ b. b.span.file) nat_cmp) (on (λ b. b.span.start) nat_cmp)) (on (λ b. b.span.end) nat_cmp)) (on (λ b. number_of b.rule) nat_cmp)

-- The list is in order, so that no break stands in it twice, and has just the members of the set.
pub record IsListOf (breaks : Breaks) (list : List Break) : Type 0 where
  pub in_order : IsStrictlySortedBy break_order list
  pub members : (b : Break) → Contains list b ↔ IsAmong b breaks

abbrev pub ListIsOne : Type 0
ListIsOne = (breaks : Breaks) (list other : List Break) → IsListOf breaks list → IsListOf breaks other → list ≡ other
