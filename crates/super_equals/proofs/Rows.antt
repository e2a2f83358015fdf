-- Worked rows: each beside its nearest neighbour.
use Rattle.std.proofs.Common.{◌≡◌, ℕ, refl}
use Rattle.je_base.specs.declared.span.Span.{Span}
use Rattle.je_core.specs.declared.expr.UnOp.TheVariants.{Not}
use Rattle.je_core.specs.declared.types.Base.TheVariants as base
use Rattle.je_core.specs.declared.types.ClassId.{ClassId}
use Rattle.je_core.specs.Core.{Core, CoreForm, node, none as no_cores, more, a_core}
use Rattle.je_core.specs.Core as core
use Rattle.je_classes.specs.Hierarchy.{object_class, library_class}
use Rattle.rule_breaks.specs.declared.rules.ConfinementRule.TheVariants as rule
use Rattle.rule_breaks.specs.Breaks.{none, ◌∪◌, break_at}
use Rattle.super_equals.specs.Calls.{equals_place}
use Rattle.super_equals.specs.Expressions.{calls_in}

equals_is_first : equals_place ≡ 0
unfolding equals_place
equals_is_first = refl

whole : Span
whole = record { file = 0; start = 30; end = 45 }

name : Span
name = record { file = 0; start = 36; end = 42 }

of_form : CoreForm → Core
of_form form = node form (record { base = base.Bool; dims = 0 }) whole name

other_class : ClassId
other_class = record { 0 = 39 }

-- `super.equals(x)` below Object, below another class, `super.hashCode(..)`, and `equals(..)` called exactly on a local
exact : CoreForm → ClassId → ℕ → Core
exact receiver class method = of_form (core.CallExact (a_core (of_form receiver)) class method (more (of_form (core.Local 0)) no_cores))

calls : (calls_in (exact core.This object_class 0) ≡ (break_at rule.SelflessClass name ∪ none ∪ none ∪ none)) × (calls_in (exact core.This other_class 0) ≡ (none ∪ none ∪ none ∪ none))
    × (calls_in (exact core.This object_class 1) ≡ (none ∪ none ∪ none ∪ none)) × (calls_in (exact (core.Local 0) object_class 0) ≡ (none ∪ none ∪ none ∪ none))
unfolding exact of_form other_class whole name object_class library_class equals_place
calls = (refl, refl, refl, refl)

-- the same call as an operand, and `this.equals(x)`
operand : (calls_in (of_form (core.Unary Not (exact core.This object_class 0))) ≡ (break_at rule.SelflessClass name ∪ none ∪ none ∪ none))
    × (calls_in (of_form (core.CallVirtual (of_form core.This) object_class 0 no_cores)) ≡ (none ∪ none))
unfolding exact of_form other_class whole name object_class library_class equals_place
operand = (refl, refl)
