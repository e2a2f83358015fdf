-- The rule that references are compared only where that is granted (JLS 15.21.3): at an operator `==` or `!=` between references of
-- which neither is the literal null (JLS 3.10.7) and neither has a type that has Equatable.
use Rattle.std.specs.Prelude.{Bool, true, false, not, ◌&&◌, ◌||◌, List}
use Rattle.je_base.specs.declared.span.Span.{Span}
use Rattle.je_core.specs.declared.expr.BinOp.{BinOp}
use Rattle.je_core.specs.declared.expr.BinOp.TheVariants as op
use Rattle.je_core.specs.declared.types.Ty.{Ty}
use Rattle.je_core.specs.declared.value.Value.TheVariants as value
use Rattle.je_core.specs.Core.{Core, CoreForm, CoreProgram, form_of, ty_of}
use Rattle.je_core.specs.Core as core
use Rattle.je_classes.specs.Subtypes.{is_reference}
use Rattle.taming_db.specs.declared.marker.Marker.TheVariants.{Equatable}
use Rattle.taming_db.specs.Rows.{Row}
use Rattle.overlay_types.specs.Overlay.{has}
use Rattle.rule_breaks.specs.declared.rules.ConfinementRule.TheVariants as rule
use Rattle.rule_breaks.specs.Breaks.{Breaks, none, break_where}

abbrev pub is_equality : BinOp → Bool
is_equality op.Eq = true
is_equality op.Ne = true
is_equality _ = false

abbrev pub is_null_form : CoreForm → Bool
is_null_form (core.Const value.Null uses) = true
is_null_form _ = false

-- the literal null; a `?:` whose operands are null is none
abbrev pub is_null : Core → Bool
is_null e = is_null_form (form_of e)

module _ (p : CoreProgram) (rows : List Row) where
  abbrev pub is_equatable : Ty → Bool
  is_equatable t = has p rows Equatable t

  -- the operands show that they are one object, and no type grants it
  abbrev pub tells_identity : Core → Core → Bool
  tells_identity l r = is_reference (ty_of l) && is_reference (ty_of r) && not (is_null l || is_null r) && not (is_equatable (ty_of l) || is_equatable (ty_of r))

  -- at the operator
  abbrev pub comparison_breaks : Span → CoreForm → Breaks
  comparison_breaks at (core.Binary o l r) = break_where (is_equality o && tells_identity l r) rule.IdentityComparison at
  comparison_breaks at _ = none
