-- The rule that no object becomes a text by a member of the library that isn't enabled: an operand of string `+` or `+=` (JLS 15.18.1,
-- 15.26.2) of another reference type than String or that of null, in which such a `toString()` is found.
use Rattle.std.specs.Prelude.{ℕ, zero, suc, Bool, false, not, ◌&&◌, List, [], Option, Some, None}
use Rattle.je_base.specs.declared.span.Span.{Span}
use Rattle.je_core.specs.declared.types.Base.{Base}
use Rattle.je_core.specs.declared.types.Base.TheVariants as base
use Rattle.je_core.specs.declared.types.ClassId.{ClassId}
use Rattle.je_core.specs.declared.types.Ty.{Ty}
use Rattle.je_core.specs.Core.{Core, CoreForm, MaybeCore, CoreMethod, CoreProgram, node, no_core, a_core, ty_of}
use Rattle.je_core.specs.Core as core
use Rattle.je_classes.specs.Hierarchy.{object_class}
use Rattle.je_classes.specs.Members.{Found, nothing, one, several, method_of}
use Rattle.je_classes.specs.Methods.{find_method}
use Rattle.je_classes.specs.Subtypes.{same_type}
use Rattle.je_fitting.specs.Types.{string}
use Rattle.plain_programs.specs.Wild.{text_place}
use Rattle.taming_db.specs.Rows.{Row}
use Rattle.rule_breaks.specs.declared.rules.ConfinementRule.TheVariants as rule
use Rattle.rule_breaks.specs.Breaks.{Breaks, none, ◌∪◌, break_where}
use Rattle.node_rules.specs.Enabled.{may_use}

abbrev pub span_of : Core → Span
span_of (node form ty span at) = span

-- what a name like that of Object's `toString()` finds without arguments in a class
abbrev pub found_like : CoreProgram → ClassId → Option CoreMethod → Found
found_like p class None = nothing
found_like p class (Some text) = find_method p class text.name []

abbrev pub found_text : CoreProgram → ClassId → Found
found_text p class = found_like p class (method_of p (record { class = object_class; at = text_place }))

abbrev pub is_disabled : List Row → Found → Bool
is_disabled rows (one m) = not (may_use rows false m)
is_disabled rows nothing = false
is_disabled rows several = false

module _ (p : CoreProgram) (rows : List Row) where
  -- An array has Object's members (JLS 10.7). What has a primitive type, or that of null, has none.
  abbrev pub has_disabled_text_of : Base → ℕ → Bool
  has_disabled_text_of b (suc n) = is_disabled rows (found_text p object_class)
  has_disabled_text_of (base.Class class) zero = is_disabled rows (found_text p class)
  has_disabled_text_of _ zero = false

  abbrev pub has_disabled_text : Ty → Bool
  has_disabled_text t = not (same_type t string) && has_disabled_text_of t.base t.dims

  abbrev pub operand_breaks : Core → Breaks
  operand_breaks e = break_where (has_disabled_text (ty_of e)) rule.ObjectText (span_of e)

  abbrev pub maybe_operand_breaks : MaybeCore → Breaks
  maybe_operand_breaks no_core = none
  maybe_operand_breaks (a_core e) = operand_breaks e

  -- what other compound assignments than a string's take has a primitive type
  abbrev pub text_breaks : CoreForm → Breaks
  text_breaks (core.Concat l r) = operand_breaks l ∪ operand_breaks r
  text_breaks (core.Update place op operand old) = maybe_operand_breaks operand
  text_breaks _ = none
