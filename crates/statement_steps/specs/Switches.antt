-- `switch` (JLS 14.11). The selector and the labels are judged behind all statements, in the order in which they are written.
use Rattle.std.specs.Prelude.{zero, ℤ, Bool, true, false, not, List, [], ◌∷◌, ◌++◌, Option, Some, None}
use Rattle.std.specs.List.{list_any}
use Rattle.je_arith.specs.Comparison.{is_same}
use Rattle.je_base.specs.declared.span.Span.{Span}
use Rattle.je_core.specs.declared.types.Base.{Base}
use Rattle.je_core.specs.declared.types.Base.TheVariants as base
use Rattle.je_core.specs.declared.value.Value.{Value}
use Rattle.je_core.specs.Core.{CoreLabel}
use Rattle.je_scopes.specs.SourceTypes.{SourceType, plain}
use Rattle.source_types.specs.Heads.{ClassHead}
use Rattle.je_typing.specs.declared.fault.TypeRule.TheVariants.{BadCase}
use Rattle.je_typing.specs.Constants.{constant_value, uses_of}
use Rattle.je_typing.specs.Conversions.{is_assignable, small_number}
use Rattle.je_typing.specs.Judged.{Judged, gives, ◌>>=◌, ◌>>◌, check, need}
use Rattle.je_typing.specs.Typed.{TypedNode}

abbrev pub is_selector_base : Base → Bool
is_selector_base base.Byte = true
is_selector_base base.Short = true
is_selector_base base.Char = true
is_selector_base base.Int = true
is_selector_base _ = false

abbrev pub is_selector : SourceType → Bool
is_selector (plain b zero) = is_selector_base b
is_selector _ = false

unfoldable pub selector : Span → SourceType → Judged (Unit {0})
selector span t = check BadCase span (is_selector t)

-- a label as it is written: a value, with the span of the whole, brackets included, or the word `default`
pub data WrittenLabel : Type 0 where
  case : Span → TypedNode → WrittenLabel
  default : Span → WrittenLabel

-- what the labels before one have: their numbers, and whether `default` is among them
pub record Met : Type 0 where
  pub numbers : List ℤ
  pub has_default : Bool

abbrev pub none_met : Met
none_met = record { numbers = []; has_default = false }

abbrev pub met_value : Met → Option ℤ → Met
met_value met None = record met { has_default = true }
met_value met (Some n) = record met { numbers = n ∷ met.numbers }

abbrev pub number_in : Option Value → Option ℤ
number_in None = None
number_in (Some v) = small_number v

abbrev pub number_if : Bool → Option ℤ → Option ℤ
number_if true n = n
number_if false n = None

-- the number of a constant that the selector's type takes
abbrev pub label_number : List ClassHead → SourceType → TypedNode → Option ℤ
label_number heads t from = number_if (is_assignable heads from t) (number_in (constant_value from.node))

-- a label behind others; no two have one number, and one is `default` at most
unfoldable pub next_label : List ClassHead → SourceType → Met → WrittenLabel → Judged CoreLabel
next_label heads t met (case span from) = do
  n ← need BadCase span (label_number heads t from)
  check BadCase span (not (list_any (is_same n) met.numbers))
  gives (record { value = Some n; uses = uses_of from.node; span = span })
next_label heads t met (default span) = do
  check BadCase span (not met.has_default)
  gives (record { value = None; uses = []; span = span })

-- the labels of a group, behind those that are done, and what is met then
pub record LabelsDone : Type 0 where
  pub labels : List CoreLabel
  pub met : Met

abbrev pub with_label : LabelsDone → CoreLabel → LabelsDone
with_label done label = record { labels = done.labels ++ label ∷ []; met = met_value done.met label.value }

abbrev pub labels_from : List ClassHead → SourceType → LabelsDone → List WrittenLabel → Judged LabelsDone
labels_from heads t done [] = gives done
labels_from heads t done (l ∷ ls) = do
  label ← next_label heads t done.met l
  labels_from heads t (with_label done label) ls
