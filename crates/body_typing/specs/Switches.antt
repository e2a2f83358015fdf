-- `switch` over numbers and over enums (JLS 8.9, 14.11). That over an enum selects by the places of its constants,
-- and a label is the simple name of a constant of that enum, which is looked up there alone.
use Rattle.std.specs.Prelude.{ℕ, zero, pos, Bool, List, [], ◌∷◌, Option, Some, None, if◌then◌else◌}
use Rattle.std.specs.List.{position}
use Rattle.je_base.specs.declared.span.NameId.{NameId}
use Rattle.je_base.specs.declared.span.Span.{Span}
use Rattle.je_core.specs.declared.types.Base.TheVariants as base
use Rattle.je_core.specs.declared.value.Value.TheVariants as value
use Rattle.je_core.specs.Core.{Const, CoreGroup, CoreGroups, CoreStmt, Field, core_stmts, group, more_groups, no_groups}
use Rattle.je_ast.specs.declared.name.Identifier.{Identifier}
use Rattle.je_ast.specs.Spans as written
use Rattle.je_ast.specs.Trees.{Expression, Labels}
use Rattle.je_ast.specs.Trees as tree
use Rattle.je_scopes.specs.Headers.{constants_in, same_name, site_at}
use Rattle.je_scopes.specs.SourceTypes.{SourceType, of_class}
use Rattle.source_types.specs.Erasure.{class_numbered}
use Rattle.source_types.specs.Heads.{ClassHead, head_at}
use Rattle.je_typing.specs.Conversions.{span_of, token_of}
use Rattle.je_typing.specs.Judged.{Judged, gives, ◌>>=◌}
use Rattle.je_typing.specs.Typed.{TypedNode, typed_as}
use Rattle.name_typing.specs.Program.{Program}
use Rattle.call_typing.specs.Creations.{is_enum_in}
use Rattle.statement_steps.specs.Switches.{LabelsDone, Met, WrittenLabel, case, default, labels_from}
use Rattle.body_typing.specs.Expressions.{Known, expression, read, value as used_value}
use Rattle.body_typing.specs.FinalVariables.{Scope}
use Rattle.body_typing.specs.Bodies.{Progress, behind}

-- ---- the selector

-- the enum that a type is, if it is one
abbrev pub enum_if : Bool → ℕ → Option ℕ
enum_if is_enum c = if is_enum then Some c else None

abbrev pub enum_of : List ClassHead → SourceType → Option ℕ
enum_of heads (of_class c args zero) = enum_if (is_enum_in (head_at heads c)) c
enum_of heads t = None

-- an enum keeps its name in its first field, and its place in the second one
abbrev pub ordinal_place : ℕ
ordinal_place = 1

-- what is selected by: the value itself, or the place of a constant of an enum
abbrev pub selected_by : Option ℕ → TypedNode → TypedNode
selected_by None t = t
selected_by (Some c) t =
    typed_as base.Int (Field t.node (class_numbered c) ordinal_place) (span_of t.node) (token_of t.node)

-- ---- the labels

-- the place of the constant that an expression names
abbrev pub is_constant_name : NameId → Identifier → Bool
is_constant_name x id = same_name id.name x

abbrev pub constant_place : List Identifier → Expression → Option ℕ
constant_place constants (tree.name id) = position (is_constant_name id.name) constants
constant_place constants e = None

-- its place as a constant; what names none is no constant
abbrev pub place_node : Span → Option ℕ → TypedNode
place_node span (Some n) = typed_as base.Int (Const (value.Int (pos n)) []) span span
place_node span None = typed_as base.Null (Const value.Null []) span span

abbrev pub constants_of : Program → ℕ → List Identifier
constants_of p c = constants_in (site_at p.source.sites c).written

-- the labels before a group, and what was met
pub record LabelsMet : Type 0 where
  pub labels : List WrittenLabel
  pub progress : Progress

abbrev pub one_more : WrittenLabel → LabelsMet → LabelsMet
one_more l rest = record rest { labels = l ∷ rest.labels }

module _ (p : Program) (k : Known) (of_enum : Option ℕ) (s : Scope) where
  abbrev pub label_value : Option ℕ → Expression → Judged TypedNode
  label_value None e = used_value (expression p k s read e)
  label_value (Some c) e = gives (place_node (written.span_of e) (constant_place (constants_of p c) e))

  -- the label of an enum's constant is no expression, and mentions nothing
  abbrev pub behind_label : Option ℕ → Expression → Progress → Progress
  behind_label None e pr = behind p s e pr
  behind_label (Some c) e pr = pr

  abbrev pub labels : Progress → Labels → Judged LabelsMet
  labels pr tree.no_labels = gives (record { labels = []; progress = pr })
  labels pr (tree.case_label e ls) = do
    t ← label_value of_enum e
    rest ← labels (behind_label of_enum e pr) ls
    gives (one_more (case (written.span_of e) t) rest)
  labels pr (tree.default_label word ls) = do
    rest ← labels pr ls
    gives (one_more (default word) rest)

-- ---- all groups, whose labels are judged behind their statements

pub record WrittenGroup : Type 0 where
  pub labels : List WrittenLabel
  pub parts : List CoreStmt

abbrev pub core_group : LabelsDone → WrittenGroup → CoreGroup
core_group done g = group done.labels (core_stmts g.parts)

abbrev pub groups_from : List ClassHead → SourceType → Met → List WrittenGroup → Judged CoreGroups
groups_from heads t met [] = gives no_groups
groups_from heads t met (g ∷ gs) = do
  done ← labels_from heads t (record { labels = []; met = met }) g.labels
  rest ← groups_from heads t done.met gs
  gives (more_groups (core_group done g) rest)
