-- The constant strings of a program (JLS 3.10.5, 15.28): those that stand in its code, in the order in which they
-- stand in the text, each once.
use Rattle.std.specs.Prelude.{ℕ, Bool, ◌&&◌, ◌||◌, List, [], ◌∷◌, ◌++◌, map, flat_map, Option, Some, None, nat_lt, nat_eq, if◌then◌else◌}
use Rattle.std.specs.List.{list_any}
use Rattle.std.specs.Str.{bytes_eq}
use Rattle.je_base.specs.declared.span.Span.{Span}
use Rattle.je_core.specs.Core.{Core, CoreCatch, CoreCatches, CoreClass, CoreField, CoreForm, CoreGroup, CoreGroups, CoreInitializer, CoreMethod, CoreStmt, CoreStmtForm, CoreStmts, Cores, MaybeCore, MaybeStmt, a_core, a_stmt, catch, group, more, more_catches, more_groups, more_stmts, no_catches, no_core, no_groups, no_stmt, no_stmts, node, none, stmt}
use Rattle.je_core.specs.Core as core

-- a constant string, where it stands
pub record TextAt : Type 0 where
  pub units : List ℕ
  pub span : Span

-- ---- in expressions

abbrev mutual
  pub texts_of : Core → List TextAt
  texts_of (node form ty span at) = texts_in span form

  pub texts_in : Span → CoreForm → List TextAt
  texts_in span (core.Const v uses) = []
  texts_in span (core.Text units uses) = record { units = units; span = span } ∷ []
  texts_in span (core.Local n) = []
  texts_in span core.This = []
  texts_in span (core.Field o c n) = texts_of o
  texts_in span (core.Static o c n) = texts_maybe o
  texts_in span (core.Index a i) = texts_of a ++ texts_of i
  texts_in span (core.Length a) = texts_of a
  texts_in span (core.Assign place e) = texts_of place ++ texts_of e
  texts_in span (core.Update place o e old) = texts_of place ++ texts_maybe e
  texts_in span (core.Unary o e) = texts_of e
  texts_in span (core.Binary o l r) = texts_of l ++ texts_of r
  texts_in span (core.And l r) = texts_of l ++ texts_of r
  texts_in span (core.Or l r) = texts_of l ++ texts_of r
  texts_in span (core.Choose c y n) = texts_of c ++ texts_of y ++ texts_of n
  texts_in span (core.Convert e) = texts_of e
  texts_in span (core.Cast e) = texts_of e
  texts_in span (core.InstanceOf e t) = texts_of e
  texts_in span (core.Concat l r) = texts_of l ++ texts_of r
  texts_in span (core.CallVirtual o c n args) = texts_of o ++ texts_all args
  texts_in span (core.CallExact o c n args) = texts_maybe o ++ texts_all args
  texts_in span (core.New c n args captures word) = texts_all args
  texts_in span (core.NewArray lengths) = texts_all lengths
  texts_in span (core.ArrayOf values) = texts_all values

  pub texts_maybe : MaybeCore → List TextAt
  texts_maybe no_core = []
  texts_maybe (a_core e) = texts_of e

  pub texts_all : Cores → List TextAt
  texts_all none = []
  texts_all (more e es) = texts_of e ++ texts_all es

abbrev pub texts_if : Option Core → List TextAt
texts_if None = []
texts_if (Some e) = texts_of e

-- ---- in statements

abbrev mutual
  pub statement_texts : CoreStmt → List TextAt
  statement_texts (stmt form span at) = form_texts form

  pub form_texts : CoreStmtForm → List TextAt
  form_texts core.Empty = []
  form_texts (core.Block locals parts) = part_texts parts
  form_texts (core.Do e) = texts_of e
  form_texts (core.If c chosen other) = texts_of c ++ statement_texts chosen ++ maybe_texts other
  form_texts (core.Loop c steps body) = texts_of c ++ flat_map texts_of steps ++ statement_texts body
  form_texts (core.DoLoop body c) = statement_texts body ++ texts_of c
  form_texts (core.Switch locals selector groups) = texts_of selector ++ group_texts groups
  form_texts (core.Labelled name body) = statement_texts body
  form_texts (core.Jump again label) = []
  form_texts (core.Return value) = texts_if value
  form_texts (core.Throw e) = texts_of e
  form_texts (core.Try body catches last) = statement_texts body ++ catch_texts catches ++ maybe_texts last

  pub part_texts : CoreStmts → List TextAt
  part_texts no_stmts = []
  part_texts (more_stmts s ss) = statement_texts s ++ part_texts ss

  pub maybe_texts : MaybeStmt → List TextAt
  maybe_texts no_stmt = []
  maybe_texts (a_stmt s) = statement_texts s

  pub one_group_texts : CoreGroup → List TextAt
  one_group_texts (group labels parts) = part_texts parts

  pub group_texts : CoreGroups → List TextAt
  group_texts no_groups = []
  group_texts (more_groups g gs) = one_group_texts g ++ group_texts gs

  pub one_catch_texts : CoreCatch → List TextAt
  one_catch_texts (catch local class span body) = statement_texts body

  pub catch_texts : CoreCatches → List TextAt
  catch_texts no_catches = []
  catch_texts (more_catches c cs) = one_catch_texts c ++ catch_texts cs

-- ---- in classes

abbrev pub field_texts : CoreField → List TextAt
field_texts f = texts_if f.constant

abbrev pub initializer_texts : CoreInitializer → List TextAt
initializer_texts i = statement_texts i.body

abbrev pub body_texts : Option CoreStmt → List TextAt
body_texts None = []
body_texts (Some s) = statement_texts s

abbrev pub method_texts : CoreMethod → List TextAt
method_texts m = body_texts m.body

abbrev pub class_texts : CoreClass → List TextAt
class_texts c =
    flat_map field_texts c.fields ++ flat_map initializer_texts c.initializers ++ flat_map method_texts c.methods

-- ---- in the order of the text

abbrev pub stands_before : Span → Span → Bool
stands_before a b = nat_lt a.file b.file || (nat_eq a.file b.file && nat_lt a.start b.start)

abbrev pub inserted : TextAt → List TextAt → List TextAt
inserted t [] = t ∷ []
inserted t (u ∷ us) = if stands_before u.span t.span then u ∷ inserted t us else t ∷ u ∷ us

abbrev pub in_order : List TextAt → List TextAt
in_order [] = []
in_order (t ∷ ts) = inserted t (in_order ts)

abbrev pub units_of : TextAt → List ℕ
units_of t = t.units

-- behind those that there are
abbrev pub each_once : List (List ℕ) → List (List ℕ) → List (List ℕ)
each_once done [] = done
each_once done (t ∷ ts) = each_once (if list_any (bytes_eq t) done then done else done ++ t ∷ []) ts

unfoldable pub texts : List CoreClass → List (List ℕ)
texts classes = each_once [] (map units_of (in_order (flat_map class_texts classes)))
