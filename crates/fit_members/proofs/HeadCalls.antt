-- The call of another constructor at the head of one, by forms in memory; and a body that begins with it.
use Rattle.std.proofs.Common.{◌≡◌, Option, refl, ap, ◌∙◌}
use Rattle.std.specs.Prelude.{Bool, true, false, ◌&&◌}
use Rattle.je_core.specs.declared.types.ClassId.{ClassId}
use Rattle.je_base.specs.declared.span.Span.{Span}
use Rattle.je_core.specs.declared.expr.Expr.{Expr}
use Rattle.je_core.specs.declared.stmt.Stmt.{Stmt}
use Rattle.je_core.specs.declared.types.Ty.{Ty}
use Rattle.je_core.specs.Core.{CoreStmt, CoreStmts, CoreProgram, node, no_core, a_core, stmt, more_stmts}
use Rattle.je_core.specs.Core as core
use Rattle.je_core.specs.View.{view, form_view, stmt_view, stmt_form_view}
use Rattle.je_core.proofs.Views.{view_is, stmt_view_is}
use Rattle.je_fitting.specs.Expressions.{Body}
use Rattle.je_fitting.specs.Statements.{no_targets}
use Rattle.je_fitting.specs.way.DecidingMembers.{is_constructor_code, is_head_fit, is_call_first, is_body_fit}
use Rattle.je_fitting.specs.way.DecidingStatements.{are_statements_fit}
use Rattle.fit_members.specs.way.Calls.{is_head_form, is_head_statement_fit, is_body_form}

neither : (a b : Bool) → false ≡ (a && false && b)
neither true b = refl
neither false b = refl

pub call_first : (p : CoreProgram) (b : Body) (s : Option ClassId) (head : CoreStmt) (rest : CoreStmts) →
    is_call_first p b s (more_stmts head rest) ≡ (is_constructor_code b.code && is_head_statement_fit p b s head && are_statements_fit p b no_targets rest)
call_first p b s (stmt (core.Do call) span at) rest = refl
call_first p b s (stmt core.Empty span at) rest = neither (is_constructor_code b.code) (are_statements_fit p b no_targets rest)
call_first p b s (stmt (core.Block locals parts) span at) rest = neither (is_constructor_code b.code) (are_statements_fit p b no_targets rest)
call_first p b s (stmt (core.If c one other) span at) rest = neither (is_constructor_code b.code) (are_statements_fit p b no_targets rest)
call_first p b s (stmt (core.Loop c steps inner) span at) rest = neither (is_constructor_code b.code) (are_statements_fit p b no_targets rest)
call_first p b s (stmt (core.DoLoop inner c) span at) rest = neither (is_constructor_code b.code) (are_statements_fit p b no_targets rest)
call_first p b s (stmt (core.Switch locals selector groups) span at) rest = neither (is_constructor_code b.code) (are_statements_fit p b no_targets rest)
call_first p b s (stmt (core.Labelled name inner) span at) rest = neither (is_constructor_code b.code) (are_statements_fit p b no_targets rest)
call_first p b s (stmt (core.Jump again label) span at) rest = neither (is_constructor_code b.code) (are_statements_fit p b no_targets rest)
call_first p b s (stmt (core.Return value) span at) rest = neither (is_constructor_code b.code) (are_statements_fit p b no_targets rest)
call_first p b s (stmt (core.Throw e) span at) rest = neither (is_constructor_code b.code) (are_statements_fit p b no_targets rest)
call_first p b s (stmt (core.Try inner catches last) span at) rest = neither (is_constructor_code b.code) (are_statements_fit p b no_targets rest)

module _ (p : CoreProgram) (b : Body) (s : Option ClassId) where
  by-form : (form : core.CoreForm) (t : Ty) (span at : Span) → is_head_fit p b s (node form t span at) ≡ is_head_form p b s form t
  by-form (core.CallExact no_core c n args) t span at = refl
  by-form (core.CallExact (a_core o) c n args) t span at = refl
  by-form (core.Const a c) t span at = refl
  by-form (core.Text a c) t span at = refl
  by-form (core.Local a) t span at = refl
  by-form core.This t span at = refl
  by-form (core.Field a c d) t span at = refl
  by-form (core.Static a c d) t span at = refl
  by-form (core.Index a c) t span at = refl
  by-form (core.Length a) t span at = refl
  by-form (core.Assign a c) t span at = refl
  by-form (core.Update a c d e) t span at = refl
  by-form (core.Unary a c) t span at = refl
  by-form (core.Binary a c d) t span at = refl
  by-form (core.And a c) t span at = refl
  by-form (core.Or a c) t span at = refl
  by-form (core.Choose a c d) t span at = refl
  by-form (core.Convert a) t span at = refl
  by-form (core.Cast a) t span at = refl
  by-form (core.InstanceOf a c) t span at = refl
  by-form (core.Concat a c) t span at = refl
  by-form (core.CallVirtual a c d e) t span at = refl
  by-form (core.New a c d e f) t span at = refl
  by-form (core.NewArray a) t span at = refl
  by-form (core.ArrayOf a) t span at = refl

  pub head_at : (e : Expr) → is_head_fit p b s (view e) ≡ is_head_form p b s (form_view e.form) e.ty
  head_at e = ap (is_head_fit p b s) (view_is e) ∙ by-form (form_view e.form) e.ty e.span e.at

  by-statement : (form : core.CoreStmtForm) (span at : Span) → is_body_fit p b s (stmt form span at) ≡ is_body_form p b s form
  by-statement core.Empty span at = refl
  by-statement (core.Block a c) span at = refl
  by-statement (core.Do a) span at = refl
  by-statement (core.If a c d) span at = refl
  by-statement (core.Loop a c d) span at = refl
  by-statement (core.DoLoop a c) span at = refl
  by-statement (core.Switch a c d) span at = refl
  by-statement (core.Labelled a c) span at = refl
  by-statement (core.Jump a c) span at = refl
  by-statement (core.Return a) span at = refl
  by-statement (core.Throw a) span at = refl
  by-statement (core.Try a c d) span at = refl

  pub body_at : (body : Stmt) → is_body_fit p b s (stmt_view body) ≡ is_body_form p b s (stmt_form_view body.form)
  body_at body = ap (is_body_fit p b s) (stmt_view_is body) ∙ by-statement (stmt_form_view body.form) body.span body.at
