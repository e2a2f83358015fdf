-- The call of another constructor at the head of one, by its parts.
use Rattle.std.specs.Prelude.{ℕ, Bool, false, ◌&&◌, ◌||◌, Option}
use Rattle.je_core.specs.declared.types.ClassId.{ClassId}
use Rattle.je_core.specs.declared.types.Ty.{Ty}
use Rattle.je_core.specs.Core.{Cores, MaybeCore, CoreStmt, CoreProgram, no_core, a_core, list_of, stmt_form_of}
use Rattle.je_core.specs.Core as core
use Rattle.je_classes.specs.Hierarchy.{same_class}
use Rattle.je_fitting.specs.Types.{is_void, types_of}
use Rattle.je_fitting.specs.Expressions.{Body, is_this, method_at}
use Rattle.je_fitting.specs.way.Deciding.{is_fit, are_fit, is_made_by}
use Rattle.je_fitting.specs.Statements.{no_targets}
use Rattle.je_fitting.specs.way.DecidingMembers.{is_superclass, is_head_fit, is_call_first}
use Rattle.je_fitting.specs.way.DecidingStatements.{locals_there, are_statements_fit}

module _ (program : CoreProgram) (body : Body) where
  abbrev pub is_call_fit : Option ClassId → MaybeCore → ClassId → ℕ → Cores → Ty → Bool
  is_call_fit superclass no_core c n args t = false
  is_call_fit superclass (a_core o) c n args t =
      (is_this o && is_fit program body o) && (same_class c body.class || is_superclass superclass c) && is_made_by program (method_at program c n) (types_of (list_of args)) && are_fit program body args && is_void t

  -- of a form, and the type of its node
  abbrev pub is_head_form : Option ClassId → core.CoreForm → Ty → Bool
  is_head_form superclass (core.CallExact o c n args) t = is_call_fit superclass o c n args t
  is_head_form superclass _ t = false

  abbrev pub is_head_statement_form : Option ClassId → core.CoreStmtForm → Bool
  is_head_statement_form superclass (core.Do call) = is_head_fit program body superclass call
  is_head_statement_form superclass _ = false

  abbrev pub is_head_statement_fit : Option ClassId → CoreStmt → Bool
  is_head_statement_fit superclass s = is_head_statement_form superclass (stmt_form_of s)

  -- of a body's form
  abbrev pub is_body_form : Option ClassId → core.CoreStmtForm → Bool
  is_body_form superclass (core.Block locals parts) = locals_there body locals && (are_statements_fit program body no_targets parts || is_call_first program body superclass parts)
  is_body_form superclass _ = false
