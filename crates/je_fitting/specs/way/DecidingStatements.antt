-- Whether a statement fits, as a test of each node and its parts in turn.
use Rattle.std.specs.Prelude.{ℕ, Bool, true, false, ◌&&◌, List, length, Option, Some, None, slice_get, is_some, nat_lt}
use Rattle.std.specs.List.{list_all}
use Rattle.je_base.specs.declared.span.NameId.{NameId}
use Rattle.je_core.specs.declared.types.Ty.{Ty}
use Rattle.je_core.specs.Core.{Core, CoreStmt, CoreStmtForm, CoreStmts, MaybeStmt, CoreLabel, CoreGroups, CoreCatches, CoreProgram, stmt, no_stmts, more_stmts, no_stmt, a_stmt, group, no_groups, more_groups, catch, no_catches, more_catches, ty_of}
use Rattle.je_core.specs.Core as core
use Rattle.je_classes.specs.Subtypes.{class_type, is_subtype}
use Rattle.je_fitting.specs.Types.{throwable, is_bool, is_void, agrees}
use Rattle.je_fitting.specs.Expressions.{Body}
use Rattle.je_fitting.specs.Statements.{Targets, in_loop, in_switch, labelled_by, label_of, is_selector}
use Rattle.je_fitting.specs.way.Deciding.{is_fit, uses_there}

abbrev pub if_some : (Ty → Bool) → Option Ty → Bool
if_some test None = false
if_some test (Some t) = test t

abbrev pub is_loop_label : Option Bool → Bool
is_loop_label None = false
is_loop_label (Some b) = b

abbrev pub locals_there : Body → List ℕ → Bool
locals_there body ns = list_all (λ n. nat_lt n (length body.locals)) ns

abbrev pub labels_fit : CoreProgram → List CoreLabel → Bool
labels_fit program ls = list_all (λ (l : CoreLabel). uses_there program l.uses) ls

-- of a jump: `continue` where `again` is true
abbrev pub can_jump : Targets → Bool → Option NameId → Bool
can_jump j false None = j.has_break
can_jump j false (Some name) = is_some (label_of j.labels name)
can_jump j true None = j.has_continue
can_jump j true (Some name) = is_loop_label (label_of j.labels name)

module _ (program : CoreProgram) (body : Body) where
  abbrev pub gives_value : Option Ty → Option Core → Bool
  gives_value None value = false
  gives_value (Some t) None = is_void t
  gives_value (Some t) (Some e) = is_fit program body e && agrees program (ty_of e) t

  abbrev mutual
    pub is_statement_fit : Targets → CoreStmt → Bool
    is_statement_fit j (stmt form span at) = is_form_fit j form

    pub is_form_fit : Targets → CoreStmtForm → Bool
    is_form_fit j core.Empty = true
    is_form_fit j (core.Block locals parts) = locals_there body locals && are_statements_fit j parts
    is_form_fit j (core.Do e) = is_fit program body e
    is_form_fit j (core.If c chosen other) = is_fit program body c && is_bool (ty_of c) && is_statement_fit j chosen && is_maybe_fit j other
    is_form_fit j (core.Loop c steps inner) = is_fit program body c && is_bool (ty_of c) && list_all (is_fit program body) steps && is_statement_fit (in_loop j) inner
    is_form_fit j (core.DoLoop inner c) = is_statement_fit (in_loop j) inner && is_fit program body c && is_bool (ty_of c)
    is_form_fit j (core.Switch locals selector groups) = locals_there body locals && is_fit program body selector && is_selector (ty_of selector) && are_groups_fit (in_switch j) groups
    is_form_fit j (core.Labelled name inner) = is_statement_fit (labelled_by name inner j) inner
    is_form_fit j (core.Jump again label) = can_jump j again label
    is_form_fit j (core.Return value) = gives_value body.returns value
    is_form_fit j (core.Throw e) = is_fit program body e && is_subtype program (ty_of e) throwable
    is_form_fit j (core.Try inner catches last) = is_statement_fit j inner && are_catches_fit j catches && is_maybe_fit j last

    pub are_statements_fit : Targets → CoreStmts → Bool
    are_statements_fit j no_stmts = true
    are_statements_fit j (more_stmts s ss) = is_statement_fit j s && are_statements_fit j ss

    pub is_maybe_fit : Targets → MaybeStmt → Bool
    is_maybe_fit j no_stmt = true
    is_maybe_fit j (a_stmt s) = is_statement_fit j s

    pub are_groups_fit : Targets → CoreGroups → Bool
    are_groups_fit j no_groups = true
    are_groups_fit j (more_groups (group labels parts) gs) = labels_fit program labels && are_statements_fit j parts && are_groups_fit j gs

    pub are_catches_fit : Targets → CoreCatches → Bool
    are_catches_fit j no_catches = true
    are_catches_fit j (more_catches (catch local class span inner) cs) =
        if_some (agrees program (class_type class)) (slice_get body.locals local) && is_subtype program (class_type class) throwable && is_statement_fit j inner && are_catches_fit j cs
