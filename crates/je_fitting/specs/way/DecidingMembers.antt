-- Whether fields, methods and initializers fit, as tests.
use Rattle.std.specs.Prelude.{Bool, true, false, not, ◌&&◌, ◌||◌, List, [], take, length, Option, Some, None, is_some}
use Rattle.std.specs.List.{list_all}
use Rattle.je_core.specs.declared.types.ClassId.{ClassId}
use Rattle.je_core.specs.declared.types.Ty.{Ty}
use Rattle.je_core.specs.Core.{Core, CoreStmt, CoreStmts, CoreField, CoreInitializer, CoreMethod, CoreClass, CoreProgram, node, a_core, list_of, stmt, no_stmts, more_stmts, form_of, ty_of}
use Rattle.je_core.specs.Core as core
use Rattle.je_classes.specs.Hierarchy.{class_at, same_class, is_below}
use Rattle.je_classes.specs.Subtypes.{same_type, same_types}
use Rattle.je_classes.specs.Members.{is_private}
use Rattle.je_classes.specs.Dispatch.{same_signature}
use Rattle.je_fitting.specs.Types.{is_void, is_variable_type, types_of}
use Rattle.je_fitting.specs.Expressions.{Code, constructor, Body, is_this, method_at, is_constructor, is_interface_sort}
use Rattle.je_fitting.specs.Statements.{no_targets}
use Rattle.je_fitting.specs.Members.{is_guest, is_interface, local_types, is_constant_form, static_body, body_of, results_agree, initializer_body}
use Rattle.je_fitting.specs.way.Deciding.{is_fit, are_fit, is_made_by}
use Rattle.je_fitting.specs.way.DecidingStatements.{locals_there, is_statement_fit, are_statements_fit}
use Rattle.je_fitting.specs.way.Quantifying.{implies, if_there, each_method}

abbrev pub same_bool : Bool → Bool → Bool
same_bool true b = b
same_bool false b = not b

abbrev pub is_constructor_code : Code → Bool
is_constructor_code constructor = true
is_constructor_code _ = false

abbrev pub is_superclass : Option ClassId → ClassId → Bool
is_superclass None c = false
is_superclass (Some s) c = same_class s c

module _ (program : CoreProgram) where
  abbrev pub are_variables : List Ty → Bool
  are_variables ts = list_all (is_variable_type program) ts

  -- ---- fields

  abbrev pub is_constant_fit : ClassId → CoreField → Core → Bool
  is_constant_fit class f e = f.is_static && f.is_final && is_constant_form (form_of e) && is_fit program (static_body class []) e && same_type (ty_of e) f.ty

  abbrev pub is_field_fit : ClassId → CoreField → Bool
  is_field_fit class f =
      is_variable_type program f.ty && implies (is_interface (class_at program class)) f.is_static && if_there (is_constant_fit class f) f.constant

  -- ---- bodies

  abbrev pub is_head_fit : Body → Option ClassId → Core → Bool
  is_head_fit body superclass (node (core.CallExact (a_core o) c n args) t span at) =
      (is_this o && is_fit program body o) && (same_class c body.class || is_superclass superclass c) && is_made_by program (method_at program c n) (types_of (list_of args)) && are_fit program body args && is_void t
  is_head_fit body superclass _ = false

  -- a call at the head of a constructor, and the rest
  abbrev pub is_call_first : Body → Option ClassId → CoreStmts → Bool
  is_call_first body superclass (more_stmts (stmt (core.Do call) span at) parts) =
      is_constructor_code body.code && is_head_fit body superclass call && are_statements_fit program body no_targets parts
  is_call_first body superclass _ = false

  abbrev pub is_body_fit : Body → Option ClassId → CoreStmt → Bool
  is_body_fit body superclass (stmt (core.Block locals parts) span at) =
      locals_there body locals && (are_statements_fit program body no_targets parts || is_call_first body superclass parts)
  is_body_fit body superclass _ = false

  -- ---- methods

  abbrev pub is_overridden : ClassId → CoreMethod → ClassId → CoreMethod → Bool
  is_overridden class m above k = is_below program class above && not (m.flags.is_static && k.flags.is_static) && same_signature m k && not (is_private k) && not (is_constructor program k)

  abbrev pub stands_for : CoreMethod → CoreMethod → Bool
  stands_for m k = not m.flags.is_static && not k.flags.is_static && results_agree program m.returns k.returns

  abbrev pub is_constructor_fit : CoreMethod → Bool
  is_constructor_fit m = not m.flags.is_static && not m.flags.is_abstract && is_void m.returns

  abbrev pub is_method_head_fit : CoreClass → CoreMethod → Bool
  is_method_head_fit c m =
      are_variables m.params && (is_void m.returns || is_variable_type program m.returns) && list_all (λ d. is_some (class_at program d)) m.throws &&
      implies (is_interface_sort c.kind.sort) m.flags.is_abstract && implies (is_constructor program m) (is_constructor_fit m)

  abbrev pub is_method_body_fit : ClassId → CoreClass → CoreMethod → Bool
  is_method_body_fit class c m =
      same_bool (is_some m.body) (is_guest class && not (m.flags.is_abstract || m.flags.is_native)) && are_variables (local_types m.locals) &&
      implies (is_some m.body) (same_types (take (length m.params) (local_types m.locals)) m.params) && if_there (is_body_fit (body_of program class m) c.superclass) m.body

  abbrev pub is_method_fit : ClassId → CoreClass → CoreMethod → Bool
  is_method_fit class c m = is_method_head_fit c m && each_method program (λ above at k. implies (is_overridden class m above k) (stands_for m k)) && is_method_body_fit class c m

  -- ---- initializers

  abbrev pub is_initializer_fit : ClassId → CoreInitializer → Bool
  is_initializer_fit class i = are_variables (local_types i.locals) && is_statement_fit program (initializer_body class i) no_targets i.body
