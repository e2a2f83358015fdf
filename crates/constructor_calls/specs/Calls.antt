-- How a constructor comes to the one of its superclass (JLS 8.8.7): its body begins with the call of another constructor, or calls
-- the superclass's constructor without parameters by no word of its own.
use Rattle.std.specs.Prelude.{ℕ, zero, suc, Bool, true, false, not, ◌&&◌, List, [], ◌∷◌, length, Option, Some, None, option_map, nat_eq, if◌then◌else◌}
use Rattle.je_core.specs.declared.types.ClassId.{ClassId}
use Rattle.je_core.specs.Core.{CoreForm, CoreStmt, CoreStmtForm, CoreStmts, CoreMethod, CoreProgram, no_stmts, more_stmts, form_of, stmt_form_of}
use Rattle.je_core.specs.Core as core
use Rattle.je_classes.specs.Members.{Member, method_of, methods_of, names_constructors}

module _ (p : CoreProgram) where
  abbrev pub is_constructor : CoreMethod → Bool
  is_constructor m = names_constructors p m.name

  abbrev pub is_constructor_there : Option CoreMethod → Bool
  is_constructor_there None = false
  is_constructor_there (Some m) = is_constructor m

  -- a constructor, by its class and its place there
  abbrev pub calls_constructor : ClassId → ℕ → Bool
  calls_constructor class at = is_constructor_there (method_of p (record { class = class; at = at }))

  -- ---- the call of another constructor

  abbrev pub is_call : CoreForm → Bool
  is_call (core.CallExact o class at args) = calls_constructor class at
  is_call _ = false

  abbrev pub is_call_statement : CoreStmtForm → Bool
  is_call_statement (core.Do e) = is_call (form_of e)
  is_call_statement _ = false

  abbrev pub first_is_call : CoreStmts → Bool
  first_is_call no_stmts = false
  first_is_call (more_stmts s ss) = is_call_statement (stmt_form_of s)

  abbrev pub begins_with_call_form : CoreStmtForm → Bool
  begins_with_call_form (core.Block locals parts) = first_is_call parts
  begins_with_call_form _ = false

  -- a body that begins with one
  abbrev pub begins_with_call : CoreStmt → Bool
  begins_with_call s = begins_with_call_form (stmt_form_of s)

  -- ---- no word of its own

  abbrev pub is_plain_constructor : CoreMethod → Bool
  is_plain_constructor m = is_constructor m && nat_eq (length m.params) 0

  abbrev pub plain_from : ℕ → List CoreMethod → Option ℕ
  plain_from n [] = None
  plain_from n (m ∷ ms) = if is_plain_constructor m then Some n else plain_from (suc n) ms

  abbrev pub placed_in : ClassId → Option ℕ → Option Member
  placed_in class None = None
  placed_in class (Some at) = Some (record { class = class; at = at })

  -- a superclass's constructor without parameters
  abbrev pub plain_constructor : Option ClassId → Option Member
  plain_constructor None = None
  plain_constructor (Some class) = placed_in class (plain_from 0 (methods_of p class))

  abbrev pub begins_without_call : Option CoreStmt → Bool
  begins_without_call None = false
  begins_without_call (Some s) = not (begins_with_call s)

  -- what a method of a class with that superclass calls by no word of its own, if it is a constructor
  abbrev pub implicitly_called : Option ClassId → CoreMethod → Option Member
  implicitly_called superclass m = if is_constructor m && begins_without_call m.body then plain_constructor superclass else None
