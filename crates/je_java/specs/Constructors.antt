-- With which other constructor the body of a constructor begins, and the initializers of a class's instances (JLS 8.6, 8.8.7).
use Rattle.std.specs.Prelude.{ℕ, Bool, false, not, List, [], ◌∷◌, drop, filter, Option, Some, None, if◌then◌else◌}
use Rattle.constructor_calls.specs.Calls.{is_call}
use Rattle.je_classes.specs.Hierarchy.{same_class}
use Rattle.je_classes.specs.Members.{Member}
use Rattle.je_core.specs.declared.types.ClassId.{ClassId}
use Rattle.je_core.specs.Core.{CoreForm, CallExact, CoreStmt, CoreStmtForm, Block, Do, CoreInitializer, CoreClass, CoreProgram, form_of, stmt_form_of, stmt_list_of}

-- the statements of a block
abbrev pub parts_of : CoreStmtForm → List CoreStmt
parts_of (Block locals parts) = stmt_list_of parts
parts_of _ = []

-- the call with which the statements of a body begin, if it is that of another constructor

abbrev pub call_in : CoreProgram → CoreForm → Option CoreForm
call_in program form = if is_call program form then Some form else None

abbrev pub call_in_statement : CoreProgram → CoreStmtForm → Option CoreForm
call_in_statement program (Do e) = call_in program (form_of e)
call_in_statement program _ = None

abbrev pub first_call : CoreProgram → List CoreStmt → Option CoreForm
first_call program [] = None
first_call program (s ∷ ss) = call_in_statement program (stmt_form_of s)

-- the constructor that it calls
abbrev pub called_constructor : CoreForm → Option Member
called_constructor (CallExact receiver class at args) = Some (record { class = class; at = at })
called_constructor _ = None

abbrev pub is_of : ClassId → Option Member → Bool
is_of class None = false
is_of class (Some member) = same_class member.class class

abbrev pub is_of_instance : CoreInitializer → Bool
is_of_instance initializer = not initializer.is_static

abbrev pub initializers_in : Option CoreClass → List CoreInitializer
initializers_in None = []
initializers_in (Some class) = class.initializers

-- the initializers of a class's instances, in the order of the text, from a place among all of its initializers on
abbrev pub instance_initializers : Option CoreClass → ℕ → List CoreInitializer
instance_initializers class at = filter is_of_instance (drop at (initializers_in class))
