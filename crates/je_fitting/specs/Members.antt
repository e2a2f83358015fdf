-- When a field, a method and an initializer fit (JLS 8.3, 8.4, 8.6, 8.7, 8.8).
use Rattle.std.specs.Prelude.{◌≡◌, ℕ, Bool, true, false, not, ◌&&◌, ◌||◌, ◌⊎◌, List, [], map, take, length, Option, Some, None, is_some, nat_lt}
use Rattle.std.specs.List.{All}
use Rattle.je_base.specs.declared.span.Span.{Span}
use Rattle.je_core.specs.declared.program.Local.{Local}
use Rattle.je_core.specs.declared.types.ClassId.{ClassId}
use Rattle.je_core.specs.declared.types.Ty.{Ty}
use Rattle.je_core.specs.Core.{Core, Cores, CoreStmt, CoreStmts, CoreField, CoreInitializer, CoreMethod, CoreClass, CoreProgram, node, a_core, list_of, stmt, more_stmts, form_of, ty_of}
use Rattle.je_core.specs.Core as core
use Rattle.je_table.specs.Library.{classes}
use Rattle.je_classes.specs.Hierarchy.{class_at, is_below}
use Rattle.je_classes.specs.Subtypes.{same_type}
use Rattle.je_classes.specs.Members.{is_private}
use Rattle.je_classes.specs.Dispatch.{same_signature}
use Rattle.je_fitting.specs.Types.{void, is_void, agrees, all_agree, is_variable_type, types_of}
use Rattle.je_fitting.specs.Expressions.{Code, method, constructor, instance_initializer, static_initializer, Body, is_this, method_at, is_constructor, is_interface_sort, Fits, AllFit}
use Rattle.je_fitting.specs.Statements.{no_targets, LocalsThere, StatementFits, StatementsFit}

-- the library's classes stand first
abbrev pub is_guest : ClassId → Bool
is_guest class = not (nat_lt class.0 (length classes))

abbrev pub local_types : List Local → List Ty
local_types locals = map (λ (l : Local). l.ty) locals

abbrev pub AreVariables : CoreProgram → List Ty → Type 0
AreVariables program ts = All (λ t. is_variable_type program t ≡ true) ts

-- ---- fields

abbrev pub is_constant_form : core.CoreForm → Bool
is_constant_form (core.Const v uses) = true
is_constant_form (core.Text units uses) = true
is_constant_form _ = false

abbrev pub static_body : ClassId → List Ty → Body
static_body class locals = record { class = class; code = static_initializer; is_static = true; locals = locals; returns = None }

-- the constant of a final static field
pub record ConstantFits (program : CoreProgram) (class : ClassId) (f : CoreField) (e : Core) : Type 0 where
  pub is_static : f.is_static ≡ true
  pub is_final : f.is_final ≡ true
  pub is_constant : is_constant_form (form_of e) ≡ true
  pub fits : Fits program (static_body class []) e
  pub of_its_type : same_type (ty_of e) f.ty ≡ true

abbrev pub is_interface : Option CoreClass → Bool
is_interface None = false
is_interface (Some class) = is_interface_sort class.kind.sort

pub record FieldFits (program : CoreProgram) (class : ClassId) (f : CoreField) : Type 0 where
  pub type : is_variable_type program f.ty ≡ true
  pub of_interface : is_interface (class_at program class) ≡ true → f.is_static ≡ true
  pub constant : (e : Core) → f.constant ≡ Some e → ConstantFits program class f e

-- ---- bodies

abbrev pub is_block : core.CoreStmtForm → Bool
is_block (core.Block locals parts) = true
is_block _ = false

-- The constructor call at the head of a constructor, of its own class or of the superclass (JLS 8.8.7.1).
pub data HeadFits (program : CoreProgram) (body : Body) (superclass : Option ClassId) : Core → Type 0 where
  head_call : {o : Core} {c : ClassId} {n : ℕ} {args : Cores} {m : CoreMethod} {span at : Span} → is_this o ≡ true → Fits program body o → (c ≡ body.class) ⊎ (superclass ≡ Some c) →
      method_at program c n ≡ Some m → is_constructor program m ≡ true → AllFit program body args → all_agree program (types_of (list_of args)) m.params ≡ true →
      HeadFits program body superclass (node (core.CallExact (a_core o) c n args) void span at)

-- A body is a block. That of a constructor may begin with the call of another one.
pub data BodyFits (program : CoreProgram) (body : Body) (superclass : Option ClassId) : CoreStmt → Type 0 where
  a_block : {locals : List ℕ} {parts : CoreStmts} {span at : Span} → StatementFits program body no_targets (stmt (core.Block locals parts) span at) →
      BodyFits program body superclass (stmt (core.Block locals parts) span at)
  behind_a_call : {locals : List ℕ} {call : Core} {parts : CoreStmts} {span at span' at' : Span} → body.code ≡ constructor → LocalsThere program body locals →
      HeadFits program body superclass call → StatementsFit program body no_targets parts →
      BodyFits program body superclass (stmt (core.Block locals (more_stmts (stmt (core.Do call) span' at') parts)) span at)

-- ---- methods

abbrev pub code_of : Bool → Code
code_of true = constructor
code_of false = method

abbrev pub body_of : CoreProgram → ClassId → CoreMethod → Body
body_of program class m =
    record { class = class; code = code_of (is_constructor program m); is_static = m.flags.is_static; locals = local_types m.locals; returns = Some m.returns }

-- the one result can stand for the other: the same primitive, void for void, or a subtype (JLS 8.4.5)
abbrev pub results_agree : CoreProgram → Ty → Ty → Bool
results_agree program s t = agrees program s t || (is_void s && is_void t)

-- One method stands for another of its signature: neither is static, and the result agrees.
pub record StandsFor (program : CoreProgram) (m k : CoreMethod) : Type 0 where
  pub own : m.flags.is_static ≡ false
  pub above : k.flags.is_static ≡ false
  pub result : results_agree program m.returns k.returns ≡ true

-- a method that one of a class above overrides or implements
pub record IsOverridden (program : CoreProgram) (class : ClassId) (m : CoreMethod) (above : ClassId) (at : ℕ) (k : CoreMethod) : Type 0 where
  pub there : method_at program above at ≡ Some k
  pub is_above : is_below program class above ≡ true
  pub no_hiding : (m.flags.is_static && k.flags.is_static) ≡ false
  pub alike : same_signature m k ≡ true
  pub not_private : is_private k ≡ false
  pub no_constructor : is_constructor program k ≡ false

pub record ConstructorFits (m : CoreMethod) : Type 0 where
  pub own : m.flags.is_static ≡ false
  pub concrete : m.flags.is_abstract ≡ false
  pub result : is_void m.returns ≡ true

pub record MethodFits (program : CoreProgram) (class : ClassId) (c : CoreClass) (m : CoreMethod) : Type 0 where
  pub params : AreVariables program m.params
  pub result : (is_void m.returns || is_variable_type program m.returns) ≡ true
  pub throws : All (λ d. is_some (class_at program d) ≡ true) m.throws
  pub has_body : is_some m.body ≡ (is_guest class && not (m.flags.is_abstract || m.flags.is_native))
  pub locals : AreVariables program (local_types m.locals)
  pub first_locals : is_some m.body ≡ true → take (length m.params) (local_types m.locals) ≡ m.params
  pub of_interface : is_interface_sort c.kind.sort ≡ true → m.flags.is_abstract ≡ true
  pub constructor : is_constructor program m ≡ true → ConstructorFits m
  pub overrides : (above : ClassId) (at : ℕ) (k : CoreMethod) → IsOverridden program class m above at k → StandsFor program m k
  pub body : (s : CoreStmt) → m.body ≡ Some s → BodyFits program (body_of program class m) c.superclass s

-- ---- initializers

abbrev pub initializer_code : Bool → Code
initializer_code true = static_initializer
initializer_code false = instance_initializer

abbrev pub initializer_body : ClassId → CoreInitializer → Body
initializer_body class i = record { class = class; code = initializer_code i.is_static; is_static = i.is_static; locals = local_types i.locals; returns = None }

pub record InitializerFits (program : CoreProgram) (class : ClassId) (i : CoreInitializer) : Type 0 where
  pub locals : AreVariables program (local_types i.locals)
  pub body : StatementFits program (initializer_body class i) no_targets i.body
