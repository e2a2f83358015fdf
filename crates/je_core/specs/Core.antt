-- The core program without addresses: the trees that evaluation, typing, flow and the rules are defined on. Each name
-- is that of the Rust type or variant which is seen as it (View.antt).
use Rattle.std.specs.Prelude.{ℕ, ℤ, Bool, List, [], ◌∷◌, Option, Some, None}
use Rattle.je_core.specs.declared.expr.BinOp.{BinOp}
use Rattle.je_core.specs.declared.expr.UnOp.{UnOp}
use Rattle.je_core.specs.declared.expr.Use.{Use}
use Rattle.je_core.specs.declared.program.Access.{Access}
use Rattle.je_core.specs.declared.program.Bridge.{Bridge}
use Rattle.je_core.specs.declared.program.Flags.{Flags}
use Rattle.je_core.specs.declared.program.Head.{Head}
use Rattle.je_core.specs.declared.program.Kind.{Kind}
use Rattle.je_core.specs.declared.program.Local.{Local as LocalOf}
use Rattle.je_base.specs.declared.span.NameId.{NameId}
use Rattle.je_base.specs.declared.span.Span.{Span}
use Rattle.je_core.specs.declared.types.ClassId.{ClassId}
use Rattle.je_core.specs.declared.types.Ty.{Ty}
use Rattle.je_core.specs.declared.value.Value.{Value}

-- what a hidden field of a new instance begins with: the value of a local, or `this` where there is none, and from
-- there field after field
pub record CoreCapture : Type 0 where
  pub class : ClassId
  pub field : ℕ
  pub local : Option ℕ
  pub path : List (ClassId × ℕ)

mutual
  -- an expression: its form, its erased type, its span, and the token that a rule points to
  pub data Core : Type 0 where
    node : CoreForm → Ty → Span → Span → Core

  -- an expression's form, with its parts in the order in which they are evaluated
  pub data CoreForm : Type 0 where
    Const : Value → List Use → CoreForm
    Text : List ℕ → List Use → CoreForm
    Local : ℕ → CoreForm
    This : CoreForm
    Field : Core → ClassId → ℕ → CoreForm
    Static : MaybeCore → ClassId → ℕ → CoreForm
    Index : Core → Core → CoreForm
    Length : Core → CoreForm
    Assign : Core → Core → CoreForm
    Update : Core → BinOp → MaybeCore → Bool → CoreForm
    Unary : UnOp → Core → CoreForm
    Binary : BinOp → Core → Core → CoreForm
    And : Core → Core → CoreForm
    Or : Core → Core → CoreForm
    Choose : Core → Core → Core → CoreForm
    Convert : Core → CoreForm
    Cast : Core → CoreForm
    InstanceOf : Core → Ty → CoreForm
    Concat : Core → Core → CoreForm
    CallVirtual : Core → ClassId → ℕ → Cores → CoreForm
    CallExact : MaybeCore → ClassId → ℕ → Cores → CoreForm
    New : ClassId → ℕ → Cores → List CoreCapture → Span → CoreForm
    NewArray : Cores → CoreForm
    ArrayOf : Cores → CoreForm

  pub data Cores : Type 0 where
    none : Cores
    more : Core → Cores → Cores

  pub data MaybeCore : Type 0 where
    no_core : MaybeCore
    a_core : Core → MaybeCore

-- a label of a switch; `default` has no value
pub record CoreLabel : Type 0 where
  pub value : Option ℤ
  pub uses : List Use
  pub span : Span

mutual
  -- a statement: its form, its span, and the token that a rule points to
  pub data CoreStmt : Type 0 where
    stmt : CoreStmtForm → Span → Span → CoreStmt

  pub data CoreStmtForm : Type 0 where
    Empty : CoreStmtForm
    Block : List ℕ → CoreStmts → CoreStmtForm
    Do : Core → CoreStmtForm
    If : Core → CoreStmt → MaybeStmt → CoreStmtForm
    Loop : Core → List Core → CoreStmt → CoreStmtForm
    DoLoop : CoreStmt → Core → CoreStmtForm
    Switch : List ℕ → Core → CoreGroups → CoreStmtForm
    Labelled : NameId → CoreStmt → CoreStmtForm
    Jump : Bool → Option NameId → CoreStmtForm
    Return : Option Core → CoreStmtForm
    Throw : Core → CoreStmtForm
    Try : CoreStmt → CoreCatches → MaybeStmt → CoreStmtForm

  pub data CoreStmts : Type 0 where
    no_stmts : CoreStmts
    more_stmts : CoreStmt → CoreStmts → CoreStmts

  pub data MaybeStmt : Type 0 where
    no_stmt : MaybeStmt
    a_stmt : CoreStmt → MaybeStmt

  -- the labels of a group, and its statements
  pub data CoreGroup : Type 0 where
    group : List CoreLabel → CoreStmts → CoreGroup

  pub data CoreGroups : Type 0 where
    no_groups : CoreGroups
    more_groups : CoreGroup → CoreGroups → CoreGroups

  -- the local of a catch, the class that it takes, the span of that class's name, and its block
  pub data CoreCatch : Type 0 where
    catch : ℕ → ClassId → Span → CoreStmt → CoreCatch

  pub data CoreCatches : Type 0 where
    no_catches : CoreCatches
    more_catches : CoreCatch → CoreCatches → CoreCatches

pub record CoreField : Type 0 where
  pub name : NameId
  pub span : Span
  pub ty : Ty
  pub is_static : Bool
  pub is_final : Bool
  pub access : Access
  pub constant : Option Core

pub record CoreInitializer : Type 0 where
  pub is_static : Bool
  pub span : Span
  pub locals : List LocalOf
  pub body : CoreStmt

pub record CoreMethod : Type 0 where
  pub name : NameId
  pub span : Span
  pub params : List Ty
  pub returns : Ty
  pub flags : Flags
  pub throws : List ClassId
  pub locals : List LocalOf
  pub body : Option CoreStmt

pub record CoreClass : Type 0 where
  pub name : NameId
  pub span : Span
  pub kind : Kind
  pub superclass : Option ClassId
  pub interfaces : List ClassId
  pub heads : List Head
  pub fields : List CoreField
  pub initializers : List CoreInitializer
  pub methods : List CoreMethod
  pub enclosing : Option ClassId
  pub captured : ℕ
  pub within : Option ClassId
  pub nth : ℕ
  pub top : ClassId
  pub bridges : List Bridge

pub record CoreProgram : Type 0 where
  pub classes : List CoreClass
  pub texts : List (List ℕ)

abbrev pub form_of : Core → CoreForm
form_of (node form ty span at) = form

abbrev pub ty_of : Core → Ty
ty_of (node form ty span at) = ty

abbrev pub stmt_form_of : CoreStmt → CoreStmtForm
stmt_form_of (stmt form span at) = form

-- lists of trees, there and back

abbrev pub list_of : Cores → List Core
list_of none = []
list_of (more e es) = e ∷ list_of es

abbrev pub cores : List Core → Cores
cores [] = none
cores (e ∷ es) = more e (cores es)

abbrev pub option_of : MaybeCore → Option Core
option_of no_core = None
option_of (a_core e) = Some e

abbrev pub maybe_core : Option Core → MaybeCore
maybe_core None = no_core
maybe_core (Some e) = a_core e

abbrev pub stmt_list_of : CoreStmts → List CoreStmt
stmt_list_of no_stmts = []
stmt_list_of (more_stmts s ss) = s ∷ stmt_list_of ss

abbrev pub core_stmts : List CoreStmt → CoreStmts
core_stmts [] = no_stmts
core_stmts (s ∷ ss) = more_stmts s (core_stmts ss)

abbrev pub maybe_stmt : Option CoreStmt → MaybeStmt
maybe_stmt None = no_stmt
maybe_stmt (Some s) = a_stmt s

abbrev pub stmt_option_of : MaybeStmt → Option CoreStmt
stmt_option_of no_stmt = None
stmt_option_of (a_stmt s) = Some s

abbrev pub group_list_of : CoreGroups → List CoreGroup
group_list_of no_groups = []
group_list_of (more_groups g gs) = g ∷ group_list_of gs

abbrev pub core_groups : List CoreGroup → CoreGroups
core_groups [] = no_groups
core_groups (g ∷ gs) = more_groups g (core_groups gs)

abbrev pub catch_list_of : CoreCatches → List CoreCatch
catch_list_of no_catches = []
catch_list_of (more_catches c cs) = c ∷ catch_list_of cs

abbrev pub core_catches : List CoreCatch → CoreCatches
core_catches [] = no_catches
core_catches (c ∷ cs) = more_catches c (core_catches cs)
