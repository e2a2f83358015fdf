-- What a walk over a body comes to: fields of `this`, and the classes that stand directly in the body (JLS 14.3, 15.9.5).
--
-- The core program has no node for the declaration of a local class. By its name it stands in a list of statements: before the first
-- one that begins behind the name, or else at the list's end. So a walk takes the local classes in the order of the text.
use Rattle.std.specs.Prelude.{ℕ, Bool, true, false, List, [], ◌∷◌, ◌++◌, length, take, Option, Some, None, nat_lt, if◌then◌else◌}
use Rattle.je_base.specs.declared.span.Span.{Span}
use Rattle.je_core.specs.declared.program.Local.{Local}
use Rattle.je_core.specs.declared.types.ClassId.{ClassId}
use Rattle.je_core.specs.Core.{Core, CoreForm, Cores, MaybeCore, CoreStmt, CoreStmtForm, CoreStmts, MaybeStmt, CoreLabel, CoreGroup, CoreGroups, CoreCatch, CoreCatches, CoreClass, CoreProgram}
use Rattle.je_core.specs.Core.{node, none, more, no_core, a_core, stmt, no_stmts, more_stmts, no_stmt, a_stmt, group, no_groups, more_groups, catch, no_catches, more_catches, form_of, option_of}
use Rattle.je_core.specs.Core as core
use Rattle.je_classes.specs.Hierarchy.{class_at}
use Rattle.captured_reads.specs.declared.nesting.LocalClass.{LocalClass}
use Rattle.captured_reads.specs.declared.scopes.LocalName.{LocalName}
use Rattle.captured_reads.specs.Nesting.{is_anonymous, local_classes}
use Rattle.captured_reads.specs.Scopes.{first_locals, names_at}

-- A class that stands in a body. Its home is the first token of the list of statements that a local class stands in, and `names` are
-- those of the body's locals in scope there that it captures.
pub record Placed : Type 0 where
  pub class : ClassId
  pub span : Span
  pub home : Option Span
  pub names : List LocalName

pub data Met : Type 0 where
  -- a field of `this`, and where it is named
  a_field : ClassId → ℕ → Span → Met
  a_class : Placed → Met

-- What a walk has come to, the local classes that it has still to come to, and the locals that the blocks round it declare.
pub record Walk : Type 0 where
  pub met : List Met
  pub ahead : List LocalClass
  pub scope : List ℕ

abbrev pub coming_to : Met → Walk → Walk
coming_to m w = record w { met = w.met ++ m ∷ [] }

abbrev pub opened : List ℕ → Walk → Walk
opened numbers w = record w { scope = w.scope ++ numbers }

-- behind a block, with as many locals in scope as before it
abbrev pub closed : ℕ → Walk → Walk
closed count w = record w { scope = take count w.scope }

-- ---- expressions: fields of `this`, and the classes of bodies behind `new` (15.9.5)

abbrev pub is_this : CoreForm → Bool
is_this core.This = true
is_this _ = false

abbrev pub past_field : CoreForm → ClassId → ℕ → Span → Walk → Walk
past_field object class field span w = if is_this object then coming_to (a_field class field span) w else w

-- ---- statements: the span of each is its first token

abbrev pub start_of : CoreStmt → ℕ
start_of (stmt form span at) = span.start

abbrev pub first_label : List CoreLabel → Option Span
first_label [] = None
first_label (l ∷ ls) = Some l.span

abbrev pub start_or : ℕ → Option Span → ℕ
start_or end None = end
start_or end (Some span) = span.start

abbrev pub group_start : ℕ → CoreGroup → ℕ
group_start end (group labels parts) = start_or end (first_label labels)

-- where the statements of a group end, by the groups behind it and the end of the switch
abbrev pub group_end : ℕ → CoreGroups → ℕ
group_end end no_groups = end
group_end end (more_groups g gs) = group_start end g

-- the local classes whose names stand behind a place
abbrev pub classes_behind : ℕ → List LocalClass → List LocalClass
classes_behind start [] = []
classes_behind start (c ∷ cs) = if nat_lt start c.span.start then c ∷ cs else classes_behind start cs

-- `locals` are those of the body
module _ (program : CoreProgram) (locals : List Local) where
  -- ---- local classes (14.3)

  abbrev pub placed : Option Span → List ℕ → ClassId → Span → Met
  placed home scope class span =
      a_class (record { class = class; span = span; home = home; names = names_at locals scope span (class_at program class) })

  -- past the local classes whose names stand before a place
  abbrev pub past_classes : Option Span → ℕ → List ℕ → List Met → List LocalClass → Walk
  past_classes home end scope met [] = record { met = met; ahead = []; scope = scope }
  past_classes home end scope met (c ∷ cs) =
      if nat_lt c.span.start end then past_classes home end scope (met ++ placed home scope c.class c.span ∷ []) cs
      else record { met = met; ahead = c ∷ cs; scope = scope }

  abbrev pub up_to : Option Span → ℕ → Walk → Walk
  up_to home end w = past_classes home end w.scope w.met w.ahead

  abbrev pub past_new_of : ClassId → Option CoreClass → Walk → Walk
  past_new_of class None w = w
  past_new_of class (Some c) w = if is_anonymous c.kind.sort then coming_to (placed None w.scope class c.span) w else w

  abbrev pub past_new : ClassId → Walk → Walk
  past_new class w = past_new_of class (class_at program class) w

  abbrev mutual
    pub past : Walk → Core → Walk
    past w (node form ty span at) = past_form span w form

    pub past_form : Span → Walk → CoreForm → Walk
    past_form span w (core.Const value uses) = w
    past_form span w (core.Text units uses) = w
    past_form span w (core.Local local) = w
    past_form span w core.This = w
    past_form span w (core.Field object class field) = past_field (form_of object) class field span (past w object)
    past_form span w (core.Static object class field) = past_maybe w object
    past_form span w (core.Index array index) = past (past w array) index
    past_form span w (core.Length array) = past w array
    past_form span w (core.Assign place value) = past (past w place) value
    past_form span w (core.Update place op operand gives_old) = past_maybe (past w place) operand
    past_form span w (core.Unary op operand) = past w operand
    past_form span w (core.Binary op left right) = past (past w left) right
    past_form span w (core.And left right) = past (past w left) right
    past_form span w (core.Or left right) = past (past w left) right
    past_form span w (core.Choose condition chosen other) = past (past (past w condition) chosen) other
    past_form span w (core.Convert operand) = past w operand
    past_form span w (core.Cast operand) = past w operand
    past_form span w (core.InstanceOf operand of) = past w operand
    past_form span w (core.Concat left right) = past (past w left) right
    past_form span w (core.CallVirtual receiver class method args) = past_all (past w receiver) args
    past_form span w (core.CallExact receiver class method args) = past_all (past_maybe w receiver) args
    past_form span w (core.New class method args captures word) = past_new class (past_all w args)
    past_form span w (core.NewArray lengths) = past_all w lengths
    past_form span w (core.ArrayOf values) = past_all w values

    pub past_all : Walk → Cores → Walk
    past_all w none = w
    past_all w (more e es) = past_all (past w e) es

    pub past_maybe : Walk → MaybeCore → Walk
    past_maybe w no_core = w
    past_maybe w (a_core e) = past w e

  abbrev pub past_each : Walk → List Core → Walk
  past_each w [] = w
  past_each w (e ∷ es) = past_each (past w e) es

  abbrev pub past_value : Walk → Option Core → Walk
  past_value w None = w
  past_value w (Some e) = past w e

  -- ---- statements

  abbrev mutual
    pub past_statement : Walk → CoreStmt → Walk
    past_statement w (stmt form span at) = past_statement_form span at w form

    pub past_statement_form : Span → Span → Walk → CoreStmtForm → Walk
    past_statement_form span at w core.Empty = w
    past_statement_form span at w (core.Block numbers parts) =
        closed (length w.scope) (past_parts (Some span) at.start (opened numbers w) parts)
    past_statement_form span at w (core.Do e) = past w e
    past_statement_form span at w (core.If condition chosen other) = past_part (past_statement (past w condition) chosen) other
    past_statement_form span at w (core.Loop condition steps body) = past_statement (past_each (past w condition) steps) body
    past_statement_form span at w (core.DoLoop body condition) = past (past_statement w body) condition
    past_statement_form span at w (core.Switch numbers selector groups) =
        closed (length w.scope) (past_groups at.start (opened numbers (past w selector)) groups)
    past_statement_form span at w (core.Labelled name body) = past_statement w body
    past_statement_form span at w (core.Jump again label) = w
    past_statement_form span at w (core.Return value) = past_value w value
    past_statement_form span at w (core.Throw e) = past w e
    past_statement_form span at w (core.Try body catches last) = past_part (past_catches (past_statement w body) catches) last

    -- a list of statements, its first token, and where it ends
    pub past_parts : Option Span → ℕ → Walk → CoreStmts → Walk
    past_parts home end w no_stmts = up_to home end w
    past_parts home end w (more_stmts s ss) = past_parts home end (past_statement (up_to home (start_of s) w) s) ss

    pub past_part : Walk → MaybeStmt → Walk
    past_part w no_stmt = w
    past_part w (a_stmt s) = past_statement w s

    pub past_groups : ℕ → Walk → CoreGroups → Walk
    past_groups end w no_groups = w
    past_groups end w (more_groups g gs) = past_groups end (past_group (group_end end gs) w g) gs

    pub past_group : ℕ → Walk → CoreGroup → Walk
    past_group end w (group labels parts) = past_parts (first_label labels) end w parts

    pub past_catches : Walk → CoreCatches → Walk
    past_catches w no_catches = w
    past_catches w (more_catches c cs) = past_catches (past_catch w c) cs

    pub past_catch : Walk → CoreCatch → Walk
    past_catch w (catch local class span body) = closed (length w.scope) (past_statement (opened (local ∷ []) w) body)

  -- ---- bodies

  -- before a body of a class, with so many parameters
  abbrev pub at_body : ClassId → ℕ → CoreStmt → Walk
  at_body class params body = record {
    met = [];
    ahead = classes_behind (start_of body) (local_classes program class);
    scope = first_locals params;
  }

  unfoldable pub met_in : ClassId → ℕ → CoreStmt → List Met
  met_in class params body = (past_statement (at_body class params body) body).met
