-- When a statement fits where it stands (JLS 14).
use Rattle.std.specs.Prelude.{◌≡◌, ℕ, ◌<◌, Bool, true, false, ◌||◌, List, [], ◌∷◌, length, Option, Some, None, slice_get, if◌then◌else◌}
use Rattle.std.specs.List.{All}
use Rattle.je_base.specs.declared.span.NameId.{NameId}
use Rattle.je_base.specs.declared.span.Span.{Span}
use Rattle.je_core.specs.declared.types.Base.TheVariants as base
use Rattle.je_core.specs.declared.types.ClassId.{ClassId}
use Rattle.je_core.specs.declared.types.Ty.{Ty}
use Rattle.je_core.specs.Core.{Core, CoreStmt, CoreStmts, MaybeStmt, CoreLabel, CoreGroups, CoreCatches, CoreProgram, stmt, no_stmts, more_stmts, no_stmt, a_stmt, group, no_groups, more_groups, catch, no_catches, more_catches, ty_of, stmt_form_of}
use Rattle.je_core.specs.Core as core
use Rattle.je_classes.specs.Subtypes.{class_type, same_type, is_subtype}
use Rattle.je_classes.specs.Members.{same_name}
use Rattle.je_fitting.specs.Types.{of, int, void, throwable, is_bool, agrees}
use Rattle.je_fitting.specs.Expressions.{Body, Fits, are_there}

-- a label in scope, and whether it stands before a loop
pub record Label : Type 0 where
  pub name : NameId
  pub is_loop : Bool

-- where a jump can go: the labels round it, the innermost first, and whether a loop or a switch, and a loop, stand round it
pub record Targets : Type 0 where
  pub labels : List Label
  pub has_break : Bool
  pub has_continue : Bool

abbrev pub no_targets : Targets
no_targets = record { labels = []; has_break = false; has_continue = false }

abbrev pub in_loop : Targets → Targets
in_loop j = record j { has_break = true; has_continue = true }

abbrev pub in_switch : Targets → Targets
in_switch j = record j { has_break = true }

abbrev pub is_loop_form : core.CoreStmtForm → Bool
is_loop_form (core.Loop c steps body) = true
is_loop_form (core.DoLoop body c) = true
is_loop_form _ = false

abbrev pub labelled_by : NameId → CoreStmt → Targets → Targets
labelled_by name s j = record j { labels = record { name = name; is_loop = is_loop_form (stmt_form_of s) } ∷ j.labels }

abbrev pub label_of : List Label → NameId → Option Bool
label_of [] name = None
label_of (l ∷ ls) name = if same_name l.name name then Some l.is_loop else label_of ls name

-- what a switch selects by (JLS 14.11)
abbrev pub is_selector : Ty → Bool
is_selector t = same_type t int || same_type t (of base.Char) || same_type t (of base.Short) || same_type t (of base.Byte)

module _ (program : CoreProgram) (body : Body) where
  -- the value of a return: none where the result is void
  pub data Gives : Ty → Option Core → Type 0 where
    no_value : Gives void None
    a_value : {t : Ty} {e : Core} → Fits program body e → agrees program (ty_of e) t ≡ true → Gives t (Some e)

  abbrev pub LocalsThere : List ℕ → Type 0
  LocalsThere ns = All (λ n. n < length body.locals) ns

  mutual
    pub data StatementFits : Targets → CoreStmt → Type 0 where
      empty : {j : Targets} {span at : Span} → StatementFits j (stmt core.Empty span at)
      block : {j : Targets} {locals : List ℕ} {parts : CoreStmts} {span at : Span} → LocalsThere locals → StatementsFit j parts → StatementFits j (stmt (core.Block locals parts) span at)
      perform : {j : Targets} {e : Core} {span at : Span} → Fits program body e → StatementFits j (stmt (core.Do e) span at)
      if_then : {j : Targets} {c : Core} {yes : CoreStmt} {no : MaybeStmt} {span at : Span} → Fits program body c → is_bool (ty_of c) ≡ true → StatementFits j yes → MaybeFits j no →
          StatementFits j (stmt (core.If c yes no) span at)
      loop : {j : Targets} {c : Core} {steps : List Core} {inner : CoreStmt} {span at : Span} → Fits program body c → is_bool (ty_of c) ≡ true → All (Fits program body) steps →
          StatementFits (in_loop j) inner → StatementFits j (stmt (core.Loop c steps inner) span at)
      do_loop : {j : Targets} {c : Core} {inner : CoreStmt} {span at : Span} → StatementFits (in_loop j) inner → Fits program body c → is_bool (ty_of c) ≡ true →
          StatementFits j (stmt (core.DoLoop inner c) span at)
      switch : {j : Targets} {locals : List ℕ} {selector : Core} {groups : CoreGroups} {span at : Span} → LocalsThere locals → Fits program body selector → is_selector (ty_of selector) ≡ true →
          GroupsFit (in_switch j) groups → StatementFits j (stmt (core.Switch locals selector groups) span at)
      labelled : {j : Targets} {name : NameId} {inner : CoreStmt} {span at : Span} → StatementFits (labelled_by name inner j) inner → StatementFits j (stmt (core.Labelled name inner) span at)
      break : {j : Targets} {span at : Span} → j.has_break ≡ true → StatementFits j (stmt (core.Jump false None) span at)
      break_to : {j : Targets} {name : NameId} {is_loop : Bool} {span at : Span} → label_of j.labels name ≡ Some is_loop → StatementFits j (stmt (core.Jump false (Some name)) span at)
      continue : {j : Targets} {span at : Span} → j.has_continue ≡ true → StatementFits j (stmt (core.Jump true None) span at)
      continue_to : {j : Targets} {name : NameId} {span at : Span} → label_of j.labels name ≡ Some true → StatementFits j (stmt (core.Jump true (Some name)) span at)
      return : {j : Targets} {t : Ty} {value : Option Core} {span at : Span} → body.returns ≡ Some t → Gives t value → StatementFits j (stmt (core.Return value) span at)
      throw : {j : Targets} {e : Core} {span at : Span} → Fits program body e → is_subtype program (ty_of e) throwable ≡ true → StatementFits j (stmt (core.Throw e) span at)
      try : {j : Targets} {inner : CoreStmt} {catches : CoreCatches} {last : MaybeStmt} {span at : Span} → StatementFits j inner → CatchesFit j catches → MaybeFits j last →
          StatementFits j (stmt (core.Try inner catches last) span at)

    pub data StatementsFit : Targets → CoreStmts → Type 0 where
      no_statements : {j : Targets} → StatementsFit j no_stmts
      more_statements : {j : Targets} {s : CoreStmt} {ss : CoreStmts} → StatementFits j s → StatementsFit j ss → StatementsFit j (more_stmts s ss)

    pub data MaybeFits : Targets → MaybeStmt → Type 0 where
      no_statement : {j : Targets} → MaybeFits j no_stmt
      a_statement : {j : Targets} {s : CoreStmt} → StatementFits j s → MaybeFits j (a_stmt s)

    pub data GroupsFit : Targets → CoreGroups → Type 0 where
      no_more_groups : {j : Targets} → GroupsFit j no_groups
      one_more_group : {j : Targets} {labels : List CoreLabel} {parts : CoreStmts} {gs : CoreGroups} → All (λ (l : CoreLabel). are_there program l.uses) labels → StatementsFit j parts → GroupsFit j gs →
          GroupsFit j (more_groups (group labels parts) gs)

    pub data CatchesFit : Targets → CoreCatches → Type 0 where
      no_more_catches : {j : Targets} → CatchesFit j no_catches
      one_more_catch : {j : Targets} {local : ℕ} {class : ClassId} {t : Ty} {inner : CoreStmt} {cs : CoreCatches} {span : Span} → slice_get body.locals local ≡ Some t → agrees program (class_type class) t ≡ true →
          is_subtype program (class_type class) throwable ≡ true → StatementFits j inner → CatchesFit j cs → CatchesFit j (more_catches (catch local class span inner) cs)
