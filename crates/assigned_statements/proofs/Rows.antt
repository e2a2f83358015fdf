-- Worked examples: the first fault of a body by each of the two rules.
use Rattle.std.proofs.Common.{◌≡◌, ℕ, Bool, true, false, List, [], ◌∷◌, Option, Some, None, refl}
use Rattle.std.specs.Prelude.{pos, ◌+◌}
use Rattle.je_base.specs.declared.span.NameId.{NameId}
use Rattle.je_base.specs.declared.span.Span.{Span}
use Rattle.je_core.specs.declared.types.Base.TheVariants as base
use Rattle.je_core.specs.declared.types.Ty.{Ty}
use Rattle.je_core.specs.declared.value.Value.TheVariants as value
use Rattle.je_core.specs.Core.{Core, CoreForm, CoreStmt, CoreStmtForm, CoreGroup, node, no_core, cores, stmt, core_stmts, no_stmt, a_stmt, group, core_groups, no_catches, more_catches, catch}
use Rattle.je_core.specs.Core as core
use Rattle.captured_reads.specs.Standing.{Standing}
use Rattle.flow_base.specs.declared.faults.FaultKind.TheVariants as kind
use Rattle.flow_base.specs.declared.faults.FlowFault.{FlowFault}
use Rattle.flow_base.specs.way.Kept.{first_of}
use Rattle.variable_sets.specs.Sets.{everything, nothing, both, either, adding, removing}
use Rattle.variable_sets.specs.ExitSets.{no_exits, exit_by, met, beyond, gaining, limited}
use Rattle.assignment_rules.specs.declared.rules.Rule.{Rule}
use Rattle.assignment_rules.specs.declared.rules.Rule.TheVariants.{Assigned, Unassigned}
use Rattle.assignment_rules.specs.Rules.{none_marked}
use Rattle.assigned_expressions.specs.Expressions.{whole, when_true, when_false}
use Rattle.assigned_statements.specs.Statements.{statement_faults}

abbrev place : ℕ → Span
place n = record { file = 0; start = n; end = n + 1 }

abbrev int : Ty
int = record { base = base.Int; dims = 0 }

abbrev e : ℕ → CoreForm → Core
e n form = node form int (place n) (place n)

abbrev s : CoreStmtForm → CoreStmt
s form = stmt form (place 0) (place 0)

abbrev block : List CoreStmt → CoreStmt
block ss = s (core.Block [] (core_stmts ss))

-- `x = 1` and `x = 1;`, with the name at a place, and a statement that reads `x`
abbrev assigning : ℕ → Core
assigning n = e 0 (core.Assign (e n (core.Local 0)) (e 0 (core.Const (value.Int (pos 1)) [])))

abbrev assign : ℕ → CoreStmt
assign n = s (core.Do (assigning n))

abbrev read : ℕ → CoreStmt
read n = s (core.Do (e n (core.Local 0)))

-- a condition that is no constant, and two that are
abbrev test : Core
test = e 0 (core.Static no_core (record { 0 = 0 }) 0)

abbrev is : Bool → Core
is b = e 0 (core.Const (value.Bool b) [])

abbrev break : CoreStmt
break = s (core.Jump false None)

-- `{ final int x; .. }`
abbrev first : Rule → List CoreStmt → Option FlowFault
first rule ss = first_of None (statement_faults (record { rule = rule; home = None; finals = everything; standing = [] }) None (none_marked rule) (s (core.Block (0 ∷ []) (core_stmts ss))))

abbrev not_assigned : ℕ → Option FlowFault
not_assigned n = Some (record { kind = kind.NotAssigned; span = place n })

abbrev assigned_twice : ℕ → Option FlowFault
assigned_twice n = Some (record { kind = kind.AssignedTwice; span = place n })

-- `if (b) x = 1; x`, with `else x = 1;`, and with `else return;`
row-1 : first Assigned (s (core.If test (assign 1) no_stmt) ∷ read 2 ∷ []) ≡ not_assigned 2
unfolding nothing both adding removing everything no_exits met whole when_true when_false
row-1 = refl

row-2 : first Assigned (s (core.If test (assign 1) (a_stmt (assign 3))) ∷ read 2 ∷ []) ≡ None
unfolding nothing both adding removing everything no_exits met whole when_true when_false
row-2 = refl

row-3 : first Assigned (s (core.If test (assign 1) (a_stmt (s (core.Return None)))) ∷ read 2 ∷ []) ≡ None
unfolding nothing both adding removing everything no_exits exit_by met whole when_true when_false
row-3 = refl

-- `if (b && (x = 1) == ..) x;`, and with `||`: here the operand is the assignment itself
row-4 : first Assigned (s (core.If (e 0 (core.And test (assigning 1))) (read 2) no_stmt) ∷ []) ≡ None
unfolding nothing both adding removing everything no_exits met whole when_true when_false
row-4 = refl

row-5 : first Assigned (s (core.If (e 0 (core.Or test (assigning 1))) (read 2) no_stmt) ∷ []) ≡ not_assigned 2
unfolding nothing both adding removing everything no_exits met whole when_true when_false
row-5 = refl

-- `while (true) ; x`, and with `break;`
row-6 : first Assigned (s (core.Loop (is true) [] (s core.Empty)) ∷ read 2 ∷ []) ≡ None
unfolding nothing both adding removing everything no_exits met beyond whole when_true when_false
row-6 = refl

row-7 : first Assigned (s (core.Loop (is true) [] break) ∷ read 2 ∷ []) ≡ not_assigned 2
unfolding nothing both adding removing everything no_exits exit_by met beyond whole when_true when_false
row-7 = refl

-- `try { } finally { x = 1; } x`
row-8 : first Assigned (s (core.Try (block []) no_catches (a_stmt (block (assign 1 ∷ [])))) ∷ read 2 ∷ []) ≡ None
unfolding nothing both either adding removing everything no_exits met gaining whole when_true when_false
row-8 = refl

-- `if (false) { int x; x }`, where no run comes
row-9 : first Assigned (s (core.If (is false) (s (core.Block (0 ∷ []) (core_stmts (read 2 ∷ [])))) no_stmt) ∷ []) ≡ not_assigned 2
unfolding nothing both adding removing everything no_exits met when_true when_false
row-9 = refl

-- `x = 1; x = 1;`, and `if (b) x = 1; else x = 1;`
row-10 : first Unassigned (assign 1 ∷ assign 2 ∷ []) ≡ assigned_twice 2
unfolding both adding removing everything no_exits met whole
row-10 = refl

row-11 : first Unassigned (s (core.If test (assign 1) (a_stmt (assign 2))) ∷ []) ≡ None
unfolding both adding removing everything no_exits met whole when_true when_false
row-11 = refl

-- `while (b) x = 1;`, with `break;` behind it, and with `x` declared in the body
row-12 : first Unassigned (s (core.Loop test [] (assign 1)) ∷ []) ≡ assigned_twice 1
unfolding both adding removing everything no_exits met whole when_true when_false
row-12 = refl

row-13 : first Unassigned (s (core.Loop test [] (block (assign 1 ∷ break ∷ []))) ∷ []) ≡ None
unfolding both adding removing everything no_exits exit_by met whole when_true when_false
row-13 = refl

row-14 : first Unassigned (s (core.Loop test [] (s (core.Block (0 ∷ []) (core_stmts (assign 1 ∷ []))))) ∷ []) ≡ None
unfolding both adding removing everything no_exits met whole when_true when_false
row-14 = refl

-- `do x = 1; while (b);`, and with `while (false)`
row-15 : first Unassigned (s (core.DoLoop (assign 1) test) ∷ []) ≡ assigned_twice 1
unfolding both adding removing everything no_exits met whole when_true when_false
row-15 = refl

row-16 : first Unassigned (s (core.DoLoop (assign 1) (is false)) ∷ []) ≡ None
unfolding both adding removing everything no_exits met whole when_true when_false
row-16 = refl

-- `try { x = 1; } catch (E e) { x = 1; }`, and with nothing in the block
row-17 : first Unassigned (s (core.Try (block (assign 1 ∷ [])) (more_catches (catch 5 (record { 0 = 0 }) (place 0) (block (assign 2 ∷ []))) no_catches) no_stmt) ∷ []) ≡ assigned_twice 2
unfolding both adding removing everything no_exits met whole
row-17 = refl

row-18 : first Unassigned (s (core.Try (block []) (more_catches (catch 5 (record { 0 = 0 }) (place 0) (block (assign 2 ∷ []))) no_catches) no_stmt) ∷ []) ≡ None
unfolding both adding removing everything no_exits met whole
row-18 = refl

abbrev a : NameId
a = record { 0 = 5 }

-- `a: { if (b) { try { } finally { x = 1; } return; } } x = 1;`, and with `break a;` in the block
abbrev leaving : List CoreStmt → List CoreStmt
leaving inside = s (core.Labelled a (s (core.If test (block (s (core.Try (block inside) no_catches (a_stmt (block (assign 1 ∷ [])))) ∷ s (core.Return None) ∷ [])) no_stmt))) ∷ assign 2 ∷ []

row-19 : first Unassigned (leaving []) ≡ None
unfolding both adding removing everything no_exits exit_by met beyond limited whole when_true when_false
row-19 = refl

row-20 : first Unassigned (leaving (s (core.Jump false (Some a)) ∷ [])) ≡ assigned_twice 2
unfolding both adding removing everything no_exits exit_by met beyond limited whole when_true when_false
row-20 = refl

-- The class C reads `x` at 90, and stands in a list of statements or behind `new`: `{ int x; .. }`, where the bracket is at 0
abbrev reader : ℕ → Option Span → Standing
reader n home = record { class = record { 0 = 3 }; span = place n; home = home; reads = record { local = 0; span = place 90 } ∷ [] }

abbrev judged : Standing → List CoreStmt → Option FlowFault
judged c ss = first_of None (statement_faults (record { rule = Assigned; home = None; finals = nothing; standing = c ∷ [] }) None nothing
    (s (core.Block (0 ∷ []) (core_stmts ss))))

abbrev at : ℕ → CoreStmtForm → CoreStmt
at n form = stmt form (place n) (place n)

abbrev assign_at : ℕ → CoreStmt
assign_at n = at n (core.Do (assigning n))

-- `class C { .. } x = 1;`, and `x = 1; class C { .. }`
row-21 : judged (reader 2 (Some (place 0))) (assign_at 4 ∷ []) ≡ not_assigned 90
unfolding nothing both adding removing everything no_exits met whole
row-21 = refl

row-22 : judged (reader 6 (Some (place 0))) (assign_at 4 ∷ []) ≡ None
unfolding nothing both adding removing everything no_exits met whole
row-22 = refl

-- `while (b) { x = 1; class C { .. } }`, and with the class behind the loop
abbrev turning : CoreStmt
turning = at 2 (core.Loop test [] (at 3 (core.Block [] (core_stmts (assign_at 4 ∷ [])))))

row-23 : judged (reader 6 (Some (place 3))) (turning ∷ []) ≡ None
unfolding nothing both adding removing everything no_exits met beyond whole when_true when_false
row-23 = refl

row-24 : judged (reader 8 (Some (place 0))) (turning ∷ []) ≡ not_assigned 90
unfolding nothing both adding removing everything no_exits met beyond whole when_true when_false
row-24 = refl

-- `new C() { .. };`, and `new C(x = 1) { .. };`
abbrev creating : List Core → CoreStmt
creating args = at 2 (core.Do (e 2 (core.New (record { 0 = 3 }) 0 (cores args) [] (place 2))))

row-25 : judged (reader 2 None) (creating [] ∷ []) ≡ not_assigned 90
unfolding nothing both adding removing everything no_exits met whole
row-25 = refl

row-26 : judged (reader 2 None) (creating (assigning 4 ∷ []) ∷ []) ≡ None
unfolding nothing both adding removing everything no_exits met whole
row-26 = refl

-- `switch (b) { case 1: x = 1; class C { .. } case 2: x = 1; }`, and with the class behind the second label
abbrev labelled : ℕ → List CoreStmt → CoreGroup
labelled n ss = group (record { value = Some (pos n); uses = []; span = place n } ∷ []) (core_stmts ss)

abbrev switching : CoreStmt
switching = at 2 (core.Switch [] test (core_groups (labelled 4 (assign_at 6 ∷ []) ∷ labelled 10 (assign_at 14 ∷ []) ∷ [])))

row-27 : judged (reader 8 (Some (place 4))) (switching ∷ []) ≡ None
unfolding nothing both adding removing everything no_exits met beyond whole
row-27 = refl

row-28 : judged (reader 12 (Some (place 10))) (switching ∷ []) ≡ not_assigned 90
unfolding nothing both adding removing everything no_exits met beyond whole
row-28 = refl
