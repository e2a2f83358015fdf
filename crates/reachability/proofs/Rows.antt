-- Worked examples: which statements can complete normally.
use Rattle.std.proofs.Common.{◌≡◌, ℕ, Bool, true, false, List, [], ◌∷◌, Option, Some, None, refl}
use Rattle.std.specs.Prelude.{pos}
use Rattle.je_base.specs.declared.span.NameId.{NameId}
use Rattle.je_base.specs.declared.span.Span.{Span}
use Rattle.je_core.specs.declared.types.Base.TheVariants as base
use Rattle.je_core.specs.declared.value.Value.TheVariants as value
use Rattle.je_core.specs.Core.{Core, CoreStmt, CoreStmtForm, CoreLabel, node, stmt, core_stmts, core_groups, group, no_stmt, a_stmt, no_catches}
use Rattle.je_core.specs.Core as core
use Rattle.reachability.specs.Jumps.{no_jumps, jump_where, joined, beyond}
use Rattle.reachability.specs.Programs.{completes}

abbrev here : Span
here = record { file = 0; start = 0; end = 1 }

abbrev s : CoreStmtForm → CoreStmt
s form = stmt form here here

abbrev is : Bool → Core
is b = node (core.Const (value.Bool b) []) (record { base = base.Bool; dims = 0 }) here here

-- a condition that is no constant
abbrev test : Core
test = node (core.Local 0) (record { base = base.Bool; dims = 0 }) here here

abbrev block : List CoreStmt → CoreStmt
block ss = s (core.Block [] (core_stmts ss))

abbrev a : NameId
a = record { 0 = 5 }

abbrev break : CoreStmt
break = s (core.Jump false None)

abbrev continue : CoreStmt
continue = s (core.Jump true None)

abbrev return : CoreStmt
return = s (core.Return None)

-- `while (true) ;`, and with `break;`
row-1 : completes (s (core.Loop (is true) [] (s core.Empty))) ≡ false
unfolding no_jumps
row-1 = refl

row-2 : completes (s (core.Loop (is true) [] break)) ≡ true
unfolding no_jumps jump_where
row-2 = refl

-- `while (b) return;`, and `if (true) return;`
row-3 : completes (s (core.Loop test [] return)) ≡ true
unfolding no_jumps
row-3 = refl

row-4 : completes (s (core.If (is true) return no_stmt)) ≡ true
row-4 = refl

row-5 : completes (s (core.If test return (a_stmt return))) ≡ false
row-5 = refl

-- `do continue; while (b);`, with `true`, and with `return;`
row-6 : completes (s (core.DoLoop continue test)) ≡ true
unfolding no_jumps jump_where
row-6 = refl

row-7 : completes (s (core.DoLoop continue (is true))) ≡ false
unfolding no_jumps jump_where
row-7 = refl

row-8 : completes (s (core.DoLoop return test)) ≡ false
unfolding no_jumps
row-8 = refl

-- `a: while (true) { while (true) break a; }`
row-9 : completes (s (core.Labelled a (s (core.Loop (is true) [] (block (s (core.Loop (is true) [] (s (core.Jump false (Some a)))) ∷ [])))))) ≡ true
unfolding no_jumps jump_where joined beyond
row-9 = refl

-- `while (true) try { break; } finally { return; }`, and with `finally { }`
row-10 : completes (s (core.Loop (is true) [] (s (core.Try (block (break ∷ [])) no_catches (a_stmt (block (return ∷ []))))))) ≡ false
unfolding no_jumps jump_where joined beyond
row-10 = refl

row-11 : completes (s (core.Loop (is true) [] (s (core.Try (block (break ∷ [])) no_catches (a_stmt (block [])))))) ≡ true
unfolding no_jumps jump_where joined beyond
row-11 = refl

abbrev case : CoreLabel
case = record { value = Some (pos 1); uses = []; span = here }

abbrev default : CoreLabel
default = record { value = None; uses = []; span = here }

-- `switch (i) { case 1: return; }`, with `default: return;`, with `default: break;`, and with `default:` at its end
row-12 : completes (s (core.Switch [] test (core_groups (group (case ∷ []) (core_stmts (return ∷ [])) ∷ [])))) ≡ true
unfolding no_jumps joined
row-12 = refl

row-13 : completes (s (core.Switch [] test (core_groups (group (default ∷ []) (core_stmts (return ∷ [])) ∷ [])))) ≡ false
unfolding no_jumps joined
row-13 = refl

row-14 : completes (s (core.Switch [] test (core_groups (group (default ∷ []) (core_stmts (break ∷ [])) ∷ [])))) ≡ true
unfolding no_jumps jump_where joined
row-14 = refl

row-15 : completes (s (core.Switch [] test (core_groups (group (case ∷ []) (core_stmts (return ∷ [])) ∷ group (default ∷ []) (core_stmts []) ∷ [])))) ≡ true
unfolding no_jumps joined
row-15 = refl
