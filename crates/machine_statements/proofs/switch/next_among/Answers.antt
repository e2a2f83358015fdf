use Rattle.std.proofs.Common.{◌≡◌, ◌<◌, ◌+◌, ◌∷◌, [], length, map, drop, sym, subst, ◌∙◌, arith}
use Rattle.je_core.specs.View.{group_view, stmt_view}
use Rattle.je_java.specs.Meaning.{parts_in}
use Rattle.machine_statements.proofs.Cases.{group_here, case_skips, case_takes}
use Rattle.machine_parts.specs.way.Clauses.{NextStmt}
use Rattle.machine_statements.proofs.switch.next_among.Goals as goal

pub returns-in-Some : goal.returns-in-Some
returns-in-Some c =
    let groups = map group_view c.args.groups.now in
    let x = c.index-groups-at.result in
    let below : c.loop-at.at < length c.args.groups.now = omega (arith, c.loop-at-test.true) in
    let here = group_here c.args.groups.now c.loop-at.at x below c.index-groups-at.is in
    let next : drop c.loop-at.next (parts_in (group_view x)) ≡ stmt_view c.in-Some.part.value ∷ drop (c.loop-at.next + 1) (parts_in (group_view x)) =
    subst (NextStmt (parts_in (group_view x)) c.loop-at.next) c.in-Some.is c.in_ok-part.ensures.goes in
    sym c.loop-at.invariant ∙ case_takes groups c.loop-at.at c.loop-at.next (group_view x) (stmt_view c.in-Some.part.value) here next

pub loop-at-preserved : goal.loop-at-preserved
loop-at-preserved c =
    let groups = map group_view c.args.groups.now in
    let x = c.index-groups-at.result in
    let below : c.loop-at.at < length c.args.groups.now = omega (arith, c.loop-at-test.true) in
    let here = group_here c.args.groups.now c.loop-at.at x below c.index-groups-at.is in
    let next : drop c.loop-at.next (parts_in (group_view x)) ≡ [] =
    subst (NextStmt (parts_in (group_view x)) c.loop-at.next) c.in_default.is c.in_ok-part.ensures.goes in
    sym (case_skips groups c.loop-at.at c.loop-at.next (group_view x) here next) ∙ c.loop-at.invariant
