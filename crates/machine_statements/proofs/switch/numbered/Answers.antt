use Rattle.std.proofs.Common.{◌≡◌, ◌<◌, ◌+◌, length, map, drop, Some, sym, ap, subst, ◌∙◌, arith}
use Rattle.std.specs.Prelude.{if◌then◌else◌, true, false}
use Rattle.std.specs.Int.{w64}
use Rattle.std.proofs.lemmas.Int.{to_z-of_z}
use Rattle.je_core.specs.View.{group_view}
use Rattle.je_java.specs.Meaning.{has_number, groups_from}
use Rattle.machine_statements.proofs.Cases.{groups_step}
use Rattle.machine_statements.proofs.switch.numbered.Goals as goal

pub returns-then-has_number : goal.returns-then-has_number
returns-then-has_number c =
    let n = c.args.number in
    let own = to_z-of_z w64 n c.ranges.number in
    let groups = map group_view c.args.groups.now in
    let x = c.index-groups-at.result in
    let below : c.loop-at.at < length c.args.groups.now = omega (arith, c.loop-at-test.true) in
    let step = groups_step (has_number n) c.args.groups.now c.loop-at.at x below c.index-groups-at.is in
    let passes : has_number n (group_view x) ≡ true = ap (λ k. has_number k (group_view x)) (sym own) ∙ sym c.has_number.ensures ∙ c.if-has_number.true in
    let before = subst (λ k. groups_from (has_number k) (map group_view (drop c.loop-at.at c.args.groups.now)) ≡ groups_from (has_number k) groups) own c.loop-at.invariant in
    sym before ∙ step ∙ ap (λ b. if b then Some (drop c.loop-at.at groups) else groups_from (has_number n) (map group_view (drop (c.loop-at.at + 1) c.args.groups.now))) passes

pub loop-at-preserved : goal.loop-at-preserved
loop-at-preserved c =
    let n = c.args.number in
    let own = to_z-of_z w64 n c.ranges.number in
    let groups = map group_view c.args.groups.now in
    let x = c.index-groups-at.result in
    let below : c.loop-at.at < length c.args.groups.now = omega (arith, c.loop-at-test.true) in
    let step = groups_step (has_number n) c.args.groups.now c.loop-at.at x below c.index-groups-at.is in
    let passes : has_number n (group_view x) ≡ false = ap (λ k. has_number k (group_view x)) (sym own) ∙ sym c.has_number.ensures ∙ c.if-has_number.false in
    let before = subst (λ k. groups_from (has_number k) (map group_view (drop c.loop-at.at c.args.groups.now)) ≡ groups_from (has_number k) groups) own c.loop-at.invariant in
    subst (λ k. groups_from (has_number k) (map group_view (drop (c.loop-at.at + 1) c.args.groups.now)) ≡ groups_from (has_number k) groups) (sym own)
    (sym (step ∙ ap (λ b. if b then Some (drop c.loop-at.at groups) else groups_from (has_number n) (map group_view (drop (c.loop-at.at + 1) c.args.groups.now))) passes) ∙ before)
