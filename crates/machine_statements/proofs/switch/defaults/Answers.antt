use Rattle.std.proofs.Common.{◌≡◌, ◌<◌, ◌+◌, length, map, drop, Some, sym, ap, ◌∙◌, arith}
use Rattle.std.specs.Prelude.{if◌then◌else◌, true, false}
use Rattle.je_core.specs.View.{group_view}
use Rattle.je_java.specs.Meaning.{is_default, groups_from}
use Rattle.machine_statements.proofs.Cases.{groups_step}
use Rattle.machine_statements.proofs.switch.defaults.Goals as goal

pub returns-then-has_default : goal.returns-then-has_default
returns-then-has_default c =
    let groups = map group_view c.args.groups.now in
    let x = c.index-groups-at.result in
    let below : c.loop-at.at < length c.args.groups.now = omega (arith, c.loop-at-test.true) in
    let step = groups_step is_default c.args.groups.now c.loop-at.at x below c.index-groups-at.is in
    let passes : is_default (group_view x) ≡ true = sym c.has_default.ensures ∙ c.if-has_default.true in
    sym c.loop-at.invariant ∙ step ∙ ap (λ b. if b then Some (drop c.loop-at.at groups) else groups_from is_default (map group_view (drop (c.loop-at.at + 1) c.args.groups.now))) passes

pub loop-at-preserved : goal.loop-at-preserved
loop-at-preserved c =
    let groups = map group_view c.args.groups.now in
    let x = c.index-groups-at.result in
    let below : c.loop-at.at < length c.args.groups.now = omega (arith, c.loop-at-test.true) in
    let step = groups_step is_default c.args.groups.now c.loop-at.at x below c.index-groups-at.is in
    let passes : is_default (group_view x) ≡ false = sym c.has_default.ensures ∙ c.if-has_default.false in
    sym (step ∙ ap (λ b. if b then Some (drop c.loop-at.at groups) else groups_from is_default (map group_view (drop (c.loop-at.at + 1) c.args.groups.now))) passes) ∙ c.loop-at.invariant
