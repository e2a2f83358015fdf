use Rattle.std.proofs.Common.{◌≡◌, ◌<◌, ◌+◌, ◌-◌, length, Some, sym, ap, ◌∙◌, map, arith}
use Rattle.std.specs.Prelude.{true, false, ◌&&◌}
use Rattle.je_core.specs.View.{capture_view, class_view, program_view}
use Rattle.je_fitting.specs.Classes.{handed_count}
use Rattle.je_fitting.specs.Expressions.{handed_upwards}
use Rattle.je_fitting.specs.way.Deciding.{same_pairs}
use Rattle.fit_parts.specs.way.Handing.{filled, are_own}
use Rattle.fit_parts.proofs.Handed.{hand_none, hand_over, hand_few, hand_split, and_false, and_true}
use Rattle.fit_parts.proofs.captures.are_handed.Goals as goal

pub returns-then-not-are_own : goal.returns-then-not-are_own
returns-then-not-are_own c =
    let p = program_view c.args.program.now in
    let k = class_view c.in-Some-class.class.now in
    let n = c.loop-left.left in
    let rest = c.loop-left.rest.now in
    let higher = c.split_at.result.0.now in
    let own = c.split_at.result.1.now in
    let more : 0 < n = omega arith in
    let many : length own ≡ handed_count k = omega (arith, c.split_at.ensures.back_len, c.handed_count-count.ensures, c.if-rest-count.false) in
    let parts : same_pairs (filled (map capture_view rest)) (handed_upwards p n (Some c.in-Some.at)) ≡ (same_pairs (filled (map capture_view higher)) (handed_upwards p (n - 1) k.superclass) && are_own c.in-Some.at 0 (map capture_view own)) =
    hand_split p n c.in-Some.at k rest higher own _ more (sym c.in-Some-class.ensures) c.split_at.ensures.front c.split_at.ensures.back many in
    let fails : are_own c.in-Some.at 0 (map capture_view own) ≡ false = grind (arith, c.if-not-are_own.true, c.are_own.ensures) in
    sym (ap (λ o. same_pairs (filled (map capture_view rest)) (handed_upwards p n o)) c.in-Some.is ∙ parts
    ∙ and_false p (same_pairs (filled (map capture_view higher)) (handed_upwards p (n - 1) k.superclass)) (are_own c.in-Some.at 0 (map capture_view own)) fails) ∙ c.loop-left.invariant

pub loop-left-preserved : goal.loop-left-preserved
loop-left-preserved c =
    let p = program_view c.args.program.now in
    let k = class_view c.in-Some-class.class.now in
    let n = c.loop-left.left in
    let rest = c.loop-left.rest.now in
    let higher = c.split_at.result.0.now in
    let own = c.split_at.result.1.now in
    let more : 0 < n = omega arith in
    let many : length own ≡ handed_count k = omega (arith, c.split_at.ensures.back_len, c.handed_count-count.ensures, c.if-rest-count.false) in
    let parts : same_pairs (filled (map capture_view rest)) (handed_upwards p n (Some c.in-Some.at)) ≡ (same_pairs (filled (map capture_view higher)) (handed_upwards p (n - 1) k.superclass) && are_own c.in-Some.at 0 (map capture_view own)) =
    hand_split p n c.in-Some.at k rest higher own _ more (sym c.in-Some-class.ensures) c.split_at.ensures.front c.split_at.ensures.back many in
    let passes : are_own c.in-Some.at 0 (map capture_view own) ≡ true = grind (arith, c.if-not-are_own.false, c.are_own.ensures) in
    sym (ap (λ o. same_pairs (filled (map capture_view rest)) (handed_upwards p n o)) c.in-Some.is ∙ parts
    ∙ and_true p (same_pairs (filled (map capture_view higher)) (handed_upwards p (n - 1) k.superclass)) (are_own c.in-Some.at 0 (map capture_view own)) passes) ∙ c.loop-left.invariant

pub returns-in_default : goal.returns-in_default
returns-in_default c =
    let p = program_view c.args.program.now in
    let rest = c.loop-left.rest.now in
    c.is_empty.ensures ∙ sym (hand_none p c.loop-left.left rest) ∙ sym (ap (λ o. same_pairs (filled (map capture_view rest)) (handed_upwards p c.loop-left.left o)) c.in_default.is) ∙ c.loop-left.invariant

pub returns-then-rest-count : goal.returns-then-rest-count
returns-then-rest-count c =
    let p = program_view c.args.program.now in
    let k = class_view c.in-Some-class.class.now in
    let rest = c.loop-left.rest.now in
    let more : 0 < c.loop-left.left = omega arith in
    let few : length rest < handed_count k = omega (arith, c.if-rest-count.true, c.handed_count-count.ensures) in
    sym (ap (λ o. same_pairs (filled (map capture_view rest)) (handed_upwards p c.loop-left.left o)) c.in-Some.is ∙ hand_few p c.loop-left.left c.in-Some.at k rest more (sym c.in-Some-class.ensures) few) ∙ c.loop-left.invariant

pub returns : goal.returns
returns c =
    let p = program_view c.args.program.now in
    let rest = c.loop-left.rest.now in
    let none : c.loop-left.left ≡ 0 = omega arith in
    c.is_empty-2.ensures ∙ sym (hand_over p c.loop-left.above rest) ∙ sym (ap (λ n. same_pairs (filled (map capture_view rest)) (handed_upwards p n c.loop-left.above)) none) ∙ c.loop-left.invariant
