use Rattle.std.proofs.Common.{◌≡◌, ◌<◌, ◌≤◌, length, sym, ◌∙◌, arith}
use Rattle.std.specs.Prelude.{true, false}
use Rattle.std.specs.Str.{bytes_eq}
use Rattle.machine_parts.proofs.Variables.{place_here, place_step, place_end}
use Rattle.machine_parts.proofs.variable.place_of.Goals as goal

pub returns-then-is_same_text : goal.returns-then-is_same_text
returns-then-is_same_text c =
    let x = c.index-texts-at.result in
    let below : c.loop-at.at < length c.args.texts.now = omega (arith, c.loop-at-test.true) in
    let same : bytes_eq c.args.units.now x ≡ true = sym c.is_same_text.ensures ∙ c.if-is_same_text.true in
    sym (place_here c.args.texts.now c.args.units.now c.loop-at.at x below c.index-texts-at.is same) ∙ c.loop-at.invariant

pub loop-at-preserved : goal.loop-at-preserved
loop-at-preserved c =
    let x = c.index-texts-at.result in
    let below : c.loop-at.at < length c.args.texts.now = omega (arith, c.loop-at-test.true) in
    let same : bytes_eq c.args.units.now x ≡ false = sym c.is_same_text.ensures ∙ c.if-is_same_text.false in
    sym (place_step c.args.texts.now c.args.units.now c.loop-at.at x below c.index-texts-at.is same) ∙ c.loop-at.invariant

pub returns : goal.returns
returns c =
    let over : length c.args.texts.now ≤ c.loop-at.at = omega (arith, c.loop-at-test.false) in
    sym (place_end c.args.texts.now c.args.units.now c.loop-at.at over) ∙ c.loop-at.invariant
