use Rattle.std.proofs.Common.{◌≡◌, ℕ, ◌<◌, Bool, true, false, length, sym, ◌∙◌, arith}
use Rattle.je_core.specs.Core.{CoreProgram}
use Rattle.je_core.specs.View.{program_view}
use Rattle.je_classes.specs.Hierarchy.{class_at}
use Rattle.je_fitting.specs.way.Quantifying.{if_there}
use Rattle.fit_classes.proofs.Places.{all_places, place_passes, place_fails, no_place_left}
use Rattle.plain_programs.specs.way.Deciding.{is_plain_class, is_plain}
use Rattle.plain_programs.proofs.program.is_plain.Goals as goal

-- the class of a number, if it is there
abbrev test_of : CoreProgram → ℕ → Bool
test_of p n = if_there (is_plain_class p (record { 0 = n })) (class_at p (record { 0 = n }))

pub returns-then-not-branch : goal.returns-then-not-branch
unfolding is_plain
returns-then-not-branch c =
    let p = program_view c.args.program.now in
    let n = length p.classes in
    let i = c.loop-at.at in
    let within : i < n = omega (arith, c.loop-at-test.true, c.class_count-at-end.ensures) in
    let fails : test_of p i ≡ false = grind (arith, c.if-not-branch.true, c.in_ok-class_is_plain.ensures) in
    sym (all_places (test_of p) n ∙ sym c.loop-at.invariant ∙ place_fails (test_of p) i n within fails)

pub loop-at-preserved : goal.loop-at-preserved
loop-at-preserved c =
    let p = program_view c.args.program.now in
    let n = length p.classes in
    let i = c.loop-at.at in
    let within : i < n = omega (arith, c.loop-at-test.true, c.class_count-at-end.ensures) in
    let passes : test_of p i ≡ true = grind (arith, c.if-not-branch.false, c.in_ok-class_is_plain.ensures) in
    sym (place_passes (test_of p) i n within passes) ∙ c.loop-at.invariant

pub returns : goal.returns
unfolding is_plain
returns c =
    let p = program_view c.args.program.now in
    let n = length p.classes in
    sym (all_places (test_of p) n ∙ sym c.loop-at.invariant ∙ no_place_left (test_of p) c.loop-at.at n (omega (arith, c.loop-at-test.false, c.class_count-at-end.ensures)))
