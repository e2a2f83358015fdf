use Rattle.std.proofs.Common.{◌≡◌, ◌+◌, ◌<◌, Bool, true, false, length, drop, map, sym, ap, ◌∙◌, arith}
use Rattle.std.specs.Prelude.{◌&&◌}
use Rattle.std.specs.List.{list_all}
use Rattle.je_core.specs.View.{initializer_view, program_view}
use Rattle.je_fitting.specs.way.DecidingMembers.{is_initializer_fit}
use Rattle.fit_classes.proofs.Steps.{all_more}
use Rattle.fit_classes.proofs.class.initializers_fit.Goals as goal

pub returns-then-not-branch : goal.returns-then-not-branch
returns-then-not-branch c =
    let test = is_initializer_fit (program_view c.args.program.now) c.args.id in
    let xs = c.args.initializers.now in
    let i = c.loop-initializer.initializer-index in
    let within : i < length xs = omega arith in
    let fails : test (initializer_view c.initializer-item.result) ≡ false =
    grind (arith, c.if-not-branch.true, c.in_ok-initializer_fits.ensures) in
    sym (sym c.loop-initializer.invariant
    ∙ all_more initializer_view test xs i c.initializer-item.result within c.initializer-item.is
    ∙ ap (λ (b : Bool). b && list_all test (map initializer_view (drop (i + 1) xs))) fails)

pub loop-initializer-preserved : goal.loop-initializer-preserved
loop-initializer-preserved c =
    let test = is_initializer_fit (program_view c.args.program.now) c.args.id in
    let xs = c.args.initializers.now in
    let i = c.loop-initializer.initializer-index in
    let within : i < length xs = omega arith in
    let passes : test (initializer_view c.initializer-item.result) ≡ true =
    grind (arith, c.if-not-branch.false, c.in_ok-initializer_fits.ensures) in
    sym (all_more initializer_view test xs i c.initializer-item.result within c.initializer-item.is
    ∙ ap (λ (b : Bool). b && list_all test (map initializer_view (drop (i + 1) xs))) passes)
    ∙ c.loop-initializer.invariant
