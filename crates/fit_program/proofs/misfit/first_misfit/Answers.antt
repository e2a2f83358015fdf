use Rattle.std.proofs.Common.{◌≡◌, ◌<◌, Some, None, length, sym, ap, ◌∙◌, arith}
use Rattle.std.specs.Prelude.{option_map}
use Rattle.je_core.specs.View.{class_view, program_view}
use Rattle.je_classes.specs.Hierarchy.{class_at}
use Rattle.je_fitting.specs.way.Misfits.{least_failing, class_passes, first_part}
use Rattle.fit_program.specs.Parts.{part_seen}
use Rattle.fit_program.proofs.Least.{none_more, passes, misfit_at, none_misfit}
use Rattle.fit_program.proofs.misfit.first_misfit.Goals as goal

pub returns-in-Some-2 : goal.returns-in-Some-2
returns-in-Some-2 c =
    let p = program_view c.args.program.now in
    let k = class_view c.in-Some.class.now in
    let part = part_seen c.in-Some-2.part in
    let there : class_at p (record { 0 = c.loop-at.at }) ≡ Some k = sym c.in-Some.ensures in
    let first : first_part p (record { 0 = c.loop-at.at }) k ≡ Some part =
    sym c.in_ok-part.ensures ∙ ap (option_map part_seen) c.in-Some-2.is in
    let within : c.loop-at.at < length p.classes = omega arith in
    sym (misfit_at p c.loop-at.at k there part c.loop-at.invariant within first)

pub loop-at-preserved : goal.loop-at-preserved
loop-at-preserved c =
    let p = program_view c.args.program.now in
    let k = class_view c.in-Some.class.now in
    let there : class_at p (record { 0 = c.loop-at.at }) ≡ Some k = sym c.in-Some.ensures in
    let first : first_part p (record { 0 = c.loop-at.at }) k ≡ None =
    sym c.in_ok-part.ensures ∙ ap (option_map part_seen) c.in_default-2.is in
    none_more (class_passes p) c.loop-at.at c.loop-at.invariant (passes p c.loop-at.at k there first)

pub returns : goal.returns
returns c =
    let p = program_view c.args.program.now in
    let all : c.loop-at.at ≡ length p.classes = omega arith in
    sym (none_misfit p (ap (least_failing (class_passes p)) (sym all) ∙ c.loop-at.invariant))
