use Rattle.std.proofs.Common.{◌≡◌, ◌<◌, true, false, length, get_or, sym, ap, ◌∙◌, arith}
use Rattle.std.proofs.lemmas.List.{length-map}
use Rattle.je_core.specs.View.{class_view, method_view, program_view}
use Rattle.je_fitting.specs.way.DecidingMembers.{is_method_fit}
use Rattle.je_fitting.specs.way.Misfits.{least_failing, method_passes}
use Rattle.fit_program.proofs.Least.{none_more, found_at, method_tested}
use Rattle.fit_program.proofs.misfit.first_method.Goals as goal

pub returns-then-not-branch : goal.returns-then-not-branch
returns-then-not-branch c =
    let p = program_view c.args.program.now in
    let k = c.args.class.now in
    let m = c.method-item.result in
    let is : m ≡ get_or k.methods.items c.loop-at.at m = rw c.deref-method-items.ensures.value at c.method-item.is in
    let within : c.loop-at.at < length k.methods.items = omega arith in
    let count : length (class_view k).methods ≡ length k.methods.items = length-map k.methods.items method_view in
    let below : c.loop-at.at < length (class_view k).methods = omega (arith, count) in
    let fails : is_method_fit p c.args.id (class_view k) (method_view m) ≡ false =
    grind (arith, c.if-not-branch.true, c.in_ok-method_fits.ensures) in
    sym (found_at (method_passes p c.args.id (class_view k)) c.loop-at.at (length (class_view k).methods) c.loop-at.invariant
    (method_tested p c.args.id k c.loop-at.at m within is ∙ fails) below)

pub loop-at-preserved : goal.loop-at-preserved
loop-at-preserved c =
    let p = program_view c.args.program.now in
    let k = c.args.class.now in
    let m = c.method-item.result in
    let is : m ≡ get_or k.methods.items c.loop-at.at m = rw c.deref-method-items.ensures.value at c.method-item.is in
    let within : c.loop-at.at < length k.methods.items = omega arith in
    let passes : is_method_fit p c.args.id (class_view k) (method_view m) ≡ true =
    grind (arith, c.if-not-branch.false, c.in_ok-method_fits.ensures) in
    none_more (method_passes p c.args.id (class_view k)) c.loop-at.at c.loop-at.invariant
    (method_tested p c.args.id k c.loop-at.at m within is ∙ passes)

pub returns : goal.returns
returns c =
    let p = program_view c.args.program.now in
    let k = c.args.class.now in
    let count : length (class_view k).methods ≡ length k.methods.items = length-map k.methods.items method_view in
    let all : c.loop-at.at ≡ length (class_view k).methods = omega (arith, count) in
    sym (ap (least_failing (method_passes p c.args.id (class_view k))) (sym all) ∙ c.loop-at.invariant)
