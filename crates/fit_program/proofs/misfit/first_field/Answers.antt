use Rattle.std.proofs.Common.{◌≡◌, ◌<◌, true, false, length, get_or, sym, ap, ◌∙◌, arith}
use Rattle.std.proofs.lemmas.List.{length-map}
use Rattle.je_core.specs.View.{class_view, field_view, program_view}
use Rattle.je_fitting.specs.way.DecidingMembers.{is_field_fit}
use Rattle.je_fitting.specs.way.Misfits.{least_failing, field_passes}
use Rattle.fit_program.proofs.Least.{none_more, found_at, field_tested}
use Rattle.fit_program.proofs.misfit.first_field.Goals as goal

pub returns-then-not-branch : goal.returns-then-not-branch
returns-then-not-branch c =
    let p = program_view c.args.program.now in
    let k = c.args.class.now in
    let f = c.field-item.result in
    let is : f ≡ get_or k.fields.items c.loop-at.at f = rw c.deref-field-items.ensures.value at c.field-item.is in
    let within : c.loop-at.at < length k.fields.items = omega arith in
    let count : length (class_view k).fields ≡ length k.fields.items = length-map k.fields.items field_view in
    let below : c.loop-at.at < length (class_view k).fields = omega (arith, count) in
    let fails : is_field_fit p c.args.id (field_view f) ≡ false =
    grind (arith, c.if-not-branch.true, c.in_ok-field_fits.ensures) in
    sym (found_at (field_passes p c.args.id (class_view k)) c.loop-at.at (length (class_view k).fields) c.loop-at.invariant
    (field_tested p c.args.id k c.loop-at.at f within is ∙ fails) below)

pub loop-at-preserved : goal.loop-at-preserved
loop-at-preserved c =
    let p = program_view c.args.program.now in
    let k = c.args.class.now in
    let f = c.field-item.result in
    let is : f ≡ get_or k.fields.items c.loop-at.at f = rw c.deref-field-items.ensures.value at c.field-item.is in
    let within : c.loop-at.at < length k.fields.items = omega arith in
    let passes : is_field_fit p c.args.id (field_view f) ≡ true =
    grind (arith, c.if-not-branch.false, c.in_ok-field_fits.ensures) in
    none_more (field_passes p c.args.id (class_view k)) c.loop-at.at c.loop-at.invariant
    (field_tested p c.args.id k c.loop-at.at f within is ∙ passes)

pub returns : goal.returns
returns c =
    let p = program_view c.args.program.now in
    let k = c.args.class.now in
    let count : length (class_view k).fields ≡ length k.fields.items = length-map k.fields.items field_view in
    let all : c.loop-at.at ≡ length (class_view k).fields = omega (arith, count) in
    sym (ap (least_failing (field_passes p c.args.id (class_view k))) (sym all) ∙ c.loop-at.invariant)
