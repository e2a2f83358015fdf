use Rattle.std.proofs.Common.{◌≡◌, refl, rules, arith}
use Rattle.std.specs.Prelude.{true}
use Rattle.je_core.specs.declared.expr.Form.TheVariants as form
use Rattle.je_core.specs.Core.{cores}
use Rattle.je_core.specs.Core as core
use Rattle.je_core.specs.View.{views, form_view, program_view}
use Rattle.je_fitting.specs.way.Deciding.{are_fit}
use Rattle.fit_nodes.proofs.Arrays.{elements_fit}
use Rattle.fit_nodes.proofs.expressions.+expression.Goals as goal

pub form_fits-returns-else-not-branch-34 : goal.form_fits-returns-else-not-branch-34
form_fits-returns-else-not-branch-34 t c =
    let p = program_view c.args.program.now in
    let vs = views c.in-ArrayOf.values.items in
    let seen : form_view c.args.form.now ≡ core.ArrayOf (cores vs) =
    rw c.in-ArrayOf.is (rw (form.outs-ArrayOf c.in-ArrayOf.values) refl) in
    let passed : c.in_ok-expressions_fit-in-ArrayOf.field-0 ≡ true = first_of (search rules, grind arith) in
    let is = rw (c.deref-in-ArrayOf.ensures.value, passed) at c.in_ok-expressions_fit-in-ArrayOf.ensures in
    let fit : are_fit p c.args.body.now (cores vs) ≡ true = cc in
    rw (seen, elements_fit p c.args.body.now vs c.args.ty fit)
    (rw c.deref-in-ArrayOf-2.ensures.value at c.array_of_fits.ensures)
