use Rattle.std.proofs.Common.{◌≡◌, sym, ap, ◌∙◌}
use Rattle.je_core.specs.declared.expr.Form.{Form}
use Rattle.je_core.specs.declared.expr.Form as declared
use Rattle.je_core.specs.View.{form_view, program_view}
use Rattle.je_java.specs.Steps.{bind, yields, write_static}
use Rattle.je_java.specs.Meaning.{stored}
use Rattle.machine_parts.specs.Ways.{waits, valued, state}
use Rattle.machine_parts.proofs.Results.{if_ok-map}
use Rattle.machine_forms.proofs.update.store.Goals as goal

-- what is stored in a class variable
named : (c : goal.After-store_variable) → stored (program_view c.args.program.now) (form_view c.args.place.now) c.args.object c.args.index c.args.value ≡
    write_static (program_view c.args.program.now) c.in-Static.class c.in-Static.field c.args.value
unfolding write_static declared.out-Form bind denote.Hole.Carrier.out
named c = ap (λ (form : Form). stored (program_view c.args.program.now) (form_view form) c.args.object c.args.index c.args.value) c.in-Static.is

pub returns-in-Static-clause-goes : goal.returns-in-Static-clause-goes
returns-in-Static-clause-goes c =
    let before = c.args.context.now in
    if_ok-map c.store_variable.result (λ control goes m k outside.
    goes m k outside ∙ ap (λ run. valued (yields c.args.given run) (waits (program_view c.args.program.now) m k before.frames) (state before c.args.heap.now outside)) (sym (named c))) c.store_variable.ensures.goes
