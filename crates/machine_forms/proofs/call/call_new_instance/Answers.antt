use Rattle.std.proofs.Common.{List, map, sym, ap, ◌∙◌}
use Rattle.je_core.specs.declared.value.ObjId.{ObjId}
use Rattle.je_core.specs.declared.value.Value.{Value}
use Rattle.je_core.specs.View.{capture_view, program_view}
use Rattle.je_java.specs.Steps.{Computation, Run, bind}
use Rattle.je_java.specs.Meaning.{construct, hand_over}
use Rattle.machine_parts.specs.declared.frame.Frame.{Frame}
use Rattle.machine_parts.specs.declared.frame.Made.{Made}
use Rattle.machine_parts.specs.Ways.{waits, valued, state}
use Rattle.machine_parts.specs.way.Clauses.{made_ways}
use Rattle.machine_parts.proofs.Results.{if_ok-map}
use Rattle.machine_forms.proofs.call.call_new_instance.Goals as goal

pub returns-in-Object-clause-goes : goal.returns-in-Object-clause-goes
unfolding bind
returns-in-Object-clause-goes c = if_ok-map c.begin_object.result (λ control goes m k outside.
    let p = program_view c.args.program.now in
    let ways = waits p m k c.args.context.now.frames in
    let made = c.instance.new.context in
    let captures = map capture_view c.args.captures.now in
    let built : ObjId → Computation Value = λ object. construct p m c.args.class c.args.at c.args.values object in
    let here = state made c.instance.new.heap outside in
    let go : ObjId → Run = λ object. hand_over p captures object (built object) ways.give ways.out in
    goes m k outside
    ∙ ap (λ (fs : List Frame). valued (hand_over p captures c.in-Object.object (built c.in-Object.object)) (waits p m k fs) here) c.in_ok-object.ensures.frames
    ∙ ap (λ (found : Made). made_ways found go here) (sym c.in-Object.is)
    ∙ c.in_ok-object.ensures.goes go ways.out outside) c.begin_object.ensures.goes
