use Rattle.std.proofs.Common.{◌≡◌, Option, Some, None, sym, ap, ◌∙◌}
use Rattle.je_core.specs.declared.value.Value.{Value}
use Rattle.je_core.specs.Core.{CoreProgram}
use Rattle.je_core.specs.View.{method_view, program_view, stmt_view, stmt_view_if}
use Rattle.je_java.specs.LibraryMembers.{run_library}
use Rattle.je_java.specs.Meaning.{Meanings, java, member_at, build_with, run_constructor}
use Rattle.je_java.specs.Steps.{Computation, bind, ret}
use Rattle.machine_parts.specs.Outermost.{replied}
use Rattle.machine_constructors.proofs.Building.{with_body, without_body}
use Rattle.machine_moves.proofs.Members.{replies_alike}
use Rattle.machine_moves.proofs.start.start_on_object.Goals as goal

pub start_building-requires-clause-body : goal.start_building-requires-clause-body
start_building-requires-clause-body c = ap stmt_view_if (sym c.in-Some.is) ∙ c.in_ok-body.ensures

pub returns-in-Some-clause-goes : goal.returns-in-Some-clause-goes
returns-in-Some-clause-goes c =
    let body : Some (stmt_view c.in-Some.body.value) ≡ (method_view c.args.constructor.now).body = ap stmt_view_if (sym c.in-Some.is) ∙ c.in_ok-body.ensures in
    replies_alike c.args.program.now c.args.context.now c.args.heap.now c.args.reply c.start_building.new.context c.start_building.new.heap
    (λ p m. bind (build_with m c.args.class (method_view c.args.constructor.now) c.args.this c.args.args) (λ value. ret (replied c.args.reply value)))
    (λ p m. bind (run_constructor p m (member_at c.args.class c.args.at) (method_view c.args.constructor.now) c.args.this c.args.args) (λ value. ret (replied c.args.reply value)))
    (ap (λ (n : Computation Value). bind n (λ value. ret (replied c.args.reply value)))
    (with_body (program_view c.args.program.now) (java (program_view c.args.program.now)) c.args.class c.args.at (method_view c.args.constructor.now) c.args.this c.args.args _ body))
    c.start_building.result c.start_building.ensures.goes

pub returns-in-None-clause-goes : goal.returns-in-None-clause-goes
returns-in-None-clause-goes c =
    let none : None ≡ (method_view c.args.constructor.now).body = ap stmt_view_if (sym c.in-None.is) ∙ c.in_ok-body.ensures in
    replies_alike c.args.program.now c.args.context.now c.args.heap.now c.args.reply c.end_by_library.new.context c.end_by_library.new.heap
    (λ p m. bind (run_library p c.args.class c.args.at c.args.this c.args.args) (λ value. ret (replied c.args.reply value)))
    (λ p m. bind (run_constructor p m (member_at c.args.class c.args.at) (method_view c.args.constructor.now) c.args.this c.args.args) (λ value. ret (replied c.args.reply value)))
    (ap (λ (n : Computation Value). bind n (λ value. ret (replied c.args.reply value)))
    (without_body (program_view c.args.program.now) (java (program_view c.args.program.now)) c.args.class c.args.at (method_view c.args.constructor.now) c.args.this c.args.args none))
    c.end_by_library.result c.end_by_library.ensures.goes
