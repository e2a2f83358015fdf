use Rattle.std.proofs.Common.{ap, ◌∙◌}
use Rattle.je_core.specs.declared.expr.Expr.{Expr}
use Rattle.je_core.specs.View.{form_view, program_view}
use Rattle.je_java.specs.Meaning.{java, started_by}
use Rattle.machine_parts.specs.Ways.{waits, state}
use Rattle.machine_parts.proofs.Results.{if_ok-map}
use Rattle.machine_starts.specs.way.Starting.{unless_started}
use Rattle.machine_starts.proofs.Nodes.{node_starts_none, node_starts_one}
use Rattle.machine_starts.proofs.node.begin_node.Goals as goal

pub returns-in-Some-clause-goes : goal.returns-in-Some-clause-goes
returns-in-Some-clause-goes c = if_ok-map c.start_class.result (λ control goes k.
    let p = program_view c.args.program.now in
    let ways = waits p (java p) k c.args.context.now.frames in
    goes k ∙ node_starts_one p (java p) c.args.node.value ways.give ways.out (state c.args.context.now c.args.heap.now c.args.starts.now) c.in-Some.class
    (c.in-Some.ensures ∙ ap (λ (e : Expr). unless_started c.args.starts.now (started_by p (form_view e.form))) c.deref.ensures)) c.start_class.ensures.goes

pub returns-in-None-clause-goes : goal.returns-in-None-clause-goes
returns-in-None-clause-goes c = if_ok-map c.begin_expr.result (λ control goes k.
    let p = program_view c.args.program.now in
    let ways = waits p (java p) k c.args.context.now.frames in
    goes (java p) k c.args.starts.now ∙ node_starts_none p (java p) c.args.node.value ways.give ways.out (state c.args.context.now c.args.heap.now c.args.starts.now)
    (c.in-None.ensures ∙ ap (λ (e : Expr). unless_started c.args.starts.now (started_by p (form_view e.form))) c.deref.ensures)) c.begin_expr.ensures.goes
