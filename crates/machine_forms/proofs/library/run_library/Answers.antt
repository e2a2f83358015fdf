use Rattle.std.proofs.Common.{ap}
use Rattle.je_core.specs.declared.value.Value.{Value}
use Rattle.je_core.specs.View.{program_view}
use Rattle.je_java.specs.Steps.{Computation}
use Rattle.machine_parts.specs.Ways.{state_of}
use Rattle.machine_forms.proofs.Numbered.{no_member}
use Rattle.machine_forms.proofs.library.run_library.Goals as goal

pub returns-then-at-ge4294967296-clause-goes : goal.returns-then-at-ge4294967296-clause-goes
returns-then-at-ge4294967296-clause-goes c = λ go exits outside own.
    let before = c.args.context.now in
    ap (λ (m : Computation Value). m go exits (state_of before.units before.begun c.args.heap.now outside own))
    (no_member (program_view c.args.program.now) c.args.own c.args.at c.args.this c.args.values.now c.if-at-ge4294967296.true)
