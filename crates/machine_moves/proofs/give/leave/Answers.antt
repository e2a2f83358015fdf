use Rattle.std.proofs.Common.{refl, ap, arith}
use Rattle.je_core.specs.View.{program_view}
use Rattle.je_java.specs.Meaning.{java}
use Rattle.je_java.specs.Steps.{Run}
use Rattle.machine_parts.specs.Ways.{waits, state}
use Rattle.machine_moves.proofs.Passing.{leave_passes}
use Rattle.machine_moves.proofs.give.leave.Goals as goal

pub returns : goal.returns
returns c = record {
  goes = λ k. let p = program_view c.args.program.now in ap (λ (run : Run). run (state c.args.context.now c.args.heap.now c.args.starts.now))
      (leave_passes p (java p) c.args.frame (waits p (java p) k c.args.context.now.frames) c.args.value c.in_default.not-Try c.in_default.not-Finally c.in_default.not-Called c.in_default.not-Telling c.in_default.not-Constructor
      c.in_default.not-Initializer c.in_default.not-Starting);
  short = omega arith;
  begun = refl;
}
