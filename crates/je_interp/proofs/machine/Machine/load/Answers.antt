use Rattle.std.proofs.Common.{◌∙◌}
use Rattle.std.specs.Prelude.{None, false, replicate}
use Rattle.je_core.specs.View.{program_view}
use Rattle.je_java.specs.Meaning.{java, nobody}
use Rattle.je_java.specs.Steps.{State, Done}
use Rattle.je_load.specs.Loading.{load_units, no_exits, start_from}
use Rattle.machine_parts.specs.Outermost.{outermost}
use Rattle.machine_parts.specs.Starts.{load_from}
use Rattle.machine_parts.specs.Ways.{resume, state_of}
use Rattle.je_interp.proofs.Loads.{loads_by_number}
use Rattle.je_interp.proofs.machine.Machine.load.Goals as goal

pub returns-clause-goes : goal.returns-clause-goes
returns-clause-goes c = λ interfaces heap before.
    let p = program_view c.args.program.now in
    let made = c.machine_at.ensures in
    let count = c.class_count-count.result in
    let first : State = state_of load_units 0 heap (record { started = replicate count false; starting = None }) nobody in
    (λ i. resume p (java p) (outermost c.machine_at.result.reply) (made.control i) (made.frames i)
    (state_of (made.units i) (made.begun i) heap ((made.starts ∙ c.in_ok-starts.ensures) i) (record { this = made.this i; locals = made.locals i })))
    ∙ (λ i. load_from p (java p) 0 (c.class_count-count.ensures i) first)
    ∙ (λ i. loads_by_number p (java p) 0 p.classes i first)
    ∙ (λ i. start_from p (java p) 0 p.classes (λ u. Done None) no_exits (record {
      world = before i;
      own = nobody;
      public = record { units = load_units; begun = 0 };
      outside = record { started = replicate (c.class_count-count.ensures i) false; starting = None };
    }))
