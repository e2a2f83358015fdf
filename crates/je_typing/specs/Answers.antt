-- What the code for a step answers, beside what the step comes to.
use Rattle.std.specs.Prelude.{◌≡◌}
use Rattle.je_typing.specs.declared.fault.Refusal.{Refusal}
use Rattle.je_typing.specs.declared.fault.Refusal.TheVariants.{Fault, Memory}
use Rattle.je_typing.specs.declared.fault.TypeFault.{TypeFault}
use Rattle.je_typing.specs.Judged.{Judged, faulty}

-- The refusal is the step's fault, or want of memory.
pub data IsFault {A : Type 0} (step : Judged A) : Refusal → Type 0 where
  wants_memory : IsFault step Memory
  first_fault : {fault : TypeFault} → step ≡ faulty fault → IsFault step (Fault fault)
