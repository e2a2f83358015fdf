-- The run of the program that the file comes to.
use Rattle.std.proofs.Common.{rules, ap}
use Rattle.je_types.specs.Views.{program_of}
use Rattle.je_top.proofs.RunLemmas.{ran_accepted}
use Rattle.je_top.proofs.running.ran.Goals as goal

pub returns-in-Ok : goal.returns-in-Ok
returns-in-Ok c =
    ran_accepted _ _ _ _ _ _ _ _ _ _ c.in_ok-taming.ensures c.in-Ok.ensures.ok (search rules) c.deref-in-Ok.ensures (search rules)
    (ap program_of c.typed.ensures.program) c.in_ok-of_program-in-Ok.ensures
