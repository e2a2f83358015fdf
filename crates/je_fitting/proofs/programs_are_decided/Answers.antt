use Rattle.je_fitting.proofs.ClassesDecided.{program_sound, program_complete}
use Rattle.je_fitting.proofs.programs_are_decided.Goals as goal

pub returns : goal.returns
returns c = λ p. (program_sound p, program_complete p)
