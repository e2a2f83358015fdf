use Rattle.unit_laws.proofs.Files.{unit_sound, unit_exact}
use Rattle.unit_laws.proofs.laws.units_are_read.Goals as goal

pub returns : goal.returns
returns c = record { spelled = unit_sound; read = λ names texts most u ts d low. unit_exact names texts most d low }
