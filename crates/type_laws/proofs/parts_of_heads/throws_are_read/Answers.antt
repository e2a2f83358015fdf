use Rattle.type_laws.proofs.Heads.{throws_sound}
use Rattle.type_laws.proofs.Public.{throws_complete_law}
use Rattle.type_laws.proofs.parts_of_heads.throws_are_read.Goals as goal

pub returns : goal.returns
returns c = record {
  sound = throws_sound;
  complete = throws_complete_law;
}
