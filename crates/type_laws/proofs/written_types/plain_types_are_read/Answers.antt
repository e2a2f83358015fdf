use Rattle.type_laws.proofs.Public.{plain_types_sound_law, plain_types_exact_law}
use Rattle.type_laws.proofs.written_types.plain_types_are_read.Goals as goal

pub returns : goal.returns
returns c = record {
  sound = plain_types_sound_law;
  exact = plain_types_exact_law;
}
