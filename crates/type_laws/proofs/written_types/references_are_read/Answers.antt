use Rattle.type_laws.proofs.Public.{references_sound_law, references_complete_law, references_longest_law}
use Rattle.type_laws.proofs.written_types.references_are_read.Goals as goal

pub returns : goal.returns
returns c = record {
  sound = references_sound_law;
  complete = references_complete_law;
  longest = references_longest_law;
}
