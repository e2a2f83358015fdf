use Rattle.type_laws.proofs.Names.{name_sound}
use Rattle.type_laws.proofs.Public.{names_exact_law, names_unique_law, past_names_sound_law, past_names_exact_law}
use Rattle.type_laws.proofs.written_types.names_are_read.Goals as goal

pub returns : goal.returns
returns c = record {
  sound = name_sound;
  exact = names_exact_law;
  unique = names_unique_law;
  passed = past_names_sound_law;
  passes = past_names_exact_law;
}
