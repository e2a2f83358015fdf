use Rattle.type_laws.proofs.Public.{types_sound_law, types_exact_law, types_complete_law, types_longest_law, types_unique_law, past_types_sound_law, past_types_exact_law}
use Rattle.type_laws.proofs.written_types.types_are_read.Goals as goal

pub returns : goal.returns
returns c = record {
  sound = types_sound_law;
  exact = types_exact_law;
  complete = types_complete_law;
  longest = types_longest_law;
  unique = types_unique_law;
  passed = past_types_sound_law;
  passes = past_types_exact_law;
}
