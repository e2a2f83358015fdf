use Rattle.type_laws.proofs.Public.{class_heads_sound_law, class_heads_complete_law, interface_heads_sound_law, interface_heads_complete_law}
use Rattle.type_laws.proofs.parts_of_heads.type_heads_are_read.Goals as goal

pub returns : goal.returns
returns c = record {
  class_sound = class_heads_sound_law;
  class_complete = class_heads_complete_law;
  interface_sound = interface_heads_sound_law;
  interface_complete = interface_heads_complete_law;
}
