use Rattle.type_laws.proofs.Public.{superclass_sound_law, superclass_complete_law, implements_sound_law, implements_complete_law, extends_all_sound_law, extends_all_complete_law}
use Rattle.type_laws.proofs.parts_of_heads.supertypes_are_read.Goals as goal

pub returns : goal.returns
returns c = record {
  class_sound = superclass_sound_law;
  class_complete = superclass_complete_law;
  implemented_sound = implements_sound_law;
  implemented_complete = implements_complete_law;
  extended_sound = extends_all_sound_law;
  extended_complete = extends_all_complete_law;
}
