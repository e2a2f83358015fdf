use Rattle.je_sound.proofs.Fresh.{fresh_instances_fit}
use Rattle.je_sound.proofs.Worlds.{new_objects_keep}
use Rattle.je_sound.proofs.new_objects_are_sound.Goals as goal

pub returns : goal.returns
returns c = record { fresh = fresh_instances_fit; kept = new_objects_keep }
