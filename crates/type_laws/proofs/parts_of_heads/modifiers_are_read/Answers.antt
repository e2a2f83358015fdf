use Rattle.type_laws.proofs.Modifiers.{modifier_sound, modifier_exact, modifiers_sound, modifiers_exact}
use Rattle.type_laws.proofs.Heads.{final_sound, final_exact}
use Rattle.type_laws.proofs.parts_of_heads.modifiers_are_read.Goals as goal

pub returns : goal.returns
returns c = record {
  one_sound = modifier_sound;
  one_complete = λ names m ts rest d stops. modifier_exact names d;
  sound = modifiers_sound;
  exact = λ names ms ts rest d. modifiers_exact names d;
  final_sound = final_sound;
  final_complete = λ is ts rest d stops. final_exact d stops;
}
