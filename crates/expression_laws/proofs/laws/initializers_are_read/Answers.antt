use Rattle.expression_laws.proofs.Initializers.{initializer_sound, initializer_exact}
use Rattle.expression_laws.proofs.laws.initializers_are_read.Goals as goal

pub returns : goal.returns
returns c = λ names texts h p body below bodies types. record {
  sound = λ ts. initializer_sound names texts h p body below bodies types ts;
  exact = λ e ts rest d any_one low. initializer_exact names texts h p body below bodies types d low;
}
