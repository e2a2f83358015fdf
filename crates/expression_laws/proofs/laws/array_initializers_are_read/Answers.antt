use Rattle.expression_laws.proofs.Arrays.{array_initializer_sound}
use Rattle.expression_laws.proofs.ArraysExact.{array_initializer_exact}
use Rattle.expression_laws.proofs.laws.array_initializers_are_read.Goals as goal

pub returns : goal.returns
returns c = record {
  spelled = λ names texts h p body below bodies types ts. array_initializer_sound names texts h p body below ts;
  read = λ names texts h p body below bodies types e ts rest d low. array_initializer_exact names texts h p body below d low;
}
