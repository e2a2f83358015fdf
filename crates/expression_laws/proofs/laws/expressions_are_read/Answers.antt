use Rattle.expression_laws.proofs.Sound.{layer_sound}
use Rattle.expression_laws.proofs.Exact.{layer_exact}
use Rattle.expression_laws.proofs.laws.expressions_are_read.Goals as goal

pub returns : goal.returns
returns c = λ names texts h p body below bodies types least above small. record {
  sound = λ ts. layer_sound names texts h p body below bodies types least ts above small;
  exact = λ e ts rest d le low. layer_exact names texts h p body below bodies types least d above small le low;
}
