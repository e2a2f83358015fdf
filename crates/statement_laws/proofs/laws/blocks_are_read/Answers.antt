use Rattle.parse_laws.specs.way.Readers.{itself}
use Rattle.statement_laws.proofs.Sound.{block_sound}
use Rattle.statement_laws.proofs.Blocks.{block_exact}
use Rattle.statement_laws.proofs.laws.blocks_are_read.Goals as goal

pub returns : goal.returns
returns c = λ names texts h p below. record {
  sound = block_sound names texts h p below;
  exact = λ b ts rest d fits low. itself (block_exact names texts h p below d low);
}
