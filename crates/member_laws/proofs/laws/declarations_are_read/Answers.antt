use Rattle.parse_laws.specs.way.Readers.{itself}
use Rattle.member_laws.proofs.Declarations.{declaration_sound, declaration_exact}
use Rattle.member_laws.proofs.laws.declarations_are_read.Goals as goal

pub returns : goal.returns
returns c = λ names texts h p below. record {
  sound = λ ts. declaration_sound names texts h p below ts;
  exact = λ d ts rest s any_one low. itself (declaration_exact names texts h p below s low);
}
