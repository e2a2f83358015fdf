use Rattle.member_laws.proofs.Bodies.{body_sound, body_exact}
use Rattle.member_laws.proofs.laws.bodies_are_read.Goals as goal

pub returns : goal.returns
returns c = λ names texts h p below. record {
  sound = λ ts. body_sound names texts h p below ts;
  exact = λ ms k ts rest d low. body_exact names texts h p below d low;
}
