use Rattle.parse_laws.specs.way.Readers.{itself}
use Rattle.member_laws.proofs.Members.{member_sound}
use Rattle.member_laws.proofs.MembersExact.{member_exact}
use Rattle.member_laws.proofs.laws.members_are_read.Goals as goal

pub returns : goal.returns
returns c = λ names texts h p below parts. record {
  sound = λ ts. member_sound names texts h p below parts ts;
  exact = λ m ts rest d any_one low. itself (member_exact names texts h p below parts d low);
}
