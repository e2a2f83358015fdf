use Rattle.written_laws.proofs.Spelled.{spelled_members_are_written}
use Rattle.written_laws.proofs.spelled_members_are_written.Goals as goal

pub returns : goal.returns
returns c = spelled_members_are_written
