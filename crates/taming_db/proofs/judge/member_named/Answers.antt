use Rattle.std.proofs.Common.{◌∙◌}
use Rattle.taming_db.proofs.Places.{member_is}
use Rattle.taming_db.proofs.judge.member_named.Goals as goal

pub returns : goal.returns
returns c = c.find_member.ensures ∙ member_is c.member_rows.result.now c.args.class.now c.args.signature.now c.member_rows.ensures.rows
