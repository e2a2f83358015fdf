use Rattle.std.proofs.Common.{map, arith}
use Rattle.std.proofs.lemmas.Result.{err_from_is_err_and}
use Rattle.class_methods.specs.View.{method_seen}
use Rattle.signature_steps.specs.View.{setting_of}
use Rattle.signature_steps.proofs.MembersMet.{member_on, member_fails}
use Rattle.signature_steps.proofs.members.judge_members.Goals as goal

pub loop-member-preserved : goal.loop-member-preserved
loop-member-preserved c =
    member_on (setting_of c.args.setting) c.args.class.0 c.args.members.now c.loop-member.member-index c.loop-member.at (map method_seen c.loop-member.earlier.items) c.member-item.result (omega arith) c.member-item.is c.loop-member.invariant
    c.in_ok-at.at (map method_seen c.next_place.new.earlier.items) tt c.in_ok-at.ensures.place c.in_ok-at.ensures.earlier c.in_ok-judge_member.ensures.ok

pub returns-in_err-judge_member-clause-err : goal.returns-in_err-judge_member-clause-err
returns-in_err-judge_member-clause-err c =
    let p = err_from_is_err_and c.from_residual.result c.from_residual.ensures.1 in
    rw (p.1, p.2) (member_fails (setting_of c.args.setting) c.args.class.0 c.args.members.now c.loop-member.member-index c.loop-member.at (map method_seen c.loop-member.earlier.items) c.member-item.result (omega arith) c.member-item.is c.loop-member.invariant
    _ c.in_err-judge_member.ensures.err)
