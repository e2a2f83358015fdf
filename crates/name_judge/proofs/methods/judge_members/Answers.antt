use Rattle.std.proofs.Common.{◌+◌, drop, arith}
use Rattle.je_ast.specs.View.{member_views_of}
use Rattle.je_scopes.specs.Members.{method_sites}
use Rattle.type_faults.specs.Program.{source_in}
use Rattle.name_judge.proofs.MethodSteps.{member_next, members_end}
use Rattle.name_judge.proofs.methods.judge_members.Goals as goal

pub loop-member-preserved : goal.loop-member-preserved
loop-member-preserved c = λ s w h. c.in_ok-judge_member.ensures (method_sites (member_views_of (drop (c.loop-member.member-index + 1) c.args.members.now))) s w
    (member_next (source_in c.args.program.now) c.args.class.0 w c.args.members.now c.loop-member.member-index s c.loop-member.faults c.loop-member.met c.member-item.result (omega arith) c.member-item.is (c.loop-member.invariant s w h))

pub returns : goal.returns
returns c = λ s w h. members_end (source_in c.args.program.now) c.args.class.0 w c.args.members.now c.loop-member.member-index s c.loop-member.faults c.loop-member.met (omega arith) (c.loop-member.invariant s w h)
