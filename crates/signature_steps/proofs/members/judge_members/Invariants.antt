use Rattle.std.proofs.Common.{drop, map}
use Rattle.class_methods.specs.View.{method_seen}
use Rattle.je_ast.specs.View.{member_views_of}
use Rattle.signature_steps.specs.View.{setting_of}
use Rattle.signature_steps.proofs.MembersMet.{Judging}
use Rattle.signature_steps.proofs.members.judge_members.Given as goal

abbrev pub invariant-loop-member : goal.invariant-loop-member
invariant-loop-member l =
    Judging (setting_of l.setting) l.class.0 (member_views_of l.members) (member_views_of (drop l.member-index l.members)) l.member-index l.at (map method_seen l.earlier.items)
