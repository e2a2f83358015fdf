use Rattle.std.proofs.Common.{◌≡◌, drop}
use Rattle.je_ast.specs.View.{member_views_of}
use Rattle.member_forms.specs.Seen.{members_seen}
use Rattle.type_decl.specs.way.Walks.{members_from}
use Rattle.type_decl.proofs.Following.{behind}
use Rattle.type_decl.proofs.members.members_from.Given as goal

abbrev pub invariant-loop-member : goal.invariant-loop-member
invariant-loop-member l =
    behind (members_seen l.done) (members_from l.walk l.fields l.methods (member_views_of (drop l.member-index l.members)))
    ≡ members_from l.walk l.initial.fields l.initial.methods (member_views_of l.members)
