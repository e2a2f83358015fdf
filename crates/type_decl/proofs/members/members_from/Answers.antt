use Rattle.std.proofs.Common.{ℕ, List, ◌+◌, drop, refl, ap, ◌∙◌, arith}
use Rattle.std.proofs.lemmas.Result.{err_from_is_err_and}
use Rattle.je_ast.specs.declared.decl.Member.{Member}
use Rattle.je_ast.specs.View.{member_view, member_views_of}
use Rattle.class_typing.specs.Members.{MembersDone, fields_behind, methods_behind}
use Rattle.member_forms.specs.Seen.{members_seen}
use Rattle.type_decl.specs.way.Walks.{members_from, one_member}
use Rattle.type_decl.proofs.Following.{behind, behind_nothing, ends, fails, follows}
use Rattle.type_decl.proofs.members.members_from.Goals as goal

pub loop-member-init : goal.loop-member-init
loop-member-init c =
    ap (λ (d : MembersDone). behind d (members_from c.args.walk c.args.hidden 0 (member_views_of c.args.members.now))) c.nothing-done.ensures
    ∙ behind_nothing (members_from c.args.walk c.args.hidden 0 (member_views_of c.args.members.now))

pub loop-member-preserved : goal.loop-member-preserved
loop-member-preserved c =
    (λ i. behind (c.in_ok-follow.ensures i) (members_from c.args.walk (c.in_ok-fields.ensures i) (c.in_ok-methods.ensures i) (member_views_of (drop (c.loop-member.member-index + 1) c.args.members.now))))
    ∙ (follows (λ (at : ℕ × ℕ) (ms : List Member). members_from c.args.walk at.0 at.1 (member_views_of ms)) c.args.members.now c.loop-member.member-index (c.loop-member.fields, c.loop-member.methods) _ (members_seen c.loop-member.done)
    c.member-item.result (one_member c.args.walk c.loop-member.fields c.loop-member.methods (member_view c.member-item.result))
    (fields_behind c.loop-member.fields (member_view c.member-item.result), methods_behind c.loop-member.methods (member_view c.member-item.result)) (λ ys. refl) (omega arith) c.member-item.is c.loop-member.invariant
    (members_seen c.in_ok-more.more) c.in_ok-more.ensures.ok)

pub returns-in_err-more-clause-err : goal.returns-in_err-more-clause-err
returns-in_err-more-clause-err c =
    let p = err_from_is_err_and c.from_residual.result c.from_residual.ensures.1 in
    rw (p.1, p.2)
    (fails (λ (at : ℕ × ℕ) (ms : List Member). members_from c.args.walk at.0 at.1 (member_views_of ms)) c.args.members.now c.loop-member.member-index (c.loop-member.fields, c.loop-member.methods) _ (members_seen c.loop-member.done)
    c.member-item.result (one_member c.args.walk c.loop-member.fields c.loop-member.methods (member_view c.member-item.result))
    (fields_behind c.loop-member.fields (member_view c.member-item.result), methods_behind c.loop-member.methods (member_view c.member-item.result)) (λ ys. refl) (omega arith) c.member-item.is c.loop-member.invariant
    _ c.in_err-more.ensures.err)

pub returns-clause-ok : goal.returns-clause-ok
returns-clause-ok c =
    ends (λ (at : ℕ × ℕ) (ms : List Member). members_from c.args.walk at.0 at.1 (member_views_of ms)) c.args.members.now c.loop-member.member-index (c.loop-member.fields, c.loop-member.methods) _ (members_seen c.loop-member.done) refl (omega arith) c.loop-member.invariant
