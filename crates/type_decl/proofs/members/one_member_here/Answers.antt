use Rattle.std.proofs.Common.{◌≡◌, IfOk, refl, sym, subst}
use Rattle.je_ast.specs.declared.decl.Member.TheVariants as node
use Rattle.je_ast.specs.Trees.{Member, initializer}
use Rattle.je_ast.specs.View.{member_node_view, statement_views_of}
use Rattle.je_typing.specs.Judged.{gives}
use Rattle.member_forms.specs.Seen.{members_seen}
use Rattle.type_decl.specs.way.Walks.{one_member}
use Rattle.type_decl.proofs.members.one_member_here.Goals as goal

pub returns-in-Initializer-clause-ok : goal.returns-in-Initializer-clause-ok
returns-in-Initializer-clause-ok c =
    let is : member_node_view c.args.member.now ≡ initializer c.in-Initializer.word c.in-Initializer.body.opening (statement_views_of c.in-Initializer.body.stmts.items) c.in-Initializer.body.closing c.in-Initializer.span =
    rw c.in-Initializer.is (rw (node.outs-Initializer c.in-Initializer.word c.in-Initializer.body c.in-Initializer.span) refl) in
    subst (λ (m : Member). IfOk c.initializer.result (λ d. one_member c.args.walk c.args.fields c.args.methods m ≡ gives (members_seen d))) (sym is) c.initializer.ensures.ok
