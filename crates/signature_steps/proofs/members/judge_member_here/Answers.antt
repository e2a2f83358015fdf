use Rattle.std.proofs.Common.{◌≡◌, IfOk, IfErr, List, map, refl, ap, subst, ◌∙◌}
use Rattle.std.specs.Prelude.{option_map}
use Rattle.je_ast.specs.declared.decl.Member.TheVariants as node
use Rattle.je_ast.specs.declared.decl.Modifier.{Modifier}
use Rattle.je_ast.specs.Parts.{maybe_block}
use Rattle.je_ast.specs.Trees as tree
use Rattle.je_ast.specs.Types.{formal_view, name_view, type_view_of_option}
use Rattle.je_ast.specs.View.{block_view, constructor_invocation_view, member_node_view, statement_views_of}
use Rattle.je_scopes.specs.Members.{part_of as the_part_of}
use Rattle.je_scopes.specs.Sites.{has_static}
use Rattle.je_typing.specs.Answers.{IsFault}
use Rattle.je_typing.specs.Judged.{Judged, gives}
use Rattle.name_lookup.specs.View.{part_view}
use Rattle.signature_steps.specs.View.{setting_of}
use Rattle.signature_steps.proofs.Written.{constructor_member_is, method_is}
use Rattle.signature_steps.proofs.members.judge_member_here.Goals as goal

pub returns-in-Method-clause-ok : goal.returns-in-Method-clause-ok
returns-in-Method-clause-ok c =
    let is : member_node_view c.args.member.now ≡ tree.method c.in-Method.modifiers.items (type_view_of_option c.in-Method.result) c.in-Method.name (map formal_view c.in-Method.formals.items) (map name_view c.in-Method.throws.items) (maybe_block (option_map block_view c.in-Method.body)) c.in-Method.span =
    rw c.in-Method.is (rw (node.outs-Method c.in-Method.modifiers c.in-Method.result c.in-Method.name c.in-Method.formals c.in-Method.throws c.in-Method.body c.in-Method.span) refl) in
    let part = c.part_of.ensures ∙ ap the_part_of c.has_static.ensures ∙ ap (λ (ms : List Modifier). the_part_of (has_static ms)) c.deref-in-Method.ensures.value in
    let whole = method_is (setting_of c.args.setting) c.args.class.0 c.args.at c.in-Method.name (member_node_view c.args.member.now) c.in-Method.modifiers.items (map formal_view c.in-Method.formals.items) (map name_view c.in-Method.throws.items)
    _ _ _ c.deref-in-Method-2.ensures.value (ap (map formal_view) c.deref-in-Method-3.ensures.value) (ap (map name_view) c.deref-in-Method-4.ensures.value)
    (type_view_of_option c.in-Method.result) (maybe_block (option_map block_view c.in-Method.body)) c.in-Method.span (part_view c.part_of.result) is part in
    subst (λ (j : Judged (Unit {0})). IfOk c.judge_method.result (λ done. j ≡ gives done)) whole c.judge_method.ensures.ok

pub returns-in-Method-clause-err : goal.returns-in-Method-clause-err
returns-in-Method-clause-err c =
    let is : member_node_view c.args.member.now ≡ tree.method c.in-Method.modifiers.items (type_view_of_option c.in-Method.result) c.in-Method.name (map formal_view c.in-Method.formals.items) (map name_view c.in-Method.throws.items) (maybe_block (option_map block_view c.in-Method.body)) c.in-Method.span =
    rw c.in-Method.is (rw (node.outs-Method c.in-Method.modifiers c.in-Method.result c.in-Method.name c.in-Method.formals c.in-Method.throws c.in-Method.body c.in-Method.span) refl) in
    let part = c.part_of.ensures ∙ ap the_part_of c.has_static.ensures ∙ ap (λ (ms : List Modifier). the_part_of (has_static ms)) c.deref-in-Method.ensures.value in
    let whole = method_is (setting_of c.args.setting) c.args.class.0 c.args.at c.in-Method.name (member_node_view c.args.member.now) c.in-Method.modifiers.items (map formal_view c.in-Method.formals.items) (map name_view c.in-Method.throws.items)
    _ _ _ c.deref-in-Method-2.ensures.value (ap (map formal_view) c.deref-in-Method-3.ensures.value) (ap (map name_view) c.deref-in-Method-4.ensures.value)
    (type_view_of_option c.in-Method.result) (maybe_block (option_map block_view c.in-Method.body)) c.in-Method.span (part_view c.part_of.result) is part in
    subst (λ (j : Judged (Unit {0})). IfErr c.judge_method.result (IsFault j)) whole c.judge_method.ensures.err

pub returns-in-Constructor-clause-ok : goal.returns-in-Constructor-clause-ok
returns-in-Constructor-clause-ok c =
    let is : member_node_view c.args.member.now ≡ tree.constructor c.in-Constructor.modifiers.items c.in-Constructor.name (map formal_view c.in-Constructor.formals.items) (map name_view c.in-Constructor.throws.items) (constructor_invocation_view c.in-Constructor.call) c.in-Constructor.body.opening (statement_views_of c.in-Constructor.body.stmts.items) c.in-Constructor.body.closing c.in-Constructor.span =
    rw c.in-Constructor.is (rw (node.outs-Constructor c.in-Constructor.modifiers c.in-Constructor.name c.in-Constructor.formals c.in-Constructor.throws c.in-Constructor.call c.in-Constructor.body c.in-Constructor.span) refl) in
    let whole = constructor_member_is (setting_of c.args.setting) c.args.class.0 c.args.at c.in-Constructor.name (member_node_view c.args.member.now) c.in-Constructor.modifiers.items (map formal_view c.in-Constructor.formals.items) (map name_view c.in-Constructor.throws.items)
    _ _ _ c.deref-in-Constructor.ensures.value (ap (map formal_view) c.deref-in-Constructor-2.ensures.value) (ap (map name_view) c.deref-in-Constructor-3.ensures.value)
    (constructor_invocation_view c.in-Constructor.call) c.in-Constructor.body.opening (statement_views_of c.in-Constructor.body.stmts.items) c.in-Constructor.body.closing c.in-Constructor.span is in
    subst (λ (j : Judged (Unit {0})). IfOk c.judge_constructor_member.result (λ done. j ≡ gives done)) whole c.judge_constructor_member.ensures.ok

pub returns-in-Constructor-clause-err : goal.returns-in-Constructor-clause-err
returns-in-Constructor-clause-err c =
    let is : member_node_view c.args.member.now ≡ tree.constructor c.in-Constructor.modifiers.items c.in-Constructor.name (map formal_view c.in-Constructor.formals.items) (map name_view c.in-Constructor.throws.items) (constructor_invocation_view c.in-Constructor.call) c.in-Constructor.body.opening (statement_views_of c.in-Constructor.body.stmts.items) c.in-Constructor.body.closing c.in-Constructor.span =
    rw c.in-Constructor.is (rw (node.outs-Constructor c.in-Constructor.modifiers c.in-Constructor.name c.in-Constructor.formals c.in-Constructor.throws c.in-Constructor.call c.in-Constructor.body c.in-Constructor.span) refl) in
    let whole = constructor_member_is (setting_of c.args.setting) c.args.class.0 c.args.at c.in-Constructor.name (member_node_view c.args.member.now) c.in-Constructor.modifiers.items (map formal_view c.in-Constructor.formals.items) (map name_view c.in-Constructor.throws.items)
    _ _ _ c.deref-in-Constructor.ensures.value (ap (map formal_view) c.deref-in-Constructor-2.ensures.value) (ap (map name_view) c.deref-in-Constructor-3.ensures.value)
    (constructor_invocation_view c.in-Constructor.call) c.in-Constructor.body.opening (statement_views_of c.in-Constructor.body.stmts.items) c.in-Constructor.body.closing c.in-Constructor.span is in
    subst (λ (j : Judged (Unit {0})). IfErr c.judge_constructor_member.result (IsFault j)) whole c.judge_constructor_member.ensures.err
