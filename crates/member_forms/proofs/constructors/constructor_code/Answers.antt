use Rattle.std.proofs.Common.{◌≡◌, ◌∷◌, [], map, ap, ◌∙◌}
use Rattle.std.specs.Prelude.{Some, codes, option_map}
use Rattle.je_ast.specs.View.{constructor_invocation_view}
use Rattle.je_core.specs.View.{method_view, stmt_view}
use Rattle.declarations.specs.View.{method_shown}
use Rattle.body_typing.specs.Bodies.{Done, block_of}
use Rattle.class_typing.specs.Captures.{listed}
use Rattle.class_typing.specs.Members.{nothing}
use Rattle.statement_forms.specs.Bodies.{met_seen}
use Rattle.typed_nodes.specs.Seen.{seen}
use Rattle.statement_forms.specs.Seen.{done_in, progress_seen}
use Rattle.member_forms.specs.Walks.{code_of, number, with_head}
use Rattle.member_forms.proofs.constructors.constructor_code.Goals as goal

pub returns : goal.returns
returns c = λ s.
    let behind : Done = with_head c.args.walk c.args.block.now.opening (constructor_invocation_view c.args.head.written.now)
    (listed (option_map seen c.args.head.call)) (done_in c.args.done s (progress_seen c.args.progress)) in
    let body : stmt_view c.in_ok-body.body ≡ block_of c.args.block.now.opening c.args.block.now.closing behind =
    c.in_ok-body.ensures s (progress_seen c.args.progress)
    ∙ ap (block_of c.args.block.now.opening c.args.block.now.closing) (c.in_ok-whole.ensures s (progress_seen c.args.progress)) in
    let method : method_view c.in_ok-method.method ≡ code_of c.args.walk (number c.args.walk (codes "new")) c.args.name.span
    (method_shown c.args.declared.now) c.args.progress.locals.items (Some (block_of c.args.block.now.opening c.args.block.now.closing behind)) =
    c.in_ok-method.ensures
    ∙ (λ i. code_of c.args.walk (c.number-word.ensures i) c.args.name.span (method_shown c.args.declared.now) c.args.progress.locals.items (Some (body i))) in
    c.in_ok-members.ensures
    ∙ (λ i. record nothing {
      methods = method i ∷ [];
      calls = c.in_ok-calls.ensures i;
      met = map met_seen c.args.progress.met.items;
    })
