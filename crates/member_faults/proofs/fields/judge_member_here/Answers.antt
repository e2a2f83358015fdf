use Rattle.std.proofs.Common.{◌≡◌, List, ◌++◌, refl, sym, subst}
use Rattle.std.proofs.lemmas.Result.{on_ok_weaker}
use Rattle.je_ast.specs.declared.decl.Member.TheVariants as node
use Rattle.je_ast.specs.declared.decl.Modifier.{Modifier}
use Rattle.je_ast.specs.declared.stmt.Var.{Var}
use Rattle.je_ast.specs.Types.{type_view}
use Rattle.je_ast.specs.Trees as tree
use Rattle.je_ast.specs.View.{member_node_view, variable_views_of}
use Rattle.je_scopes.specs.Members.{fields_before, variable_sites}
use Rattle.type_faults.specs.Program.{source_in}
use Rattle.member_faults.specs.Progress.{FieldsLeft}
use Rattle.member_faults.proofs.fields.judge_member_here.Goals as goal

pub returns-in-Field : goal.returns-in-Field
returns-in-Field c =
    let e : member_node_view c.args.member.now ≡ tree.field c.in-Field.modifiers.items (type_view c.in-Field.ty) (variable_views_of c.in-Field.vars.items) c.in-Field.span =
    rw c.in-Field.is (rw (node.outs-Field c.in-Field.modifiers c.in-Field.ty c.in-Field.vars c.in-Field.span) refl) in
    on_ok_weaker c.judge_variables.result
    (λ k r s w h. k r s w
    (subst (λ (ms : List Modifier). FieldsLeft (source_in c.args.program.now) c.args.class.0 s c.args.faults.now c.args.met.now (variable_sites ms (type_view c.in-Field.ty) (variable_views_of c.deref-in-Field.result.now) ++ r) w) (sym c.deref.ensures.value)
    (subst (λ (vs : List Var). FieldsLeft (source_in c.args.program.now) c.args.class.0 s c.args.faults.now c.args.met.now (variable_sites c.in-Field.modifiers.items (type_view c.in-Field.ty) (variable_views_of vs) ++ r) w) (sym c.deref-in-Field.ensures.value)
    (subst (λ (m : tree.Member). FieldsLeft (source_in c.args.program.now) c.args.class.0 s c.args.faults.now c.args.met.now (fields_before m r) w) e h))))
    c.judge_variables.ensures
