use Rattle.std.proofs.Common.{◌≡◌, Bor, List, Option, Some, None, true, false, ◌∷◌, map, option_map, refl, sym, ap, ◌∙◌, subst}
use Rattle.std.specs.Option.{option_copied}
use Rattle.std.proofs.lemmas.Result.{on_ok_weaker}
use Rattle.je_ast.specs.declared.decl.Member.TheVariants as node
use Rattle.je_ast.specs.declared.decl.Modifier.{Modifier}
use Rattle.je_ast.specs.declared.ty_name.TyName.{TyName}
use Rattle.je_ast.specs.Types.{formal_view, name_view, type_view, type_view_of_option}
use Rattle.je_ast.specs.View.{member_node_view}
use Rattle.je_scopes.specs.Sites.{has_static}
use Rattle.je_scopes.specs.Members.{MethodSite, methods_before, part_of}
use Rattle.type_faults.specs.Program.{source_in}
use Rattle.name_judge.specs.way.Progress.{MethodsLeft}
use Rattle.name_judge.proofs.methods.judge_member_here.Goals as goal

copied-view : (t : Option (Bor TyName)) → type_view_of_option (option_copied t) ≡ option_map (λ t. type_view t.now) t
copied-view None = refl
copied-view (Some t) = refl

pub returns-in-Method : goal.returns-in-Method
returns-in-Method c =
    let m : MethodSite = record { is_constructor = false; modifiers = c.in-Method.modifiers.items; name = c.in-Method.name; result = type_view_of_option c.in-Method.result; formals = map formal_view c.in-Method.formals.items; throws = map name_view c.in-Method.throws.items } in
    let before : (rest : List MethodSite) → methods_before (member_node_view c.args.member.now) rest ≡ m ∷ rest =
    λ rest. rw c.in-Method.is (rw (node.outs-Method c.in-Method.modifiers c.in-Method.result c.in-Method.name c.in-Method.formals c.in-Method.throws c.in-Method.body c.in-Method.span) refl) in
    on_ok_weaker c.judge_method.result
    (λ k r s w h. k m r s w
    (record {
      head = record {
        sort = refl;
        name = refl;
        formals = ap (map formal_view) (sym c.deref-in-Method.ensures.value);
        part = sym (c.method_part.ensures ∙ ap (λ (ms : List Modifier). part_of (has_static ms)) c.deref.ensures.value);
      };
      span = refl;
      result = ap type_view_of_option (sym c.as_ref.ensures.value) ∙ copied-view c.as_ref.result;
      throws = ap (map name_view) (sym c.deref-in-Method-2.ensures.value);
    })
    (subst (λ (ms : List MethodSite). MethodsLeft (source_in c.args.program.now) c.args.class.0 s c.args.faults.now c.args.met.now ms w) (before r) h))
    c.judge_method.ensures

pub returns-in-Constructor : goal.returns-in-Constructor
returns-in-Constructor c =
    let m : MethodSite = record { is_constructor = true; modifiers = c.in-Constructor.modifiers.items; name = c.in-Constructor.name; result = None; formals = map formal_view c.in-Constructor.formals.items; throws = map name_view c.in-Constructor.throws.items } in
    let before : (rest : List MethodSite) → methods_before (member_node_view c.args.member.now) rest ≡ m ∷ rest =
    λ rest. rw c.in-Constructor.is (rw (node.outs-Constructor c.in-Constructor.modifiers c.in-Constructor.name c.in-Constructor.formals c.in-Constructor.throws c.in-Constructor.call c.in-Constructor.body c.in-Constructor.span) refl) in
    on_ok_weaker c.judge_method-in-Constructor.result
    (λ k r s w h. k m r s w
    (record {
      head = record { sort = refl; name = refl; formals = ap (map formal_view) (sym c.deref-in-Constructor.ensures.value); part = refl };
      span = refl;
      result = refl;
      throws = ap (map name_view) (sym c.deref-in-Constructor-2.ensures.value);
    })
    (subst (λ (ms : List MethodSite). MethodsLeft (source_in c.args.program.now) c.args.class.0 s c.args.faults.now c.args.met.now ms w) (before r) h))
    c.judge_method-in-Constructor.ensures
