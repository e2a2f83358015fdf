use Rattle.std.proofs.Common.{◌≡◌, List, [], ap, ◌∙◌, subst}
use Rattle.std.proofs.lemmas.Result.{on_ok_weaker}
use Rattle.je_ast.specs.View.{member_views_of}
use Rattle.je_scopes.specs.Headers.{members_in}
use Rattle.je_scopes.specs.Members.{MethodSite, method_sites, methods_of}
use Rattle.je_scopes.specs.Faults.{of_methods}
use Rattle.name_faults.specs.View.{Adds}
use Rattle.type_faults.specs.Program.{source_in}
use Rattle.name_judge.proofs.MethodSteps.{methods_begin, methods_done}
use Rattle.name_judge.proofs.methods.judge_methods.Goals as goal

pub returns : goal.returns
returns c =
    let methods : method_sites (member_views_of c.members_of-members.result.now) ≡ methods_of (source_in c.args.program.now) c.args.class.0 =
    ap method_sites (c.members_of-members.ensures ∙ ap members_in c.written.ensures) in
    on_ok_weaker c.judge_members.result
    (λ k. subst (λ (ms : List MethodSite). Adds c.args.faults.now c.judge_members.new.faults (of_methods (source_in c.args.program.now) c.args.class.0 [] ms)) methods
    (methods_done (source_in c.args.program.now) c.args.class.0 _ c.args.faults.now c.judge_members.new.faults c.judge_members.new.met
    (k c.args.faults.now _ (methods_begin (source_in c.args.program.now) c.args.class.0 c.args.faults.now c.new-met.result _ (c.new-met.ensures (source_in c.args.program.now) c.args.class.0)))))
    c.judge_members.ensures
