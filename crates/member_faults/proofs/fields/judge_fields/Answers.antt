use Rattle.std.proofs.Common.{◌≡◌, List, [], ◌++◌, map, ap, ◌∙◌, subst}
use Rattle.std.proofs.lemmas.Result.{on_ok_weaker}
use Rattle.je_ast.specs.declared.name.Identifier.{Identifier}
use Rattle.je_ast.specs.Trees.{Members}
use Rattle.je_ast.specs.View.{member_views_of}
use Rattle.je_scopes.specs.Headers.{constants_in, members_in, site_at}
use Rattle.je_scopes.specs.Members.{FieldSite, constant_site, field_sites, fields_of}
use Rattle.je_scopes.specs.Faults.{of_fields}
use Rattle.name_faults.specs.View.{Adds}
use Rattle.type_faults.specs.Program.{source_in}
use Rattle.member_faults.proofs.FieldSteps.{fields_begin, fields_done}
use Rattle.member_faults.proofs.fields.judge_fields.Goals as goal

pub returns : goal.returns
returns c =
    let fields : map constant_site c.constants_of.result.now ++ field_sites (member_views_of c.members_of.result.now) ≡ fields_of (source_in c.args.program.now) c.args.class.0 =
    ap (λ (is : List Identifier). map constant_site is ++ field_sites (member_views_of c.members_of.result.now)) (c.constants_of.ensures ∙ ap constants_in c.written-written.ensures)
    ∙ ap (λ (ms : Members). map constant_site (constants_in (site_at (source_in c.args.program.now).sites c.args.class.0).written) ++ field_sites ms) (c.members_of.ensures ∙ ap members_in c.written-written.ensures) in
    on_ok_weaker c.judge_members.result
    (λ k. subst (λ (fs : List FieldSite). Adds c.args.faults.now c.judge_members.new.faults (of_fields (source_in c.args.program.now) c.args.class.0 [] fs)) fields
    (fields_done (source_in c.args.program.now) c.args.class.0 _ c.args.faults.now c.judge_members.new.faults c.judge_members.new.met
    (k c.args.faults.now _ (c.in_ok-judge_constants.ensures (source_in c.args.program.now) c.args.class.0 _ c.args.faults.now _ (fields_begin (source_in c.args.program.now) c.args.class.0 [] c.args.faults.now c.none-met.result _ c.none-met.ensures)))))
    c.judge_members.ensures
