use Rattle.std.proofs.Common.{◌≡◌, IfOk, IfErr, sym, ap, subst, ◌∙◌, List}
use Rattle.je_ast.specs.Types.{type_views_of}
use Rattle.je_scopes.specs.SourceTypes.{SourceType}
use Rattle.je_typing.specs.Answers.{IsFault}
use Rattle.je_typing.specs.Judged.{Judged, gives}
use Rattle.name_types.specs.View.{all_shown, base_shown}
use Rattle.name_types.specs.declared.types.SrcTy.{SrcTy}
use Rattle.source_subtypes.specs.View.{heads_of}
use Rattle.source_subtypes.proofs.Equal.{made-shape}
use Rattle.header_typing.specs.WrittenTypes.{bounded, bounded_from}
use Rattle.written_types.proofs.arguments.bounded_base.Goals as goal

pub returns-in-Made-clause-ok : goal.returns-in-Made-clause-ok
unfolding bounded
returns-in-Made-clause-ok c =
    let heads = heads_of c.args.heads.now in
    let written = type_views_of c.args.written.now in
    let made : bounded_from heads c.in-Made.class.0 (all_shown c.deref.result.now) 0 written ≡ bounded heads (base_shown c.args.base.now c.args.dims) written =
    ap (λ (ts : List SrcTy). bounded_from heads c.in-Made.class.0 (all_shown ts) 0 written) c.deref.ensures.value
    ∙ ap (λ (t : SourceType). bounded heads t written) (sym (made-shape c.args.base.now c.in-Made.class c.in-Made.args c.args.dims c.in-Made.is)) in
    subst (λ (j : Judged (Unit {0})). IfOk c.bounded_arguments.result (λ done. j ≡ gives done)) made c.bounded_arguments.ensures.ok

pub returns-in-Made-clause-err : goal.returns-in-Made-clause-err
unfolding bounded
returns-in-Made-clause-err c =
    let heads = heads_of c.args.heads.now in
    let written = type_views_of c.args.written.now in
    let made : bounded_from heads c.in-Made.class.0 (all_shown c.deref.result.now) 0 written ≡ bounded heads (base_shown c.args.base.now c.args.dims) written =
    ap (λ (ts : List SrcTy). bounded_from heads c.in-Made.class.0 (all_shown ts) 0 written) c.deref.ensures.value
    ∙ ap (λ (t : SourceType). bounded heads t written) (sym (made-shape c.args.base.now c.in-Made.class c.in-Made.args c.args.dims c.in-Made.is)) in
    subst (λ (j : Judged (Unit {0})). IfErr c.bounded_arguments.result (IsFault j)) made c.bounded_arguments.ensures.err
