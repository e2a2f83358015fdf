use Rattle.std.proofs.Common.{◌≡◌, IfOk, IfErr, List, refl, ap, sym, subst, arith}
use Rattle.std.proofs.lemmas.Result.{err_from_is_err_and}
use Rattle.je_ast.specs.declared.ty_name.TyName.{TyName}
use Rattle.je_ast.specs.declared.ty_name.TyName.TheVariants as node
use Rattle.je_ast.specs.Types.{class_type, name_view, type_node_view, type_view, type_views_of}
use Rattle.je_typing.specs.Answers.{IsFault}
use Rattle.je_typing.specs.Judged.{Judged, gives}
use Rattle.source_subtypes.specs.View.{heads_of}
use Rattle.header_typing.specs.WrittenTypes.{all_well_written, well_written}
use Rattle.written_types.specs.Meaning.{means}
use Rattle.written_types.proofs.ClassTypes.{arguments_fail, bounds_fail, comes_to_whole}
use Rattle.written_types.proofs.Walking.{walk_on, walk_fails}
use Rattle.written_types.proofs.walk.+types.Goals as goal

pub judge_types-loop-ty-preserved : goal.judge_types-loop-ty-preserved
judge_types-loop-ty-preserved t c =
    walk_on (λ (u : Unit {0}) (us : List TyName). all_well_written (heads_of c.args.all.heads.now) (means c.args.all c.args.place) (type_views_of us)) c.args.types.now c.loop-ty.ty-index tt _ c.ty-item.result
    (well_written (heads_of c.args.all.heads.now) (means c.args.all c.args.place) (type_view c.ty-item.result)) tt (λ us. refl) (omega arith) c.ty-item.is c.loop-ty.invariant tt c.in_ok-judge_type.ensures.ok

pub judge_types-returns-in_err-judge_type-clause-err : goal.judge_types-returns-in_err-judge_type-clause-err
judge_types-returns-in_err-judge_type-clause-err t c =
    let p = err_from_is_err_and c.from_residual.result c.from_residual.ensures.1 in
    rw (p.1, p.2) (walk_fails (λ (u : Unit {0}) (us : List TyName). all_well_written (heads_of c.args.all.heads.now) (means c.args.all c.args.place) (type_views_of us)) c.args.types.now c.loop-ty.ty-index tt _ c.ty-item.result
    (well_written (heads_of c.args.all.heads.now) (means c.args.all c.args.place) (type_view c.ty-item.result)) tt (λ us. refl) (omega arith) c.ty-item.is c.loop-ty.invariant _ c.in_err-judge_type.ensures.err)

pub judge_type_here-returns-in_err-judge_types-in-Class-clause-err : goal.judge_type_here-returns-in_err-judge_types-in-Class-clause-err
judge_type_here-returns-in_err-judge_types-in-Class-clause-err t c =
    let is : type_node_view c.args.ty.now ≡ class_type (name_view c.in-Class.name) (type_views_of c.in-Class.args.items) c.in-Class.dims c.in-Class.span =
    rw c.in-Class.is (rw (node.outs-Class c.in-Class.name c.in-Class.args c.in-Class.dims c.in-Class.span) refl) in
    let walked = ap type_views_of c.deref.ensures.value in
    let p = err_from_is_err_and c.from_residual.result c.from_residual.ensures.1 in
    rw (p.1, p.2) (arguments_fail (heads_of c.args.all.heads.now) (means c.args.all c.args.place) (type_node_view c.args.ty.now) (name_view c.in-Class.name) (type_views_of c.in-Class.args.items) c.in-Class.dims c.in-Class.span is _ walked _ c.in_err-judge_types-in-Class.ensures.err)

pub judge_type_here-returns-in_err-judge_bounds-in-Class-clause-err : goal.judge_type_here-returns-in_err-judge_bounds-in-Class-clause-err
judge_type_here-returns-in_err-judge_bounds-in-Class-clause-err t c =
    let is : type_node_view c.args.ty.now ≡ class_type (name_view c.in-Class.name) (type_views_of c.in-Class.args.items) c.in-Class.dims c.in-Class.span =
    rw c.in-Class.is (rw (node.outs-Class c.in-Class.name c.in-Class.args c.in-Class.dims c.in-Class.span) refl) in
    let walked = ap type_views_of c.deref.ensures.value in
    let p = err_from_is_err_and c.from_residual-in_err-judge_bounds-in-Class.result c.from_residual-in_err-judge_bounds-in-Class.ensures.1 in
    rw (p.1, p.2) (bounds_fail (heads_of c.args.all.heads.now) (means c.args.all c.args.place) (type_node_view c.args.ty.now) (name_view c.in-Class.name) (type_views_of c.in-Class.args.items) c.in-Class.dims c.in-Class.span is _ walked
    _ (ap type_views_of c.deref-in-Class.ensures.value) tt c.in_ok-judge_types-in-Class.ensures.ok _ c.in_err-judge_bounds-in-Class.ensures.err)

pub judge_type_here-returns-in_ok-judge_bounds-in-Class-clause-ok : goal.judge_type_here-returns-in_ok-judge_bounds-in-Class-clause-ok
judge_type_here-returns-in_ok-judge_bounds-in-Class-clause-ok t c =
    let is : type_node_view c.args.ty.now ≡ class_type (name_view c.in-Class.name) (type_views_of c.in-Class.args.items) c.in-Class.dims c.in-Class.span =
    rw c.in-Class.is (rw (node.outs-Class c.in-Class.name c.in-Class.args c.in-Class.dims c.in-Class.span) refl) in
    let walked = ap type_views_of c.deref.ensures.value in
    let whole = comes_to_whole (heads_of c.args.all.heads.now) (means c.args.all c.args.place) (type_node_view c.args.ty.now) (name_view c.in-Class.name) (type_views_of c.in-Class.args.items) c.in-Class.dims c.in-Class.span is _ walked
    _ (ap type_views_of c.deref-in-Class.ensures.value) tt c.in_ok-judge_types-in-Class.ensures.ok tt c.is_in_limit-in-Class.result c.in_ok-judge_bounds-in-Class.ensures.ok c.is_in_limit-in-Class.ensures in
    subst (λ (j : Judged (Unit {0})). IfOk c.check-in-Class.result (λ done. j ≡ gives done)) (sym whole) c.check-in-Class.ensures.ok

pub judge_type_here-returns-in_ok-judge_bounds-in-Class-clause-err : goal.judge_type_here-returns-in_ok-judge_bounds-in-Class-clause-err
judge_type_here-returns-in_ok-judge_bounds-in-Class-clause-err t c =
    let is : type_node_view c.args.ty.now ≡ class_type (name_view c.in-Class.name) (type_views_of c.in-Class.args.items) c.in-Class.dims c.in-Class.span =
    rw c.in-Class.is (rw (node.outs-Class c.in-Class.name c.in-Class.args c.in-Class.dims c.in-Class.span) refl) in
    let walked = ap type_views_of c.deref.ensures.value in
    let whole = comes_to_whole (heads_of c.args.all.heads.now) (means c.args.all c.args.place) (type_node_view c.args.ty.now) (name_view c.in-Class.name) (type_views_of c.in-Class.args.items) c.in-Class.dims c.in-Class.span is _ walked
    _ (ap type_views_of c.deref-in-Class.ensures.value) tt c.in_ok-judge_types-in-Class.ensures.ok tt c.is_in_limit-in-Class.result c.in_ok-judge_bounds-in-Class.ensures.ok c.is_in_limit-in-Class.ensures in
    subst (λ (j : Judged (Unit {0})). IfErr c.check-in-Class.result (IsFault j)) (sym whole) c.check-in-Class.ensures.err
