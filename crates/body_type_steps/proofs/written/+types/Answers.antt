use Rattle.std.proofs.Common.{◌≡◌, IfErr, IfOk, List, map, sym, ap, ◌∙◌, subst, arith}
use Rattle.std.proofs.lemmas.Result.{err_from_is_err_and}
use Rattle.je_ast.specs.Types.{name_view, type_node_view, type_views_of}
use Rattle.je_scopes.specs.SourceTypes.{SourceType}
use Rattle.je_typing.specs.Answers.{IsFault}
use Rattle.je_typing.specs.Judged.{Judged, gives}
use Rattle.name_types.proofs.Named.{class_node}
use Rattle.name_types.specs.declared.types.SrcTy.{SrcTy}
use Rattle.name_types.specs.View.{all_shown, shown}
use Rattle.name_steps.specs.Places.{frame_seen, program_seen}
use Rattle.body_types.specs.BodyTypes.{body_types}
use Rattle.body_type_steps.proofs.Arguments.{argument_fails, argument_on, arguments_end, gathered, none_yet}
use Rattle.body_type_steps.proofs.ClassTypes.{arguments_fail, behind_them}
use Rattle.body_type_steps.proofs.written.+types.Goals as goal

pub body_type_here-returns-in_err-types-in-Class-clause-err : goal.body_type_here-returns-in_err-types-in-Class-clause-err
body_type_here-returns-in_err-types-in-Class-clause-err t c =
    let p = err_from_is_err_and c.from_residual.result c.from_residual.ensures.1 in
    rw (p.1, p.2) (arguments_fail (program_seen c.args.program.now) (frame_seen c.args.here.now) (type_node_view c.args.ty.now) (name_view c.in-Class.name) (type_views_of c.in-Class.args.items) c.in-Class.dims c.in-Class.span
    (class_node c.args.ty.now c.in-Class.name c.in-Class.args c.in-Class.dims c.in-Class.span c.in-Class.is) _ (ap type_views_of c.deref.ensures.value) _ c.in_err-types-in-Class.ensures.err)

pub body_type_here-returns-in_ok-types-in-Class-clause-ok : goal.body_type_here-returns-in_ok-types-in-Class-clause-ok
body_type_here-returns-in_ok-types-in-Class-clause-ok t c =
    let whole = behind_them (program_seen c.args.program.now) (frame_seen c.args.here.now) (type_node_view c.args.ty.now) (name_view c.in-Class.name) (type_views_of c.in-Class.args.items) c.in-Class.dims c.in-Class.span
    (class_node c.args.ty.now c.in-Class.name c.in-Class.args c.in-Class.dims c.in-Class.span c.in-Class.is) _ (ap type_views_of c.deref.ensures.value)
    _ (all_shown c.in_ok-types-in-Class.types.items) (ap type_views_of c.deref-in-Class.ensures.value) c.in_ok-types-in-Class.ensures.ok in
    subst (λ (j : Judged SourceType). IfOk c.class_type.result (λ u. j ≡ gives (shown u))) (sym whole) c.class_type.ensures.ok

pub body_type_here-returns-in_ok-types-in-Class-clause-err : goal.body_type_here-returns-in_ok-types-in-Class-clause-err
body_type_here-returns-in_ok-types-in-Class-clause-err t c =
    let whole = behind_them (program_seen c.args.program.now) (frame_seen c.args.here.now) (type_node_view c.args.ty.now) (name_view c.in-Class.name) (type_views_of c.in-Class.args.items) c.in-Class.dims c.in-Class.span
    (class_node c.args.ty.now c.in-Class.name c.in-Class.args c.in-Class.dims c.in-Class.span c.in-Class.is) _ (ap type_views_of c.deref.ensures.value)
    _ (all_shown c.in_ok-types-in-Class.types.items) (ap type_views_of c.deref-in-Class.ensures.value) c.in_ok-types-in-Class.ensures.ok in
    subst (λ (j : Judged SourceType). IfErr c.class_type.result (IsFault j)) (sym whole) c.class_type.ensures.err

pub body_types-loop-arg-init : goal.body_types-loop-arg-init
body_types-loop-arg-init t c =
    let all = body_types (program_seen c.args.program.now) (frame_seen c.args.here.now) (type_views_of c.args.args.now) in
    none_yet all ∙ ap (λ (ts : List SrcTy). gathered (map shown ts) all) (sym c.new-types.ensures.items)

pub body_types-loop-arg-preserved : goal.body_types-loop-arg-preserved
body_types-loop-arg-preserved t c =
    argument_on (program_seen c.args.program.now) (frame_seen c.args.here.now) c.args.args.now c.loop-arg.arg-index c.loop-arg.types.items _ c.loop-arg.invariant
    c.arg-item.result (omega arith) c.arg-item.is c.in_ok-body_type.field-0 _ c.in_ok-push.ensures.items c.in_ok-body_type.ensures.ok

pub body_types-returns-in_err-body_type-clause-err : goal.body_types-returns-in_err-body_type-clause-err
body_types-returns-in_err-body_type-clause-err t c =
    let p = err_from_is_err_and c.from_residual.result c.from_residual.ensures.1 in
    rw (p.1, p.2) (argument_fails (program_seen c.args.program.now) (frame_seen c.args.here.now) c.args.args.now c.loop-arg.arg-index c.loop-arg.types.items _ c.loop-arg.invariant
    c.arg-item.result (omega arith) c.arg-item.is _ c.in_err-body_type.ensures.err)

pub body_types-returns-clause-ok : goal.body_types-returns-clause-ok
body_types-returns-clause-ok t c =
    arguments_end (program_seen c.args.program.now) (frame_seen c.args.here.now) c.args.args.now c.loop-arg.arg-index c.loop-arg.types.items _ c.loop-arg.invariant c.loop-arg-test.false
