use Rattle.std.proofs.Common.{◌≡◌, IfErr, IfOk, length, sym, ap, ◌∙◌, subst}
use Rattle.std.proofs.lemmas.Result.{err_from_is_err_and}
use Rattle.je_ast.specs.Types.{name_view, type_views_of}
use Rattle.je_scopes.specs.SourceTypes.{SourceType}
use Rattle.je_typing.specs.Answers.{IsFault}
use Rattle.je_typing.specs.Judged.{Judged, gives}
use Rattle.name_lookup.specs.View.{look_view, numbers}
use Rattle.name_types.specs.declared.types.SrcBase.{SrcBase}
use Rattle.name_types.specs.View.{all_shown, base_shown, shown}
use Rattle.name_types.proofs.Named.{count_of_views}
use Rattle.name_steps.specs.Places.{frame_seen, program_seen}
use Rattle.body_types.specs.BodyTypes.{classes_at, look_at}
use Rattle.body_type_steps.proofs.Behind.{in_bounds, last_by, out_of_bounds, takes_others}
use Rattle.body_type_steps.proofs.written.class_type.Goals as goal

pub returns-in_err-check-clause-err : goal.returns-in_err-check-clause-err
returns-in_err-check-clause-err c =
    let p = err_from_is_err_and c.from_residual-in_err-check.result c.from_residual-in_err-check.ensures.1 in
    let program = program_seen c.args.program.now in
    let here = frame_seen c.args.here.now in
    let means = c.in_ok-meant.ensures.look ∙ ap (look_at program here) c.deref.ensures.value in
    rw (p.1, p.2) (takes_others program here (name_view c.args.class.name.now) c.args.class.dims c.args.class.span (look_view c.in_ok-meant.meant.look) means
    (type_views_of c.args.class.args.now) (all_shown c.args.types.items) (length c.args.class.args.now) c.takes-takes_these.result (sym (count_of_views c.args.class.args.now)) (c.takes-takes_these.ensures here)
    _ c.in_err-check.ensures.err)

pub returns-in_err-bounded-clause-err : goal.returns-in_err-bounded-clause-err
returns-in_err-bounded-clause-err c =
    let p = err_from_is_err_and c.from_residual-in_err-bounded.result c.from_residual-in_err-bounded.ensures.1 in
    let program = program_seen c.args.program.now in
    let here = frame_seen c.args.here.now in
    let means = c.in_ok-meant.ensures.look ∙ ap (look_at program here) c.deref.ensures.value in
    rw (p.1, p.2) (out_of_bounds program here (name_view c.args.class.name.now) c.args.class.dims c.args.class.span (look_view c.in_ok-meant.meant.look) means
    (type_views_of c.args.class.args.now) (all_shown c.args.types.items) (length c.args.class.args.now) c.takes-takes_these.result (sym (count_of_views c.args.class.args.now)) (c.takes-takes_these.ensures here)
    c.in_ok-check.field-0 c.in_ok-check.ensures.ok (shown c.flat-whole.result) (c.flat-whole.ensures.shown ∙ c.base_of_look.ensures program here 0) _ c.in_err-bounded.ensures.err)

pub returns-clause-ok : goal.returns-clause-ok
returns-clause-ok c =
    let program = program_seen c.args.program.now in
    let here = frame_seen c.args.here.now in
    let means = c.in_ok-meant.ensures.look ∙ ap (look_at program here) c.deref.ensures.value in
    let whole = in_bounds program here (name_view c.args.class.name.now) c.args.class.dims c.args.class.span (look_view c.in_ok-meant.meant.look) means
    (type_views_of c.args.class.args.now) (all_shown c.args.types.items) (length c.args.class.args.now) c.takes-takes_these.result (sym (count_of_views c.args.class.args.now)) (c.takes-takes_these.ensures here)
    c.in_ok-check.field-0 c.in_ok-check.ensures.ok (shown c.flat-whole.result) (c.flat-whole.ensures.shown ∙ c.base_of_look.ensures program here 0) c.in_ok-bounded.field-0 c.in_ok-bounded.ensures.ok
    ∙ last_by program here (name_view c.args.class.name.now) c.args.class.dims c.args.class.span (look_view c.in_ok-meant.meant.look) means (all_shown c.args.types.items) (numbers c.deref-2.result.now) (base_shown c.flat-whole.result.base)
    (ap numbers c.deref-2.ensures.value ∙ c.in_ok-meant.ensures.named ∙ ap (classes_at program here) c.deref.ensures.value)
    (ap (λ (b : SrcBase). base_shown b c.args.class.dims) c.flat-whole.ensures.base ∙ c.base_of_look.ensures program here c.args.class.dims) in
    subst (λ (j : Judged SourceType). IfOk c.accessible_type.result (λ t. j ≡ gives (shown t))) (sym whole) c.accessible_type.ensures.ok

pub returns-clause-err : goal.returns-clause-err
returns-clause-err c =
    let program = program_seen c.args.program.now in
    let here = frame_seen c.args.here.now in
    let means = c.in_ok-meant.ensures.look ∙ ap (look_at program here) c.deref.ensures.value in
    let whole = in_bounds program here (name_view c.args.class.name.now) c.args.class.dims c.args.class.span (look_view c.in_ok-meant.meant.look) means
    (type_views_of c.args.class.args.now) (all_shown c.args.types.items) (length c.args.class.args.now) c.takes-takes_these.result (sym (count_of_views c.args.class.args.now)) (c.takes-takes_these.ensures here)
    c.in_ok-check.field-0 c.in_ok-check.ensures.ok (shown c.flat-whole.result) (c.flat-whole.ensures.shown ∙ c.base_of_look.ensures program here 0) c.in_ok-bounded.field-0 c.in_ok-bounded.ensures.ok
    ∙ last_by program here (name_view c.args.class.name.now) c.args.class.dims c.args.class.span (look_view c.in_ok-meant.meant.look) means (all_shown c.args.types.items) (numbers c.deref-2.result.now) (base_shown c.flat-whole.result.base)
    (ap numbers c.deref-2.ensures.value ∙ c.in_ok-meant.ensures.named ∙ ap (classes_at program here) c.deref.ensures.value)
    (ap (λ (b : SrcBase). base_shown b c.args.class.dims) c.flat-whole.ensures.base ∙ c.base_of_look.ensures program here c.args.class.dims) in
    subst (λ (j : Judged SourceType). IfErr c.accessible_type.result (IsFault j)) (sym whole) c.accessible_type.ensures.err
