use Rattle.std.proofs.Common.{◌≡◌, IfErr, IfOk, List, sym, ap, ◌∙◌, subst}
use Rattle.std.proofs.lemmas.Result.{err_from_is_err_and}
use Rattle.je_ast.specs.Types.{name_view}
use Rattle.je_scopes.specs.SourceTypes.{SourceType, no_source_types}
use Rattle.je_typing.specs.Answers.{IsFault}
use Rattle.je_typing.specs.Judged.{Judged, gives}
use Rattle.name_lookup.specs.View.{look_view, numbers}
use Rattle.name_types.specs.declared.types.SrcTy.{SrcTy}
use Rattle.name_types.specs.View.{all_shown, base_shown, shown}
use Rattle.name_steps.specs.Places.{frame_seen, program_seen}
use Rattle.body_types.specs.BodyTypes.{classes_at, look_at, type_of_look}
use Rattle.body_type_steps.proofs.Behind.{is_bare_type, is_no_type, last_by}
use Rattle.body_type_steps.proofs.bare.bare_name.Goals as goal

pub returns-in_err-check-clause-err : goal.returns-in_err-check-clause-err
returns-in_err-check-clause-err c =
    let p = err_from_is_err_and c.from_residual-in_err-check.result c.from_residual-in_err-check.ensures.1 in
    let program = program_seen c.args.program.now in
    let here = frame_seen c.args.here.now in
    rw (p.1, p.2) (is_no_type program here (name_view c.args.name.now) c.args.dims c.args.span (look_view c.in_ok-meant.meant.look)
    (c.in_ok-meant.ensures.look ∙ ap (look_at program here) c.deref.ensures.value) c.is_type.result (c.is_type.ensures program here) _ c.in_err-check.ensures.err)

pub returns-clause-ok : goal.returns-clause-ok
returns-clause-ok c =
    let program = program_seen c.args.program.now in
    let here = frame_seen c.args.here.now in
    let means = c.in_ok-meant.ensures.look ∙ ap (look_at program here) c.deref.ensures.value in
    let whole = is_bare_type program here (name_view c.args.name.now) c.args.dims c.args.span (look_view c.in_ok-meant.meant.look) means c.is_type.result (c.is_type.ensures program here) c.in_ok-check.field-0 c.in_ok-check.ensures.ok
    ∙ last_by program here (name_view c.args.name.now) c.args.dims c.args.span (look_view c.in_ok-meant.meant.look) means no_source_types (numbers c.deref-2.result.now) (base_shown c.base_of_look-base.result)
    (ap numbers c.deref-2.ensures.value ∙ c.in_ok-meant.ensures.named ∙ ap (classes_at program here) c.deref.ensures.value)
    (c.base_of_look-base.ensures program here c.args.dims ∙ ap (λ (ts : List SrcTy). type_of_look program here (look_view c.in_ok-meant.meant.look) (all_shown ts) c.args.dims) c.new.ensures.items) in
    subst (λ (j : Judged SourceType). IfOk c.accessible_type.result (λ t. j ≡ gives (shown t))) (sym whole) c.accessible_type.ensures.ok

pub returns-clause-err : goal.returns-clause-err
returns-clause-err c =
    let program = program_seen c.args.program.now in
    let here = frame_seen c.args.here.now in
    let means = c.in_ok-meant.ensures.look ∙ ap (look_at program here) c.deref.ensures.value in
    let whole = is_bare_type program here (name_view c.args.name.now) c.args.dims c.args.span (look_view c.in_ok-meant.meant.look) means c.is_type.result (c.is_type.ensures program here) c.in_ok-check.field-0 c.in_ok-check.ensures.ok
    ∙ last_by program here (name_view c.args.name.now) c.args.dims c.args.span (look_view c.in_ok-meant.meant.look) means no_source_types (numbers c.deref-2.result.now) (base_shown c.base_of_look-base.result)
    (ap numbers c.deref-2.ensures.value ∙ c.in_ok-meant.ensures.named ∙ ap (classes_at program here) c.deref.ensures.value)
    (c.base_of_look-base.ensures program here c.args.dims ∙ ap (λ (ts : List SrcTy). type_of_look program here (look_view c.in_ok-meant.meant.look) (all_shown ts) c.args.dims) c.new.ensures.items) in
    subst (λ (j : Judged SourceType). IfErr c.accessible_type.result (IsFault j)) (sym whole) c.accessible_type.ensures.err
