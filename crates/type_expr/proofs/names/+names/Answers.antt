use Rattle.std.proofs.Common.{◌≡◌, Option, Some, option_map, ap, subst, ◌∙◌}
use Rattle.std.proofs.lemmas.Result.{err_from_is_err_and}
use Rattle.je_ast.specs.View.{view}
use Rattle.je_typing.specs.Judged.{Judged, gives}
use Rattle.je_typing.specs.Typed.{TypedNode}
use Rattle.name_typing.specs.Program.{Place}
use Rattle.name_typing.specs.Qualified.{select_before}
use Rattle.body_typing.specs.Expressions.{named_before}
use Rattle.body_scopes.specs.View.{scope_seen}
use Rattle.name_steps.specs.declared.qualifier.Qualifier.{Qualifier}
use Rattle.name_steps.specs.Qualifiers.{qualifier_seen}
use Rattle.body_walks.specs.Walks.{known_in, program_in}
use Rattle.type_expr.proofs.Before.{faults_at, first_faults, one_more_gives}
use Rattle.type_expr.proofs.names.+names.Goals as goal

pub selected_before-returns-in_err-on-clause-err : goal.selected_before-returns-in_err-on-clause-err
selected_before-returns-in_err-on-clause-err t c =
    let p = err_from_is_err_and c.from_residual.result c.from_residual.ensures.1 in
    rw (p.1, p.2) (λ (other : Judged TypedNode). first_faults (program_in c.args.bodies.now) (known_in c.args.bodies.now) (scope_seen c.args.scope.now) c.args.id c.args.span _ _ other (c.in_err-on.ensures.err other))

pub selected_before-returns-in_err-on-in-Some-clause-err : goal.selected_before-returns-in_err-on-in-Some-clause-err
selected_before-returns-in_err-on-in-Some-clause-err t c =
    let stands : named_before (program_in c.args.bodies.now) (known_in c.args.bodies.now) (scope_seen c.args.scope.now) (view c.args.object.now) ≡ Some (gives (qualifier_seen c.in-Some.on)) =
    c.in_ok-on.ensures.ok ∙ ap (λ (on : Option Qualifier). option_map (λ (q : Qualifier). gives (qualifier_seen q)) on) c.in-Some.is in
    let p = err_from_is_err_and c.from_residual-in_err-on-in-Some.result c.from_residual-in_err-on-in-Some.ensures.1 in
    rw (p.1, p.2) (λ (other : Judged TypedNode). faults_at (program_in c.args.bodies.now) (known_in c.args.bodies.now) (scope_seen c.args.scope.now) c.args.id c.args.span _ _ _ other _ c.place.ensures
    stands c.in_err-on-in-Some.ensures.err)

pub selected_before-returns-in_ok-on-in-Some-clause-ok : goal.selected_before-returns-in_ok-on-in-Some-clause-ok
selected_before-returns-in_ok-on-in-Some-clause-ok t c =
    let stands : named_before (program_in c.args.bodies.now) (known_in c.args.bodies.now) (scope_seen c.args.scope.now) (view c.args.object.now) ≡ Some (gives (qualifier_seen c.in-Some.on)) =
    c.in_ok-on.ensures.ok ∙ ap (λ (on : Option Qualifier). option_map (λ (q : Qualifier). gives (qualifier_seen q)) on) c.in-Some.is in
    one_more_gives (program_in c.args.bodies.now) (known_in c.args.bodies.now) (scope_seen c.args.scope.now) c.args.id c.args.span _ _ _ stands
    (subst (λ (at : Place). select_before (program_in c.args.bodies.now) at c.args.id c.args.span (qualifier_seen c.in-Some.on) ≡ gives (qualifier_seen c.in_ok-on-in-Some.on)) c.place.ensures c.in_ok-on-in-Some.ensures.ok)
