use Rattle.std.proofs.Common.{◌≡◌, None, true, sym, ap, ◌∙◌}
use Rattle.je_scopes.specs.Sites.{instance}
use Rattle.je_typing.specs.Judged.{gives}
use Rattle.je_typing.specs.Typed.{TypedNode}
use Rattle.je_typing.proofs.Walks.{bind_gives}
use Rattle.call_typing.specs.Creations.{implicit_constructor_call}
use Rattle.body_typing.specs.FinalVariables.{Scope}
use Rattle.body_places.specs.Places.{place_seen}
use Rattle.member_forms.specs.Seen.{program_of}
use Rattle.member_forms.specs.Walks.{class_span, default_code, scope_in}
use Rattle.member_forms.proofs.unwritten.default_constructor.Goals as goal

pub returns-clause-ok : goal.returns-clause-ok
returns-clause-ok c =
    let there : place_seen c.place.result ≡ (scope_in c.args.walk instance None true).place =
    c.place.ensures ∙ ap (λ (s : Scope). s.place) c.scope_in-scope.ensures in
    bind_gives (implicit_constructor_call (program_of c.args.walk) (scope_in c.args.walk instance None true).place (class_span c.args.walk))
    (λ (t : TypedNode). gives (default_code c.args.walk)) _
    ((λ i. implicit_constructor_call (program_of c.args.walk) (sym there i) (sym c.class_span.ensures i))
    ∙ c.in_ok-implicit_constructor_call.ensures.ok)
    ∙ ap gives (sym c.in_ok-done.ensures)
