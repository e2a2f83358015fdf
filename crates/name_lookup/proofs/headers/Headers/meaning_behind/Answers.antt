use Rattle.std.proofs.Common.{◌≡◌, ap, subst, ◌∙◌, true, false}
use Rattle.std.specs.Prelude.{IfOk}
use Rattle.je_scopes.specs.Looks.{nothing, found, class_found}
use Rattle.je_scopes.specs.Scope.{named_on, qualified}
use Rattle.name_sites.specs.View.{source_of}
use Rattle.name_lookup.specs.View.{look_view, numbers, known_of}
use Rattle.name_lookup.proofs.Names.{parts_mean, parts_name, whole_means, whole_names}
use Rattle.name_lookup.proofs.headers.Headers.meaning_behind.Goals as goal

pub returns-then-is_nothing-clause-look : goal.returns-then-is_nothing-clause-look
returns-then-is_nothing-clause-look c =
    let none : look_view c.args.first ≡ nothing = c.is_nothing.ensures.0 c.if-is_nothing.true in
    subst (λ a. IfOk c.whole.result (λ m. look_view m.look ≡ a))
    (c.of.ensures ∙ ap found c.in_ok-full_name.ensures
    ∙ whole_means (source_of c.args.sites.now) c.args.parts.now (look_view c.args.first) (qualified (source_of c.args.sites.now) (known_of c.args.self.now) (look_view c.args.first) c.args.further.now) none)
    c.whole.ensures.look

pub returns-then-is_nothing-clause-named : goal.returns-then-is_nothing-clause-named
returns-then-is_nothing-clause-named c =
    let none : look_view c.args.first ≡ nothing = c.is_nothing.ensures.0 c.if-is_nothing.true in
    subst (λ a. IfOk c.whole.result (λ m. numbers m.named.items ≡ a))
    (ap class_found (c.of.ensures ∙ ap found c.in_ok-full_name.ensures)
    ∙ whole_names (source_of c.args.sites.now) c.args.parts.now (look_view c.args.first) (named_on (source_of c.args.sites.now) (known_of c.args.self.now) (look_view c.args.first) c.args.further.now) none)
    c.whole.ensures.named

pub returns-clause-look : goal.returns-clause-look
returns-clause-look c =
    subst (λ a. IfOk c.qualified.result (λ m. look_view m.look ≡ a))
    (parts_mean (source_of c.args.sites.now) c.args.parts.now (look_view c.args.first) (qualified (source_of c.args.sites.now) (known_of c.args.self.now) (look_view c.args.first) c.args.further.now)
    (λ q. let a : c.is_nothing.result ≡ true = c.is_nothing.ensures.1 q in let b : c.is_nothing.result ≡ false = c.if-is_nothing.false in absurd (cc)))
    c.qualified.ensures.look

pub returns-clause-named : goal.returns-clause-named
returns-clause-named c =
    subst (λ a. IfOk c.qualified.result (λ m. numbers m.named.items ≡ a))
    (parts_name (source_of c.args.sites.now) c.args.parts.now (look_view c.args.first) (named_on (source_of c.args.sites.now) (known_of c.args.self.now) (look_view c.args.first) c.args.further.now)
    (λ q. let a : c.is_nothing.result ≡ true = c.is_nothing.ensures.1 q in let b : c.is_nothing.result ≡ false = c.if-is_nothing.false in absurd (cc)))
    c.qualified.ensures.named
