use Rattle.std.proofs.Common.{◌≡◌, [], ◌∷◌, ◌<◌, length, subst, sym, ◌∙◌, arith}
use Rattle.std.specs.Prelude.{IfOk}
use Rattle.je_classes.proofs.Lists.{contains-cases}
use Rattle.je_scopes.proofs.Either.{by_either, nothing-in}
use Rattle.name_sites.specs.View.{source_of}
use Rattle.name_lookup.specs.View.{look_view, known_of}
use Rattle.name_lookup.proofs.Members.{waiting_member, member_by_walk}
use Rattle.name_lookup.proofs.Tables.{unknown-within, some-within}
use Rattle.name_lookup.proofs.headers.Headers.member_class.Goals as goal

pub returns-in_default-known : goal.returns-in_default-known
returns-in_default-known c = waiting_member (source_of c.args.sites.now) (known_of c.args.self.now) c.args.name c.args.class.0 c.in_default.ensures (sym c.in_default-known.ensures)
    (unknown-within (source_of c.args.sites.now) c.args.self.now c.requires c.args.class.0 (sym c.in_default-known.ensures))

pub among-requires-clause-within : goal.among-requires-clause-within
among-requires-clause-within c = λ d q. by_either
    (λ (e : c.args.class.0 ≡ d). let l : c.args.class.0 < length (source_of c.args.sites.now).sites =
    some-within (source_of c.args.sites.now) c.args.self.now c.requires c.args.class.0 c.in-Some-known.supers.now c.in-Some-known.ensures (sym c.is_empty.ensures ∙ c.if-is_empty.false) in omega (arith, e, l))
    (λ r. absurd (nothing-in d r))
    (contains-cases c.args.class.0 d [] q)

pub returns : goal.returns
returns c = subst (λ a. IfOk c.among.result (λ look. look_view look ≡ a)) (member_by_walk (source_of c.args.sites.now) (known_of c.args.self.now) c.args.name c.args.class.0 c.in_default.ensures) c.among.ensures
