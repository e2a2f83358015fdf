use Rattle.std.proofs.Common.{◌≡◌, ◌∷◌, subst}
use Rattle.std.specs.Prelude.{IfOk}
use Rattle.name_sites.specs.View.{source_of}
use Rattle.name_lookup.specs.View.{look_view, numbers, known_of, part_view}
use Rattle.name_lookup.proofs.Names.{means_behind, names_behind}
use Rattle.name_lookup.proofs.headers.Headers.meaning.Goals as goal

pub returns-clause-look : goal.returns-clause-look
returns-clause-look c =
    let parted : c.args.parts.now ≡ c.in-Some.first.now ∷ c.in-Some.further.now = c.in-Some.ensures.cases.0 in
    subst (λ a. IfOk c.meaning_behind.result (λ m. look_view m.look ≡ a))
    (means_behind (source_of c.args.sites.now) (known_of c.args.self.now) c.args.place.class.0 (part_view c.args.place.part) c.in-Some.first.now c.in-Some.further.now c.args.parts.now parted (look_view c.in_ok-look.look) c.in_ok-look.ensures)
    c.meaning_behind.ensures.look

pub returns-clause-named : goal.returns-clause-named
returns-clause-named c =
    let parted : c.args.parts.now ≡ c.in-Some.first.now ∷ c.in-Some.further.now = c.in-Some.ensures.cases.0 in
    subst (λ a. IfOk c.meaning_behind.result (λ m. numbers m.named.items ≡ a))
    (names_behind (source_of c.args.sites.now) (known_of c.args.self.now) c.args.place.class.0 (part_view c.args.place.part) c.in-Some.first.now c.in-Some.further.now c.args.parts.now parted (look_view c.in_ok-look.look) c.in_ok-look.ensures)
    c.meaning_behind.ensures.named
