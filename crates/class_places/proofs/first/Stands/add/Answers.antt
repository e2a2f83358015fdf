use Rattle.std.proofs.Common.{Some, ℕ, length, set, refl, sym, ◌∙◌, ap}
use Rattle.std.proofs.lemmas.Option.{slice_get_read}
use Rattle.body_walks.specs.Seen.{met_seen}
use Rattle.name_sites.specs.Number.{number_in}
use Rattle.class_places.proofs.Telling.{is_told, stays_told}
use Rattle.class_places.proofs.first.Stands.add.Goals as goal

pub returns-then-is_none : goal.returns-then-is_none
returns-then-is_none c count before e h =
    is_told count before (met_seen c.args.met.now) c.args.self.now h c.in-Some.class.0 (sym (ap number_in c.in-Some.is) ∙ c.class_standing.ensures) _
    c.in-Some-get_mut.place.now c.if-is_none.ensures
    (slice_get_read c.args.self.now.places.items (length c.args.self.now.places.items) c.in-Some.class.0 c.in-Some-get_mut.place.now refl c.in-Some-get_mut.ensures.item.3.0 c.in-Some-get_mut.ensures.item.1)
    (ap (λ (at : ℕ). set c.args.self.now.places.items c.in-Some.class.0 (Some at)) (sym e))

pub returns-else-is_none : goal.returns-else-is_none
returns-else-is_none c count before e h =
    stays_told count before (met_seen c.args.met.now) c.args.self.now h c.in-Some.class.0 (sym (ap number_in c.in-Some.is) ∙ c.class_standing.ensures) _
    c.in-Some-get_mut.place.now c.if-is_none.ensures
    (slice_get_read c.args.self.now.places.items (length c.args.self.now.places.items) c.in-Some.class.0 c.in-Some-get_mut.place.now refl c.in-Some-get_mut.ensures.item.3.0 c.in-Some-get_mut.ensures.item.1)
    refl
