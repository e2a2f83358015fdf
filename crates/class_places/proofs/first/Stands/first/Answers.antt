use Rattle.std.proofs.Common.{map, sym, ◌∙◌}
use Rattle.body_walks.specs.Seen.{met_seen}
use Rattle.class_places.proofs.Telling.{first_met, nothing_met}
use Rattle.class_places.proofs.first.Stands.first.Goals as goal

pub returns-in-Some : goal.returns-in-Some
returns-in-Some c count h l =
    c.met_at.ensures ∙ sym (first_met count (map met_seen c.args.met.now) c.args.self.now c.args.class.0 h l c.in-Some.place c.in-Some.ensures)

pub returns-in-None : goal.returns-in-None
returns-in-None c count h l =
    sym (nothing_met count (map met_seen c.args.met.now) c.args.self.now c.args.class.0 h l c.in-None.ensures)
