use Rattle.std.proofs.Common.{◌∙◌, sym, ap, if◌then◌else◌, ◌&&◌, nat_eq, Some, Bool}
use Rattle.std.specs.HashMap.{get}
use Rattle.name_sites.specs.ByName.{kept, same_key}
use Rattle.name_sites.proofs.Keys.{keeps, place_eq}
use Rattle.name_sites.proofs.by_name.ByName.keep.Goals as goal

pub returns-in_ok-insert-in-None : goal.returns-in_ok-insert-in-None
unfolding kept
returns-in_ok-insert-in-None c = λ p x. keeps (λ p y. get same_key c.args.self.now.values (p, y)) (λ p y. get same_key c.insert.new.self (p, y)) c.args.place c.args.name.0 c.args.value (sym c.in-None.ensures)
    (λ p y. c.in_ok-insert-in-None.ensures.updates.0 (p, y) ∙ ap (λ (b : Bool). if (b && nat_eq c.args.name.0 y) then Some c.args.value else get same_key c.args.self.now.values (p, y)) (place_eq c.args.place p)) p x.0
