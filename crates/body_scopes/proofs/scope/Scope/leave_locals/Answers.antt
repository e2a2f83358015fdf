use Rattle.std.proofs.Common.{map}
use Rattle.body_places.specs.Places.{local_seen}
use Rattle.body_scopes.specs.View.{scope_seen}
use Rattle.body_scopes.proofs.Leaving.{end_is_left, locals_left, mapped_end_is_left}
use Rattle.body_scopes.proofs.scope.Scope.leave_locals.Goals as goal

pub returns : goal.returns
returns c =
    λ before e d.
    locals_left before (scope_seen c.args.self.now) (map local_seen c.keep_last.new.list.items) c.keep_last-2.new.list.items e
    (mapped_end_is_left local_seen before.place.here.locals c.args.self.now.here.locals.items c.keep_last.new.list.items c.args.depth.locals e.locals d.locals c.keep_last.ensures)
    (end_is_left before.given c.args.self.now.given.items c.keep_last-2.new.list.items c.args.depth.given e.given d.given c.keep_last-2.ensures)
