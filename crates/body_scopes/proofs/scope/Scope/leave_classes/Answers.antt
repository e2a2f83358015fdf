use Rattle.std.proofs.Common.{List, ℕ, ap}
use Rattle.name_sites.specs.Number.{number_of}
use Rattle.body_typing.specs.Bodies.{in_frame}
use Rattle.body_scopes.specs.View.{scope_seen}
use Rattle.body_scopes.proofs.Leaving.{mapped_end_is_left}
use Rattle.body_scopes.proofs.scope.Scope.leave_classes.Goals as goal

pub returns : goal.returns
returns c =
    λ before e d.
    ap (λ (cs : List ℕ). in_frame (record ((scope_seen c.args.self.now).place.here) { local_classes = cs }) (scope_seen c.args.self.now))
    (mapped_end_is_left number_of before.place.here.local_classes c.args.self.now.here.local_classes.items c.keep_last.new.list.items c.args.depth.classes
    e.local_classes d.classes c.keep_last.ensures)
