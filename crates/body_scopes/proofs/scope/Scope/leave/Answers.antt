use Rattle.std.proofs.Common.{ap, ◌∙◌}
use Rattle.name_sites.specs.Number.{number_of}
use Rattle.name_lookup.specs.View.{numbers}
use Rattle.body_typing.specs.FinalVariables.{Scope}
use Rattle.body_scopes.specs.View.{scope_seen}
use Rattle.body_scopes.proofs.Leaving.{classes_left, mapped_end_is_left}
use Rattle.body_scopes.proofs.scope.Scope.leave.Goals as goal

pub returns : goal.returns
returns c =
    λ before e d.
    let locals_gone = c.leave_locals.ensures before e d in
    classes_left before (scope_seen c.args.self.now) (scope_seen c.leave_locals.new.self) (numbers c.keep_last.new.list.items) locals_gone
    (mapped_end_is_left number_of before.place.here.local_classes c.leave_locals.new.self.here.local_classes.items c.keep_last.new.list.items c.args.depth.classes
    (e.local_classes.0, ap (λ (s : Scope). s.place.here.local_classes) locals_gone ∙ e.local_classes.1) d.classes c.keep_last.ensures)
