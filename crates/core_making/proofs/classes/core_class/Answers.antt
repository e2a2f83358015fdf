use Rattle.std.proofs.Common.{◌∙◌}
use Rattle.body_places.specs.View.{program_seen}
use Rattle.core_making.proofs.Made.{is_core_class}
use Rattle.core_making.proofs.classes.core_class.Goals as goal

pub returns : goal.returns
returns c =
    λ captured d h. c.in_ok-whole.ensures
    ∙ is_core_class (program_seen c.args.making.program) captured c.args.class.0 d c.args.parts h
