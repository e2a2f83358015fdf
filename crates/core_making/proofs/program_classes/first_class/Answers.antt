use Rattle.std.proofs.Common.{ap, ◌∙◌, arith}
use Rattle.body_places.specs.View.{program_seen}
use Rattle.core_making.specs.Known.{captured_seen, round_seen}
use Rattle.core_making.specs.way.Upwards.{guest_if}
use Rattle.core_making.proofs.Upwards.{first_at, none_at}
use Rattle.core_making.proofs.program_classes.first_class.Goals as goal

pub returns-in-empty : goal.returns-in-empty
returns-in-empty c =
    none_at (program_seen c.args.program.now) (captured_seen c.args.known.captured.now) (round_seen c.args.known.round.now)
    c.args.types.now (omega arith)

pub returns-in-len1-up : goal.returns-in-len1-up
returns-in-len1-up c =
    c.guest_if.ensures
    ∙ ap (guest_if (program_seen c.args.program.now) (captured_seen c.args.known.captured.now) (round_seen c.args.known.round.now)) c.class_of.ensures
    ∙ first_at (program_seen c.args.program.now) (captured_seen c.args.known.captured.now) (round_seen c.args.known.round.now)
    c.args.types.now c.first-item.result (omega arith) c.first-item.is
