use Rattle.std.proofs.Common.{Some, None, sym, ◌∙◌}
use Rattle.name_typing.specs.Program.{frames}
use Rattle.body_places.specs.Places.{place_seen}
use Rattle.body_places.specs.View.{program_seen}
use Rattle.enclosing_instances.proofs.Rounds.{inner_has}
use Rattle.enclosing_instances.proofs.enclosing.has_round.Goals as goal

pub returns-in-Some : goal.returns-in-Some
returns-in-Some c =
    c.has_instance.ensures ∙ sym (inner_has (program_seen c.args.program.now) c.args.class.0 (frames (place_seen c.args.place)) (Some c.in-Some.steps)
    (sym c.is_inner.ensures ∙ c.if-not-is_inner.false) (sym c.in-Some.is ∙ c.in_ok-steps.ensures))

pub returns-in-None : goal.returns-in-None
returns-in-None c =
    sym (inner_has (program_seen c.args.program.now) c.args.class.0 (frames (place_seen c.args.place)) None
    (sym c.is_inner.ensures ∙ c.if-not-is_inner.false) (sym c.in-None.is ∙ c.in_ok-steps.ensures))
