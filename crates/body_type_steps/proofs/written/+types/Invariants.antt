use Rattle.std.proofs.Common.{◌≡◌, drop, map}
use Rattle.je_ast.specs.Types.{type_views_of}
use Rattle.name_types.specs.View.{shown}
use Rattle.name_steps.specs.Places.{frame_seen, program_seen}
use Rattle.body_types.specs.BodyTypes.{body_types}
use Rattle.body_type_steps.proofs.Arguments.{gathered}
use Rattle.body_type_steps.proofs.written.+types.Given as goal

abbrev pub invariant-body_types-loop-arg : goal.invariant-body_types-loop-arg
invariant-body_types-loop-arg l =
    body_types (program_seen l.program) (frame_seen l.here) (type_views_of l.args)
    ≡ gathered (map shown l.types.items) (body_types (program_seen l.program) (frame_seen l.here) (type_views_of (drop l.arg-index l.args)))
