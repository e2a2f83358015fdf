use Rattle.std.proofs.Common.{◌≡◌, drop}
use Rattle.std.specs.List.{list_all}
use Rattle.je_core.specs.View.{views, program_view}
use Rattle.plain_programs.specs.Nodes.{every}
use Rattle.plain_programs.specs.way.Deciding.{is_plain_node}
use Rattle.plain_programs.proofs.statements.steps_are_plain.Given as goal

abbrev pub invariant-loop-step : goal.invariant-loop-step
invariant-loop-step l = list_all (every (is_plain_node (program_view l.program) l.starts)) (views (drop l.step-index l.steps)) ≡ list_all (every (is_plain_node (program_view l.program) l.starts)) (views l.steps)
