use Rattle.std.proofs.Common.{◌≡◌, drop}
use Rattle.je_core.specs.Core.{cores}
use Rattle.je_core.specs.View.{views, program_view}
use Rattle.plain_programs.specs.Nodes.{every_of}
use Rattle.plain_programs.specs.way.Deciding.{is_plain_node}
use Rattle.plain_programs.proofs.expressions.+expression.Given as goal

abbrev pub invariant-all_are_plain-loop-e : goal.invariant-all_are_plain-loop-e
invariant-all_are_plain-loop-e l = every_of (is_plain_node (program_view l.program) l.starts) (cores (views (drop l.e-index l.list))) ≡ every_of (is_plain_node (program_view l.program) l.starts) (cores (views l.list))
