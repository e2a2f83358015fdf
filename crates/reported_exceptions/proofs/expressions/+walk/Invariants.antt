use Rattle.std.proofs.Common.{◌≡◌, drop}
use Rattle.je_core.specs.Core.{cores}
use Rattle.je_core.specs.View.{views, program_view}
use Rattle.reported_exceptions.specs.Expressions.{all_throws}
use Rattle.reported_exceptions.specs.Throws.{out_behind}
use Rattle.reported_exceptions.specs.View.{rows}
use Rattle.reported_exceptions.proofs.expressions.+walk.Given as goal

abbrev pub invariant-walk_all-loop-part : goal.invariant-walk_all-loop-part
invariant-walk_all-loop-part l = out_behind (program_view l.program) l.thrown.items (all_throws (program_view l.program) (rows l.makings) (cores (views (drop l.part-index l.parts)))) ≡ out_behind (program_view l.program) l.fn.thrown.items (all_throws (program_view l.program) (rows l.makings) (cores (views l.parts)))
