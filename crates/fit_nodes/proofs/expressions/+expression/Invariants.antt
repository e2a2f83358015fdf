use Rattle.std.proofs.Common.{◌≡◌, drop}
use Rattle.je_core.specs.Core.{cores}
use Rattle.je_core.specs.View.{views, program_view}
use Rattle.je_fitting.specs.way.Deciding.{are_fit}
use Rattle.fit_nodes.proofs.expressions.+expression.Given as goal

abbrev pub invariant-expressions_fit-loop-e : goal.invariant-expressions_fit-loop-e
invariant-expressions_fit-loop-e l = are_fit (program_view l.program) l.body (cores (views (drop l.e-index l.list))) ≡ are_fit (program_view l.program) l.body (cores (views l.list))
