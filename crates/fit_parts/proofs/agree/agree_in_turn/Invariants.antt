use Rattle.std.proofs.Common.{◌≡◌, drop}
use Rattle.je_core.specs.View.{views, program_view}
use Rattle.je_fitting.specs.Types.{all_agree, types_of}
use Rattle.fit_parts.proofs.agree.agree_in_turn.Given as goal

abbrev pub invariant-loop-e : goal.invariant-loop-e
invariant-loop-e l = all_agree (program_view l.program) (types_of (views (drop l.e-index l.list))) l.left ≡ all_agree (program_view l.program) (types_of (views l.list)) l.fn.types
