use Rattle.std.proofs.Common.{◌≡◌, drop}
use Rattle.std.specs.List.{list_all}
use Rattle.je_core.specs.View.{views, program_view}
use Rattle.je_fitting.specs.Types.{agrees, types_of}
use Rattle.fit_parts.proofs.agree.each_agrees.Given as goal

abbrev pub invariant-loop-e : goal.invariant-loop-e
invariant-loop-e l = list_all (λ v. agrees (program_view l.program) v l.ty) (types_of (views (drop l.e-index l.list))) ≡ list_all (λ v. agrees (program_view l.program) v l.ty) (types_of (views l.list))
