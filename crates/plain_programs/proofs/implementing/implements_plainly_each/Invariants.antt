use Rattle.std.proofs.Common.{◌≡◌, drop}
use Rattle.je_core.specs.View.{program_view}
use Rattle.fit_members.specs.way.Each.{each_of}
use Rattle.plain_programs.specs.way.Deciding.{implements_plainly}
use Rattle.plain_programs.proofs.implementing.implements_plainly_each.Given as goal

abbrev pub invariant-loop-class : goal.invariant-loop-class
invariant-loop-class l = each_of (program_view l.program) (λ d n k. implements_plainly (program_view l.program) l.id d n) (drop l.class-index l.above) ≡ each_of (program_view l.program) (λ d n k. implements_plainly (program_view l.program) l.id d n) l.above
