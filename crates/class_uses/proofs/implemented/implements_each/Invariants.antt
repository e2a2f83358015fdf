use Rattle.std.proofs.Common.{◌≡◌, drop}
use Rattle.fit_members.specs.way.Each.{each_of}
use Rattle.je_types.specs.Views.{program_of}
use Rattle.taming_db.specs.View.{rows}
use Rattle.class_uses.specs.Implemented.{implements_one}
use Rattle.class_uses.proofs.implemented.implements_each.Given as goal

abbrev pub invariant-loop-class : goal.invariant-loop-class
invariant-loop-class l = each_of (program_of l.typed) (λ d n k. implements_one (program_of l.typed) (rows l.taming) l.id d n) (drop l.class-index l.above) ≡ each_of (program_of l.typed) (λ d n k. implements_one (program_of l.typed) (rows l.taming) l.id d n) l.above
