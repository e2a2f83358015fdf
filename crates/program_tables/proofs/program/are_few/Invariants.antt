use Rattle.std.proofs.Common.{ℕ, ◌<◌, ◌^◌, length}
use Rattle.class_heads.specs.View.{classes_of}
use Rattle.name_typing.specs.Fields.{fields_of}
use Rattle.program_tables.proofs.program.are_few.Given as goal

abbrev pub invariant-loop-at : goal.invariant-loop-at
invariant-loop-at l = (k : ℕ) → k < l.at → length (fields_of (classes_of l.classes) k) < 2 ^ 32
