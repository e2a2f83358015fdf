use Rattle.std.proofs.Common.{◌≡◌, suc, take}
use Rattle.std.specs.List.{sum_by}
use Rattle.class_heads.specs.View.{classes_of}
use Rattle.type_decl.specs.way.Rows.{fields_declared}
use Rattle.type_decl.proofs.rounds.most_rounds.Given as goal

abbrev pub invariant-loop-at : goal.invariant-loop-at
invariant-loop-at l = l.count ≡ suc (sum_by fields_declared (take l.at (classes_of l.classes)))
