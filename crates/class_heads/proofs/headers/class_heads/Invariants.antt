use Rattle.std.proofs.Common.{◌≡◌, ◌++◌, drop, map}
use Rattle.source_subtypes.specs.HeadView.{head_shown}
use Rattle.class_heads.specs.Headers.{heads_from}
use Rattle.class_heads.specs.View.{classes_of}
use Rattle.class_heads.proofs.headers.class_heads.Given as goal

abbrev pub invariant-loop-at : goal.invariant-loop-at
invariant-loop-at l =
    map head_shown l.heads.items ++ heads_from (classes_of l.classes) l.at (drop l.at (classes_of l.classes)) ≡ heads_from (classes_of l.classes) 0 (classes_of l.classes)
