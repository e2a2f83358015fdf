use Rattle.std.proofs.Common.{◌≡◌, drop}
use Rattle.std.specs.Prelude.{is_some}
use Rattle.std.specs.List.{list_all}
use Rattle.je_core.specs.declared.program.Head.{Head}
use Rattle.je_core.specs.View.{program_view}
use Rattle.je_classes.specs.Hierarchy.{class_at}
use Rattle.fit_classes.proofs.named.heads_there.Given as goal

abbrev pub invariant-loop-head : goal.invariant-loop-head
invariant-loop-head l = list_all (λ (h : Head). is_some (class_at (program_view l.program) h.class)) (drop l.head-index l.heads) ≡ list_all (λ (h : Head). is_some (class_at (program_view l.program) h.class)) l.heads
