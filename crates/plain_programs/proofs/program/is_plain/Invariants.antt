use Rattle.std.proofs.Common.{◌≡◌, ◌-◌, length}
use Rattle.je_core.specs.View.{program_view}
use Rattle.je_classes.specs.Hierarchy.{class_at}
use Rattle.je_fitting.specs.way.Quantifying.{if_there}
use Rattle.fit_classes.proofs.Places.{places_from}
use Rattle.plain_programs.specs.way.Deciding.{is_plain_class}
use Rattle.plain_programs.proofs.program.is_plain.Given as goal

abbrev pub invariant-loop-at : goal.invariant-loop-at
invariant-loop-at l = let p = program_view l.program in
    places_from (λ n. if_there (is_plain_class p (record { 0 = n })) (class_at p (record { 0 = n }))) l.at (length p.classes - l.at)
    ≡ places_from (λ n. if_there (is_plain_class p (record { 0 = n })) (class_at p (record { 0 = n }))) 0 (length p.classes)
