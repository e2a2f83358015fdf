use Rattle.std.proofs.Common.{drop, map}
use Rattle.std.specs.List.{flat_map}
use Rattle.je_ast.specs.Types.{formal_view}
use Rattle.je_scopes.specs.Faults.{of_formal}
use Rattle.name_lookup.specs.View.{part_view}
use Rattle.name_faults.proofs.Left.{Left}
use Rattle.type_faults.specs.Program.{source_in}
use Rattle.name_judge.proofs.methods.judge_formals.Given as goal

abbrev pub invariant-loop-formal : goal.invariant-loop-formal
invariant-loop-formal l = let faults = of_formal (source_in l.program) l.place.class.0 (part_view l.place.part) in
    Left l.initial.faults l.faults (flat_map faults (map formal_view (drop l.formal-index l.formals))) (flat_map faults (map formal_view l.formals))
