use Rattle.std.proofs.Common.{drop, map}
use Rattle.std.specs.List.{flat_map}
use Rattle.je_ast.specs.Types.{name_view}
use Rattle.je_scopes.specs.Faults.{of_thrown}
use Rattle.name_lookup.specs.View.{part_view}
use Rattle.name_faults.proofs.Left.{Left}
use Rattle.type_faults.specs.Program.{source_in}
use Rattle.name_judge.proofs.methods.judge_throws.Given as goal

abbrev pub invariant-loop-name : goal.invariant-loop-name
invariant-loop-name l = let faults = of_thrown (source_in l.program) l.place.class.0 (part_view l.place.part) in
    Left l.initial.faults l.faults (flat_map faults (map name_view (drop l.name-index l.throws))) (flat_map faults (map name_view l.throws))
