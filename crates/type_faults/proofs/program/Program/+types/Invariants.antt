use Rattle.std.proofs.Common.{drop}
use Rattle.je_ast.specs.Types.{type_views_of}
use Rattle.je_scopes.specs.Faults.{of_types}
use Rattle.name_lookup.specs.View.{part_view}
use Rattle.name_faults.proofs.Left.{Left}
use Rattle.type_faults.specs.Program.{source_in}
use Rattle.type_faults.proofs.program.Program.+types.Given as goal

abbrev pub invariant-judge_types-loop-ty : goal.invariant-judge_types-loop-ty
invariant-judge_types-loop-ty l = Left l.initial.faults l.faults (of_types (source_in l.self) l.place.class.0 (part_view l.place.part) (type_views_of (drop l.ty-index l.types)))
    (of_types (source_in l.self) l.place.class.0 (part_view l.place.part) (type_views_of l.types))
