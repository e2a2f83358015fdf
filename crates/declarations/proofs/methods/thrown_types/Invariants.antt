use Rattle.std.proofs.Common.{◌≡◌, ◌++◌, map, drop}
use Rattle.je_ast.specs.Types.{name_view}
use Rattle.name_lookup.specs.View.{part_view}
use Rattle.name_types.specs.View.{shown}
use Rattle.type_faults.specs.Program.{source_in}
use Rattle.declarations.specs.Declarations.{thrown_type}
use Rattle.declarations.proofs.methods.thrown_types.Given as goal

abbrev pub invariant-loop-name : goal.invariant-loop-name
invariant-loop-name l = map shown l.types.items ++ map (thrown_type (source_in l.program) l.place.class.0 (part_view l.place.part)) (map name_view (drop l.name-index l.names))
    ≡ map (thrown_type (source_in l.program) l.place.class.0 (part_view l.place.part)) (map name_view l.names)
