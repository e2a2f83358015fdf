use Rattle.std.proofs.Common.{◌≡◌, ◌++◌, map, drop}
use Rattle.je_ast.specs.Types.{parameter_view}
use Rattle.type_faults.specs.Program.{source_in}
use Rattle.declarations.specs.Declarations.{declared_parameter}
use Rattle.declarations.specs.View.{parameter_shown}
use Rattle.declarations.proofs.header.parameters_of.Given as goal

abbrev pub invariant-loop-parameter : goal.invariant-loop-parameter
invariant-loop-parameter l = map parameter_shown l.parameters.items ++ map (declared_parameter (source_in l.program) l.class.0) (map parameter_view (drop l.parameter-index l.parameter-items))
    ≡ map (declared_parameter (source_in l.program) l.class.0) (map parameter_view l.parameter-items)
