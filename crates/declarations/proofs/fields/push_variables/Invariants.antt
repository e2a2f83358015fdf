use Rattle.std.proofs.Common.{◌≡◌, ◌++◌, map, drop}
use Rattle.je_ast.specs.Types.{type_view}
use Rattle.je_ast.specs.View.{variable_views_of}
use Rattle.je_scopes.specs.Members.{variable_sites}
use Rattle.type_faults.specs.Program.{source_in}
use Rattle.declarations.specs.Declarations.{declared_field}
use Rattle.declarations.specs.View.{field_shown}
use Rattle.declarations.proofs.fields.push_variables.Given as goal

abbrev pub invariant-loop-var : goal.invariant-loop-var
invariant-loop-var l = map field_shown l.fields.items ++ map (declared_field (source_in l.program) l.class.0) (variable_sites l.modifiers (type_view l.ty) (variable_views_of (drop l.var-index l.vars)))
    ≡ map field_shown l.initial.fields.items ++ map (declared_field (source_in l.program) l.class.0) (variable_sites l.modifiers (type_view l.ty) (variable_views_of l.vars))
