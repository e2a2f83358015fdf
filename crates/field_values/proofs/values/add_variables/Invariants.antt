use Rattle.std.proofs.Common.{◌≡◌, ◌++◌, drop, map}
use Rattle.je_ast.specs.View.{variable_views_of}
use Rattle.class_typing.specs.ConstantFields.{variable_values}
use Rattle.field_values.specs.Values.{value_seen}
use Rattle.field_values.proofs.values.add_variables.Given as goal

abbrev pub invariant-loop-var : goal.invariant-loop-var
invariant-loop-var l = map value_seen l.values.items ++ variable_values (variable_views_of (drop l.var-index l.vars))
    ≡ map value_seen l.initial.values.items ++ variable_values (variable_views_of l.vars)
