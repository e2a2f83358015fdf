use Rattle.std.proofs.Common.{ap, ◌∙◌}
use Rattle.je_ast.specs.Types.{name_view, type_views_of}
use Rattle.je_scopes.specs.Scope.{header, meaning}
use Rattle.name_lookup.specs.View.{known_of, look_view}
use Rattle.name_types.proofs.Named.{class_node}
use Rattle.type_faults.specs.Program.{source_in}
use Rattle.name_judge.proofs.Leading.{variable_so}
use Rattle.name_judge.proofs.bounds.variable_here.Goals as goal

pub returns-in_ok-meant-in-Class : goal.returns-in_ok-meant-in-Class
returns-in_ok-meant-in-Class c =
    variable_so (source_in c.args.program.now) c.args.class.0 (known_of c.args.program.now.headers.now) (name_view c.in-Class.name) (type_views_of c.in-Class.args.items) c.in-Class.dims c.in-Class.span
    (look_view c.in_ok-meant-in-Class.meant.look) _ c.variable_in.result (c.variable_in.ensures (source_in c.args.program.now)) c.args.program.now.settled
    (c.in_ok-meant-in-Class.ensures.look ∙ ap (meaning (source_in c.args.program.now) (known_of c.args.program.now.headers.now) c.args.class.0 header) c.as_slice.ensures.value)
    (class_node c.args.ty.now c.in-Class.name c.in-Class.args c.in-Class.dims c.in-Class.span c.in-Class.is)
