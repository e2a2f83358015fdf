-- A local variable whose initializer came to a node that is converted to its type.
use Rattle.std.specs.Prelude.{Bool, [], ◌∷◌}
use Rattle.je_base.specs.declared.span.Span.{Span}
use Rattle.je_core.specs.Core.{Core}
use Rattle.je_ast.specs.declared.name.Identifier.{Identifier}
use Rattle.je_ast.specs.Spans.{join, span_of}
use Rattle.je_ast.specs.Trees.{Expression}
use Rattle.je_typing.specs.Assignments.{assign_node}
use Rattle.name_typing.specs.Program.{LocalVariable, Program}
use Rattle.name_typing.specs.Variables.{typed_local}
use Rattle.body_typing.specs.FinalVariables.{Scope}
use Rattle.body_typing.specs.Bodies.{Done, Progress, behind, performed, with_local, with_number}

abbrev pub declared : Program → Bool → Span → Scope → Progress → LocalVariable → Identifier → Expression → Core → Done
declared p is_final start s pr v id e n = record {
  code = performed start (assign_node p.heads id.span (join id.span (span_of e)) (typed_local p v id.span) n).node ∷ [];
  numbers = v.number ∷ [];
  scope = with_local is_final v s;
  progress = behind p (with_local is_final v s) e (with_number p.heads id.name v.type is_final id.span pr);
}
