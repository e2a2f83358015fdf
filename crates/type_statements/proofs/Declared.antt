-- A local variable with its initializer, of what each step came to.
use Rattle.std.proofs.Common.{◌≡◌, [], ◌∷◌, refl}
use Rattle.std.specs.Prelude.{Bool}
use Rattle.je_base.specs.declared.span.Span.{Span}
use Rattle.je_core.specs.Core.{Core, CoreStmt}
use Rattle.je_ast.specs.declared.name.Identifier.{Identifier}
use Rattle.je_ast.specs.Spans.{join, span_of}
use Rattle.je_ast.specs.Trees.{Expression}
use Rattle.je_typing.specs.Assignments.{assign_node}
use Rattle.name_typing.specs.Program.{LocalVariable, Program}
use Rattle.name_typing.specs.Variables.{typed_local}
use Rattle.body_typing.specs.FinalVariables.{Scope}
use Rattle.body_typing.specs.Bodies.{Progress, behind, performed, with_local, with_number}
use Rattle.type_statements.specs.way.Declared.{declared}

pub declared_is : (p : Program) (is_final : Bool) (start : Span) (s inside : Scope) (pr numbered later : Progress) (v : LocalVariable) (id : Identifier) (e : Expression)
    (n whole : Core) (code : CoreStmt) (at : Span) → at ≡ span_of e → whole ≡ (assign_node p.heads id.span (join id.span at) (typed_local p v id.span) n).node →
    code ≡ performed start whole → inside ≡ with_local is_final v s → numbered ≡ with_number p.heads id.name v.type is_final id.span pr → later ≡ behind p inside e numbered →
    record { code = code ∷ []; numbers = v.number ∷ []; scope = inside; progress = later } ≡ declared p is_final start s pr v id e n
declared_is p is_final start s inside pr numbered later v id e n whole code at here is made scoped counted met = rw (met, counted, scoped, made, is, here) refl
