-- Local variables (JLS 14.4). A variable with an initializer is an assignment, and one without is nothing; it is in
-- scope in its own initializer.
use Rattle.std.specs.Prelude.{ℕ, Bool, false, not, [], ◌∷◌, None}
use Rattle.je_base.specs.declared.span.Span.{Span}
use Rattle.je_core.specs.Core.{Core}
use Rattle.je_ast.specs.declared.name.Identifier.{Identifier}
use Rattle.je_ast.specs.Spans as written
use Rattle.je_ast.specs.Trees.{Expression, MaybeExpression, Variables}
use Rattle.je_ast.specs.Trees as tree
use Rattle.je_ast.specs.Types.{TypeName}
use Rattle.je_scopes.specs.SourceTypes.{SourceType, with_dims}
use Rattle.name_types.specs.View.{in_limit}
use Rattle.header_typing.specs.WrittenTypes.{well_declared}
use Rattle.je_typing.specs.declared.fault.TypeRule.TheVariants.{LocalTwice}
use Rattle.je_typing.specs.Assignments.{assign_node}
use Rattle.je_typing.specs.Conversions.{assigned}
use Rattle.je_typing.specs.Judged.{Judged, gives, ◌>>=◌, ◌>>◌, check}
use Rattle.je_typing.specs.Typed.{TypedNode}
use Rattle.name_typing.specs.Program.{LocalVariable, Program}
use Rattle.name_typing.specs.Variables.{typed_local}
use Rattle.body_typing.specs.ConstantVariables.{variable_constant}
use Rattle.body_typing.specs.Expressions.{Known, expression, initial, value}
use Rattle.body_typing.specs.FinalVariables.{Scope}
use Rattle.body_typing.specs.Bodies.{Done, Progress, behind, followed, has_local, local_of, next_number, nothing_done, performed, with_local, with_number}

-- no other local of the name is in scope in its body (JLS 14.4.2)
abbrev pub new_name : Scope → Identifier → Judged (Unit {0})
new_name s id = check LocalTwice id.span (not (has_local s id.name))

-- `start` is the first token of the declaration, `written_type` its type, which is `of`
module _ (p : Program) (k : Known) (is_final : Bool) (start : Span) (written_type : TypeName) (of : SourceType) where
  -- the assignment of an initializer, at the name
  abbrev pub assigned_to : LocalVariable → Identifier → Expression → Core → Core
  assigned_to v id e n =
      (assign_node p.heads id.span (written.join id.span (written.span_of e)) (typed_local p v id.span) n).node

  abbrev pub with_variable : Identifier → SourceType → Progress → Progress
  with_variable id t pr = with_number p.heads id.name t is_final id.span pr

  -- behind a variable of a type with an initializer, which came to a node
  abbrev pub initialized : Scope → Progress → Identifier → SourceType → Expression → TypedNode → Core → Done
  initialized s pr id t e from n =
      let v = local_of id.name t is_final (next_number pr) (variable_constant is_final t from.node) in
      record {
        code = performed start (assigned_to v id e n) ∷ [];
        numbers = next_number pr ∷ [];
        scope = with_local is_final v s;
        progress = behind p (with_local is_final v s) e (with_variable id t pr);
      }

  abbrev pub with_initializer : Scope → Progress → Identifier → ℕ → SourceType → Expression → Judged Done
  with_initializer s pr id dims t e = do
    from ← value (expression p k (with_local is_final (local_of id.name t is_final (next_number pr) None) s)
        (initial t) e)
    new_name s id
    n ← assigned p.heads t (written.span_of e) from
    well_declared written_type dims id
    gives (initialized s pr id t e from n)

  abbrev pub uninitialized : Scope → Progress → Identifier → SourceType → Done
  uninitialized s pr id t = record {
    code = [];
    numbers = next_number pr ∷ [];
    scope = with_local false (local_of id.name t is_final (next_number pr) None) s;
    progress = with_variable id t pr;
  }

  abbrev pub without_initializer : Scope → Progress → Identifier → ℕ → SourceType → Judged Done
  without_initializer s pr id dims t = do
    new_name s id
    well_declared written_type dims id
    gives (uninitialized s pr id t)

  -- brackets may stand behind the name; no type has more than 255 dimensions, which is asked behind the initializer
  abbrev pub variable_type : ℕ → SourceType
  variable_type dims = in_limit (with_dims of dims)

  abbrev pub variable : Scope → Progress → Identifier → ℕ → MaybeExpression → Judged Done
  variable s pr id dims tree.no_expression = without_initializer s pr id dims (variable_type dims)
  variable s pr id dims (tree.an_expression e) = with_initializer s pr id dims (variable_type dims) e

  abbrev pub variables : Scope → Progress → Variables → Judged Done
  variables s pr tree.no_variables = gives (nothing_done s pr)
  variables s pr (tree.more_variables id dims e vs) = do
    d ← variable s pr id dims e
    rest ← variables d.scope d.progress vs
    gives (followed d rest)
