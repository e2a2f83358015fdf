-- Conditions, and the statements that have one (JLS 14.9, 14.12 to 14.14). A condition is judged behind all parts of its
-- statement. `span` is the statement's first token, `condition_span` that of what is written, brackets included.
use Rattle.std.specs.Prelude.{true, List, []}
use Rattle.je_base.specs.declared.span.Span.{Span}
use Rattle.je_core.specs.declared.types.Base.TheVariants as base
use Rattle.je_core.specs.declared.value.Value.TheVariants as value
use Rattle.je_core.specs.Core.{Core, CoreStmt, MaybeStmt, Const, If, Loop, DoLoop, node, stmt}
use Rattle.je_fitting.specs.Types.{of}
use Rattle.je_typing.specs.declared.fault.TypeRule.TheVariants.{BadCondition}
use Rattle.je_typing.specs.Judged.{Judged, gives, ◌>>=◌, ◌>>◌, check}
use Rattle.je_typing.specs.Typed.{TypedNode, is_boolean}

unfoldable pub condition : Span → TypedNode → Judged Core
condition span t = do
  check BadCondition span (is_boolean t.type)
  gives t.node

-- the condition of a `for` that has none (JLS 14.14.1.2)
abbrev pub no_condition : Span → Core
no_condition span = node (Const (value.Bool true) []) (of base.Bool) span span

unfoldable pub if_statement : Span → Span → TypedNode → CoreStmt → MaybeStmt → Judged CoreStmt
if_statement span condition_span t then otherwise = do
  test ← condition condition_span t
  gives (stmt (If test then otherwise) span span)

unfoldable pub loop_statement : Span → Span → TypedNode → List Core → CoreStmt → Judged CoreStmt
loop_statement span condition_span t steps body = do
  test ← condition condition_span t
  gives (stmt (Loop test steps body) span span)

unfoldable pub do_loop : Span → Span → CoreStmt → TypedNode → Judged CoreStmt
do_loop span condition_span body t = do
  test ← condition condition_span t
  gives (stmt (DoLoop body test) span span)
