-- What a body returns (JLS 14.17). `span` is the word `return`, `value_span` the value, brackets included.
use Rattle.std.specs.Prelude.{List, Some, None}
use Rattle.je_base.specs.declared.span.Span.{Span}
use Rattle.je_core.specs.Core.{CoreStmt, Return, stmt}
use Rattle.je_scopes.specs.SourceTypes.{SourceType}
use Rattle.source_types.specs.Heads.{ClassHead}
use Rattle.je_typing.specs.declared.fault.TypeRule.TheVariants.{BadReturn}
use Rattle.je_typing.specs.Conversions.{assigned}
use Rattle.je_typing.specs.Judged.{Judged, gives, ◌>>=◌, breaks}
use Rattle.je_typing.specs.Typed.{TypedNode}

-- an initializer doesn't return; a constructor, and a method whose result is `void`, returns no value
pub data Returning : Type 0 where
  never : Returning
  no_value : Returning
  a_value : SourceType → Returning

unfoldable pub returned : Returning → Span → Judged CoreStmt
returned no_value span = gives (stmt (Return None) span span)
returned _ span = breaks BadReturn span

unfoldable pub returned_value : List ClassHead → Returning → Span → Span → TypedNode → Judged CoreStmt
returned_value heads never span value_span from = breaks BadReturn span
returned_value heads no_value span value_span from = breaks BadReturn value_span
returned_value heads (a_value to) span value_span from = do
  value ← assigned heads to value_span from
  gives (stmt (Return (Some value)) span span)
