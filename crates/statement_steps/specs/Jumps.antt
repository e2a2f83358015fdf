-- Labels, `break` and `continue` (JLS 14.7, 14.15, 14.16). `span` is the statement's first token, `targets` what stands round
-- it in its body.
use Rattle.std.specs.Prelude.{Bool, Option, Some, None, is_none, option_map}
use Rattle.je_base.specs.declared.span.NameId.{NameId}
use Rattle.je_base.specs.declared.span.Span.{Span}
use Rattle.je_ast.specs.declared.name.Identifier.{Identifier}
use Rattle.je_core.specs.Core.{CoreStmt, Labelled, Jump, stmt}
use Rattle.je_fitting.specs.Statements.{Targets, label_of}
use Rattle.je_fitting.specs.way.DecidingStatements.{can_jump}
use Rattle.je_typing.specs.declared.fault.TypeRule.TheVariants.{BadLabel}
use Rattle.je_typing.specs.Judged.{Judged, gives, ◌>>◌, check}

abbrev pub name_if : Option Identifier → Option NameId
name_if label = option_map (λ (l : Identifier). l.name) label

-- a fault stands at the label, or at the word of a jump without one
abbrev pub jump_span : Span → Option Identifier → Span
jump_span span None = span
jump_span span (Some label) = label.span

-- `continue` where `again` holds, else `break`: there is a statement for it
unfoldable pub jump : Targets → Bool → Span → Option Identifier → Judged CoreStmt
jump targets again span label = do
  check BadLabel (jump_span span label) (can_jump targets again (name_if label))
  gives (stmt (Jump again (name_if label)) span span)

-- no label stands in one of the same name
unfoldable pub labelled : Targets → Identifier → CoreStmt → Judged CoreStmt
labelled targets label body = do
  check BadLabel label.span (is_none (label_of targets.labels label.name))
  gives (stmt (Labelled label.name body) label.span label.span)
