-- A group and a catch by themselves.
use Rattle.je_core.specs.declared.types.ClassId.{ClassId}
use Rattle.je_base.specs.declared.span.Span.{Span}
use Rattle.je_core.specs.Core.{CoreStmt, CoreStmts, CoreGroup, CoreCatch, group, catch}

abbrev pub parts_of : CoreGroup → CoreStmts
parts_of (group labels parts) = parts

abbrev pub class_of : CoreCatch → ClassId
class_of (catch local class span body) = class

abbrev pub span_of : CoreCatch → Span
span_of (catch local class span body) = span

abbrev pub body_of : CoreCatch → CoreStmt
body_of (catch local class span body) = body
