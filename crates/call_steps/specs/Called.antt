-- The node of a call with its type, by the headers of all classes alone.
use Rattle.std.specs.Prelude.{List}
use Rattle.je_base.specs.declared.span.Span.{Span}
use Rattle.je_core.specs.Core.{CoreForm, node}
use Rattle.source_types.specs.Erasure.{erased}
use Rattle.source_types.specs.Heads.{ClassHead}
use Rattle.je_typing.specs.Typed.{TypedNode}
use Rattle.name_typing.specs.Variables.{taken}
use Rattle.call_typing.specs.Overloads.{Candidate}

abbrev pub called : List ClassHead → CoreForm → Candidate → Span → Span → TypedNode
called heads form m at span =
    taken heads (record { node = node form (erased heads m.declared) span at; type = m.result })
