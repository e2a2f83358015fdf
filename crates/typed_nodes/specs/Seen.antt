-- What contracts see of a node in memory with its type.
use Rattle.je_core.specs.View.{view}
use Rattle.je_typing.specs.Typed.{TypedNode}
use Rattle.name_types.specs.View.{shown}
use Rattle.typed_nodes.specs.declared.typed.TypedExpr.{TypedExpr}

abbrev pub seen : TypedExpr → TypedNode
seen t = record { node = view t.node; type = shown t.ty }
