-- What is behind one parameter.
use Rattle.std.specs.Prelude.{List, length, None}
use Rattle.je_ast.specs.Types.{FormalParameter}
use Rattle.je_scopes.specs.SourceTypes.{SourceType}
use Rattle.source_types.specs.Heads.{ClassHead}
use Rattle.body_typing.specs.FinalVariables.{Scope}
use Rattle.body_typing.specs.Bodies.{Progress, local_of, with_local, with_number}

abbrev pub scope_behind : Scope → Progress → FormalParameter → SourceType → Scope
scope_behind s pr f t = with_local f.is_final (local_of f.name.name t f.is_final (length pr.locals) None) s

abbrev pub progress_behind : List ClassHead → Progress → FormalParameter → SourceType → Progress
progress_behind heads pr f t = with_number heads f.name.name t f.is_final f.name.span pr
