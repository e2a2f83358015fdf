-- The last steps of a type that is written in a body, which all forms of types share.
use Rattle.std.specs.Prelude.{ℕ, Bool}
use Rattle.je_base.specs.declared.span.Span.{Span}
use Rattle.je_ast.specs.Types.{QualifiedName, TypeNames}
use Rattle.je_scopes.specs.SourceTypes.{SourceType, SourceTypes, count}
use Rattle.header_typing.specs.WrittenTypes.{bounded, is_in_limit}
use Rattle.je_typing.specs.declared.fault.TypeRule.TheVariants.{BadArray, NotAccessible, UnknownName}
use Rattle.je_typing.specs.Judged.{Judged, gives, ◌>>◌, check}
use Rattle.name_typing.specs.Program.{Frame, Program}
use Rattle.body_types.specs.BodyTypes.{look_at, may_be_named, takes, type_at}

-- a type of so many dimensions
abbrev pub sized : (ℕ → SourceType) → ℕ → Span → Judged SourceType
sized type dims span = do
  check BadArray span (is_in_limit dims)
  gives (type dims)

abbrev pub accessible_sized : Bool → Span → (ℕ → SourceType) → ℕ → Span → Judged SourceType
accessible_sized may_be name type dims span = do
  check NotAccessible name may_be
  sized type dims span

-- a class type behind its arguments
abbrev pub behind_arguments : Program → Frame → QualifiedName → TypeNames → ℕ → Span → SourceTypes → Judged SourceType
behind_arguments p here q args dims span ts = do
  check UnknownName q.span (takes p here (look_at p here q.parts) (count args))
  bounded p.heads (type_at p here q ts dims) args
  accessible_sized (may_be_named p here q.parts) q.span (type_at p here q ts) dims span
