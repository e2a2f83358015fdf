-- Types as headers and signatures write them: each type argument is below its bound (JLS 4.5), and no type has more than 255
-- dimensions (JVMS 4.3.2).
use Rattle.std.specs.Prelude.{ℕ, suc, ◌+◌, Bool, true, List, Option, Some, None, slice_get, nat_le}
use Rattle.je_base.specs.declared.span.Span.{Span}
use Rattle.je_ast.specs.declared.name.Identifier.{Identifier}
use Rattle.je_ast.specs.Types.{TypeName, TypeNames, primitive, class_type, no_types, more_types, FormalParameter}
use Rattle.je_scopes.specs.SourceTypes.{SourceType, SourceTypes, of_class}
use Rattle.source_types.specs.Heads.{ClassHead, head_at, bounds_in}
use Rattle.source_types.specs.Substitution.{argument_at, substituted}
use Rattle.source_types.specs.Subtypes.{is_subtype}
use Rattle.je_typing.specs.declared.fault.TypeRule.TheVariants.{BadArray, BadBound}
use Rattle.je_typing.specs.Judged.{Judged, gives, ◌>>◌, check}

abbrev pub span_of : TypeName → Span
span_of (primitive word dims span) = span
span_of (class_type q args dims span) = span

abbrev pub written_dims : TypeName → ℕ
written_dims (primitive word dims span) = dims
written_dims (class_type q args dims span) = dims

abbrev pub is_in_limit : ℕ → Bool
is_in_limit n = nat_le n 255

-- ---- type arguments

-- one and the bound of its place, in which the arguments are put in for the class's variables
abbrev pub is_in_bound : List ClassHead → ℕ → SourceTypes → Option SourceType → Option SourceType → Bool
is_in_bound heads c args (Some bound) (Some t) = is_subtype heads t (substituted c args bound)
is_in_bound heads c args _ _ = true

abbrev pub bound_if : List ClassHead → ℕ → ℕ → Option SourceType
bound_if heads c at = slice_get (bounds_in (head_at heads c)) at

-- the arguments of a class, those that are written from a place on
abbrev pub bounded_from : List ClassHead → ℕ → SourceTypes → ℕ → TypeNames → Judged (Unit {0})
bounded_from heads c args at no_types = gives tt
bounded_from heads c args at (more_types t ts) = do
  check BadBound (span_of t) (is_in_bound heads c args (bound_if heads c at) (argument_at args at))
  bounded_from heads c args (suc at) ts

-- the arguments that are written of a type
unfoldable pub bounded : List ClassHead → SourceType → TypeNames → Judged (Unit {0})
bounded heads (of_class c args n) written = bounded_from heads c args 0 written
bounded heads _ written = gives tt

-- ---- a written type, where `means` says which type it is; its arguments stand first

abbrev mutual
  pub well_written : List ClassHead → (TypeName → SourceType) → TypeName → Judged (Unit {0})
  well_written heads means (primitive word dims span) = check BadArray span (is_in_limit dims)
  well_written heads means (class_type q args dims span) = do
    all_well_written heads means args
    bounded heads (means (class_type q args dims span)) args
    check BadArray span (is_in_limit dims)

  pub all_well_written : List ClassHead → (TypeName → SourceType) → TypeNames → Judged (Unit {0})
  all_well_written heads means no_types = gives tt
  all_well_written heads means (more_types t ts) = do
    well_written heads means t
    all_well_written heads means ts

abbrev pub well_written_if : List ClassHead → (TypeName → SourceType) → Option TypeName → Judged (Unit {0})
well_written_if heads means None = gives tt
well_written_if heads means (Some t) = well_written heads means t

-- ---- a variable, whose name may have further brackets behind it (JLS 8.3, 8.4.1)

abbrev pub well_declared : TypeName → ℕ → Identifier → Judged (Unit {0})
well_declared t dims id = check BadArray id.span (is_in_limit (written_dims t + dims))

abbrev pub well_formed_formal : List ClassHead → (TypeName → SourceType) → FormalParameter → Judged (Unit {0})
well_formed_formal heads means f = do
  well_written heads means f.declared
  well_declared f.declared f.dims f.name
