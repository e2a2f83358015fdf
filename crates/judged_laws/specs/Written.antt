-- What the grammar gives of headers, and what bodies say of the type behind `new`.
use Rattle.std.specs.Prelude.{◌≡◌, ℕ, true, Some, slice_get}
use Rattle.std.specs.List.{Contains}
use Rattle.je_ast.specs.Types.{TypeName, TypeParameter}
use Rattle.je_scopes.specs.Headers.{is_interface_sort, parameters_in, site_at}
use Rattle.je_scopes.specs.Scope.{header}
use Rattle.je_scopes.specs.Settled.{heads_of}
use Rattle.je_scopes.specs.Sites.{behind_new, static}
use Rattle.je_scopes.specs.Source.{Source}
use Rattle.je_scopes.specs.SourceTypes.{of_variable}
use Rattle.je_ast.specs.Trees.{Members}
use Rattle.je_base.specs.declared.span.Span.{Span}
use Rattle.declarations.specs.Declarations.{type_at}
use Rattle.body_laws.specs.Written.{IsMade}

-- What stands above a class, and the bound of a type parameter, is a class without brackets
-- (JLS 4.4, 8.1.4, 8.1.5, 9.1.3, 15.9).
pub record HeadersAreWritten (source : Source) : Type 0 where
  pub heads : (c : ℕ) (t : TypeName) → Contains (heads_of source c) t → IsMade t
  pub bounds : (c at : ℕ) (q : TypeParameter) (t : TypeName) →
      slice_get (parameters_in (site_at source.sites c).written) at ≡ Some q → q.bound ≡ Some t → IsMade t

-- no class with a body behind `new` is below a type variable (JLS 15.9.1)
abbrev pub NoneIsBelowVariables : Source → Type 0
NoneIsBelowVariables source = (c d at n : ℕ) (word : Span) (t : TypeName) (body : Members) →
    (site_at source.sites c).written ≡ behind_new word t body → ¬ (type_at source c header t ≡ of_variable d at n)

-- an interface is no local class, and so there is no instance round it (JLS 8.5.2, 9.5, 14.3)
abbrev pub InterfacesAreStatic : Source → Type 0
InterfacesAreStatic source = (c : ℕ) → is_interface_sort (site_at source.sites c).sort ≡ true →
    (site_at source.sites c).spot.context ≡ static
