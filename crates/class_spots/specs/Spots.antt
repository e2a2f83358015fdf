-- When places in the text are those of a program's classes.
use Rattle.std.specs.Prelude.{◌≡◌, List}
use Rattle.std.specs.List.{position}
use Rattle.je_base.specs.declared.span.Span.{Span}
use Rattle.je_ast.specs.declared.name.Identifier.{Identifier}
use Rattle.je_scopes.specs.Sites.{Site}
use Rattle.body_typing.specs.Expressions.{is_behind}
use Rattle.body_typing.specs.LocalClasses.{is_declared_at}
use Rattle.class_spots.specs.declared.places.ClassSpots.{ClassSpots}
use Rattle.class_spots.specs.Starts.{kept}

-- At each place stands the first class of which the test holds there.
pub record AreSpotsOf (sites : List Site) (spots : ClassSpots) : Type 0 where
  pub anonymous : (word : Span) → kept spots.anonymous word ≡ position (λ (s : Site). is_behind word s.written) sites
  pub declared : (id : Identifier) → kept spots.declared id.span ≡ position (λ (s : Site). is_declared_at id s.written) sites
