use Rattle.std.proofs.Common.{◌≡◌, take}
use Rattle.std.specs.List.{position}
use Rattle.je_base.specs.declared.span.Span.{Span}
use Rattle.je_ast.specs.declared.name.Identifier.{Identifier}
use Rattle.je_scopes.specs.Sites.{Site}
use Rattle.body_typing.specs.Expressions.{is_behind}
use Rattle.name_sites.specs.View.{source_of}
use Rattle.body_typing.specs.LocalClasses.{is_declared_at}
use Rattle.class_spots.specs.Starts.{kept}
use Rattle.class_spots.proofs.places.spots.Given as goal

abbrev pub invariant-loop-at : goal.invariant-loop-at
invariant-loop-at l = record {
  anonymous : (word : Span) → kept l.anonymous word ≡ position (λ (s : Site). is_behind word s.written) (take l.at (source_of l.sites).sites);
  declared : (id : Identifier) → kept l.declared id.span ≡ position (λ (s : Site). is_declared_at id s.written) (take l.at (source_of l.sites).sites);
}
