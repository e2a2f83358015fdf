-- The node of a field, part by part.
use Rattle.std.proofs.Common.{◌≡◌, ℕ, sym, ap, ◌∙◌}
use Rattle.std.specs.Prelude.{Bool, ◌||◌}
use Rattle.je_base.specs.declared.span.Span.{Span}
use Rattle.je_classes.specs.Members.{Member}
use Rattle.declarations.specs.Declarations.{DeclaredField}
use Rattle.je_typing.specs.declared.fault.TypeRule.TheVariants.{StaticContext, UnknownName}
use Rattle.je_typing.specs.Judged.{bind, check, gives, need}
use Rattle.je_typing.specs.Typed.{TypedNode}
use Rattle.je_typing.proofs.Walks.{bind_gives}
use Rattle.name_typing.specs.Fields.{field_at}
use Rattle.name_typing.specs.Instances.{has_instance}
use Rattle.name_typing.specs.Program.{Place, Program, frames}
use Rattle.name_typing.specs.Variables.{a_field, typed_field, variable_node}

pub field_stands : (p : Program) (place : Place) (at : Span) (n : ℕ) (m k : Member) (f : DeclaredField) (there : Bool) (t : TypedNode) →
    need UnknownName at (field_at p.classes m) ≡ gives f → k ≡ m → check StaticContext at there ≡ gives tt →
    there ≡ (f.is_static || has_instance n (frames place)) → t ≡ typed_field p place n k f at → variable_node p place at (a_field n m) ≡ gives t
unfolding variable_node
field_stands p place at n m k f there t e h c d o =
    bind_gives (need UnknownName at (field_at p.classes m))
    (λ g. bind (check StaticContext at (g.is_static || has_instance n (frames place))) (λ done. gives (typed_field p place n m g at))) f e
    ∙ ap (λ (x : Bool). bind (check StaticContext at x) (λ done. gives (typed_field p place n m f at))) (sym d)
    ∙ bind_gives (check StaticContext at there) (λ done. gives (typed_field p place n m f at)) tt c
    ∙ ap (λ (j : Member). gives (typed_field p place n j f at)) (sym h) ∙ ap gives (sym o)
