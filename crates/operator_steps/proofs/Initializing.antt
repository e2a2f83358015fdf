-- An array initializer, by the type of its elements.
use Rattle.std.proofs.Common.{◌≡◌, List, Option, ap, sym, ◌∙◌, subst}
use Rattle.je_base.specs.declared.span.Span.{Span}
use Rattle.je_scopes.specs.SourceTypes.{SourceType}
use Rattle.source_types.specs.Heads.{ClassHead}
use Rattle.je_typing.specs.declared.fault.Refusal.{Refusal}
use Rattle.je_typing.specs.Answers.{IsFault}
use Rattle.je_typing.specs.Arrays.{Part, array_of}
use Rattle.je_typing.specs.Judged.{Judged, gives}
use Rattle.je_typing.specs.Typed.{TypedNode, element_type}
use Rattle.operator_steps.specs.way.Elements.{array_by}

by-element : (heads : List ClassHead) (t : SourceType) (o : Option SourceType) (span : Span) (parts : List Part) → o ≡ element_type t →
    array_by heads t o span parts ≡ array_of heads t span parts
unfolding array_by array_of
by-element heads t o span parts e = ap (λ (k : Option SourceType). array_by heads t k span parts) e

pub array_gives : (heads : List ClassHead) (t : SourceType) (o : Option SourceType) (span : Span) (parts : List Part) (x : TypedNode) → o ≡ element_type t →
    array_by heads t o span parts ≡ gives x → array_of heads t span parts ≡ gives x
array_gives heads t o span parts x e h = sym (by-element heads t o span parts e) ∙ h

pub array_faults : (heads : List ClassHead) (t : SourceType) (o : Option SourceType) (span : Span) (parts : List Part) (r : Refusal) → o ≡ element_type t →
    IsFault (array_by heads t o span parts) r → IsFault (array_of heads t span parts) r
array_faults heads t o span parts r e h = subst (λ (step : Judged TypedNode). IsFault step r) (by-element heads t o span parts e) h

pub ruleset by_element = (array_gives, array_faults)
