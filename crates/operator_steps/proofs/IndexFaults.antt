-- An element of an array whose index is at fault.
use Rattle.std.proofs.Common.{◌≡◌, List}
use Rattle.je_base.specs.declared.span.Span.{Span}
use Rattle.je_core.specs.Core.{Core}
use Rattle.je_scopes.specs.SourceTypes.{SourceType}
use Rattle.source_types.specs.Heads.{ClassHead}
use Rattle.je_typing.specs.declared.fault.Refusal.{Refusal}
use Rattle.je_typing.specs.declared.fault.TypeRule.TheVariants.{BadIndex}
use Rattle.je_typing.specs.Answers.{IsFault}
use Rattle.je_typing.specs.Arrays.{element, element_node, int_index}
use Rattle.je_typing.specs.Judged.{bind, gives, need}
use Rattle.je_typing.specs.Typed.{TypedNode, element_type}
use Rattle.je_typing.proofs.Walks.{bind_faults, fault_later}

pub index_faults : (heads : List ClassHead) (array_span index_span span : Span) (array index : TypedNode) (t : SourceType) (r : Refusal) →
    need BadIndex array_span (element_type array.type) ≡ gives t → IsFault (int_index index_span index) r → IsFault (element heads array_span index_span span array index) r
unfolding element
index_faults heads array_span index_span span array index t r e h =
    fault_later (need BadIndex array_span (element_type array.type)) (λ (u : SourceType). bind (int_index index_span index) (λ (i : Core). gives (element_node heads u span array.node i))) t r e
    (bind_faults (int_index index_span index) (λ (i : Core). gives (element_node heads t span array.node i)) r h)
