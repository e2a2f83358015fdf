-- New objects (JLS 15.9), and calls of another constructor at the head of one (JLS 8.8.7.1, 8.8.9).
use Rattle.std.specs.Prelude.{ℕ, suc, Bool, true, false, not, ◌||◌, List, [], ◌∷◌, Option, Some, None, nat_eq, if◌then◌else◌}
use Rattle.je_base.specs.declared.span.NameId.{NameId}
use Rattle.je_base.specs.declared.span.Span.{Span}
use Rattle.je_core.specs.declared.types.Base.TheVariants as base
use Rattle.je_core.specs.Core.{CoreCapture, New, a_core, cores, node}
use Rattle.je_scopes.specs.Headers.{is_local_sort, name_in, site_at, within}
use Rattle.je_scopes.specs.Looks.{Look, a_class}
use Rattle.je_scopes.specs.Scope.{member_class, same_place}
use Rattle.je_scopes.specs.Settled.{settled}
use Rattle.je_scopes.specs.SourceTypes.{SourceType, of_class, of_variable}
use Rattle.source_types.specs.Erasure.{class_numbered}
use Rattle.source_types.specs.Heads.{ClassHead, object_type}
use Rattle.declarations.specs.Declarations.{is_enum_sort}
use Rattle.header_typing.specs.Supers.{head_of, is_interface, own_type}
use Rattle.je_typing.specs.declared.fault.TypeRule.TheVariants.{AbstractNew, NoEnclosing}
use Rattle.je_typing.specs.Judged.{Judged, gives, ◌>>=◌, ◌>>◌, check}
use Rattle.je_typing.specs.Typed.{TypedNode, typed_as}
use Rattle.name_typing.specs.Accesses.{superclass_of}
use Rattle.name_typing.specs.Instances.{has_instance, is_instance, this_node, ty_of_class}
use Rattle.name_typing.specs.Program.{Frame, Place, Program, frames}
use Rattle.call_typing.specs.Calls.{exactly, passed}
use Rattle.call_typing.specs.Constructors.{constructor_for, default_place}
use Rattle.call_typing.specs.Overloads.{Candidate}

-- ---- what may be made

abbrev pub is_enum_in : Option ClassHead → Bool
is_enum_in None = false
is_enum_in (Some h) = is_enum_sort h.kind.sort

abbrev pub is_abstract_in : Option ClassHead → Bool
is_abstract_in None = false
is_abstract_in (Some h) = h.kind.is_abstract

abbrev pub is_variable : SourceType → Bool
is_variable (of_variable c at n) = true
is_variable _ = false

-- A type variable, an interface and an enum have no constructors that a creation may name.
abbrev pub has_constructors : Program → SourceType → Bool
has_constructors p t = not (is_variable t || is_interface p.heads t || is_enum_in (head_of p.heads t))

abbrev pub is_abstract : Program → SourceType → Bool
is_abstract p t = is_abstract_in (head_of p.heads t)

-- ---- the instance round a new object of an inner class (JLS 8.1.3, 8.8.7.1, 15.9.2)

-- a class whose objects have one
abbrev pub is_inner : Program → ℕ → Bool
is_inner p c = is_instance (site_at p.source.sites c).spot.context

abbrev pub is_class : ℕ → Look → Bool
is_class c (a_class d) = nat_eq c d
is_class c look = false

abbrev pub member_named : Program → Option NameId → ℕ → ℕ → Bool
member_named p None c d = false
member_named p (Some x) c d = is_class c (member_class p.source (settled p.source) x d)

-- a class is a member of another one, which declares or inherits it
abbrev pub is_member_of : Program → ℕ → ℕ → Bool
is_member_of p c d = member_named p (name_in (site_at p.source.sites c).written) c d

-- a local class has it from the class that it stands in, a member class from one that it is a member of
abbrev pub is_round : Program → ℕ → Frame → Bool
is_round p c f =
    if is_local_sort (site_at p.source.sites c).sort then same_place (within (site_at p.source.sites c)) (Some f.class)
    else is_member_of p c f.class

-- there is a current object of the innermost such class, so many classes outwards
abbrev pub has_round_from : Program → ℕ → ℕ → List Frame → List Frame → Bool
has_round_from p c n all [] = false
has_round_from p c n all (f ∷ fs) = if is_round p c f then has_instance n all else has_round_from p c (suc n) all fs

abbrev pub has_round : Program → ℕ → List Frame → Bool
has_round p c fs = not (is_inner p c) || has_round_from p c 0 fs fs

-- of a class type, among the bodies that stand round a place
abbrev pub has_enclosing : Program → SourceType → List Frame → Bool
has_enclosing p (of_class c args n) fs = has_round p c fs
has_enclosing p t fs = true

-- ---- `new C(..)`: faults stand at the name behind `new`. `captures` are what the new object gets from round its
-- class.

abbrev pub typed_new : ℕ → ℕ → SourceType → Span → Span → Span → Candidate → List TypedNode → List CoreCapture →
    TypedNode
typed_new c at t word name_span span m args captures = record {
  node = node (New (class_numbered c) at (cores (passed m.parameters args)) captures word)
      (ty_of_class c) span name_span;
  type = t;
}

unfoldable pub creation : Program → Place → SourceType → Span → Span → Span → List TypedNode → List CoreCapture →
    Judged TypedNode
creation p place t word name_span span args captures = do
  check AbstractNew name_span (has_constructors p t)
  m ← constructor_for p place.here.class t name_span args
  check AbstractNew name_span (not (is_abstract p t))
  check NoEnclosing name_span (has_enclosing p t (frames place))
  gives (typed_new m.class m.place t word name_span span m args captures)

-- ---- `new C(..) { .. }` (JLS 15.9.5): an object of the class of the body, whose constructor hands its arguments on to
-- the one that they choose; of an interface that is Object's

abbrev pub made_of : Program → SourceType → SourceType
made_of p t = if is_interface p.heads t then object_type else t

unfoldable pub anonymous_creation : Program → Place → ℕ → SourceType → Span → Span → Span → List TypedNode →
    List CoreCapture → Judged TypedNode
anonymous_creation p place c t word name_span span args captures = do
  check AbstractNew name_span (not (is_variable t))
  m ← constructor_for p place.here.class (made_of p t) name_span args
  check NoEnclosing name_span (has_enclosing p t (frames place))
  gives (typed_new c (default_place p.classes c) (own_type p.heads c) word name_span span m args captures)

-- ---- `this(..)` and `super(..)` (JLS 8.8.7.1): faults stand at the word, which is the node's token

abbrev pub typed_head : Place → Span → Span → Candidate → List TypedNode → TypedNode
typed_head place word span m args = typed_as base.Void (exactly (a_core (this_node place word)) m args) span word

unfoldable pub own_constructor_call : Program → Place → Span → Span → List TypedNode → Judged TypedNode
own_constructor_call p place word span args = do
  m ← constructor_for p place.here.class (own_type p.heads place.here.class) word args
  gives (typed_head place word span m args)

-- the instance round the part that the superclass is comes from the bodies round the class
unfoldable pub superclass_constructor_call : Program → Place → Span → Span → List TypedNode → Judged TypedNode
superclass_constructor_call p place word span args = do
  m ← constructor_for p place.here.class (superclass_of p.heads place.here.class) word args
  check NoEnclosing word (has_enclosing p (superclass_of p.heads place.here.class) place.round)
  gives (typed_head place word span m args)

-- `super()`, where no such call is written (JLS 8.8.7, 8.8.9), with the span of the class
unfoldable pub implicit_constructor_call : Program → Place → Span → Judged TypedNode
implicit_constructor_call p place class_span = superclass_constructor_call p place class_span class_span []
