-- Calls of methods (JLS 15.12): on a value, on a class, by a simple name, and by `super`. A fault stands at the
-- method's name, whose span is the node's token.
use Rattle.std.specs.Prelude.{ℕ, suc, Bool, true, false, not, ◌||◌, List, [], ◌∷◌, map, Option, Some, None, if◌then◌else◌}
use Rattle.je_base.specs.declared.span.NameId.{NameId}
use Rattle.je_base.specs.declared.span.Span.{Span}
use Rattle.je_core.specs.Core.{Core, CoreForm, MaybeCore, CallExact, CallVirtual, a_core, cores, no_core, node}
use Rattle.je_ast.specs.declared.name.Identifier.{Identifier}
use Rattle.je_scopes.specs.SourceTypes.{SourceType}
use Rattle.source_types.specs.Erasure.{class_numbered, erased}
use Rattle.header_typing.specs.Supers.{own_type}
use Rattle.je_typing.specs.declared.fault.TypeRule.TheVariants.{BadOperand, BadSuperCall, NoMethod, StaticContext, UnknownName, VoidValue}
use Rattle.je_typing.specs.Conversions.{converted_if, span_of}
use Rattle.je_typing.specs.Judged.{Judged, gives, ◌>>=◌, ◌>>◌, breaks, check, need}
use Rattle.je_typing.specs.Typed.{TypedNode, is_void, primitive}
use Rattle.name_typing.specs.Accesses.{has_members, superclass_of}
use Rattle.name_typing.specs.Instances.{has_instance, instance_node, is_instance, this_node}
use Rattle.name_typing.specs.Program.{Frame, Place, Program, frames}
use Rattle.name_typing.specs.Qualified.{Qualifier, a_beginning, a_class, a_value}
use Rattle.name_typing.specs.Variables.{class_of_frame, taken}
use Rattle.overriding.specs.Methods.{Method, is_private}
use Rattle.call_typing.specs.Methods.{candidates, methods_of}
use Rattle.call_typing.specs.Overloads.{Candidate, choice, chosen}

-- ---- a call of a `void` method is no value: the fault stands at the call, without brackets round it (JLS 14.8,
-- 15.12.3)

unfoldable pub used : TypedNode → Judged TypedNode
used t = do
  check VoidValue (span_of t.node) (not (is_void t.type))
  gives t

-- ---- arguments

abbrev pub type_of : TypedNode → SourceType
type_of t = t.type

-- each converted to the type of its parameter (JLS 5.3)
abbrev pub passed : List SourceType → List TypedNode → List Core
passed (t ∷ ts) (a ∷ rest) = converted_if (primitive t) a.node ∷ passed ts rest
passed _ _ = []

-- the method of a type that a name and arguments choose
abbrev pub method_for : Program → Place → SourceType → Identifier → List TypedNode → Judged Candidate
method_for p place t id args =
    chosen NoMethod id.span
    (choice p.heads p.source.sites place.here.class (candidates p.heads p.classes id.name t) (map type_of args))

-- ---- the node (JLS 15.12.3, 15.12.4)

-- the named method itself, whatever object it is called on
abbrev pub exactly : MaybeCore → Candidate → List TypedNode → CoreForm
exactly receiver m args = CallExact receiver (class_numbered m.class) m.place (cores (passed m.parameters args))

-- the method that the object has for the named one
abbrev pub virtually : Core → Candidate → List TypedNode → CoreForm
virtually receiver m args = CallVirtual receiver (class_numbered m.class) m.place (cores (passed m.parameters args))

-- a static method has no object, and a private one is not overridden
abbrev pub is_exact : Candidate → Bool
is_exact m = m.flags.is_static || is_private m.flags.access

-- what stands before the point is evaluated for a static method, too
abbrev pub form_on : Core → Candidate → List TypedNode → CoreForm
form_on receiver m args = if is_exact m then exactly (a_core receiver) m args else virtually receiver m args

-- Its type is the result with the type arguments put in, under a Cast where that is another one once erased; `void` for
-- a method without a result.
abbrev pub typed_call : Program → CoreForm → Candidate → Span → Span → TypedNode
typed_call p form m at span =
    taken p.heads (record { node = node form (erased p.heads m.declared) span at; type = m.result })

-- ---- what stands before a point

pub data Receiver : Type 0 where
  on_value : TypedNode → Receiver
  on_class : ℕ → Receiver

-- a name without meaning is at fault before the arguments are looked at (JLS 6.5)
unfoldable pub receiver : Qualifier → Judged Receiver
receiver (a_value t) = gives (on_value t)
receiver (a_class c) = gives (on_class c)
receiver (a_beginning first further) = breaks UnknownName first.span

-- ---- `e.m(..)`, on a value

unfoldable pub call_on_value : Program → Place → Identifier → Span → List TypedNode → TypedNode → Judged TypedNode
call_on_value p place id span args on = do
  check BadOperand id.span (has_members on.type)
  m ← method_for p place on.type id args
  gives (typed_call p (form_on on.node m args) m id.span span)

-- ---- `C.m(..)`, of a class: a static method

unfoldable pub call_on_class : Program → Place → Identifier → Span → List TypedNode → ℕ → Judged TypedNode
call_on_class p place id span args c = do
  m ← method_for p place (own_type p.heads c) id args
  check StaticContext id.span m.flags.is_static
  gives (typed_call p (exactly no_core m args) m id.span span)

unfoldable pub call_on : Program → Place → Identifier → Span → List TypedNode → Receiver → Judged TypedNode
call_on p place id span args (on_value t) = call_on_value p place id span args t
call_on p place id span args (on_class c) = call_on_class p place id span args c

-- ---- `m(..)`: of the innermost class that has a method of the name (JLS 15.12.1)

abbrev pub has_some : List Method → Bool
has_some [] = false
has_some (m ∷ ms) = true

-- how many classes outwards it stands, counted from there on
abbrev pub steps_from : Program → NameId → ℕ → List Frame → Option ℕ
steps_from p x n [] = None
steps_from p x n (f ∷ fs) =
    if has_some (methods_of p.heads p.classes x f.class) then Some n else steps_from p x (suc n) fs

abbrev pub steps_to_method : Program → Place → NameId → Option ℕ
steps_to_method p place x = steps_from p x 0 (frames place)

abbrev pub class_outwards : Place → ℕ → ℕ
class_outwards place n = class_of_frame (frames place) n

-- on the instance so many classes outwards, which has the span of the name; a static method has no receiver
abbrev pub simple_form : Program → Place → ℕ → Span → Candidate → List TypedNode → CoreForm
simple_form p place n at m args =
    if m.flags.is_static then exactly no_core m args else form_on (instance_node p place n at) m args

unfoldable pub simple_call : Program → Place → Identifier → Span → List TypedNode → Judged TypedNode
simple_call p place id span args = do
  n ← need NoMethod id.span (steps_to_method p place id.name)
  m ← method_for p place (own_type p.heads (class_outwards place n)) id args
  check StaticContext id.span (m.flags.is_static || has_instance n (frames place))
  gives (typed_call p (simple_form p place n id.span m args) m id.span span)

-- ---- `super.m(..)`: the method of the superclass itself; `this` has the span of the name, the word `super` that of a
-- fault

unfoldable pub super_call : Program → Place → Span → Identifier → Span → List TypedNode → Judged TypedNode
super_call p place word id span args = do
  m ← method_for p place (superclass_of p.heads place.here.class) id args
  check StaticContext word (is_instance place.here.context)
  check BadSuperCall id.span (not m.is_abstract)
  gives (typed_call p (exactly (a_core (this_node place id.span)) m args) m id.span span)
