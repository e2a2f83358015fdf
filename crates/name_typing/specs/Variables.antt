-- What a simple name means as a variable (JLS 6.3, 6.5.6.1, 8.1.3, 8.3.2.3, 15.28), and the value of a variable.
use Rattle.std.specs.Prelude.{ℕ, zero, suc, Bool, true, false, not, ◌&&◌, ◌||◌, List, [], ◌∷◌, Option, Some, None, nat_eq, nat_le, if◌then◌else◌}
use Rattle.std.specs.List.{find}
use Rattle.je_base.specs.declared.span.NameId.{NameId}
use Rattle.je_base.specs.declared.span.Span.{Span}
use Rattle.je_core.specs.declared.expr.Use.{Use}
use Rattle.je_core.specs.Core.{CoreForm, Cast, Const, Field, Local, Static, Text, no_core, node, ty_of}
use Rattle.je_ast.specs.declared.name.Identifier.{Identifier}
use Rattle.je_classes.specs.Members.{Member, Found, nothing, one, several}
use Rattle.je_classes.specs.Subtypes.{same_type}
use Rattle.je_scopes.specs.Headers.{is_guest, same_name, site_at}
use Rattle.source_types.specs.Erasure.{class_numbered, erased}
use Rattle.source_types.specs.Heads.{ClassHead}
use Rattle.declarations.specs.Declarations.{DeclaredField}
use Rattle.header_typing.specs.Supers.{own_type}
use Rattle.je_typing.specs.declared.fault.TypeRule.TheVariants.{AmbiguousField, ForwardUse, NotFinalCapture, StaticContext, UnknownName}
use Rattle.je_typing.specs.Conversions.{span_of, token_of}
use Rattle.je_typing.specs.Judged.{Judged, gives, ◌>>=◌, ◌>>◌, breaks, check, need}
use Rattle.je_typing.specs.Typed.{TypedNode}
use Rattle.name_typing.specs.Fields.{field_at, find_field, type_seen}
use Rattle.name_typing.specs.Instances.{has_instance, instance_node, this_node}
use Rattle.name_typing.specs.Program.{Constant, Frame, Initializer, LocalVariable, Place, Program, frames, text_constant, value_constant}

-- a local of a body, or a field of the class, so many classes outwards; a field's name that is inherited twice is unclear
pub data Variable : Type 0 where
  no_variable : Variable
  a_local : ℕ → LocalVariable → Variable
  a_field : ℕ → Member → Variable
  unclear : Variable

-- ---- JLS 6.3.1: a local hides a field, and what is nearer what is further out

abbrev pub local_named : List LocalVariable → NameId → Option LocalVariable
local_named locals x = find (λ (v : LocalVariable). same_name v.name x) locals

abbrev pub field_found : ℕ → Found → Variable
field_found n nothing = no_variable
field_found n (one m) = a_field n m
field_found n several = unclear

abbrev pub local_or : ℕ → Option LocalVariable → Variable → Variable
local_or n None field = field
local_or n (Some v) field = a_local n v

abbrev pub or_further : Variable → Variable → Variable
or_further no_variable v = v
or_further v further = v

abbrev pub in_frame : Program → ℕ → NameId → Frame → Variable
in_frame p n x f = local_or n (local_named f.locals x) (field_found n (find_field p.heads p.classes (own_type p.heads f.class) x))

abbrev pub outwards : Program → ℕ → NameId → List Frame → Variable
outwards p n x [] = no_variable
outwards p n x (f ∷ fs) = or_further (in_frame p n x f) (outwards p (suc n) x fs)

unfoldable pub variable_named : Program → Place → NameId → Variable
variable_named p place x = outwards p 0 x (frames place)

-- ---- its node, as what is assigned

abbrev pub typed_local : Program → LocalVariable → Span → TypedNode
typed_local p v at = record { node = node (Local v.number) (erased p.heads v.type) at at; type = v.type }

abbrev pub class_of_frame : List Frame → ℕ → ℕ
class_of_frame [] n = 0
class_of_frame (f ∷ fs) zero = f.class
class_of_frame (f ∷ fs) (suc n) = class_of_frame fs n

abbrev pub captured_place : Program → Place → ℕ → LocalVariable → ℕ
captured_place p place n v = p.captured place.here.class (class_of_frame (frames place) n) v.number

-- the value of a local of an outer body stands in a field of `this`
abbrev pub typed_captured : Program → Place → ℕ → LocalVariable → Span → TypedNode
typed_captured p place n v at = record {
  node = node (Field (this_node place at) (class_numbered place.here.class) (captured_place p place n v)) (erased p.heads v.type) at at;
  type = v.type;
}

abbrev pub field_form : Program → Place → ℕ → Member → Bool → Span → CoreForm
field_form p place n m is_static at = if is_static then Static no_core m.class m.at else Field (instance_node p place n at) m.class m.at

abbrev pub typed_field : Program → Place → ℕ → Member → DeclaredField → Span → TypedNode
typed_field p place n m f at = record {
  node = node (field_form p place n m f.is_static at) (erased p.heads f.ty) at at;
  type = type_seen p.heads (own_type p.heads (class_of_frame (frames place) n)) m f;
}

unfoldable pub variable_node : Program → Place → Span → Variable → Judged TypedNode
variable_node p place at no_variable = breaks UnknownName at
variable_node p place at unclear = breaks AmbiguousField at
variable_node p place at (a_local zero v) = gives (typed_local p v at)
variable_node p place at (a_local (suc n) v) = do
  check NotFinalCapture at v.is_final
  gives (typed_captured p place (suc n) v at)
variable_node p place at (a_field n m) = do
  f ← need UnknownName at (field_at p.classes m)
  check StaticContext at (f.is_static || has_instance n (frames place))
  gives (typed_field p place n m f at)

-- ---- its value

-- What is declared without the type arguments is asked for them when it is read (JLS 4.6). They are below their bounds, so
-- where the erased types aren't the same, that of the declaration isn't a subtype.
unfoldable pub taken : List ClassHead → TypedNode → TypedNode
taken heads t =
    if same_type (ty_of t.node) (erased heads t.type) then t
    else record { node = node (Cast t.node) (erased heads t.type) (span_of t.node) (token_of t.node); type = t.type }

abbrev pub constant_form : List Use → Constant → CoreForm
constant_form uses (value_constant v) = Const v uses
constant_form uses (text_constant units) = Text units uses

-- a field of the library is one that its constant was made of
abbrev pub uses_for : Program → Member → Span → List Use
uses_for p m at = if is_guest (site_at p.source.sites m.class.0).written then [] else record { class = m.class; field = m.at; span = at } ∷ []

-- a constant variable is its constant, at the place where it is named
abbrev pub constant_or : List Use → TypedNode → Option Constant → TypedNode
constant_or uses t None = t
constant_or uses t (Some constant) = record { node = node (constant_form uses constant) (ty_of t.node) (span_of t.node) (token_of t.node); type = t.type }

abbrev pub value_of : Program → Span → Variable → TypedNode → TypedNode
value_of p at (a_local n v) t = constant_or [] t v.constant
value_of p at (a_field n m) t = constant_or (uses_for p m at) (taken p.heads t) (p.constants m)
value_of p at _ t = t

-- ---- a field is read in an initializer of its kind before its declaration, or in its own, by a simple name (JLS 8.3.2.3)

abbrev pub same_bool : Bool → Bool → Bool
same_bool true b = b
same_bool false b = not b

abbrev pub is_early : Option Initializer → ℕ → Option DeclaredField → Bool
is_early (Some i) at (Some f) = same_bool i.is_static f.is_static && nat_le i.declared at
is_early _ at _ = false

abbrev pub is_forward : Program → Frame → Variable → Bool
is_forward p here (a_field zero m) = nat_eq m.class.0 here.class && is_early here.initializer m.at (field_at p.classes m)
is_forward p here _ = false

unfoldable pub not_forward : Program → Place → Span → Variable → Judged (Unit {0})
not_forward p place at v = check ForwardUse at (not (is_forward p place.here v))

-- ---- JLS 6.5.6.1: a simple name that is assigned, one that is read and assigned, and one that is read

unfoldable pub assigned_name : Program → Place → Identifier → Judged TypedNode
assigned_name p place id = variable_node p place id.span (variable_named p place id.name)

unfoldable pub updated_name : Program → Place → Identifier → Judged TypedNode
updated_name p place id = do
  t ← variable_node p place id.span (variable_named p place id.name)
  not_forward p place id.span (variable_named p place id.name)
  gives t

unfoldable pub simple_name : Program → Place → Identifier → Judged TypedNode
simple_name p place id = do
  t ← updated_name p place id
  gives (value_of p id.span (variable_named p place id.name) t)
