-- Field access (JLS 10.7, 15.11): of a value, of a class, and by `super`. A fault stands at the name behind the point.
use Rattle.std.specs.Prelude.{ℕ, zero, suc, Bool, true, false, not, ◌&&◌, List, [], ◌∷◌, codes, if◌then◌else◌}
use Rattle.std.specs.Str.{bytes_eq}
use Rattle.je_base.specs.declared.span.Span.{Span}
use Rattle.je_core.specs.Core.{CoreForm, Field, Static, a_core, no_core, node}
use Rattle.je_ast.specs.declared.name.Identifier.{Identifier}
use Rattle.je_classes.specs.Members.{Member, Found, nothing, one, several}
use Rattle.je_scopes.specs.Source.{text_in}
use Rattle.je_scopes.specs.SourceTypes.{SourceType}
use Rattle.source_types.specs.Erasure.{erased}
use Rattle.source_types.specs.Heads.{ClassHead, object_type, supers_of}
use Rattle.source_types.specs.Subtypes.{is_null, is_reference, dims_of}
use Rattle.declarations.specs.Declarations.{DeclaredField}
use Rattle.je_typing.specs.declared.fault.TypeRule.TheVariants.{AmbiguousField, BadOperand, NotAccessible, StaticContext, UnknownField}
use Rattle.je_typing.specs.Arrays.{length_of}
use Rattle.je_typing.specs.Judged.{Judged, gives, ◌>>=◌, ◌>>◌, breaks, check, need}
use Rattle.je_typing.specs.Typed.{TypedNode}
use Rattle.name_typing.specs.Fields.{field_at, find_field, is_accessible, type_seen}
use Rattle.name_typing.specs.Instances.{is_instance, this_node}
use Rattle.name_typing.specs.Program.{Place, Program}
use Rattle.name_typing.specs.Variables.{constant_or, uses_for}

-- ---- the field that a name finds, for a class in which it is named

pub record Selected : Type 0 where
  pub member : Member
  pub declared : DeclaredField

abbrev pub selected : Member → DeclaredField → Selected
selected m f = record { member = m; declared = f }

unfoldable pub found_field : Program → ℕ → Identifier → Found → Judged Selected
found_field p c id nothing = breaks UnknownField id.span
found_field p c id several = breaks AmbiguousField id.span
found_field p c id (one m) = do
  f ← need UnknownField id.span (field_at p.classes m)
  check NotAccessible id.span (is_accessible p c m f)
  gives (selected m f)

abbrev pub field_in : Program → ℕ → SourceType → Identifier → Judged Selected
field_in p c t id = found_field p c id (find_field p.heads p.classes t id.name)

-- ---- of a value (JLS 15.11.1), as what is assigned: a static field too is selected from the value, which is evaluated

abbrev pub selected_form : TypedNode → Selected → CoreForm
selected_form on s = if s.declared.is_static then Static (a_core on.node) s.member.class s.member.at else Field on.node s.member.class s.member.at

abbrev pub typed_selected : Program → TypedNode → Selected → Span → Span → TypedNode
typed_selected p on s at span = record {
  node = node (selected_form on s) (erased p.heads s.declared.ty) span at;
  type = type_seen p.heads on.type s.member s.declared;
}

-- a primitive type has no members, nor has that of `null`
abbrev pub has_members : SourceType → Bool
has_members t = is_reference t && not (is_null t)

unfoldable pub field_of_value : Program → Place → Identifier → Span → TypedNode → Judged TypedNode
field_of_value p place id span on = do
  check BadOperand id.span (has_members on.type)
  s ← field_in p place.here.class on.type id
  gives (typed_selected p on s id.span span)

-- the length of an array is no field of a class (JLS 10.7)
abbrev pub is_array : SourceType → Bool
is_array t = not_zero (dims_of t)
  where
    not_zero : ℕ → Bool
    not_zero zero = false
    not_zero (suc n) = true

abbrev pub is_length : Program → Identifier → Bool
is_length p id = bytes_eq (text_in p.source.texts id.name) (codes "length")

unfoldable pub member_of_value : Program → Place → Identifier → Span → TypedNode → Judged TypedNode
member_of_value p place id span on =
    if is_array on.type && is_length p id then gives (length_of id.span span on.node) else field_of_value p place id span on

-- ---- of a class, which is named before the point (JLS 6.5.6.2): a static field

abbrev pub typed_static : Program → Selected → Span → Span → TypedNode
typed_static p s at span = record { node = node (Static no_core s.member.class s.member.at) (erased p.heads s.declared.ty) span at; type = s.declared.ty }

-- of what the name finds
unfoldable pub static_field : Program → Place → Identifier → Span → Found → Judged TypedNode
static_field p place id span found = do
  s ← found_field p place.here.class id found
  check StaticContext id.span s.declared.is_static
  gives (typed_static p s id.span span)

-- its value: of a constant variable the constant
abbrev pub static_value : Program → Identifier → Found → TypedNode → TypedNode
static_value p id (one m) t = constant_or (uses_for p m id.span) t (p.constants m)
static_value p id found t = t

-- ---- by `super` (JLS 15.11.2), whose span is that of the word

abbrev pub first_type : List SourceType → SourceType
first_type [] = object_type
first_type (t ∷ ts) = t

abbrev pub superclass_of : List ClassHead → ℕ → SourceType
superclass_of heads c = first_type (supers_of heads c)

-- `this` as an instance of the superclass
abbrev pub typed_super : Program → Place → Span → TypedNode
typed_super p place word = record { node = this_node place word; type = superclass_of p.heads place.here.class }

unfoldable pub super_field : Program → Place → Span → Identifier → Span → Judged TypedNode
super_field p place word id span = do
  s ← field_in p place.here.class (superclass_of p.heads place.here.class) id
  check StaticContext word (is_instance place.here.context)
  gives (typed_selected p (typed_super p place word) s id.span span)
