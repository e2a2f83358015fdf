-- Names before a point, and expressions behind one (JLS 6.5.2, 6.5.5, 6.5.6.2): a name is a variable, or else a class, or else
-- the first part of a class's full name.
use Rattle.std.specs.Prelude.{ℕ, List, [], ◌∷◌, ◌++◌, Option, Some, None}
use Rattle.je_base.specs.declared.span.NameId.{NameId}
use Rattle.je_base.specs.declared.span.Span.{Span}
use Rattle.je_ast.specs.declared.name.Identifier.{Identifier}
use Rattle.je_classes.specs.Members.{Found, nothing}
use Rattle.je_scopes.specs.Looks.{Look, a_class as the_class, nothing as no_class, or_further}
use Rattle.je_scopes.specs.Scope.{Part, first_named, in_scope, is_accessible, is_static_context, member_class}
use Rattle.je_scopes.specs.Settled.{settled}
use Rattle.je_scopes.specs.Sites.{Context}
use Rattle.je_scopes.specs.Members.{part_of}
use Rattle.je_scopes.specs.Source.{library_class}
use Rattle.header_typing.specs.Supers.{own_type}
use Rattle.je_typing.specs.declared.fault.TypeRule.TheVariants.{NotAccessible, UnknownField, UnknownName}
use Rattle.je_typing.specs.Judged.{Judged, gives, ◌>>=◌, ◌>>◌, breaks, check}
use Rattle.je_typing.specs.Typed.{TypedNode}
use Rattle.name_typing.specs.Accesses.{member_of_value, static_field, static_value}
use Rattle.name_typing.specs.Fields.{find_field}
use Rattle.name_typing.specs.Program.{Frame, Place, Program}
use Rattle.name_typing.specs.Variables.{Variable, no_variable, simple_name, taken, variable_named}

-- what stands before a point: a value, a class, or the parts of a name that means nothing so far
pub data Qualifier : Type 0 where
  a_value : TypedNode → Qualifier
  a_class : ℕ → Qualifier
  a_beginning : Identifier → List Identifier → Qualifier

-- ---- the class that a simple name means in a body: a local class in scope, or what it means in a member of the class

abbrev pub part_in : Context → Part
part_in context = part_of (is_static_context context)

abbrev pub class_named : Program → Frame → NameId → Look
class_named p here x =
    or_further (first_named p.source x here.local_classes) (in_scope p.source (settled p.source) here.class (part_in here.context) x)

-- ---- a simple name before a point

-- a type variable has no members; a name with several meanings has none
abbrev pub class_before : Identifier → Look → Judged Qualifier
class_before id (the_class c) = gives (a_class c)
class_before id no_class = gives (a_beginning id [])
class_before id look = breaks UnknownName id.span

abbrev pub value_before : Judged TypedNode → Judged Qualifier
value_before value = do
  t ← value
  gives (a_value t)

abbrev pub variable_or_class : Program → Place → Identifier → Variable → Judged Qualifier
variable_or_class p place id no_variable = class_before id (class_named p place.here id.name)
variable_or_class p place id v = value_before (simple_name p place id)

unfoldable pub name_before : Program → Place → Identifier → Judged Qualifier
name_before p place id = variable_or_class p place id (variable_named p place id.name)

-- ---- one name more before a point

-- a member class (JLS 8.5, 6.6.1)
abbrev pub member_before : Program → Place → Identifier → Look → Judged Qualifier
member_before p place id (the_class d) = do
  check NotAccessible id.span (is_accessible p.source place.here.class d)
  gives (a_class d)
member_before p place id look = breaks UnknownField id.span

-- a field hides a member class
abbrev pub static_before : Program → Place → ℕ → Identifier → Span → Found → Judged Qualifier
static_before p place c id span nothing = member_before p place id (member_class p.source (settled p.source) id.name c)
static_before p place c id span found = do
  t ← static_field p place id span found
  gives (a_value (static_value p id found t))

abbrev pub full_name_before : Identifier → List Identifier → Option ℕ → Judged Qualifier
full_name_before first further None = gives (a_beginning first further)
full_name_before first further (Some c) = gives (a_class c)

abbrev pub found_in : Program → ℕ → Identifier → Found
found_in p c id = find_field p.heads p.classes (own_type p.heads c) id.name

unfoldable pub select_before : Program → Place → Identifier → Span → Qualifier → Judged Qualifier
select_before p place id span (a_value on) = do
  t ← member_of_value p place id span on
  gives (a_value (taken p.heads t))
select_before p place id span (a_class c) = static_before p place c id span (found_in p c id)
select_before p place id span (a_beginning first further) =
    full_name_before first (further ++ id ∷ []) (library_class p.source.texts (first ∷ further ++ id ∷ []))

-- ---- the last name: what is assigned, and what is read

unfoldable pub assigned_select : Program → Place → Identifier → Span → Qualifier → Judged TypedNode
assigned_select p place id span (a_value on) = member_of_value p place id span on
assigned_select p place id span (a_class c) = static_field p place id span (found_in p c id)
assigned_select p place id span (a_beginning first further) = breaks UnknownName first.span

abbrev pub selected_value : Program → Identifier → Qualifier → TypedNode → TypedNode
selected_value p id (a_class c) t = static_value p id (found_in p c id) t
selected_value p id q t = taken p.heads t

unfoldable pub select : Program → Place → Identifier → Span → Qualifier → Judged TypedNode
select p place id span q = do
  t ← assigned_select p place id span q
  gives (selected_value p id q t)
