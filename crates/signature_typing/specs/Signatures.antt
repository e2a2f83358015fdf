-- The headers and signatures of all classes, class by class in reading order: the first fault, where there is one (JLS 8, 9).
-- Parts stand before what they are parts of.
use Rattle.std.specs.Prelude.{ℕ, zero, suc, ◌+◌, Bool, true, false, ◌||◌, List, [], ◌∷◌, ◌++◌, take, length, Option, Some, None, slice_get, if◌then◌else◌}
use Rattle.je_base.specs.declared.span.NameId.{NameId}
use Rattle.je_base.specs.declared.span.Span.{Span}
use Rattle.je_ast.specs.declared.name.Identifier.{Identifier}
use Rattle.je_ast.specs.declared.decl.Modifier.{Modifier}
use Rattle.je_ast.specs.Types.{QualifiedName, TypeName, TypeNames, no_types, more_types, TypeParameter, FormalParameter}
use Rattle.je_ast.specs.Trees.{Member, Members, Variables, Declaration}
use Rattle.je_ast.specs.Trees as tree
use Rattle.je_scopes.specs.Headers.{site_at, name_in, declared_name, declared_members, within, is_interface_sort, is_local_sort}
use Rattle.je_scopes.specs.Members.{part_of}
use Rattle.je_scopes.specs.Scope.{Part, header, member}
use Rattle.je_scopes.specs.Sites.{Site, Written, in_library, declared, behind_new, has_static}
use Rattle.je_scopes.specs.SourceTypes.{SourceType}
use Rattle.source_types.specs.Heads.{ClassHead}
use Rattle.declarations.specs.Declarations.{DeclaredClass, DeclaredMethod}
use Rattle.member_rules.specs.declared.modifiers.Declared.{Declared}
use Rattle.member_rules.specs.declared.modifiers.Declared.TheVariants as what
use Rattle.member_rules.specs.declared.modifiers.Surrounding.{Surrounding}
use Rattle.member_rules.specs.declared.modifiers.Surrounding.TheVariants as inside
use Rattle.member_rules.specs.Bodies.{bad_body}
use Rattle.member_rules.specs.Modifiers.{bad_modifier}
use Rattle.je_typing.specs.declared.fault.TypeRule.{TypeRule}
use Rattle.je_typing.specs.declared.fault.TypeRule.TheVariants.{BadModifier, BadBody}
use Rattle.je_typing.specs.Judged.{Judged, gives, breaks, ◌>>=◌, ◌>>◌}
use Rattle.header_typing.specs.Statics.{is_inner, static_class, static_field, static_initializer, static_method}
use Rattle.header_typing.specs.Supers.{anonymous_super, superclass, superinterface, well_placed}
use Rattle.header_typing.specs.Throws.{thrown}
use Rattle.header_typing.specs.WrittenTypes.{well_declared, well_formed_formal, well_written, well_written_if}
use Rattle.overriding.specs.Methods.{methods_in, own_method}
use Rattle.overriding.specs.Overrides.{all_implemented, good_implementations, good_override, no_clash, no_constructor_clash, no_inherited_clash}

-- What is known of a program: where its classes are written, what they declare, their headers; what types mean in a part of a
-- class; and which fields are constants, by their classes and names.
pub record Setting : Type 0 where
  pub sites : List Site
  pub classes : List DeclaredClass
  pub heads : List ClassHead
  pub means : ℕ → Part → TypeName → SourceType
  pub is_constant : ℕ → NameId → Bool

-- the place that offends, if there is one
abbrev pub refused : TypeRule → Option Span → Judged (Unit {0})
refused rule None = gives tt
refused rule (Some span) = breaks rule span

-- the types behind `throws`, and the names that are written for them
abbrev pub all_thrown : List ClassHead → List SourceType → List QualifiedName → Judged (Unit {0})
all_thrown heads (t ∷ ts) (q ∷ qs) = do
  thrown heads t q
  all_thrown heads ts qs
all_thrown heads _ _ = gives tt

abbrev pub throws_in : Option DeclaredMethod → List SourceType
throws_in None = []
throws_in (Some m) = m.throws

abbrev pub is_callable : Member → Bool
is_callable (tree.method ms result id fs throws body span) = true
is_callable (tree.constructor ms id fs throws first opening body closing span) = true
is_callable _ = false

-- the place of the next method or constructor behind a member, where the one before it has this place
abbrev pub place_behind : ℕ → Member → ℕ
place_behind at m = if is_callable m then at + 1 else at

module _ (s : Setting) (c : ℕ) where
  -- ---- the header

  abbrev pub body_of : Option ℕ → Surrounding
  body_of None = inside.Unit
  body_of (Some d) = if is_interface_sort (site_at s.sites d).sort then inside.InterfaceBody else inside.ClassBody

  -- what the class stands in
  abbrev pub surrounding : Surrounding
  surrounding = if is_local_sort (site_at s.sites c).sort then inside.Block else body_of (within (site_at s.sites c))

  abbrev pub class_modifiers : Declared → List Modifier → Judged (Unit {0})
  class_modifiers what ms = refused BadModifier (bad_modifier what surrounding ms)

  -- the bounds of type parameters
  abbrev pub bounds : List TypeParameter → Judged (Unit {0})
  bounds [] = gives tt
  bounds (q ∷ qs) = do
    well_written_if s.heads (s.means c header) q.bound
    bounds qs

  abbrev pub extends_if : Option TypeName → Judged (Unit {0})
  extends_if None = gives tt
  extends_if (Some t) = do
    well_written s.heads (s.means c header) t
    superclass s.heads (s.means c header t) t

  -- an interface behind earlier ones
  abbrev pub interface : List SourceType → TypeName → Judged (Unit {0})
  interface earlier t = do
    well_written s.heads (s.means c header) t
    superinterface s.heads earlier (s.means c header t) t

  abbrev pub interfaces_from : List SourceType → TypeNames → Judged (Unit {0})
  interfaces_from earlier no_types = gives tt
  interfaces_from earlier (more_types t ts) = do
    interface earlier t
    interfaces_from (earlier ++ s.means c header t ∷ []) ts

  abbrev pub class_header : List Modifier → List TypeParameter → Option TypeName → TypeNames → Judged (Unit {0})
  class_header ms ps above interfaces = do
    class_modifiers what.Class ms
    bounds ps
    extends_if above
    interfaces_from [] interfaces

  abbrev pub interface_header : List Modifier → List TypeParameter → TypeNames → Judged (Unit {0})
  interface_header ms ps interfaces = do
    class_modifiers what.Interface ms
    bounds ps
    interfaces_from [] interfaces

  abbrev pub declared_header : Declaration → Judged (Unit {0})
  declared_header (tree.class_declaration ms id ps above interfaces body span) = class_header ms ps above interfaces
  declared_header (tree.interface_declaration ms id ps interfaces body span) = interface_header ms ps interfaces
  declared_header (tree.enum_declaration ms id constants span) = class_modifiers what.Enum ms

  -- the type of an anonymous class
  abbrev pub anonymous_header : TypeName → Judged (Unit {0})
  anonymous_header t = do
    well_written s.heads (s.means c header) t
    anonymous_super s.heads (s.means c header t) t

  -- ---- members; one that declares a class is judged as that

  abbrev pub in_interface : Bool
  in_interface = is_interface_sort (site_at s.sites c).sort

  abbrev pub own_body : Surrounding
  own_body = if in_interface then inside.InterfaceBody else inside.ClassBody

  abbrev pub own_name : Option NameId
  own_name = name_in (site_at s.sites c).written

  abbrev pub own_methods : List DeclaredMethod
  own_methods = methods_in (slice_get s.classes c)

  abbrev pub member_modifiers : Declared → List Modifier → Judged (Unit {0})
  member_modifiers what ms = refused BadModifier (bad_modifier what own_body ms)

  -- a variable of a field, whose name may have brackets behind it
  abbrev pub variable : List Modifier → TypeName → Identifier → ℕ → Judged (Unit {0})
  variable ms t id dims = do
    well_declared t dims id
    static_field (is_inner s.sites s.heads c) ms (s.is_constant c id.name) id

  abbrev pub variables : List Modifier → TypeName → Variables → Judged (Unit {0})
  variables ms t tree.no_variables = gives tt
  variables ms t (tree.more_variables id dims e vs) = do
    variable ms t id dims
    variables ms t vs

  abbrev pub field : List Modifier → TypeName → Variables → Judged (Unit {0})
  field ms t vs = do
    member_modifiers what.Field ms
    well_written s.heads (s.means c (part_of (in_interface || has_static ms))) t
    variables ms t vs

  abbrev pub formals : Part → List FormalParameter → Judged (Unit {0})
  formals part [] = gives tt
  formals part (f ∷ fs) = do
    well_formed_formal s.heads (s.means c part) f
    formals part fs

  -- what is written of a method or a constructor before its body; it is the one at a place
  abbrev pub signature : Declared → ℕ → Part → List Modifier → Option TypeName → List FormalParameter → List QualifiedName → Judged (Unit {0})
  signature what at part ms result fs throws = do
    member_modifiers what ms
    well_written_if s.heads (s.means c part) result
    formals part fs
    all_thrown s.heads (throws_in (slice_get own_methods at)) throws

  abbrev pub method_at : ℕ → Option DeclaredMethod → Judged (Unit {0})
  method_at at None = gives tt
  method_at at (Some m) = do
    good_override s.heads s.classes (own_method c at m)
    no_clash s.heads s.classes (own_method c at m)

  abbrev pub constructor_at : ℕ → Option DeclaredMethod → Judged (Unit {0})
  constructor_at at None = gives tt
  constructor_at at (Some m) = no_constructor_clash s.heads (take at own_methods) m

  -- a body that stands where none may, or is missing
  abbrev pub body : Member → Judged (Unit {0})
  body m = refused BadBody (bad_body own_name in_interface m)

  -- the method or constructor that comes next has this place
  abbrev pub judged_member : ℕ → Member → Judged (Unit {0})
  judged_member at (tree.member_type d) = gives tt
  judged_member at (tree.field ms t vs span) = field ms t vs
  judged_member at (tree.method ms result id fs throws block span) = do
    signature what.Method at (part_of (has_static ms)) ms result fs throws
    body (tree.method ms result id fs throws block span)
    method_at at (slice_get own_methods at)
    static_method (is_inner s.sites s.heads c) ms id
  judged_member at (tree.constructor ms id fs throws first opening block closing span) = do
    signature what.Constructor at member ms None fs throws
    body (tree.constructor ms id fs throws first opening block closing span)
    constructor_at at (slice_get own_methods at)
  judged_member at (tree.initializer word opening block closing span) = do
    body (tree.initializer word opening block closing span)
    static_initializer (is_inner s.sites s.heads c) word

  abbrev pub members_from : ℕ → Members → Judged (Unit {0})
  members_from at tree.no_members = gives tt
  members_from at (tree.more_members m ms) = do
    judged_member at m
    members_from (place_behind at m) ms

  -- ---- the class as a whole, at its name

  abbrev pub whole : Span → Judged (Unit {0})
  whole span = do
    well_placed s.heads c span
    all_implemented s.heads s.classes c span
    good_implementations s.heads s.classes c span
    no_inherited_clash s.heads s.classes c span
    static_class s.sites s.heads c span

  -- what stands behind the header, and the class as a whole
  abbrev pub class_body : Members → Span → Judged (Unit {0})
  class_body ms span = do
    members_from 0 ms
    whole span

  -- a class of the library has nothing that is judged
  abbrev pub written_class : Written → Judged (Unit {0})
  written_class in_library = gives tt
  written_class (declared d) = do
    declared_header d
    class_body (declared_members d) (declared_name d).span
  written_class (behind_new word t ms) = do
    anonymous_header t
    class_body ms word

  unfoldable pub class_signatures : Judged (Unit {0})
  class_signatures = written_class (site_at s.sites c).written

-- so many classes from a number on
abbrev pub signatures_from : Setting → ℕ → ℕ → Judged (Unit {0})
signatures_from s c zero = gives tt
signatures_from s c (suc n) = do
  class_signatures s c
  signatures_from s (suc c) n

-- all classes, those that stand in another one behind the whole of it
unfoldable pub signatures : Setting → Judged (Unit {0})
signatures s = signatures_from s 0 (length s.sites)
