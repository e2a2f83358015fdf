-- What is written of a class.
use Rattle.std.specs.Prelude.{ℕ, Bool, true, false, List, [], ◌∷◌, Option, Some, None, slice_get, nat_eq, if◌then◌else◌}
use Rattle.je_base.specs.declared.span.NameId.{NameId}
use Rattle.je_base.specs.declared.span.Span.{Span}
use Rattle.je_core.specs.declared.program.Sort.{Sort}
use Rattle.je_core.specs.declared.program.Sort.TheVariants as sort
use Rattle.je_ast.specs.declared.name.Identifier.{Identifier}
use Rattle.je_ast.specs.declared.decl.Modifier.{Modifier}
use Rattle.je_ast.specs.Types.{TypeName, TypeNames, no_types, more_types, TypeParameter}
use Rattle.je_ast.specs.Trees.{Declaration, Members}
use Rattle.je_ast.specs.Trees as tree
use Rattle.je_scopes.specs.Sites.{Written, in_library, declared, behind_new, Site, at_top, site, has_private}

-- ---- of a declaration

abbrev pub declared_name : Declaration → Identifier
declared_name (tree.class_declaration ms id ps above interfaces body span) = id
declared_name (tree.interface_declaration ms id ps interfaces body span) = id
declared_name (tree.enum_declaration ms id constants span) = id

abbrev pub declared_modifiers : Declaration → List Modifier
declared_modifiers (tree.class_declaration ms id ps above interfaces body span) = ms
declared_modifiers (tree.interface_declaration ms id ps interfaces body span) = ms
declared_modifiers (tree.enum_declaration ms id constants span) = ms

abbrev pub declared_parameters : Declaration → List TypeParameter
declared_parameters (tree.class_declaration ms id ps above interfaces body span) = ps
declared_parameters (tree.interface_declaration ms id ps interfaces body span) = ps
declared_parameters (tree.enum_declaration ms id constants span) = []

abbrev pub declared_members : Declaration → Members
declared_members (tree.class_declaration ms id ps above interfaces body span) = body
declared_members (tree.interface_declaration ms id ps interfaces body span) = body
declared_members (tree.enum_declaration ms id constants span) = tree.no_members

abbrev pub declared_constants : Declaration → List Identifier
declared_constants (tree.enum_declaration ms id constants span) = constants
declared_constants _ = []

abbrev pub listed : TypeNames → List TypeName
listed no_types = []
listed (more_types t ts) = t ∷ listed ts

abbrev pub with_superclass : Option TypeName → List TypeName → List TypeName
with_superclass None interfaces = interfaces
with_superclass (Some above) interfaces = above ∷ interfaces

-- the types that are named behind `extends` and `implements`, in order (JLS 8.1.4, 8.1.5, 9.1.3)
abbrev pub declared_heads : Declaration → List TypeName
declared_heads (tree.class_declaration ms id ps above interfaces body span) = with_superclass above (listed interfaces)
declared_heads (tree.interface_declaration ms id ps interfaces body span) = listed interfaces
declared_heads (tree.enum_declaration ms id constants span) = []

-- ---- of a class, wherever it is written

-- a class of the library and the class of a body behind `new` have no name here
abbrev pub name_in : Written → Option NameId
name_in (declared d) = Some (declared_name d).name
name_in _ = None

abbrev pub no_span : Span
no_span = record { file = 0; start = 0; end = 0 }

-- no class of the library
abbrev pub is_guest : Written → Bool
is_guest in_library = false
is_guest _ = true

-- its name, or the word `new`
abbrev pub span_in : Written → Span
span_in in_library = no_span
span_in (declared d) = (declared_name d).span
span_in (behind_new word t body) = word

abbrev pub modifiers_in : Written → List Modifier
modifiers_in (declared d) = declared_modifiers d
modifiers_in _ = []

abbrev pub parameters_in : Written → List TypeParameter
parameters_in (declared d) = declared_parameters d
parameters_in _ = []

-- the type behind `new` is that of an anonymous class
abbrev pub heads_in : Written → List TypeName
heads_in in_library = []
heads_in (declared d) = declared_heads d
heads_in (behind_new word t body) = t ∷ []

abbrev pub members_in : Written → Members
members_in in_library = tree.no_members
members_in (declared d) = declared_members d
members_in (behind_new word t body) = body

abbrev pub constants_in : Written → List Identifier
constants_in (declared d) = declared_constants d
constants_in _ = []

-- ---- of a class of a number; past the last there is one with nothing in it

abbrev pub or_nothing : Option Site → Site
or_nothing (Some s) = s
or_nothing None = site in_library sort.Class (at_top 0)

abbrev pub site_at : List Site → ℕ → Site
site_at sites c = or_nothing (slice_get sites c)

abbrev pub is_local_sort : Sort → Bool
is_local_sort sort.Local = true
is_local_sort sort.Anonymous = true
is_local_sort _ = false

abbrev pub is_interface_sort : Sort → Bool
is_interface_sort sort.Interface = true
is_interface_sort _ = false

abbrev pub innermost : List ℕ → Option ℕ
innermost [] = None
innermost (c ∷ cs) = Some c

-- the class directly round it
abbrev pub within : Site → Option ℕ
within s = innermost s.spot.round

-- the class of these round it, the innermost first, that no other is round; itself where there are none
abbrev pub outermost : ℕ → List ℕ → ℕ
outermost c [] = c
outermost c (d ∷ ds) = outermost d ds

-- the top-level class that a class stands in
abbrev pub top_of : List Site → ℕ → ℕ
top_of sites c = outermost c (site_at sites c).spot.round

abbrev pub is_inside : List ℕ → Bool
is_inside [] = false
is_inside (c ∷ cs) = true

-- a member class that is private (JLS 6.6.1)
abbrev pub is_private : Site → Bool
is_private s = if is_local_sort s.sort then false else if is_inside s.spot.round then has_private (modifiers_in s.written) else false

abbrev pub same_name : NameId → NameId → Bool
same_name x y = nat_eq x.0 y.0

abbrev pub has_name : Option NameId → NameId → Bool
has_name None x = false
has_name (Some y) x = same_name x y
