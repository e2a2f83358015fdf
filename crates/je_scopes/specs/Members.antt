-- The fields and methods that a class declares (JLS 8.3, 8.4, 8.8, 8.9).
use Rattle.std.specs.Prelude.{ℕ, Bool, true, false, ◌||◌, List, [], ◌∷◌, ◌++◌, map, Option, Some, None, if◌then◌else◌}
use Rattle.je_ast.specs.declared.name.Identifier.{Identifier}
use Rattle.je_ast.specs.declared.decl.Modifier.{Modifier}
use Rattle.je_ast.specs.Types.{QualifiedName, TypeName, FormalParameter}
use Rattle.je_ast.specs.Trees.{Member, Members, Variables}
use Rattle.je_ast.specs.Trees as tree
use Rattle.je_scopes.specs.Sites.{has_static}
use Rattle.je_scopes.specs.Headers.{site_at, members_in, constants_in, is_interface_sort}
use Rattle.je_scopes.specs.Source.{Source}
use Rattle.je_scopes.specs.Scope.{Known, Part, member, static_member}
use Rattle.je_scopes.specs.SourceTypes.{SourceType, SourceTypes, source_types, source_type, with_dims}

-- a constant of an enum has no written type: it is of the enum
pub record FieldSite : Type 0 where
  pub name : Identifier
  pub modifiers : List Modifier
  pub written : Option TypeName
  pub dims : ℕ

-- `result` is None for `void`, and for a constructor
pub record MethodSite : Type 0 where
  pub is_constructor : Bool
  pub modifiers : List Modifier
  pub name : Identifier
  pub result : Option TypeName
  pub formals : List FormalParameter
  pub throws : List QualifiedName

abbrev pub constant_site : Identifier → FieldSite
constant_site id = record { name = id; modifiers = []; written = None; dims = 0 }

abbrev pub variable_sites : List Modifier → TypeName → Variables → List FieldSite
variable_sites ms t tree.no_variables = []
variable_sites ms t (tree.more_variables id dims e vs) = record { name = id; modifiers = ms; written = Some t; dims = dims } ∷ variable_sites ms t vs

abbrev pub fields_before : Member → List FieldSite → List FieldSite
fields_before (tree.field ms t vs span) further = variable_sites ms t vs ++ further
fields_before _ further = further

abbrev pub field_sites : Members → List FieldSite
field_sites tree.no_members = []
field_sites (tree.more_members m ms) = fields_before m (field_sites ms)

abbrev pub methods_before : Member → List MethodSite → List MethodSite
methods_before (tree.method ms t id fs ts body span) further = record { is_constructor = false; modifiers = ms; name = id; result = t; formals = fs; throws = ts } ∷ further
methods_before (tree.constructor ms id fs ts first opening body closing span) further = record { is_constructor = true; modifiers = ms; name = id; result = None; formals = fs; throws = ts } ∷ further
methods_before _ further = further

abbrev pub method_sites : Members → List MethodSite
method_sites tree.no_members = []
method_sites (tree.more_members m ms) = methods_before m (method_sites ms)

-- the fields of a class in order, an enum's constants among them
abbrev pub fields_of : Source → ℕ → List FieldSite
fields_of p c = map constant_site (constants_in (site_at p.sites c).written) ++ field_sites (members_in (site_at p.sites c).written)

-- its methods and constructors in order
abbrev pub methods_of : Source → ℕ → List MethodSite
methods_of p c = method_sites (members_in (site_at p.sites c).written)

abbrev pub part_of : Bool → Part
part_of is_static = if is_static then static_member else member

-- a field of an interface is static (JLS 9.3)
abbrev pub field_part : Source → ℕ → FieldSite → Part
field_part p c f = part_of (is_interface_sort (site_at p.sites c).sort || has_static f.modifiers)

-- a constructor has no such modifier
abbrev pub method_part : MethodSite → Part
method_part m = if m.is_constructor then member else part_of (has_static m.modifiers)

abbrev pub formal_type : Source → Known → ℕ → Part → FormalParameter → SourceType
formal_type p known c part f = with_dims (source_type p known c part f.declared) f.dims

-- the types of a method's parameters
abbrev pub parameter_types : Source → Known → ℕ → MethodSite → SourceTypes
parameter_types p known c m = source_types (map (formal_type p known c (method_part m)) m.formals)
