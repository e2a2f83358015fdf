-- What a class declares: its kind, its type parameters, the types that it names as above it, its fields and its methods, in
-- the order in which they are written (JLS 8, 9). Of more than 255 dimensions of a type 255 count (JVMS 4.3.2).
use Rattle.std.specs.Prelude.{ℕ, Bool, true, false, not, ◌&&◌, ◌||◌, List, [], map, length, Option, Some, None, option_map, is_none, is_some, nat_eq, codes}
use Rattle.std.specs.Str.{bytes_eq}
use Rattle.je_core.specs.declared.program.Access.{Access}
use Rattle.je_core.specs.declared.program.Access.TheVariants as access
use Rattle.je_core.specs.declared.program.Flags.{Flags}
use Rattle.je_core.specs.declared.program.Kind.{Kind}
use Rattle.je_core.specs.declared.program.Sort.{Sort}
use Rattle.je_core.specs.declared.program.Sort.TheVariants as sort
use Rattle.je_core.specs.declared.types.Base.TheVariants as base
use Rattle.je_ast.specs.declared.name.Identifier.{Identifier}
use Rattle.je_ast.specs.declared.decl.Modifier.{Modifier}
use Rattle.je_ast.specs.Types.{QualifiedName, TypeName, TypeParameter, FormalParameter}
use Rattle.je_scopes.specs.Sites.{Site, has_static}
use Rattle.je_scopes.specs.Headers.{site_at, modifiers_in, parameters_in, is_interface_sort, is_local_sort, within}
use Rattle.je_scopes.specs.Source.{Source, text_in}
use Rattle.je_scopes.specs.Scope.{Part, header, meaning, is_static_context}
use Rattle.je_scopes.specs.Settled.{settled, heads_of}
use Rattle.je_scopes.specs.SourceTypes.{SourceType, plain, of_class, no_source_types, source_type, type_for, with_dims}
use Rattle.je_scopes.specs.Members.{FieldSite, MethodSite, fields_of, methods_of, field_part, method_part, formal_type}
use Rattle.name_types.specs.View.{in_limit}
use Rattle.declarations.specs.Words.{has_final, has_abstract, has_native, access_of}

pub record DeclaredParameter : Type 0 where
  pub name : Identifier
  pub bound : Option SourceType

pub record DeclaredField : Type 0 where
  pub name : Identifier
  pub ty : SourceType
  pub is_static : Bool
  pub is_final : Bool
  pub access : Access

-- the result of a constructor is `void`
pub record DeclaredMethod : Type 0 where
  pub name : Identifier
  pub is_constructor : Bool
  pub parameters : List SourceType
  pub result : SourceType
  pub throws : List SourceType
  pub flags : Flags

pub record DeclaredClass : Type 0 where
  pub kind : Kind
  pub access : Access
  pub parameters : List DeclaredParameter
  pub heads : List SourceType
  pub fields : List DeclaredField
  pub methods : List DeclaredMethod

-- ---- of the class itself

abbrev pub is_enum_sort : Sort → Bool
is_enum_sort sort.Enum = true
is_enum_sort _ = false

-- a member class without an enclosing instance (JLS 8.5.2, 9.5)
abbrev pub is_static_member : Site → Bool
is_static_member s = is_some (within s) && not (is_local_sort s.sort) && is_static_context s.spot.context

-- JLS 8.1.1, 8.9, 9.1.1
abbrev pub kind_of : Site → Kind
kind_of s = record {
  sort = s.sort;
  is_abstract = is_interface_sort s.sort || has_abstract (modifiers_in s.written);
  is_final = is_enum_sort s.sort || has_final (modifiers_in s.written);
  is_static = is_enum_sort s.sort || is_static_member s;
}

abbrev pub in_interface : Source → Option ℕ → Bool
in_interface p None = false
in_interface p (Some d) = is_interface_sort (site_at p.sites d).sort

-- a member class of an interface is public (JLS 9.5); a class in an initializer there is no member
abbrev pub class_access : Source → Site → Access
class_access p s = access_of (not (is_local_sort s.sort) && in_interface p (within s)) (modifiers_in s.written)

-- what a type means that is written in a part of a class
abbrev pub type_at : Source → ℕ → Part → TypeName → SourceType
type_at p c part t = in_limit (source_type p (settled p) c part t)

abbrev pub declared_parameter : Source → ℕ → TypeParameter → DeclaredParameter
declared_parameter p c q = record { name = q.name; bound = option_map (type_at p c header) q.bound }

-- ---- of its fields

-- a constant of an enum is of the enum, static and final (JLS 8.9)
abbrev pub field_type : Source → ℕ → FieldSite → Option TypeName → SourceType
field_type p c f None = of_class c no_source_types 0
field_type p c f (Some t) = in_limit (with_dims (source_type p (settled p) c (field_part p c f) t) f.dims)

abbrev pub is_in_interface : Source → ℕ → Bool
is_in_interface p c = is_interface_sort (site_at p.sites c).sort

-- a field of an interface is public, static and final (JLS 9.3)
abbrev pub declared_field : Source → ℕ → FieldSite → DeclaredField
declared_field p c f = record {
  name = f.name;
  ty = field_type p c f f.written;
  is_static = is_none f.written || is_in_interface p c || has_static f.modifiers;
  is_final = is_none f.written || is_in_interface p c || has_final f.modifiers;
  access = access_of (is_none f.written || is_in_interface p c) f.modifiers;
}

-- ---- of its methods

abbrev pub result_at : Source → ℕ → Part → Option TypeName → SourceType
result_at p c part None = plain base.Void 0
result_at p c part (Some t) = type_at p c part t

abbrev pub thrown_type : Source → ℕ → Part → QualifiedName → SourceType
thrown_type p c part q = type_for p (meaning p (settled p) c part q.parts) 0 no_source_types 0

abbrev pub parameter_type : Source → ℕ → Part → FormalParameter → SourceType
parameter_type p c part f = in_limit (formal_type p (settled p) c part f)

-- named `finalize`, without parameters (JLS 12.6)
abbrev pub is_finalizer : Source → MethodSite → Bool
is_finalizer p m = not m.is_constructor && nat_eq (length m.formals) 0 && bytes_eq (text_in p.texts m.name.name) (codes "finalize")

-- a method of an interface is public and abstract (JLS 9.4)
abbrev pub flags_of : Source → ℕ → MethodSite → Flags
flags_of p c m = record {
  is_static = has_static m.modifiers;
  is_final = has_final m.modifiers;
  is_abstract = not m.is_constructor && (is_in_interface p c || has_abstract m.modifiers);
  is_native = has_native m.modifiers;
  is_finalizer = is_finalizer p m;
  access = access_of (is_in_interface p c) m.modifiers;
}

abbrev pub declared_method : Source → ℕ → MethodSite → DeclaredMethod
declared_method p c m = record {
  name = m.name;
  is_constructor = m.is_constructor;
  parameters = map (parameter_type p c (method_part m)) m.formals;
  result = result_at p c (method_part m) m.result;
  throws = map (thrown_type p c (method_part m)) m.throws;
  flags = flags_of p c m;
}

-- ---- all of it

-- the class of a number; one of the library declares nothing here
unfoldable pub declared_class : Source → ℕ → DeclaredClass
declared_class p c = record {
  kind = kind_of (site_at p.sites c);
  access = class_access p (site_at p.sites c);
  parameters = map (declared_parameter p c) (parameters_in (site_at p.sites c).written);
  heads = map (type_at p c header) (heads_of p c);
  fields = map (declared_field p c) (fields_of p c);
  methods = map (declared_method p c) (methods_of p c);
}
