-- JLS 4, 6.2, 8.1.2, 8.3.1, 8.4.1: names, types, type parameters and formal parameters as they are written, without
-- where they lie in memory.
use Rattle.std.specs.Prelude.{ℕ, suc, max, List, [], ◌∷◌, map, Bool, Option, option_map}
use Rattle.je_base.specs.declared.span.Span.{Span}
use Rattle.je_ast.specs.declared.name.Identifier.{Identifier}
use Rattle.je_ast.specs.declared.name.Name.{Name}
use Rattle.je_ast.specs.declared.ty_name.Primitive.{Primitive}
use Rattle.je_ast.specs.declared.ty_name.TyName.{TyName, fold-TyName, out-TyName}
use Rattle.je_ast.specs.declared.ty_name.TyName.TheOpen as node
use Rattle.je_ast.specs.declared.decl.TypeParam.{TypeParam}
use Rattle.je_ast.specs.declared.decl.Formal.{Formal}

pub record QualifiedName : Type 0 where
  pub parts : List Identifier
  pub span : Span

abbrev pub name_view : Name → QualifiedName
name_view n = record { parts = n.parts.items; span = n.span }

-- a type, the number of bracket pairs behind it, and its span
mutual
  pub data TypeName : Type 0 where
    primitive : Primitive → ℕ → Span → TypeName
    class_type : QualifiedName → TypeNames → ℕ → Span → TypeName

  pub data TypeNames : Type 0 where
    no_types : TypeNames
    more_types : TypeName → TypeNames → TypeNames

abbrev pub type_names : List TypeName → TypeNames
type_names [] = no_types
type_names (t ∷ ts) = more_types t (type_names ts)

-- one layer, whose arguments are seen as `see` says
abbrev pub type_layer : {A : Type 0} → (A → TypeName) → node.TyName-F A → TypeName
type_layer see (node.Primitive p dims s) = primitive p dims s
type_layer see (node.Class n args dims s) = class_type (name_view n) (type_names (map see args.items)) dims s

unfoldable pub type_view : TyName → TypeName
type_view t = fold-TyName TypeName (type_layer (λ t. t)) t

-- the same, one layer opened
abbrev pub type_node_view : TyName → TypeName
type_node_view t = type_layer type_view (out-TyName t)

abbrev pub type_views_of : List TyName → TypeNames
type_views_of ts = type_names (map type_view ts)

abbrev pub type_view_of_option : Option TyName → Option TypeName
type_view_of_option t = option_map type_view t

pub record TypeParameter : Type 0 where
  pub name : Identifier
  pub bound : Option TypeName

abbrev pub parameter_view : TypeParam → TypeParameter
parameter_view p = record { name = p.name; bound = type_view_of_option p.bound }

pub record FormalParameter : Type 0 where
  pub is_final : Bool
  pub declared : TypeName
  pub name : Identifier
  pub dims : ℕ

abbrev pub formal_view : Formal → FormalParameter
formal_view f = record { is_final = f.is_final; declared = type_view f.ty; name = f.name; dims = f.dims }

-- each written type is one node, with its arguments below it
abbrev mutual
  pub type_height : TypeName → ℕ
  type_height (primitive p dims s) = 1
  type_height (class_type n args dims s) = suc (types_height args)

  pub types_height : TypeNames → ℕ
  types_height no_types = 0
  types_height (more_types t ts) = max (type_height t) (types_height ts)
