-- Types of a source, with their type arguments (JLS 4.2 to 4.5, 10.1).
use Rattle.std.specs.Prelude.{ℕ, suc, ◌+◌, Bool, true, false, ◌&&◌, List, [], ◌∷◌, Option, Some, None, is_some, slice_get, nat_eq, if◌then◌else◌}
use Rattle.std.specs.List.{list_any}
use Rattle.je_base.specs.declared.span.NameId.{NameId}
use Rattle.je_core.specs.declared.types.Base.{Base}
use Rattle.je_core.specs.declared.types.Base.TheVariants as base
use Rattle.je_table.specs.Library.{Class, classes}
use Rattle.je_ast.specs.declared.ty_name.Primitive.{Primitive}
use Rattle.je_ast.specs.declared.ty_name.Primitive.TheVariants as word
use Rattle.je_ast.specs.Types.{TypeName, TypeNames, primitive, class_type, no_types, more_types, TypeParameter}
use Rattle.je_classes.specs.Subtypes.{same_base}
use Rattle.je_scopes.specs.Headers.{site_at, parameters_in, same_name}
use Rattle.je_scopes.specs.Looks.{Look, a_class, a_variable}
use Rattle.je_scopes.specs.Source.{Source}
use Rattle.je_scopes.specs.Scope.{Known, Part, meaning}

-- `plain` is a primitive type, `void`, or the null type, which stands for a name that means nothing; a class is one of its
-- number; each has so many dimensions
mutual
  pub data SourceType : Type 0 where
    plain : Base → ℕ → SourceType
    of_class : ℕ → SourceTypes → ℕ → SourceType
    of_variable : ℕ → ℕ → ℕ → SourceType

  pub data SourceTypes : Type 0 where
    no_source_types : SourceTypes
    more_source_types : SourceType → SourceTypes → SourceTypes

abbrev mutual
  pub same_source_type : SourceType → SourceType → Bool
  same_source_type (plain b m) (plain c n) = same_base b c && nat_eq m n
  same_source_type (of_class c ts m) (of_class d us n) = nat_eq c d && nat_eq m n && same_source_types ts us
  same_source_type (of_variable c i m) (of_variable d j n) = nat_eq c d && nat_eq i j && nat_eq m n
  same_source_type _ _ = false

  pub same_source_types : SourceTypes → SourceTypes → Bool
  same_source_types no_source_types no_source_types = true
  same_source_types (more_source_types t ts) (more_source_types u us) = same_source_type t u && same_source_types ts us
  same_source_types _ _ = false

abbrev pub source_types : List SourceType → SourceTypes
source_types [] = no_source_types
source_types (t ∷ ts) = more_source_types t (source_types ts)

abbrev pub with_dims : SourceType → ℕ → SourceType
with_dims (plain b m) n = plain b (m + n)
with_dims (of_class c ts m) n = of_class c ts (m + n)
with_dims (of_variable c i m) n = of_variable c i (m + n)

abbrev pub base_of : Primitive → Base
base_of word.Boolean = base.Bool
base_of word.Byte = base.Byte
base_of word.Short = base.Short
base_of word.Char = base.Char
base_of word.Int = base.Int
base_of word.Long = base.Long

-- ---- how many type arguments a class takes

abbrev pub has_parameter : NameId → List TypeParameter → Bool
has_parameter x qs = list_any (λ (q : TypeParameter). same_name q.name.name x) qs

-- the names of type parameters, each once
abbrev pub count_of_parameters : List TypeParameter → ℕ
count_of_parameters [] = 0
count_of_parameters (q ∷ qs) = if has_parameter q.name.name qs then count_of_parameters qs else suc (count_of_parameters qs)

abbrev pub is_generic_row : Option Class → ℕ
is_generic_row None = 0
is_generic_row (Some row) = if is_some row.bound then 1 else 0

-- as many as it has type parameters; those of the library have one, where their row has a bound
abbrev pub arity_of : Source → ℕ → ℕ
arity_of p c = is_generic_row (slice_get classes c) + count_of_parameters (parameters_in (site_at p.sites c).written)

abbrev pub count : TypeNames → ℕ
count no_types = 0
count (more_types t ts) = suc (count ts)

-- ---- what a written type means in a part of a class

abbrev pub null_type : ℕ → SourceType
null_type n = plain base.Null n

-- a class with another number of arguments than it takes means nothing
abbrev pub type_for : Source → Look → ℕ → SourceTypes → ℕ → SourceType
type_for p (a_class c) arguments ts n = if nat_eq arguments (arity_of p c) then of_class c ts n else null_type n
type_for p (a_variable c at) arguments ts n = of_variable c at n
type_for p look arguments ts n = null_type n

abbrev mutual
  pub source_type : Source → Known → ℕ → Part → TypeName → SourceType
  source_type p known c part (primitive word dims span) = plain (base_of word) dims
  source_type p known c part (class_type q args dims span) = type_for p (meaning p known c part q.parts) (count args) (types_named p known c part args) dims

  pub types_named : Source → Known → ℕ → Part → TypeNames → SourceTypes
  types_named p known c part no_types = no_source_types
  types_named p known c part (more_types t ts) = more_source_types (source_type p known c part t) (types_named p known c part ts)
