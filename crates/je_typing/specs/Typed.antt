-- An expression of the core program with its type in the source, and what is asked of such a type (JLS 4.2, 4.3, 4.7).
use Rattle.std.specs.Prelude.{zero, suc, Bool, true, false, Option, Some, None, is_some, codes, if◌then◌else◌}
use Rattle.je_base.specs.declared.span.Span.{Span}
use Rattle.je_core.specs.declared.types.Base.{Base}
use Rattle.je_core.specs.declared.types.Base.TheVariants as base
use Rattle.je_core.specs.Core.{Core, CoreForm, node}
use Rattle.je_classes.specs.Hierarchy.{library_class}
use Rattle.je_fitting.specs.Types.{of, string, is_number_base}
use Rattle.je_scopes.specs.SourceTypes.{SourceType, plain, of_class, of_variable, no_source_types, same_source_type}

pub record TypedNode : Type 0 where
  pub node : Core
  pub type : SourceType

abbrev pub primitive_type : Base → SourceType
primitive_type b = plain b 0

-- the type of `null`
abbrev pub null_source_type : SourceType
null_source_type = plain base.Null 0

abbrev pub string_type : SourceType
string_type = of_class (library_class (codes "java.lang.String")).0 no_source_types 0

-- a node of a primitive type, or of the type of `null`
abbrev pub typed_as : Base → CoreForm → Span → Span → TypedNode
typed_as b form span at = record { node = node form (of b) span at; type = plain b 0 }

-- a node of type String
abbrev pub typed_text : CoreForm → Span → Span → TypedNode
typed_text form span at = record { node = node form string span at; type = string_type }

-- ---- what is asked of types

abbrev pub is_primitive_base : Base → Bool
is_primitive_base base.Bool = true
is_primitive_base b = is_number_base b

-- the base of a primitive type
abbrev pub primitive : SourceType → Option Base
primitive (plain b zero) = if is_primitive_base b then Some b else None
primitive _ = None

abbrev pub is_primitive : SourceType → Bool
is_primitive t = is_some (primitive t)

abbrev pub is_bool_base : Base → Bool
is_bool_base base.Bool = true
is_bool_base _ = false

abbrev pub is_boolean : SourceType → Bool
is_boolean (plain b zero) = is_bool_base b
is_boolean _ = false

-- a number, or a char
abbrev pub is_numeric : SourceType → Bool
is_numeric (plain b zero) = is_number_base b
is_numeric _ = false

abbrev pub is_void_base : Base → Bool
is_void_base base.Void = true
is_void_base _ = false

-- what a call of a `void` method comes to
abbrev pub is_void : SourceType → Bool
is_void (plain b zero) = is_void_base b
is_void _ = false

abbrev pub is_string : SourceType → Bool
is_string t = same_source_type t string_type

-- the type of an array's elements (JLS 10.1)
abbrev pub element_type : SourceType → Option SourceType
element_type (plain b (suc n)) = Some (plain b n)
element_type (of_class c ts (suc n)) = Some (of_class c ts n)
element_type (of_variable c i (suc n)) = Some (of_variable c i n)
element_type _ = None
