-- The library's classes as classes of a core program, as the library's table has them.
use Rattle.std.specs.Prelude.{◌≡◌, ℕ, suc, ◌^◌, ◌-◌, ◌&&◌, Bool, true, false, not, List, [], ◌∷◌, ◌++◌, map, filter, Option, Some, None, is_none, unwrap_or, codes, pos, negsuc, if◌then◌else◌}
use Rattle.std.specs.List.{Contains, position}
use Rattle.std.specs.Str.{bytes_eq}
use Rattle.je_base.specs.declared.span.NameId.{NameId}
use Rattle.je_base.specs.declared.span.Span.{Span}
use Rattle.je_core.specs.declared.program.Access.TheVariants as access
use Rattle.je_core.specs.declared.program.Bridge.{Bridge}
use Rattle.je_core.specs.declared.program.Sort.{Sort}
use Rattle.je_core.specs.declared.program.Sort.TheVariants as sort
use Rattle.je_core.specs.declared.types.Base.{Base}
use Rattle.je_core.specs.declared.types.Base.TheVariants as base
use Rattle.je_core.specs.declared.types.ClassId.{ClassId}
use Rattle.je_core.specs.declared.types.Ty.{Ty}
use Rattle.je_core.specs.declared.value.Value.{Value}
use Rattle.je_core.specs.declared.value.Value.TheVariants.{Int, Long}
use Rattle.je_core.specs.Core.{Core, CoreField, CoreMethod, CoreClass, CoreProgram, node}
use Rattle.je_core.specs.Core as core
use Rattle.je_classes.specs.Hierarchy.{library_class}
use Rattle.je_table.specs.declared.classes.LibraryClass.{LibraryClass}
use Rattle.je_table.specs.declared.classes.LibraryClass.TheVariants as class
use Rattle.je_table.specs.declared.classes.Super.{Super}
use Rattle.je_table.specs.declared.types.RowBase.{RowBase}
use Rattle.je_table.specs.declared.types.RowBase.TheVariants as row_base
use Rattle.je_table.specs.declared.types.RowType.{RowType}
use Rattle.je_table.specs.Library.{Class, class_row, classes, library}
use Rattle.je_table.specs.Rows.{Row, row_of}
use Rattle.class_names.specs.Words.{library_words}

-- a library class's number
abbrev pub number_of_class : LibraryClass → ClassId
number_of_class c = library_class (class_row c).name

-- nothing of the library is written in a file
abbrev pub nowhere : Span
nowhere = record { file = 0; start = 0; end = 0 }

-- ---- erased types (JLS 4.6)

-- a type parameter is erased to its bound, Object where none is written
abbrev pub bound_of : Class → ClassId
bound_of c = number_of_class (unwrap_or c.bound class.Object)

abbrev pub erased_base : Class → RowBase → Base
erased_base c row_base.Void = base.Void
erased_base c row_base.Boolean = base.Bool
erased_base c row_base.Char = base.Char
erased_base c row_base.Int = base.Int
erased_base c row_base.Long = base.Long
erased_base c (row_base.Class d) = base.Class (number_of_class d)
erased_base c row_base.Parameter = base.Class (bound_of c)

abbrev pub erased : Class → RowType → Ty
erased c t = record { base = erased_base c t.base; dims = t.dims }

abbrev pub of_base : Base → Ty
of_base b = record { base = b; dims = 0 }

-- ---- fields and methods, in the order of their rows

abbrev pub is_row_of : Class → Row → Bool
is_row_of c r = bytes_eq r.class c.name

abbrev pub is_field_of : Class → Row → Bool
is_field_of c r = is_row_of c r && is_none r.parameters

abbrev pub is_method_of : Class → Row → Bool
is_method_of c r = is_row_of c r && not (is_none r.parameters)

unfoldable pub rows : List Row
rows = map row_of library

abbrev pub greatest : Base → Value
greatest base.Long = Long (pos (2 ^ 63 - 1))
greatest _ = Int (pos (2 ^ 31 - 1))

abbrev pub least : Base → Value
least base.Long = Long (negsuc (2 ^ 63 - 1))
least _ = Int (negsuc (2 ^ 31 - 1))

-- the constants of Integer and Long: MAX_VALUE, and MIN_VALUE
abbrev pub limit : List ℕ → Base → Value
limit name b = if bytes_eq name (codes "MAX_VALUE") then greatest b else least b

module _ (number : List ℕ → NameId) where
  abbrev pub constant_field : Class → Row → CoreField
  constant_field c r = record {
    name = number r.name;
    span = nowhere;
    ty = erased c r.returns;
    is_static = r.is_static;
    is_final = true;
    access = access.Public;
    constant = Some (node (core.Const (limit r.name (erased_base c r.returns.base)) []) (erased c r.returns) nowhere nowhere);
  }

  abbrev pub hidden_field : List ℕ → Base → CoreField
  hidden_field name b = record { name = number name; span = nowhere; ty = of_base b; is_static = false; is_final = true; access = access.Hidden; constant = None }

  -- Throwable keeps its message, and Refused its code.
  abbrev pub hidden_fields : Class → List CoreField
  hidden_fields c =
      if bytes_eq c.name (codes "java.lang.Throwable") then hidden_field (codes "message") (base.Class (number_of_class class.String)) ∷ []
      else (if bytes_eq c.name (codes "host.Refused") then hidden_field (codes "code") base.Int ∷ [] else [])

  -- those of its rows, then the hidden ones
  abbrev pub fields_due : Class → List CoreField
  fields_due c = map (constant_field c) (filter (is_field_of c) rows) ++ hidden_fields c

  -- an interface's are abstract; nothing that evaluation would read is a body of theirs
  abbrev pub method_due : Class → Row → CoreMethod
  method_due c r = record {
    name = number r.name;
    span = nowhere;
    params = map (erased c) (unwrap_or r.parameters []);
    returns = erased c r.returns;
    flags = record { is_static = r.is_static; is_final = false; is_abstract = c.is_interface; is_native = false; is_finalizer = false; access = access.Public };
    throws = [];
    locals = [];
    body = None;
  }

  abbrev pub methods_due : Class → List CoreMethod
  methods_due c = map (method_due c) (filter (is_method_of c) rows)

-- ---- classes

abbrev pub sort_due : Class → Sort
sort_due c = if c.is_interface then sort.Interface else sort.Class

abbrev pub class_above : Super → ClassId
class_above s = number_of_class s.class

abbrev pub first_of : List Super → Option ClassId
first_of [] = None
first_of (s ∷ ss) = Some (class_above s)

abbrev pub all_but_first : List Super → List ClassId
all_but_first [] = []
all_but_first (s ∷ ss) = map class_above ss

-- of a class the first that stands above is its superclass, and the others are interfaces
abbrev pub superclass_due : Class → Option ClassId
superclass_due c = if c.is_interface then None else first_of c.supers

abbrev pub interfaces_due : Class → List ClassId
interfaces_due c = if c.is_interface then map class_above c.supers else all_but_first c.supers

-- the number of the first method of this name
abbrev pub place_of_method : Class → List ℕ → ℕ
place_of_method c name = unwrap_or (position (λ (r : Row). bytes_eq r.name name) (filter (is_method_of c) rows)) 0

-- `Comparable.compareTo(Object)` is reached in a String through `compareTo(String)`.
abbrev pub compare_bridge : Bridge
compare_bridge = record {
  method = (number_of_class class.Comparable, place_of_method (class_row class.Comparable) (codes "compareTo"));
  by = (number_of_class class.String, place_of_method (class_row class.String) (codes "compareTo"));
}

abbrev pub bridges_due : Class → List Bridge
bridges_due c = if bytes_eq c.name (codes "java.lang.String") then compare_bridge ∷ [] else []

-- the class of a row, which stands in no other one
abbrev pub class_due : (List ℕ → NameId) → ℕ → Class → CoreClass
class_due number at c = record {
  name = number c.name;
  span = nowhere;
  kind = record { sort = sort_due c; is_abstract = false; is_final = c.is_final; is_static = false };
  superclass = superclass_due c;
  interfaces = interfaces_due c;
  heads = [];
  fields = fields_due number c;
  initializers = [];
  methods = methods_due number c;
  enclosing = None;
  captured = 0;
  within = None;
  nth = 0;
  top = record { 0 = at };
  bridges = bridges_due c;
}

-- those of rows of which the first has this number
abbrev pub classes_due : (List ℕ → NameId) → ℕ → List Class → List CoreClass
classes_due number at [] = []
classes_due number at (c ∷ cs) = class_due number at c ∷ classes_due number (suc at) cs

-- ---- programs

-- under the numbers of their words
unfoldable pub all_due : (List ℕ → NameId) → List CoreClass
all_due number = classes_due number 0 classes

-- The first classes of a program are the library's, in order, and no two of the library's words have one number.
pub record LibraryStands (program : CoreProgram) : Type 0 where
  pub number : List ℕ → NameId
  pub one_text : (x y : List ℕ) → Contains library_words x → Contains library_words y → number x ≡ number y → x ≡ y
  pub others : List CoreClass
  pub first : program.classes ≡ all_due number ++ others
