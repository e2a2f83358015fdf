-- What the library's classes declare, as the library's table has them, before erasure: with their type parameters, and with
-- the type arguments of what stands above them (JLS 8, 9).
use Rattle.std.specs.Prelude.{ℕ, suc, false, true, List, [], ◌∷◌, map, filter, Option, Some, None, unwrap_or, codes}
use Rattle.std.specs.Str.{bytes_eq}
use Rattle.je_base.specs.declared.span.NameId.{NameId}
use Rattle.je_core.specs.declared.program.Access.TheVariants as access
use Rattle.je_core.specs.declared.program.Kind.{Kind}
use Rattle.je_core.specs.declared.types.Base.TheVariants as base
use Rattle.je_table.specs.declared.classes.LibraryClass.{LibraryClass}
use Rattle.je_table.specs.declared.classes.Super.{Super}
use Rattle.je_table.specs.declared.types.RowBase.{RowBase}
use Rattle.je_table.specs.declared.types.RowBase.TheVariants as row_base
use Rattle.je_table.specs.declared.types.RowType.{RowType}
use Rattle.je_table.specs.Library.{Class, classes}
use Rattle.je_table.specs.Rows.{Row}
use Rattle.je_ast.specs.declared.name.Identifier.{Identifier}
use Rattle.je_scopes.specs.SourceTypes.{SourceType, SourceTypes, plain, of_class, of_variable, no_source_types, more_source_types}
use Rattle.declarations.specs.Declarations.{DeclaredClass, DeclaredField, DeclaredMethod, DeclaredParameter}
use Rattle.library_classes.specs.Library.{number_of_class, nowhere, is_field_of, is_method_of, rows, sort_due}

-- ---- types

abbrev pub class_type : LibraryClass → SourceType
class_type c = of_class (number_of_class c).0 no_source_types 0

abbrev pub arguments_of : Option LibraryClass → SourceTypes
arguments_of None = no_source_types
arguments_of (Some c) = more_source_types (class_type c) no_source_types

-- what stands above a class, as `Comparable<String>` above String
abbrev pub super_type : Super → SourceType
super_type s = of_class (number_of_class s.class).0 (arguments_of s.argument) 0

-- in the class of a number, whose one type parameter a row may name
abbrev pub array_declared : ℕ → RowBase → ℕ → SourceType
array_declared at row_base.Void n = plain base.Void n
array_declared at row_base.Boolean n = plain base.Bool n
array_declared at row_base.Char n = plain base.Char n
array_declared at row_base.Int n = plain base.Int n
array_declared at row_base.Long n = plain base.Long n
array_declared at (row_base.Class c) n = of_class (number_of_class c).0 no_source_types n
array_declared at row_base.Parameter n = of_variable at 0 n

abbrev pub type_declared : ℕ → RowType → SourceType
type_declared at t = array_declared at t.base t.dims

-- ---- members, in the order of their rows

abbrev pub kind_declared : Class → Kind
kind_declared c = record { sort = sort_due c; is_abstract = c.is_interface; is_final = c.is_final; is_static = false }

module _ (number : List ℕ → NameId) where
  abbrev pub named : List ℕ → Identifier
  named word = record { name = number word; span = nowhere }

  -- no name means a type parameter of the library: it has the empty one
  abbrev pub parameters_declared : Option LibraryClass → List DeclaredParameter
  parameters_declared None = []
  parameters_declared (Some bound) = record { name = named []; bound = Some (class_type bound) } ∷ []

  abbrev pub field_declared : ℕ → Row → DeclaredField
  field_declared at r = record {
    name = named r.name;
    ty = type_declared at r.returns;
    is_static = r.is_static;
    is_final = true;
    access = access.Public;
  }

  -- an interface's are abstract
  abbrev pub method_declared : Class → ℕ → Row → DeclaredMethod
  method_declared c at r = record {
    name = named r.name;
    is_constructor = bytes_eq r.name (codes "new");
    parameters = map (type_declared at) (unwrap_or r.parameters []);
    result = type_declared at r.returns;
    throws = [];
    flags = record { is_static = r.is_static; is_final = false; is_abstract = c.is_interface; is_native = false; is_finalizer = false; access = access.Public };
  }

  -- ---- classes

  -- the class of a row, which has this number
  abbrev pub class_declared : ℕ → Class → DeclaredClass
  class_declared at c = record {
    kind = kind_declared c;
    access = access.Public;
    parameters = parameters_declared c.bound;
    heads = map super_type c.supers;
    fields = map (field_declared at) (filter (is_field_of c) rows);
    methods = map (method_declared c at) (filter (is_method_of c) rows);
  }

  -- those of rows of which the first has this number
  abbrev pub classes_declared : ℕ → List Class → List DeclaredClass
  classes_declared at [] = []
  classes_declared at (c ∷ cs) = class_declared at c ∷ classes_declared (suc at) cs

-- all of them, under the numbers that words have
unfoldable pub library_declared : (List ℕ → NameId) → List DeclaredClass
library_declared number = classes_declared number 0 classes
