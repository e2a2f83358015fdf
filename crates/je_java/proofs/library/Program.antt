-- A program over the library's classes, for worked rows: their methods have no body, as in every program.
use Rattle.std.proofs.Common.{◌≡◌, ℕ, List, [], ◌∷◌, ◌++◌, map, Option, Some, None, Bool, true, false}
use Rattle.std.specs.Prelude.{filter, not, ◌&&◌, is_none, unwrap_or, pos, ℤ, codes, if◌then◌else◌}
use Rattle.std.specs.List.{position}
use Rattle.std.specs.Str.{bytes_eq}
use Rattle.je_base.specs.declared.span.NameId.{NameId}
use Rattle.je_core.specs.declared.object.Obj.{Obj}
use Rattle.je_core.specs.declared.program.Bridge.{Bridge}
use Rattle.je_core.specs.declared.program.Flags.{Flags}
use Rattle.je_core.specs.declared.program.Sort.TheVariants as sort
use Rattle.je_core.specs.declared.types.Base.{Base}
use Rattle.je_core.specs.declared.types.Base.TheVariants as base
use Rattle.je_core.specs.declared.types.ClassId.{ClassId}
use Rattle.je_core.specs.declared.types.Ty.{Ty}
use Rattle.je_core.specs.declared.value.Value.{Value}
use Rattle.je_core.specs.declared.value.Value.TheVariants.{Null, Ref}
use Rattle.je_core.specs.Core.{CoreField, CoreMethod, CoreClass, CoreProgram}
use Rattle.je_classes.specs.Hierarchy.{library_class}
use Rattle.je_table.specs.declared.classes.LibraryClass.{LibraryClass}
use Rattle.je_table.specs.declared.classes.LibraryClass.TheVariants as class
use Rattle.je_table.specs.declared.classes.Super.{Super}
use Rattle.je_table.specs.declared.types.RowBase.{RowBase}
use Rattle.je_table.specs.declared.types.RowBase.TheVariants as row_base
use Rattle.je_table.specs.declared.types.RowType.{RowType}
use Rattle.je_table.specs.Library.{Member, class_row, all_classes, library, signature_of}
use Rattle.je_java.specs.LibraryMembers.{run_library}
use Rattle.je_java.specs.Steps.{Computation, State}
use Rattle.je_java.proofs.Rows.{nowhere, field, flags_of, class_of_methods, class_number, nothing}
use Rattle.text_members.specs.Comparing.{weighed}

-- a number for each word
abbrev pub word : List ℕ → NameId
word text = record { 0 = weighed text }

abbrev pub number : LibraryClass → ClassId
number c = library_class (class_row c).name

abbrev pub erased_base : RowBase → Base
erased_base row_base.Void = base.Void
erased_base row_base.Boolean = base.Bool
erased_base row_base.Char = base.Char
erased_base row_base.Int = base.Int
erased_base row_base.Long = base.Long
erased_base (row_base.Class c) = base.Class (number c)
erased_base row_base.Parameter = base.Class (number class.Object)

abbrev pub erased : RowType → Ty
erased type = record { base = erased_base type.base; dims = type.dims }

abbrev pub is_method_of : LibraryClass → Member → Bool
is_method_of c m = bytes_eq (class_row m.class).name (class_row c).name && not (is_none m.parameters)

abbrev pub methods_of : LibraryClass → List Member
methods_of c = filter (is_method_of c) library

abbrev pub flags : LibraryClass → Member → Flags
flags c m = record (flags_of m.is_static) { is_abstract = (class_row c).is_interface }

abbrev pub method : LibraryClass → Member → CoreMethod
method c m = record {
  name = word m.name;
  span = nowhere;
  params = map erased (unwrap_or m.parameters []);
  returns = erased m.returns;
  flags = flags c m;
  throws = [];
  locals = [];
  body = None;
}

-- Throwable's message, and Refused's code
abbrev pub fields : LibraryClass → List CoreField
fields class.Throwable = record (field false) { ty = erased (record { base = row_base.Class class.String; dims = 0 }) } ∷ []
fields class.Refused = field false ∷ []
fields _ = []

-- `Comparable.compareTo(Object)` is reached in a String through `compareTo(String)`.
abbrev pub bridges : LibraryClass → List Bridge
bridges class.String = record { method = (number class.Comparable, 0); by = (number class.String, 1) } ∷ []
bridges _ = []

abbrev pub first_above : List Super → Option ClassId
first_above [] = None
first_above (s ∷ ss) = Some (number s.class)

abbrev pub stub : LibraryClass → CoreClass
stub c = record (class_of_methods (map (method c) (methods_of c))) {
  fields = fields c;
  superclass = if (class_row c).is_interface then None else first_above (class_row c).supers;
  bridges = bridges c;
}

-- the library's classes, and then others
abbrev pub program : List CoreClass → CoreProgram
program others = record { classes = map stub all_classes ++ others; texts = [] }

-- the place of a member among its class's methods
abbrev pub place : LibraryClass → List ℕ → ℕ
place c signature = unwrap_or (position (λ m. bytes_eq (signature_of m) signature) (methods_of c)) 0

-- a member of the library, on a receiver and with arguments
abbrev pub runs : LibraryClass → List ℕ → Value → List Value → Computation Value
runs c signature this given = run_library (program []) (number c) (place c signature) this given

abbrev pub reference : ℕ → Value
reference n = Ref (record { 0 = n })

abbrev pub with : List Obj → ℕ → State
with objects units = record {
  world = record { objects = objects; statics = [] };
  own = record { this = Null; locals = [] };
  public = record { units = units; begun = 0 };
  outside = nothing;
}
