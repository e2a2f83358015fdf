-- The classes of the library and their members: a part of java.lang (Java 5), the markers of Joe-E, and what a host lends.
use Rattle.std.specs.Prelude.{ℕ, zero, suc, ◌+◌, ◌==◌, Bool, true, false, List, [], ◌∷◌, ◌++◌, map, Option, Some, None, unwrap_or, codes}
use Rattle.std.specs.List.{after_last, join_with_byte, position}
use Rattle.std.specs.Str.{bytes_eq}
use Rattle.je_table.specs.declared.classes.LibraryClass.{LibraryClass}
use Rattle.je_table.specs.declared.classes.LibraryClass.TheVariants as class
use Rattle.je_table.specs.declared.classes.Super.{Super}
use Rattle.je_table.specs.declared.members.CostKind.{CostKind}
use Rattle.je_table.specs.declared.members.CostKind.TheVariants as cost
use Rattle.je_table.specs.declared.types.RowBase.{RowBase}
use Rattle.je_table.specs.declared.types.RowBase.TheVariants as base
use Rattle.je_table.specs.declared.types.RowType.{RowType}

-- `bound` is that of the type parameter, Object where none is written; `markers` is a sum of 1 for Immutable, 2 for
-- Powerless, 4 for Selfless and 8 for Equatable
pub record Class : Type 0 where
  pub name : List ℕ
  pub is_interface : Bool
  pub is_final : Bool
  pub bound : Option LibraryClass
  pub supers : List Super
  pub markers : ℕ

-- a field has no list of parameters
pub record Member : Type 0 where
  pub class : LibraryClass
  pub name : List ℕ
  pub parameters : Option (List RowType)
  pub returns : RowType
  pub is_static : Bool
  pub tame : Bool
  pub cost : CostKind

-- ---- rows

abbrev pub above : LibraryClass → Super
above c = record { class = c; argument = None }

abbrev pub open_class : List ℕ → List Super → ℕ → Class
open_class name supers markers = record { name = name; is_interface = false; is_final = false; bound = None; supers = supers; markers = markers }

abbrev pub final_class : List ℕ → List Super → ℕ → Class
final_class name supers markers = record { name = name; is_interface = false; is_final = true; bound = None; supers = supers; markers = markers }

abbrev pub interface : List ℕ → List Super → Class
interface name supers = record { name = name; is_interface = true; is_final = false; bound = None; supers = supers; markers = 0 }

abbrev pub generic : LibraryClass → Class → Class
generic bound c = record c { bound = Some bound }

-- Immutable and Powerless
abbrev pub frozen : ℕ
frozen = 1 + 2

abbrev pub exception : List ℕ → LibraryClass → Class
exception name super = open_class name (above super ∷ []) frozen

abbrev pub of : RowBase → RowType
of b = record { base = b; dims = 0 }

abbrev pub array : RowBase → RowType
array b = record { base = b; dims = 1 }

abbrev pub method : LibraryClass → List ℕ → List RowType → RowType → CostKind → Member
method c name parameters returns cost =
    record { class = c; name = name; parameters = Some parameters; returns = returns; is_static = false; tame = true; cost = cost }

abbrev pub static_method : LibraryClass → List ℕ → List RowType → RowType → CostKind → Member
static_method c name parameters returns cost = record (method c name parameters returns cost) { is_static = true }

abbrev pub wild : Member → Member
wild m = record m { tame = false }

abbrev pub constant : LibraryClass → List ℕ → RowType → Member
constant c name type = record { class = c; name = name; parameters = None; returns = type; is_static = true; tame = true; cost = cost.Plain }

abbrev pub text : RowType
text = of (base.Class class.String)

-- ---- the classes, in their order

abbrev pub class_row : LibraryClass → Class
class_row class.Object = open_class (codes "java.lang.Object") [] 0
class_row class.String = final_class (codes "java.lang.String") (above class.Object ∷ record { class = class.Comparable; argument = Some class.String } ∷ []) (frozen + 4)
class_row class.StringBuilder = final_class (codes "java.lang.StringBuilder") (above class.Object ∷ []) 0
class_row class.Integer = final_class (codes "java.lang.Integer") (above class.Object ∷ []) 0
class_row class.Long = final_class (codes "java.lang.Long") (above class.Object ∷ []) 0
class_row class.Math = final_class (codes "java.lang.Math") (above class.Object ∷ []) 0
class_row class.System = final_class (codes "java.lang.System") (above class.Object ∷ []) 0
class_row class.Comparable = generic class.Object (interface (codes "java.lang.Comparable") [])
class_row class.Runnable = interface (codes "java.lang.Runnable") []
class_row class.Throwable = exception (codes "java.lang.Throwable") class.Object
class_row class.Immutable = interface (codes "org.joe_e.Immutable") []
class_row class.Selfless = interface (codes "org.joe_e.Selfless") []
class_row class.Equatable = interface (codes "org.joe_e.Equatable") []
class_row class.Powerless = interface (codes "org.joe_e.Powerless") (above class.Immutable ∷ [])
class_row class.Token = open_class (codes "org.joe_e.Token") (above class.Object ∷ above class.Immutable ∷ above class.Equatable ∷ []) (1 + 8)
class_row class.ConstRow = generic class.Immutable (final_class (codes "joee.lib.ConstRow") (above class.Object ∷ above class.Immutable ∷ []) 1)
class_row class.IntRow = final_class (codes "joee.lib.IntRow") (above class.Object ∷ above class.Powerless ∷ []) frozen
class_row class.TextRow = final_class (codes "joee.lib.TextRow") (above class.Object ∷ above class.Powerless ∷ []) frozen
class_row class.Console = interface (codes "host.Console") []
class_row class.Cell = interface (codes "host.Cell") []
class_row class.Clock = interface (codes "host.Clock") []
class_row class.Inbox = interface (codes "host.Inbox") []
class_row class.Store = interface (codes "host.Store") []
class_row class.Refused = exception (codes "host.Refused") class.RuntimeException
class_row class.Exception = exception (codes "java.lang.Exception") class.Throwable
class_row class.Error = exception (codes "java.lang.Error") class.Throwable
class_row class.RuntimeException = exception (codes "java.lang.RuntimeException") class.Exception
class_row class.ArithmeticException = exception (codes "java.lang.ArithmeticException") class.RuntimeException
class_row class.ArrayStoreException = exception (codes "java.lang.ArrayStoreException") class.RuntimeException
class_row class.ClassCastException = exception (codes "java.lang.ClassCastException") class.RuntimeException
class_row class.IllegalArgumentException = exception (codes "java.lang.IllegalArgumentException") class.RuntimeException
class_row class.IllegalStateException = exception (codes "java.lang.IllegalStateException") class.RuntimeException
class_row class.IndexOutOfBoundsException = exception (codes "java.lang.IndexOutOfBoundsException") class.RuntimeException
class_row class.NegativeArraySizeException = exception (codes "java.lang.NegativeArraySizeException") class.RuntimeException
class_row class.NullPointerException = exception (codes "java.lang.NullPointerException") class.RuntimeException
class_row class.UnsupportedOperationException = exception (codes "java.lang.UnsupportedOperationException") class.RuntimeException
class_row class.ArrayIndexOutOfBoundsException = exception (codes "java.lang.ArrayIndexOutOfBoundsException") class.IndexOutOfBoundsException
class_row class.StringIndexOutOfBoundsException = exception (codes "java.lang.StringIndexOutOfBoundsException") class.IndexOutOfBoundsException
class_row class.NumberFormatException = exception (codes "java.lang.NumberFormatException") class.IllegalArgumentException

abbrev pub all_classes : List LibraryClass
all_classes =
    class.Object ∷
    class.String ∷
    class.StringBuilder ∷
    class.Integer ∷
    class.Long ∷
    class.Math ∷
    class.System ∷
    class.Comparable ∷
    class.Runnable ∷
    class.Throwable ∷
    class.Immutable ∷
    class.Selfless ∷
    class.Equatable ∷
    class.Powerless ∷
    class.Token ∷
    class.ConstRow ∷
    class.IntRow ∷
    class.TextRow ∷
    class.Console ∷
    class.Cell ∷
    class.Clock ∷
    class.Inbox ∷
    class.Store ∷
    class.Refused ∷
    class.Exception ∷
    class.Error ∷
    class.RuntimeException ∷
    class.ArithmeticException ∷
    class.ArrayStoreException ∷
    class.ClassCastException ∷
    class.IllegalArgumentException ∷
    class.IllegalStateException ∷
    class.IndexOutOfBoundsException ∷
    class.NegativeArraySizeException ∷
    class.NullPointerException ∷
    class.UnsupportedOperationException ∷
    class.ArrayIndexOutOfBoundsException ∷
    class.StringIndexOutOfBoundsException ∷
    class.NumberFormatException ∷
    []

abbrev pub classes : List Class
classes = map class_row all_classes

-- the number of a library class: the place of its full name among the classes
abbrev pub class_number : List ℕ → Option ℕ
class_number name = position (λ class. bytes_eq class.name name) classes

-- ---- how a member's signature is written: its name, and the simple names of its parameters' erased types

-- what stands after the last point
abbrev pub simple_name : LibraryClass → List ℕ
simple_name c = after_last (λ byte. byte == 46) (class_row c).name

abbrev pub base_text : LibraryClass → RowBase → List ℕ
base_text c base.Void = codes "void"
base_text c base.Boolean = codes "boolean"
base_text c base.Char = codes "char"
base_text c base.Int = codes "int"
base_text c base.Long = codes "long"
base_text c (base.Class d) = simple_name d
base_text c base.Parameter = simple_name (unwrap_or (class_row c).bound class.Object)

abbrev pub brackets : ℕ → List ℕ
brackets zero = []
brackets (suc n) = codes "[]" ++ brackets n

abbrev pub type_text : LibraryClass → RowType → List ℕ
type_text c type = base_text c type.base ++ brackets type.dims

abbrev pub parameter_text : LibraryClass → Option (List RowType) → List ℕ
parameter_text c None = []
parameter_text c (Some types) = codes "(" ++ join_with_byte 44 (map (type_text c) types) ++ codes ")"

abbrev pub signature_of : Member → List ℕ
signature_of m = m.name ++ parameter_text m.class m.parameters

-- ---- the members, sorted by the full name of their class, then by their signature

abbrev pub library : List Member
library =
    method class.Cell (codes "get") [] (of base.Long) cost.Plain ∷
    method class.Cell (codes "set") (of base.Long ∷ []) (of base.Void) cost.Plain ∷
    method class.Clock (codes "now") [] (of base.Long) cost.Plain ∷
    method class.Console (codes "print") (text ∷ []) (of base.Void) cost.Plain ∷
    method class.Inbox (codes "next") [] text cost.Plain ∷
    method class.Refused (codes "code") [] (of base.Int) cost.Plain ∷
    method class.Store (codes "get") (text ∷ []) text cost.Plain ∷
    method class.Store (codes "put") (text ∷ text ∷ []) (of base.Void) cost.Plain ∷
    method class.ArithmeticException (codes "new") [] (of base.Void) cost.Plain ∷
    method class.ArithmeticException (codes "new") (text ∷ []) (of base.Void) cost.Plain ∷
    method class.ArrayIndexOutOfBoundsException (codes "new") [] (of base.Void) cost.Plain ∷
    method class.ArrayIndexOutOfBoundsException (codes "new") (text ∷ []) (of base.Void) cost.Plain ∷
    method class.ArrayStoreException (codes "new") [] (of base.Void) cost.Plain ∷
    method class.ArrayStoreException (codes "new") (text ∷ []) (of base.Void) cost.Plain ∷
    method class.ClassCastException (codes "new") [] (of base.Void) cost.Plain ∷
    method class.ClassCastException (codes "new") (text ∷ []) (of base.Void) cost.Plain ∷
    method class.Comparable (codes "compareTo") (of base.Parameter ∷ []) (of base.Int) cost.Plain ∷
    method class.Error (codes "new") [] (of base.Void) cost.Plain ∷
    method class.Error (codes "new") (text ∷ []) (of base.Void) cost.Plain ∷
    method class.Exception (codes "new") [] (of base.Void) cost.Plain ∷
    method class.Exception (codes "new") (text ∷ []) (of base.Void) cost.Plain ∷
    method class.IllegalArgumentException (codes "new") [] (of base.Void) cost.Plain ∷
    method class.IllegalArgumentException (codes "new") (text ∷ []) (of base.Void) cost.Plain ∷
    method class.IllegalStateException (codes "new") [] (of base.Void) cost.Plain ∷
    method class.IllegalStateException (codes "new") (text ∷ []) (of base.Void) cost.Plain ∷
    method class.IndexOutOfBoundsException (codes "new") [] (of base.Void) cost.Plain ∷
    method class.IndexOutOfBoundsException (codes "new") (text ∷ []) (of base.Void) cost.Plain ∷
    constant class.Integer (codes "MAX_VALUE") (of base.Int) ∷
    constant class.Integer (codes "MIN_VALUE") (of base.Int) ∷
    static_method class.Integer (codes "bitCount") (of base.Int ∷ []) (of base.Int) cost.Plain ∷
    static_method class.Integer (codes "parseInt") (text ∷ []) (of base.Int) cost.Plain ∷
    static_method class.Integer (codes "toHexString") (of base.Int ∷ []) text cost.Result ∷
    static_method class.Integer (codes "toString") (of base.Int ∷ []) text cost.Result ∷
    constant class.Long (codes "MAX_VALUE") (of base.Long) ∷
    constant class.Long (codes "MIN_VALUE") (of base.Long) ∷
    static_method class.Long (codes "parseLong") (text ∷ []) (of base.Long) cost.Plain ∷
    static_method class.Long (codes "toString") (of base.Long ∷ []) text cost.Result ∷
    static_method class.Math (codes "abs") (of base.Int ∷ []) (of base.Int) cost.Plain ∷
    static_method class.Math (codes "abs") (of base.Long ∷ []) (of base.Long) cost.Plain ∷
    static_method class.Math (codes "max") (of base.Int ∷ of base.Int ∷ []) (of base.Int) cost.Plain ∷
    static_method class.Math (codes "max") (of base.Long ∷ of base.Long ∷ []) (of base.Long) cost.Plain ∷
    static_method class.Math (codes "min") (of base.Int ∷ of base.Int ∷ []) (of base.Int) cost.Plain ∷
    static_method class.Math (codes "min") (of base.Long ∷ of base.Long ∷ []) (of base.Long) cost.Plain ∷
    method class.NegativeArraySizeException (codes "new") [] (of base.Void) cost.Plain ∷
    method class.NegativeArraySizeException (codes "new") (text ∷ []) (of base.Void) cost.Plain ∷
    method class.NullPointerException (codes "new") [] (of base.Void) cost.Plain ∷
    method class.NullPointerException (codes "new") (text ∷ []) (of base.Void) cost.Plain ∷
    method class.NumberFormatException (codes "new") [] (of base.Void) cost.Plain ∷
    method class.NumberFormatException (codes "new") (text ∷ []) (of base.Void) cost.Plain ∷
    method class.Object (codes "equals") (of (base.Class class.Object) ∷ []) (of base.Boolean) cost.Plain ∷
    wild (method class.Object (codes "hashCode") [] (of base.Int) cost.Plain) ∷
    method class.Object (codes "new") [] (of base.Void) cost.Plain ∷
    wild (method class.Object (codes "toString") [] text cost.Plain) ∷
    method class.Runnable (codes "run") [] (of base.Void) cost.Plain ∷
    method class.RuntimeException (codes "new") [] (of base.Void) cost.Plain ∷
    method class.RuntimeException (codes "new") (text ∷ []) (of base.Void) cost.Plain ∷
    method class.String (codes "charAt") (of base.Int ∷ []) (of base.Char) cost.Plain ∷
    method class.String (codes "compareTo") (text ∷ []) (of base.Int) cost.Receiver ∷
    method class.String (codes "concat") (text ∷ []) text cost.Result ∷
    method class.String (codes "endsWith") (text ∷ []) (of base.Boolean) cost.Receiver ∷
    method class.String (codes "equals") (of (base.Class class.Object) ∷ []) (of base.Boolean) cost.Receiver ∷
    method class.String (codes "hashCode") [] (of base.Int) cost.Receiver ∷
    method class.String (codes "indexOf") (text ∷ []) (of base.Int) cost.Product ∷
    method class.String (codes "indexOf") (of base.Int ∷ []) (of base.Int) cost.Receiver ∷
    method class.String (codes "length") [] (of base.Int) cost.Plain ∷
    method class.String (codes "new") (array base.Char ∷ []) (of base.Void) cost.Result ∷
    method class.String (codes "replace") (of base.Char ∷ of base.Char ∷ []) text cost.Result ∷
    method class.String (codes "startsWith") (text ∷ []) (of base.Boolean) cost.Receiver ∷
    method class.String (codes "substring") (of base.Int ∷ []) text cost.Result ∷
    method class.String (codes "substring") (of base.Int ∷ of base.Int ∷ []) text cost.Result ∷
    method class.String (codes "toCharArray") [] (array base.Char) cost.Result ∷
    method class.String (codes "toString") [] text cost.Plain ∷
    method class.String (codes "trim") [] text cost.Result ∷
    static_method class.String (codes "valueOf") (of base.Boolean ∷ []) text cost.Result ∷
    static_method class.String (codes "valueOf") (of base.Char ∷ []) text cost.Result ∷
    static_method class.String (codes "valueOf") (of base.Int ∷ []) text cost.Result ∷
    static_method class.String (codes "valueOf") (of base.Long ∷ []) text cost.Result ∷
    method class.StringBuilder (codes "append") (text ∷ []) (of (base.Class class.StringBuilder)) cost.Result ∷
    method class.StringBuilder (codes "append") (of base.Boolean ∷ []) (of (base.Class class.StringBuilder)) cost.Result ∷
    method class.StringBuilder (codes "append") (of base.Char ∷ []) (of (base.Class class.StringBuilder)) cost.Result ∷
    method class.StringBuilder (codes "append") (of base.Int ∷ []) (of (base.Class class.StringBuilder)) cost.Result ∷
    method class.StringBuilder (codes "append") (of base.Long ∷ []) (of (base.Class class.StringBuilder)) cost.Result ∷
    method class.StringBuilder (codes "charAt") (of base.Int ∷ []) (of base.Char) cost.Plain ∷
    method class.StringBuilder (codes "deleteCharAt") (of base.Int ∷ []) (of (base.Class class.StringBuilder)) cost.Receiver ∷
    method class.StringBuilder (codes "length") [] (of base.Int) cost.Plain ∷
    method class.StringBuilder (codes "new") [] (of base.Void) cost.Plain ∷
    method class.StringBuilder (codes "new") (text ∷ []) (of base.Void) cost.Result ∷
    method class.StringBuilder (codes "setCharAt") (of base.Int ∷ of base.Char ∷ []) (of base.Void) cost.Receiver ∷
    method class.StringBuilder (codes "toString") [] text cost.Result ∷
    method class.StringIndexOutOfBoundsException (codes "new") [] (of base.Void) cost.Plain ∷
    method class.StringIndexOutOfBoundsException (codes "new") (text ∷ []) (of base.Void) cost.Plain ∷
    wild (static_method class.System (codes "currentTimeMillis") [] (of base.Long) cost.Plain) ∷
    wild (static_method class.System (codes "getProperty") (text ∷ []) text cost.Plain) ∷
    wild (static_method class.System (codes "identityHashCode") (of (base.Class class.Object) ∷ []) (of base.Int) cost.Plain) ∷
    wild (static_method class.System (codes "setProperty") (text ∷ text ∷ []) text cost.Plain) ∷
    method class.Throwable (codes "getMessage") [] text cost.Plain ∷
    method class.Throwable (codes "new") [] (of base.Void) cost.Plain ∷
    method class.Throwable (codes "new") (text ∷ []) (of base.Void) cost.Plain ∷
    method class.UnsupportedOperationException (codes "new") [] (of base.Void) cost.Plain ∷
    method class.UnsupportedOperationException (codes "new") (text ∷ []) (of base.Void) cost.Plain ∷
    method class.ConstRow (codes "get") (of base.Int ∷ []) (of base.Parameter) cost.Plain ∷
    method class.ConstRow (codes "new") (array base.Parameter ∷ []) (of base.Void) cost.Result ∷
    method class.ConstRow (codes "size") [] (of base.Int) cost.Plain ∷
    method class.IntRow (codes "get") (of base.Int ∷ []) (of base.Int) cost.Plain ∷
    method class.IntRow (codes "new") (array base.Int ∷ []) (of base.Void) cost.Result ∷
    method class.IntRow (codes "size") [] (of base.Int) cost.Plain ∷
    method class.TextRow (codes "get") (of base.Int ∷ []) text cost.Plain ∷
    method class.TextRow (codes "new") (array (base.Class class.String) ∷ []) (of base.Void) cost.Result ∷
    method class.TextRow (codes "size") [] (of base.Int) cost.Plain ∷
    method class.Token (codes "new") [] (of base.Void) cost.Plain ∷
    []
