-- The classes of the exceptions that evaluation itself throws (JLS 15.6), and those that members of the library throw.
use Rattle.std.specs.Prelude.{codes}
use Rattle.je_core.specs.declared.types.ClassId.{ClassId}
use Rattle.je_classes.specs.Hierarchy.{library_class}

unfoldable pub null_pointer : ClassId
null_pointer = library_class (codes "java.lang.NullPointerException")

unfoldable pub arithmetic : ClassId
arithmetic = library_class (codes "java.lang.ArithmeticException")

unfoldable pub array_index : ClassId
array_index = library_class (codes "java.lang.ArrayIndexOutOfBoundsException")

unfoldable pub array_store : ClassId
array_store = library_class (codes "java.lang.ArrayStoreException")

unfoldable pub negative_size : ClassId
negative_size = library_class (codes "java.lang.NegativeArraySizeException")

unfoldable pub class_cast : ClassId
class_cast = library_class (codes "java.lang.ClassCastException")

unfoldable pub string_index : ClassId
string_index = library_class (codes "java.lang.StringIndexOutOfBoundsException")

unfoldable pub number_format : ClassId
number_format = library_class (codes "java.lang.NumberFormatException")

unfoldable pub illegal_state : ClassId
illegal_state = library_class (codes "java.lang.IllegalStateException")
