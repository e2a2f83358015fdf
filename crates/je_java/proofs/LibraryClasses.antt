-- The numbers of the classes of strings and of string builders, and of Object's `toString`.
use Rattle.std.proofs.Common.{◌≡◌, refl}
use Rattle.je_classes.specs.Hierarchy.{library_class}
use Rattle.je_java.specs.LibraryClasses.{string_class, builder_class, to_string_place}

pub string_class_is : string_class ≡ record { 0 = 1 }
unfolding string_class library_class
string_class_is = refl

pub builder_class_is : builder_class ≡ record { 0 = 2 }
unfolding builder_class library_class
builder_class_is = refl

pub to_string_place_is : to_string_place ≡ 3
unfolding to_string_place
to_string_place_is = refl
