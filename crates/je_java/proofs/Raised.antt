-- The numbers of the classes that evaluation itself throws.
use Rattle.std.proofs.Common.{◌≡◌, refl}
use Rattle.je_classes.specs.Hierarchy.{library_class}
use Rattle.je_java.specs.Raised.{null_pointer, arithmetic, array_index, array_store, negative_size, class_cast, string_index, number_format, illegal_state}

pub null_pointer_is : null_pointer ≡ record { 0 = 34 }
unfolding null_pointer library_class
null_pointer_is = refl

pub arithmetic_is : arithmetic ≡ record { 0 = 27 }
unfolding arithmetic library_class
arithmetic_is = refl

pub class_cast_is : class_cast ≡ record { 0 = 29 }
unfolding class_cast library_class
class_cast_is = refl

pub array_store_is : array_store ≡ record { 0 = 28 }
unfolding array_store library_class
array_store_is = refl

pub negative_size_is : negative_size ≡ record { 0 = 33 }
unfolding negative_size library_class
negative_size_is = refl

pub array_index_is : array_index ≡ record { 0 = 36 }
unfolding array_index library_class
array_index_is = refl

pub string_index_is : string_index ≡ record { 0 = 37 }
unfolding string_index library_class
string_index_is = refl

pub number_format_is : number_format ≡ record { 0 = 38 }
unfolding number_format library_class
number_format_is = refl

pub illegal_state_is : illegal_state ≡ record { 0 = 31 }
unfolding illegal_state library_class
illegal_state_is = refl
