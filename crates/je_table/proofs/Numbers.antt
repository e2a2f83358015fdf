-- Numbers of library classes that evaluation names.
use Rattle.std.proofs.Common.{◌≡◌, Some, refl, codes}
use Rattle.je_table.specs.Library.{class_number}

pub NullPointerException-number : class_number (codes "java.lang.NullPointerException") ≡ Some 34
NullPointerException-number = refl
