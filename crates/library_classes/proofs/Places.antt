-- The numbers of `compareTo`.
use Rattle.std.proofs.Common.{◌≡◌, refl}
use Rattle.std.specs.Prelude.{codes}
use Rattle.je_table.specs.declared.classes.LibraryClass.TheVariants as class
use Rattle.je_table.specs.Library.{class_row}
use Rattle.library_classes.specs.Library.{place_of_method, rows}

pub compared : place_of_method (class_row class.Comparable) (codes "compareTo") ≡ 0
unfolding rows
compared = refl

pub compares : place_of_method (class_row class.String) (codes "compareTo") ≡ 1
unfolding rows
compares = refl
