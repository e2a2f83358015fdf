-- Programs over the library's classes.
use Rattle.std.specs.Prelude.{◌≡◌, ℕ, List, ◌++◌}
use Rattle.je_core.specs.Core.{CoreClass, CoreProgram}
use Rattle.class_names.specs.Words.{AreNumbered, library_words}
use Rattle.library_classes.specs.Library.{LibraryStands, all_due}
use Rattle.library_classes.specs.Numbers.{number_in}

-- Where the library's words have numbers in the names of a program, and its first classes are those of the rows under these numbers,
-- the library stands in it.
abbrev pub ProgramsStand : Type 0
ProgramsStand = (names : List (List ℕ)) (program : CoreProgram) (others : List CoreClass) → AreNumbered names library_words →
    program.classes ≡ all_due (number_in names) ++ others → LibraryStands program
