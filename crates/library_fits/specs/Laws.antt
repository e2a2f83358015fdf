-- The library's classes fit (JLS 8, 9), whatever classes stand behind them.
use Rattle.std.specs.Prelude.{◌≡◌, false, Some}
use Rattle.je_core.specs.declared.types.ClassId.{ClassId}
use Rattle.je_core.specs.Core.{CoreClass, CoreProgram}
use Rattle.je_classes.specs.Hierarchy.{class_at}
use Rattle.je_fitting.specs.Members.{is_guest}
use Rattle.je_fitting.specs.Program.{FitsWhole}
use Rattle.library_classes.specs.Library.{LibraryStands}

abbrev pub LibraryFits : Type 0
LibraryFits = (program : CoreProgram) → LibraryStands program → (class : ClassId) (c : CoreClass) →
    is_guest class ≡ false → class_at program class ≡ Some c → FitsWhole program class c
