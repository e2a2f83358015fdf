-- The classes of the library are the first ones.
use Rattle.std.specs.Prelude.{◌≡◌, ℕ, ◌<◌, false, List}
use Rattle.je_ast.specs.Trees.{CompilationUnit}
use Rattle.je_scopes.specs.Headers.{is_guest, site_at}
use Rattle.je_scopes.specs.Source.{Source, source}
use Rattle.class_typing.specs.Programs.{library_count}

abbrev pub IsLibraryFirst : Source → Type 0
IsLibraryFirst p = (c : ℕ) → c < library_count p → is_guest (site_at p.sites c).written ≡ false

abbrev pub LibraryComesFirst : Type 0
LibraryComesFirst = (texts : List (List ℕ)) (units : List CompilationUnit) → IsLibraryFirst (source texts units)
