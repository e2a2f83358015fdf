-- The units of a program's files over one list of names.
use Rattle.std.specs.Prelude.{◌≡◌, ℕ, List}
use Rattle.std.specs.List.{AllZip}
use Rattle.je_base.specs.declared.span.NameId.{NameId}
use Rattle.je_ast.specs.Trees.{CompilationUnit}
use Rattle.je_ast.specs.Renumbering.{renumbered}
use Rattle.source_units.specs.Files.{FileTokens, AreTokens, IsUnit}
use Rattle.source_units.specs.Names.{names_with, AreNumbers}

-- The unit of the file, where each of its names has its number among these names.
pub record IsUnitAmong (names : List (List ℕ)) (f : FileTokens) (u : CompilationUnit) : Type 0 where
  pub own : CompilationUnit
  pub is_unit : IsUnit f own
  pub numbers : List NameId
  pub numbered : AreNumbers names f.names numbers
  pub renumbered : u ≡ renumbered numbers own

-- The units of files with these tokens, and the names of all after the names before.
pub record AreRead (fs : List FileTokens) (before : List (List ℕ)) (units : List CompilationUnit) (names : List (List ℕ)) : Type 0 where
  pub names_are : names ≡ names_with before fs
  pub units_are : AllZip (IsUnitAmong names) fs units

-- The units of the files, and the names of all after the names before.
pub record AreUnitsOf (files before : List (List ℕ)) (units : List CompilationUnit) (names : List (List ℕ)) : Type 0 where
  pub tokens : List FileTokens
  pub lexed : AreTokens 0 files tokens
  pub read : AreRead tokens before units names
