-- Laws of reading whole files, and that a file has one unit.
use Rattle.std.specs.Prelude.{◌≡◌, ℕ, ◌≤◌, List, Some, IfSome}
use Rattle.je_token.specs.declared.token.Token.{Token}
use Rattle.je_ast.specs.Trees.{CompilationUnit}
use Rattle.je_ast.specs.Height.{unit_height}
use Rattle.je_grammar.specs.Grammar.{SpellsUnit}
use Rattle.parse_laws.specs.way.Knot.{unit_at}

pub record IsUnitRead (names texts : List (List ℕ)) (most : ℕ) (ts : List Token) (u : CompilationUnit) : Type 0 where
  pub spelled : SpellsUnit names texts u ts
  pub within : unit_height u.declarations ≤ most

-- What is read spells all tokens, with declarations of at most this height.
abbrev pub UnitsAreSpelled : Type 0
UnitsAreSpelled = (names texts : List (List ℕ)) (most : ℕ) (ts : List Token) → IfSome (unit_at names texts most ts) (IsUnitRead names texts most ts)

-- A unit that spells them is read.
abbrev pub UnitsAreRead : Type 0
UnitsAreRead = (names texts : List (List ℕ)) (most : ℕ) (u : CompilationUnit) (ts : List Token) → SpellsUnit names texts u ts → unit_height u.declarations ≤ most → unit_at names texts most ts ≡ Some u

-- Two units that spell the same tokens are equal, with all their spans.
abbrev pub UnitIsOne : Type 0
UnitIsOne = (names texts : List (List ℕ)) (u v : CompilationUnit) (ts : List Token) → SpellsUnit names texts u ts → SpellsUnit names texts v ts → u ≡ v
