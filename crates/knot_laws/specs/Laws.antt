-- Laws of what is read of at most some height: it is the longest tree of the grammar that is spelled there. And laws of the
-- grammar that follow from it: no two trees spell the same tokens.
use Rattle.std.specs.Prelude.{◌≡◌, ℕ, ◌≤◌, List, ◌++◌, Some, None, IfSome}
use Rattle.je_token.specs.declared.token.Token.{Token}
use Rattle.je_ast.specs.Height.{height, statement_height, member_height, declaration_height}
use Rattle.je_grammar.specs.Grammar.{Spells, SpellsBlockStatement, SpellsMember, SpellsDeclaration}
use Rattle.je_grammar.specs.Longest.{IsLongest}
use Rattle.parse_laws.specs.way.Tokens.{Read}
use Rattle.parse_laws.specs.way.Readers.{IsBelow}
use Rattle.parse_laws.specs.way.Knot.{at, declaration_at}

-- What is read is the longest tree of at most this height, and nothing is read exactly where there is none.
pub record ReadsLongest {T : Type 0} (spells : T → List Token → List Token → Type 0) (height_of : T → ℕ) (most : ℕ) (f : List Token → Read T) : Type 0 where
  pub found : (ts : List Token) → IfSome (f ts) (λ x. IsLongest spells height_of most x.0 ts x.1)
  pub none : (ts : List Token) → f ts ≡ None → (t : T) (rest : List Token) → spells t ts rest → ¬ (height_of t ≤ most)
  pub longest : (t : T) (ts rest : List Token) → IsLongest spells height_of most t ts rest → f ts ≡ Some (t, rest)

-- All that reads trees of at most some height reads right.
abbrev pub AllIsRead : Type 0
AllIsRead = (names texts : List (List ℕ)) (most : ℕ) → IsBelow names texts most (at names texts most)

abbrev pub LongestExpressionsAreRead : Type 0
LongestExpressionsAreRead = (names texts : List (List ℕ)) (most : ℕ) → ReadsLongest (Spells names texts) height most ((at names texts most).expression 1)

abbrev pub LongestStatementsAreRead : Type 0
LongestStatementsAreRead = (names texts : List (List ℕ)) (most : ℕ) → ReadsLongest (SpellsBlockStatement names texts) statement_height most (at names texts most).block_statement

abbrev pub LongestMembersAreRead : Type 0
LongestMembersAreRead = (names texts : List (List ℕ)) (most : ℕ) → ReadsLongest (SpellsMember names texts) member_height most (at names texts most).member

abbrev pub LongestDeclarationsAreRead : Type 0
LongestDeclarationsAreRead = (names texts : List (List ℕ)) (most : ℕ) → ReadsLongest (SpellsDeclaration names texts) declaration_height most (declaration_at names texts most)

-- Two trees that spell the same tokens are equal, with all their spans, whatever follows.
abbrev pub SpellsOnce : {T : Type 0} → (T → List Token → List Token → Type 0) → Type 0
SpellsOnce {T} spells = (t u : T) (front rest other : List Token) → spells t (front ++ rest) rest → spells u (front ++ other) other → t ≡ u

-- The trees that begin at one place are one tree: where it ends is told by its own tokens.
abbrev pub BeginsOnce : {T : Type 0} → (T → List Token → List Token → Type 0) → Type 0
BeginsOnce {T} spells = (t u : T) (ts rest other : List Token) → spells t ts rest → spells u ts other → (t ≡ u) × (rest ≡ other)

-- The longest tree at a place is one tree.
abbrev pub IsLongestOnce : {T : Type 0} → (T → List Token → List Token → Type 0) → (T → ℕ) → Type 0
IsLongestOnce {T} spells height_of = (most : ℕ) (t u : T) (ts rest other : List Token) → IsLongest spells height_of most t ts rest → IsLongest spells height_of most u ts other → (t ≡ u) × (rest ≡ other)
