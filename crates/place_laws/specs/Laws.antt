-- Laws of the place where a file goes wrong: it is found, and there is one.
use Rattle.std.specs.Prelude.{◌≡◌, ℕ, List, ◌∷◌}
use Rattle.je_token.specs.declared.token.Token.{Token}
use Rattle.je_token.specs.declared.token.TokenKind.TheVariants as kind
use Rattle.je_grammar.specs.Tokens.{Is}
use Rattle.je_grammar.specs.Place.{IsSyntaxPlace}
use Rattle.parse_laws.specs.way.Place.{place_at, quick_place_at}

-- the file's end stands among the tokens
pub data HasEnd : List Token → Type 0 where
  ends_here : {t : Token} {rest : List Token} → Is kind.End t → HasEnd (t ∷ rest)
  ends_later : {t : Token} {rest : List Token} → HasEnd rest → HasEnd (t ∷ rest)

-- The place that is found is the syntax place.
abbrev pub PlaceIsFound : Type 0
PlaceIsFound = (names texts : List (List ℕ)) (most : ℕ) (ts : List Token) → HasEnd ts → IsSyntaxPlace names texts most ts (place_at names texts most ts)

-- It is the only one.
abbrev pub PlaceIsOne : Type 0
PlaceIsOne = (names texts : List (List ℕ)) (most : ℕ) (ts place other : List Token) → IsSyntaxPlace names texts most ts place → IsSyntaxPlace names texts most ts other → place ≡ other

-- The quick way finds the same.
abbrev pub QuickPlaceIsSame : Type 0
QuickPlaceIsSame = (names texts : List (List ℕ)) (most : ℕ) (ts : List Token) → quick_place_at names texts most ts ≡ place_at names texts most ts
