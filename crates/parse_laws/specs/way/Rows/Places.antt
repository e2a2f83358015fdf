-- Worked rows of syntax places: the tokens from each on, and the same by the quick way.
use Rattle.std.specs.Prelude.{◌≡◌, refl, ℕ, List, [], ◌∷◌}
use Rattle.je_token.specs.declared.keyword.Keyword.TheVariants as word
use Rattle.je_token.specs.declared.symbol.Symbol.TheVariants as symbol
use Rattle.je_token.specs.declared.token.Token.{Token}
use Rattle.je_grammar.specs.Rows.Scale.{end, id, names, sy, texts, wd}
use Rattle.parse_laws.specs.way.Opened.{opened}
use Rattle.parse_laws.specs.way.Place.{place_at, quick_place_at}

-- both ways, with items of at most this height
abbrev Places : ℕ → List Token → List Token → Type 0
Places most ts place = (place_at names texts most ts ≡ place) × (quick_place_at names texts most ts ≡ place)

-- else
no_item_row : Places 12 (wd word.Else 0 ∷ end 4 ∷ []) (wd word.Else 0 ∷ end 4 ∷ [])
unfolding opened
no_item_row = (refl, refl)

-- class A {
open_class_row : Places 12 (wd word.Class 0 ∷ id 26 6 ∷ sy symbol.OpenBrace 8 ∷ end 9 ∷ []) (end 9 ∷ [])
unfolding opened
open_class_row = (refl, refl)

-- class A { int f( }
member_row : Places 12 (wd word.Class 0 ∷ id 26 6 ∷ sy symbol.OpenBrace 8 ∷ wd word.Int 10 ∷ id 5 14 ∷ sy symbol.OpenParen 15 ∷ sy symbol.CloseBrace 17 ∷ end 18 ∷ [])
    (wd word.Int 10 ∷ id 5 14 ∷ sy symbol.OpenParen 15 ∷ sy symbol.CloseBrace 17 ∷ end 18 ∷ [])
unfolding opened
member_row = (refl, refl)

-- class A { A() { this(); else } }
constructor_row : Places 12 (wd word.Class 0 ∷ id 26 6 ∷ sy symbol.OpenBrace 8 ∷ id 26 10 ∷ sy symbol.OpenParen 11 ∷ sy symbol.CloseParen 12 ∷ sy symbol.OpenBrace 14 ∷ wd word.This 16 ∷ sy symbol.OpenParen 20 ∷ sy symbol.CloseParen 21
    ∷ sy symbol.Semicolon 22 ∷ wd word.Else 24 ∷ sy symbol.CloseBrace 29 ∷ sy symbol.CloseBrace 31 ∷ end 32 ∷ []) (wd word.Else 24 ∷ sy symbol.CloseBrace 29 ∷ sy symbol.CloseBrace 31 ∷ end 32 ∷ [])
unfolding opened
constructor_row = (refl, refl)

-- import a; class A { } }
behind_row : Places 12 (wd word.Import 0 ∷ id 0 7 ∷ sy symbol.Semicolon 8 ∷ wd word.Class 10 ∷ id 26 16 ∷ sy symbol.OpenBrace 18 ∷ sy symbol.CloseBrace 20 ∷ sy symbol.CloseBrace 22 ∷ end 23 ∷ []) (sy symbol.CloseBrace 22 ∷ end 23 ∷ [])
unfolding opened
behind_row = (refl, refl)

-- class A { static { { { } } } }, with a limit of 3: the innermost block is the first that is too high
too_high_row : Places 3 (wd word.Class 0 ∷ id 26 6 ∷ sy symbol.OpenBrace 8 ∷ wd word.Static 10 ∷ sy symbol.OpenBrace 17 ∷ sy symbol.OpenBrace 19 ∷ sy symbol.OpenBrace 21 ∷ sy symbol.CloseBrace 23 ∷ sy symbol.CloseBrace 25 ∷ sy symbol.CloseBrace 27
    ∷ sy symbol.CloseBrace 29 ∷ end 30 ∷ []) (wd word.Static 10 ∷ sy symbol.OpenBrace 17 ∷ sy symbol.OpenBrace 19 ∷ sy symbol.OpenBrace 21 ∷ sy symbol.CloseBrace 23 ∷ sy symbol.CloseBrace 25 ∷ sy symbol.CloseBrace 27 ∷ sy symbol.CloseBrace 29 ∷ end 30 ∷ [])
unfolding opened
too_high_row = (refl, refl)
