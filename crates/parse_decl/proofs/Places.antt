-- The place that the loop over items comes to is the syntax place of the file.
use Rattle.std.proofs.Common.{◌≡◌, ℕ, ◌-◌, ◌<◌, ◌≤◌, List, [], ◌∷◌, ◌++◌, length, drop, sym, ap, subst, arith, length-drop}
use Rattle.je_token.specs.declared.token.Token.{Token}
use Rattle.je_token.specs.declared.token.TokenKind.TheVariants as kind
use Rattle.je_grammar.specs.Place.{IsSyntaxPlace}
use Rattle.je_lexer.specs.Lexing.{AreWhole}
use Rattle.parse_laws.proofs.Fronts.{is_of}
use Rattle.parse_laws.specs.way.Place.{quick_place_at}
use Rattle.place_laws.specs.Laws.{HasEnd, ends_here, ends_later}
use Rattle.place_laws.proofs.Follows.{place_found}
use Rattle.place_laws.proofs.Quick.{quick_same}
use Rattle.parse_place.proofs.Tails.{place_last, place_some}

ends_behind : (front : List Token) (t : Token) → t.kind ≡ kind.End → HasEnd (front ++ t ∷ [])
ends_behind [] t e = ends_here (is_of kind.End t e)
ends_behind (u ∷ front) t e = ends_later (ends_behind front t e)

has_end : (list : List Token) (names texts : List (List ℕ)) → AreWhole list names texts → HasEnd list
has_end list names texts w = subst HasEnd (sym w.whole) (ends_behind w.front w.last w.ended)

module _ (names texts : List (List ℕ)) (list : List Token) where
  found : AreWhole list names texts → IsSyntaxPlace names texts 300 list (quick_place_at names texts 300 list)
  found w = rw (quick_same names texts 300 list) (place_found names texts 300 list (has_end list names texts w))

  pub is_place : (names1 texts1 : List (List ℕ)) (below : ℕ) (ts place : List Token) → AreWhole list names texts → place ≡ quick_place_at names1 texts1 below ts → names1 ≡ names → texts1 ≡ texts → below ≡ 300 → ts ≡ list →
      IsSyntaxPlace names texts 300 list (drop (length list - length place) list) × (length list - length place < length list) × (length place ≤ length list)
  is_place names1 texts1 below ts place w e p q r s =
      let g : place ≡ quick_place_at names texts 300 list = rw (p, q, r, s) at e in
      let f : IsSyntaxPlace names texts 300 list place = rw g (found w) in
      let d = place_last names texts 300 f in
      let some = place_some names texts 300 f in
      (rw d f, omega (arith, ap length d, length-drop (length list - length place) list), omega (arith, ap length d, length-drop (length list - length place) list))
