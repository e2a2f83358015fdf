-- One character more is placed.
use Rattle.std.proofs.Common.{◌≡◌, ℕ, suc, ◌+◌, ◌*◌, ◌<◌, ◌≤◌, List, [], ◌∷◌, ◌++◌, length, drop, get_or, sym, ◌∙◌, ap, append_assoc, append-nil, refl, arith}
use Rattle.std.specs.Char.{encode_utf8}
use Rattle.std.specs.Str.{chars, IsUtf8}
use Rattle.std.proofs.lemmas.List.{at_drop_more, at_drop_all}
use Rattle.std.proofs.lemmas.Str.{encodes-chars, length-le-encodes}
use Rattle.je_decode.specs.Places.{placed}
use Rattle.je_decode.specs.declared.character.Character.{Character}

-- the first n characters of the text are placed, and the next begins at this byte
pub record IsPlaced (cs : List ℕ) (n start : ℕ) (all : List Character) : Type 0 where
  pub told : all ++ placed start (drop n cs) ≡ placed 0 cs
  pub near : start ≤ 4 * n

pub placed_more : (cs : List ℕ) (n start end c : ℕ) (all : List Character) → IsPlaced cs n start all → n < length cs → c ≡ get_or cs n c → end ≡ start + length (encode_utf8 c) → length (encode_utf8 c) ≤ 4 →
    IsPlaced cs (n + 1) end (all ++ record { code = c; start = start; end = end } ∷ [])
placed_more cs n start end c all before inside is fits short =
    let item : Character = record { code = c; start = start; end = end } in
    let next : placed start (drop n cs) ≡ item ∷ placed end (drop (n + 1) cs) = at_drop_more (placed start) cs n c inside ∙ rw (← is, ← fits) refl in
    record {
      told = append_assoc all (item ∷ []) (placed end (drop (n + 1) cs)) ∙ ap (λ xs. all ++ xs) (sym next) ∙ before.told;
      near = omega (arith, before.near);
    }

pub placed_all : (cs : List ℕ) (n start : ℕ) (all : List Character) → IsPlaced cs n start all → n ≡ length cs → all ≡ placed 0 cs
placed_all cs n start all before whole =
    let over : placed start (drop n cs) ≡ [] = at_drop_all (placed start) cs n (omega arith) in
    sym (append-nil all) ∙ ap (λ xs. all ++ xs) (sym over) ∙ before.told

pub few_chars : (text : List ℕ) → IsUtf8 text → length (chars text) ≤ length text
few_chars text good = let few = length-le-encodes (chars text) in let same = ap length (encodes-chars text good) in omega arith

length-placed : (at : ℕ) (cs : List ℕ) → length (placed at cs) ≡ length cs
length-placed at [] = refl
length-placed at (c ∷ cs) = ap suc (length-placed (at + length (encode_utf8 c)) cs)

pub few_placed : (text : List ℕ) (all : List Character) → IsUtf8 text → all ≡ placed 0 (chars text) → length all ≤ length text
few_placed text all good is = let few = few_chars text good in let same = length-placed 0 (chars text) in let whole = ap length is in omega arith
