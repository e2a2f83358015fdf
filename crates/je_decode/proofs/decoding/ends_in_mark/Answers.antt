-- The last character of a list, by recursion and by place.
use Rattle.std.proofs.Common.{◌≡◌, ℕ, zero, suc, ◌-◌, ◌==◌, List, [], ◌∷◌, Some, length, refl, arith}
use Rattle.std.specs.List.{slice_get}
use Rattle.je_decode.specs.Decoding.{ends_in_mark}
use Rattle.je_decode.specs.declared.character.Character.{Character}
use Rattle.je_decode.proofs.decoding.ends_in_mark.Goals as goal

last_at : (xs : List Character) (n : ℕ) (c : Character) → length xs ≡ suc n → Some c ≡ slice_get xs n → (c.code == 26) ≡ ends_in_mark xs
last_at [] n c len at = cc
last_at (x ∷ []) zero c len at = let e : c ≡ x = cc in rw e refl
last_at (x ∷ []) (suc n) c len at = absurd (omega arith)
last_at (x ∷ y ∷ ys) zero c len at = absurd (omega arith)
last_at (x ∷ y ∷ ys) (suc n) c len at = last_at (y ∷ ys) n c (omega arith) at

last_is : (xs : List Character) (n : ℕ) (c : Character) → n ≡ length xs - 1 → Some c ≡ slice_get xs n → (c.code == 26) ≡ ends_in_mark xs
last_is [] n c e at = cc
last_is (x ∷ xs) n c e at = last_at (x ∷ xs) n c (omega arith) at

pub returns-in-Some : goal.returns-in-Some
returns-in-Some c = last_is c.args.all.now _ c.in-Some.c.now refl c.in-Some.ensures.value
