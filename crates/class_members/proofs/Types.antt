-- Where one list of types is at its end and the other isn't, they differ.
use Rattle.std.proofs.Common.{◌≡◌, ℕ, zero, suc, ◌<◌, List, [], ◌∷◌, length, drop, refl, arith}
use Rattle.std.specs.Prelude.{false}
use Rattle.je_core.specs.declared.types.Ty.{Ty}
use Rattle.je_classes.specs.Subtypes.{same_types}

pub none_left : (xs ys : List Ty) (i : ℕ) → i < length xs → length ys ≡ 0 → same_types (drop i xs) ys ≡ false
none_left [] ys i l e = absurd (omega arith)
none_left (x ∷ xs) (y ∷ ys) i l e = absurd (omega arith)
none_left (x ∷ xs) [] zero l e = refl
none_left (x ∷ xs) [] (suc i) l e = none_left xs [] i (omega arith) refl
