-- What stands behind the first elements of a list.
use Rattle.std.proofs.Common.{◌≡◌, ℕ, zero, suc, List, [], ◌∷◌, ◌++◌, drop, take, refl, sym, ap, ◌∙◌}

pub drop_front : {X : Type 0} (n : ℕ) (xs : List X) (f : List X → List X) → f [] ≡ [] →
    drop n (take n xs ++ f (drop n xs)) ≡ f (drop n xs)
drop_front zero xs f e = refl
drop_front (suc n) [] f e = ap (drop (suc n)) e ∙ sym e
drop_front (suc n) (x ∷ xs) f e = drop_front n xs f e
