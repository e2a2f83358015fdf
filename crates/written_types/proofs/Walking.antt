-- Walks through lists, one element after the other, up to the first fault.
use Rattle.std.proofs.Common.{◌≡◌, ℕ, suc, ◌+◌, ◌<◌, ◌≤◌, List, [], ◌∷◌, length, drop, get_or, ap, sym, subst, ◌∙◌, add-one, drop-cons}
use Rattle.std.proofs.Math.ListN.{drop_of_length-le}
use Rattle.je_typing.specs.declared.fault.Refusal.{Refusal}
use Rattle.je_typing.specs.Judged.{Judged, gives, bind}
use Rattle.je_typing.specs.Answers.{IsFault}
use Rattle.je_typing.proofs.Walks.{bind_gives, bind_faults}

pub fault_of : {A : Type 0} {m n : Judged A} {r : Refusal} → m ≡ n → IsFault n r → IsFault m r
fault_of {A = A} {r = r} e h = subst (λ (j : Judged A). IsFault j r) (sym e) h

left_at : {A : Type 0} (xs : List A) (i : ℕ) (x : A) → i < length xs → x ≡ get_or xs i x → drop i xs ≡ x ∷ drop (i + 1) xs
left_at {A = A} xs i x within is = rw (add-one, drop-cons xs i x) (ap (λ (k : A). k ∷ drop (suc i) xs) (sym is))

-- A walk has come to an element. What it goes by is `s` before that, and `t` behind it.
module _ {S A : Type 0} (walk : S → List A → Judged (Unit {0})) (xs : List A) (i : ℕ) (s : S) (whole : Judged (Unit {0})) where
  module _ (x : A) (step : Judged (Unit {0})) (t : S) (law : (ys : List A) → walk s (x ∷ ys) ≡ bind step (λ (done : Unit {0}). walk t ys))
      (within : i < length xs) (is : x ≡ get_or xs i x) (met : whole ≡ walk s (drop i xs)) where
    here : whole ≡ bind step (λ (done : Unit {0}). walk t (drop (i + 1) xs))
    here = met ∙ ap (walk s) (left_at xs i x within is) ∙ law (drop (i + 1) xs)

    pub walk_on : (done : Unit {0}) → step ≡ gives done → whole ≡ walk t (drop (i + 1) xs)
    walk_on done g = here ∙ bind_gives step (λ (d : Unit {0}). walk t (drop (i + 1) xs)) done g

    pub walk_fails : (r : Refusal) → IsFault step r → IsFault whole r
    walk_fails r f = fault_of here (bind_faults step (λ (d : Unit {0}). walk t (drop (i + 1) xs)) r f)

  pub walk_ends : length xs ≤ i → whole ≡ walk s (drop i xs) → whole ≡ walk s []
  walk_ends past met = met ∙ ap (walk s) (drop_of_length-le xs past)
