-- Elements of lists.
use Rattle.std.proofs.Common.{◌≡◌, List, [], ◌∷◌, map, refl, inl, inr}
use Rattle.std.specs.Prelude.{◌⊎◌}
use Rattle.std.specs.List.{Contains}
use Rattle.je_classes.specs.Members.{In, first, further}
use Rattle.je_classes.proofs.Lists.{contains-here, contains-later}
use Rattle.je_classes.proofs.Sets.{by_either}

pub record Mapped {A B : Type 0} (f : A → B) (xs : List A) (y : B) : Type 0 where
  pub from : A
  pub there : In xs from
  pub is : f from ≡ y

pub mapped : {A B : Type 0} (f : A → B) (xs : List A) (y : B) → In (map f xs) y → Mapped f xs y
mapped f [] y q = elim q [ ]
mapped f (x ∷ xs) y first = record { from = x; there = first; is = refl }
mapped f (x ∷ xs) y (further q) = let m = mapped f xs y q in record { from = m.from; there = further m.there; is = m.is }

pub in-cases : {A : Type 0} (x y : A) (xs : List A) → In (x ∷ xs) y → (y ≡ x) ⊎ In xs y
in-cases x _ xs first = inl refl
in-cases x y xs (further q) = inr q

pub in-one : {A : Type 0} (x y : A) → In (x ∷ []) y → y ≡ x
in-one x y q = by_either (λ e. e) (λ r. elim r [ ]) (in-cases x y [] q)

pub contains-in : {A : Type 0} (xs : List A) (x : A) → In xs x → Contains xs x
contains-in [] x q = elim q [ ]
contains-in (y ∷ xs) _ first = contains-here y xs
contains-in (y ∷ xs) x (further q) = contains-later y x xs (contains-in xs x q)
