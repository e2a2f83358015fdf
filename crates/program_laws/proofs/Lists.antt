-- Elements of lists; what no test gives.
use Rattle.std.proofs.Common.{◌≡◌, List, [], ◌∷◌}
use Rattle.std.specs.Prelude.{Bool, true, false}
use Rattle.std.specs.List.{All}
use Rattle.std.proofs.lemmas.List.Elements.{All-cons, All-nil}
use Rattle.je_classes.specs.Members.{In, first, further}

pub clash : (b : Bool) → b ≡ true → ¬ (b ≡ false)
clash true h k = absurd cc
clash false h k = absurd cc

pub all-in : {A : Type 0} (P : A → Type 0) (xs : List A) → ((x : A) → In xs x → P x) → All P xs
all-in P [] f = All-nil P
all-in P (x ∷ xs) f = All-cons P x xs (f x first) (all-in P xs (λ y q. f y (further q)))
