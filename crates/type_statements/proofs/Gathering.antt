-- Walks along lists that gather what comes: one thing after the other, up to the first fault.
use Rattle.std.proofs.Common.{◌≡◌, ℕ, ◌+◌, ◌<◌, ◌≤◌, List, [], ◌∷◌, length, drop, get_or, refl, ap, sym, subst, ◌∙◌}
use Rattle.std.proofs.lemmas.List.{drop_all, drop_more}
use Rattle.je_typing.specs.declared.fault.Refusal.{Refusal}
use Rattle.je_typing.specs.Judged.{Judged, gives, faulty, bind}
use Rattle.je_typing.specs.Answers.{IsFault}
use Rattle.je_typing.proofs.Walks.{bind_gives, bind_faults}

-- what comes behind that which is gathered so far
abbrev pub gathered : {D : Type 0} → (D → D) → Judged D → Judged D
gathered so_far m = bind m (λ rest. gives (so_far rest))

gathered-more : {D : Type 0} (so_far add more : D → D) (m : Judged D) → ((rest : D) → so_far (add rest) ≡ more rest) →
    gathered so_far (bind m (λ rest. gives (add rest))) ≡ gathered more m
unfolding bind
gathered-more so_far add more (gives rest) h = ap gives (h rest)
gathered-more so_far add more (faulty fault) h = refl

-- A walk at a state: a step for the first of a list, and the rest at the state behind it.
module _ {X S E D : Type 0} (walk : S → List X → Judged D) (step : S → X → Judged E) (next : S → X → E → S) (add : S → X → E → D → D)
    (law : (s : S) (x : X) (xs : List X) → walk s (x ∷ xs) ≡ bind (step s x) (λ e. bind (walk (next s x e) xs) (λ rest. gives (add s x e rest))))
    (xs : List X) (i : ℕ) (s : S) (whole : Judged D) (so_far : D → D) where
  module _ (x : X) (within : i < length xs) (is : x ≡ get_or xs i x) (met : whole ≡ gathered so_far (walk s (drop i xs))) where
    rest_at : E → Judged D
    rest_at e = bind (walk (next s x e) (drop (i + 1) xs)) (λ rest. gives (add s x e rest))

    here : whole ≡ gathered so_far (bind (step s x) rest_at)
    unfolding rest_at
    here = met
        ∙ ap (λ (l : List X). gathered so_far (walk s l)) (drop_more xs i x within ∙ ap (λ (k : X). k ∷ drop (i + 1) xs) (sym is))
        ∙ ap (gathered so_far) (law s x (drop (i + 1) xs))

    pub gathers_on : (e : E) (t : S) (more : D → D) → step s x ≡ gives e → t ≡ next s x e → ((rest : D) → so_far (add s x e rest) ≡ more rest) →
        whole ≡ gathered more (walk t (drop (i + 1) xs))
    unfolding rest_at
    gathers_on e t more g n h =
        here
        ∙ ap (gathered so_far) (bind_gives (step s x) rest_at e g)
        ∙ gathered-more so_far (add s x e) more (walk (next s x e) (drop (i + 1) xs)) h
        ∙ ap (λ (u : S). gathered more (walk u (drop (i + 1) xs))) (sym n)

    pub gather_fails : (r : Refusal) → IsFault (step s x) r → IsFault whole r
    gather_fails r f =
        subst (λ (j : Judged D). IsFault j r) (sym here)
        (bind_faults (bind (step s x) rest_at) (λ rest. gives (so_far rest)) r (bind_faults (step s x) rest_at r f))

  -- behind the last one
  pub gathered_all : (end all : D) → length xs ≤ i → walk s [] ≡ gives end → so_far end ≡ all → whole ≡ gathered so_far (walk s (drop i xs)) →
      whole ≡ gives all
  gathered_all end all past none is met =
      met ∙ ap (λ (l : List X). gathered so_far (walk s l)) (drop_all i xs past)
      ∙ bind_gives (walk s []) (λ rest. gives (so_far rest)) end none ∙ ap gives is
