-- A number has one text, and a text one number.
use Rattle.std.proofs.Common.{◌≡◌, ℕ, zero, suc, Bool, true, false, nat_eq, List, [], ◌∷◌, ◌++◌, length, Option, Some, refl, sym, ap, subst, ◌∙◌, arith, length-append}
use Rattle.std.specs.Prelude.{slice_get, if◌then◌else◌}
use Rattle.std.specs.List.{IsDistinct, AllByRecursion}
use Rattle.std.proofs.lemmas.Bool.{eqb-true, eq-eqb}
use Rattle.std.proofs.lemmas.Map.Keys.{IsDistinct-head, IsDistinct-tail}
use Rattle.std.proofs.lemmas.Option.{slice_get_within}
use Rattle.name_walk.proofs.Standing.{slice_get-append}
use Rattle.binary_names.specs.Steps.{Spells, empty, longer, same_step}
use Rattle.binary_names.proofs.Tests.{both}

some-same : {A : Type 0} (a b : A) → Some a ≡ Some b → a ≡ b
some-same a b e = cc

-- ---- lists with one more at their ends

ends-apart : (xs : List ℕ) (x : ℕ) → [] ≡ xs ++ x ∷ [] → ⊥
ends-apart xs x e = let n = ap length e in let m = length-append xs (x ∷ []) in omega (arith, n, m)

pub ends_same : (xs ys : List ℕ) (x y : ℕ) → xs ++ x ∷ [] ≡ ys ++ y ∷ [] → (xs ≡ ys) × (x ≡ y)
ends_same [] [] x y e = (refl, cc)
ends_same [] (j ∷ ys) x y e = let t : [] ≡ ys ++ y ∷ [] = cc in absurd (ends-apart ys y t)
ends_same (i ∷ xs) [] x y e = let t : [] ≡ xs ++ x ∷ [] = cc in absurd (ends-apart xs x t)
ends_same (i ∷ xs) (j ∷ ys) x y e =
    let h : i ≡ j = cc in let t : xs ++ x ∷ [] ≡ ys ++ y ∷ [] = cc in
    let r = ends_same xs ys x y t in (λ k. h k ∷ r.0 k, r.1)

-- ---- steps that differ

step-itself : (a : ℕ × ℕ) → same_step a a ≡ true
step-itself a = rw (eq-eqb a.0 a.0 refl, eq-eqb a.1 a.1 refl) refl

all-at : {A : Type 0} (P : A → Type 0) (xs : List A) (k : ℕ) (a : A) → AllByRecursion P xs → slice_get xs k ≡ Some a → P a
all-at P [] k a h e = absurd (cc)
all-at P (x ∷ xs) zero a h e = subst P (some-same x a e) h.0
all-at P (x ∷ xs) (suc k) a h e = all-at P xs k a h.1 e

apart : (x a : ℕ × ℕ) (xs : List (ℕ × ℕ)) (k : ℕ) → AllByRecursion (λ y. same_step x y ≡ false) xs → x ≡ a → slice_get xs k ≡ Some a → ⊥
apart x a xs k h s e =
    let f : same_step x a ≡ false = all-at (λ y. same_step x y ≡ false) xs k a h e in
    let t : same_step x a ≡ true = subst (λ y. same_step x y ≡ true) s (step-itself x) in
    let c : true ≡ false = sym t ∙ f in absurd (cc)

pub one_place : (xs : List (ℕ × ℕ)) → IsDistinct same_step xs → (i k : ℕ) (a : ℕ × ℕ) → slice_get xs i ≡ Some a → slice_get xs k ≡ Some a → i ≡ k
one_place [] d i k a e f = absurd (cc)
one_place (x ∷ xs) d zero zero a e f = refl
one_place (x ∷ xs) d zero (suc k) a e f = absurd (apart x a xs k (IsDistinct-head same_step x xs d) (some-same x a e) f)
one_place (x ∷ xs) d (suc i) zero a e f = absurd (apart x a xs i (IsDistinct-head same_step x xs d) (some-same x a f) e)
one_place (x ∷ xs) d (suc i) (suc k) a e f = ap suc (one_place xs (IsDistinct-tail same_step x xs d) i k a e f)

-- ---- texts

pub same_text : (steps : List (ℕ × ℕ)) (m n : ℕ) (s t : List ℕ) → Spells steps m s → Spells steps n t → m ≡ n → s ≡ t
same_text steps m n s t (empty a b) (empty c d) e = b ∙ sym d
same_text steps m n s t (empty a b) (longer k j y v c d g r) e = absurd (omega arith)
same_text steps m n s t (longer i l x u a b f q) (empty c d) e = absurd (omega arith)
same_text steps m n s t (longer i l x u a b f q) (longer k j y v c d g r) e =
    let h : i ≡ k = omega arith in
    let p : (l, x) ≡ (j, y) = some-same (l, x) (j, y) (sym f ∙ ap (slice_get steps) h ∙ g) in
    let w : u ≡ v = same_text steps l j u v q r (ap (λ (z : ℕ × ℕ). z.0) p) in
    b ∙ (λ z. w z ++ (p z).1 ∷ []) ∙ sym d

pairs-same : (l j x y : ℕ) → l ≡ j → x ≡ y → ◌≡◌ {A = Option (ℕ × ℕ)} (Some (l, x)) (Some (j, y))
pairs-same l j x y e f = let p : (l, x) ≡ (j, y) = λ i. (e i, f i) in ap Some p

pub same_number : (steps : List (ℕ × ℕ)) → IsDistinct same_step steps → (m n : ℕ) (s t : List ℕ) → Spells steps m s → Spells steps n t → s ≡ t → m ≡ n
same_number steps once m n s t (empty a b) (empty c d) e = a ∙ sym c
same_number steps once m n s t (empty a b) (longer k j y v c d g r) e = absurd (ends-apart v y (sym b ∙ e ∙ d))
same_number steps once m n s t (longer i l x u a b f q) (empty c d) e = absurd (ends-apart u x (sym d ∙ sym e ∙ b))
same_number steps once m n s t (longer i l x u a b f q) (longer k j y v c d g r) e =
    let z = ends_same u v x y (sym b ∙ e ∙ d) in
    let w : l ≡ j = same_number steps once l j u v q r z.0 in
    let h : i ≡ k = one_place steps once i k (l, x) f (g ∙ sym (pairs-same l j x y w z.1)) in
    a ∙ ap suc h ∙ sym c

-- ---- further steps

pub still_spells : (old new : List (ℕ × ℕ)) → ((i : ℕ) (a : ℕ × ℕ) → slice_get old i ≡ Some a → slice_get new i ≡ Some a) → (n : ℕ) (t : List ℕ) → Spells old n t → Spells new n t
still_spells old new h n t (empty a b) = empty a b
still_spells old new h n t (longer k m y s a b f q) = longer k m y s a b (h k (m, y) f) (still_spells old new h m s q)

pub still_there : (ks : List (ℕ × ℕ)) (k : ℕ × ℕ) (b : Bool) (i : ℕ) (a : ℕ × ℕ) → slice_get ks i ≡ Some a → slice_get (if b then ks else ks ++ k ∷ []) i ≡ Some a
still_there ks k true i a e = e
still_there ks k false i a e = slice_get-append ks (k ∷ []) i (slice_get_within ks i a e) ∙ e

pub step_same : (a b : ℕ × ℕ) → same_step a b ≡ true → a ≡ b
step_same a b e = let q = both (nat_eq a.0 b.0) (nat_eq a.1 b.1) e in λ i. (eqb-true a.0 b.0 q.0 i, eqb-true a.1 b.1 q.1 i)

-- ---- one step more, and the texts that it spells

module _ (old new : List (ℕ × ℕ)) (step k : ℕ × ℕ) (b : Bool) (grown : new ≡ (if b then old else old ++ step ∷ [])) where
  pub stays_spelled : (n : ℕ) (t : List ℕ) → Spells old n t → Spells new n t
  stays_spelled n t h = subst (λ (ks : List (ℕ × ℕ)). Spells ks n t) (sym grown) (still_spells old (if b then old else old ++ step ∷ []) (still_there old step b) n t h)

  pub spelled_longer : (at n : ℕ) → n ≡ suc at → slice_get new at ≡ Some k → same_step step k ≡ true → (t : List ℕ) → Spells old step.0 t → Spells new n (t ++ step.1 ∷ [])
  spelled_longer at n e there same t h =
      let s : Some k ≡ Some step = ap Some (sym (step_same step k same)) in
      longer at step.0 step.1 t e refl (there ∙ s) (stays_spelled step.0 t h)
