-- How many static fields stand before a class.
use Rattle.std.proofs.Common.{◌≡◌, ℕ, zero, suc, ◌+◌, ◌*◌, ◌<◌, ◌≤◌, ◌++◌, List, [], ◌∷◌, length, take, Some, ap, ◌∙◌, arith, inl, inr}
use Rattle.std.specs.Prelude.{◌⊎◌, slice_get}
use Rattle.std.specs.List.{count_by, sum_by}
use Rattle.std.proofs.lemmas.Bool.{cases_lt}
use Rattle.std.proofs.lemmas.List.Sums.{count_by-le-length, sum_by-append}
use Rattle.std.proofs.lemmas.List.{take_more}
use Rattle.std.proofs.lemmas.Option.{slice_get_within, get_or_from_slice_get}
use Rattle.je_core.specs.Core.{CoreClass, CoreProgram}
use Rattle.class_tables.specs.Few.{AreFew}
use Rattle.je_classes.specs.Statics.{is_static, static_count, statics_before}
use Rattle.class_tables.specs.way.Slots.{fields_at}
use Rattle.class_tables.proofs.Orders.{get-old, get-new, get-there}

sum-next : {A : Type 0} (f : A → ℕ) (xs : List A) (n : ℕ) (x : A) → slice_get xs n ≡ Some x → sum_by f (take (n + 1) xs) ≡ sum_by f (take n xs) + f x
sum-next f xs n x e = let s : sum_by f (take (n + 1) xs) ≡ sum_by f (take n xs) + (0 + f x) = ap (sum_by f) (take_more xs n x (slice_get_within xs n x e) ∙ ap (λ y. take n xs ++ y ∷ []) (get_or_from_slice_get xs n x x e)) ∙ sum_by-append f (take n xs) (x ∷ []) in omega (arith, s)

module _ (p : CoreProgram) where
  pub before-next : (n : ℕ) (k : CoreClass) → slice_get p.classes n ≡ Some k → statics_before p (n + 1) ≡ statics_before p n + static_count k
  before-next n k e = sum-next static_count p.classes n k e

  pub count-few : AreFew p → (n : ℕ) (k : CoreClass) → slice_get p.classes n ≡ Some k → static_count k < 2147483648
  count-few f n k e = let x : count_by is_static k.fields ≤ length k.fields = count_by-le-length is_static k.fields in let y : length k.fields < 2147483648 = f.fields (record { 0 = n }) k e in omega (arith, x, y)

  before-few : AreFew p → (n : ℕ) → n ≤ length p.classes → statics_before p n ≤ n * 2147483648
  before-few f zero l = omega arith
  before-few f (suc n) l =
      let there = get-there p.classes n (omega (arith, l)) in
      let s : suc n ≡ n + 1 = omega arith in
      let x : statics_before p (suc n) ≡ statics_before p n + static_count there.0 = ap (statics_before p) s ∙ before-next n there.0 there.1 in
      let y : static_count there.0 < 2147483648 = count-few f n there.0 there.1 in
      let z : statics_before p n ≤ n * 2147483648 = before-few f n (omega (arith, l)) in omega (arith, x, y, z)

  pub before-fits : AreFew p → (n : ℕ) → n ≤ length p.classes → statics_before p n < 4611686018427387904
  before-fits f n l = let x : statics_before p n ≤ n * 2147483648 = before-few f n l in let y : length p.classes < 2147483648 = f.classes in omega (arith, x, y, l)

  pub next-is : (n count : ℕ) → n < length p.classes → count ≡ count_by is_static (fields_at (slice_get p.classes n)) → statics_before p n + count ≡ statics_before p (n + 1)
  next-is n count l e =
      let there = get-there p.classes n l in
      let x : count ≡ static_count there.0 = e ∙ ap (λ o. count_by is_static (fields_at o)) there.1 in
      let y : statics_before p (n + 1) ≡ statics_before p n + static_count there.0 = before-next n there.0 there.1 in omega (arith, x, y)

  pub each-more : (places : List ℕ) (n : ℕ) → length places ≡ n → ((i : ℕ) → i < n → slice_get places i ≡ Some (statics_before p i)) →
      (i : ℕ) → i < n + 1 → slice_get (places ++ statics_before p n ∷ []) i ≡ Some (statics_before p i)
  each-more places n e f i l = by (cases_lt i n)
    where
      by : (i < n) ⊎ (n ≤ i) → slice_get (places ++ statics_before p n ∷ []) i ≡ Some (statics_before p i)
      by (inl b) = get-old places (statics_before p n) i (omega (arith, b, e)) ∙ f i b
      by (inr b) = let s : i ≡ length places = omega (arith, b, l, e) in let t : n ≡ i = omega (arith, b, l) in
          ap (slice_get (places ++ statics_before p n ∷ [])) s ∙ get-new places (statics_before p n) ∙ ap (λ j. Some (statics_before p j)) t
