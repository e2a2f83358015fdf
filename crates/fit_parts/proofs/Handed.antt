-- The fields of one class behind those of the classes above it, and one step of a path.
use Rattle.std.proofs.Common.{◌≡◌, ◌≢◌, ℕ, zero, suc, ◌+◌, ◌-◌, ◌<◌, ◌≤◌, List, [], ◌∷◌, ◌++◌, length, map, take, drop, get_or, Option, Some, None, refl, sym, ap, ◌∙◌, arith, length-append}
use Rattle.std.specs.Prelude.{Bool, true, false, ◌&&◌, nat_eq, slice_get, if◌then◌else◌}
use Rattle.std.proofs.lemmas.Bool.Decides.{nat_tests}
use Rattle.std.proofs.lemmas.Grind.{common_steps}
use Rattle.je_core.specs.declared.expr.Capture.{Capture}
use Rattle.je_core.specs.declared.types.ClassId.{ClassId}
use Rattle.je_core.specs.declared.types.Ty.{Ty}
use Rattle.je_core.specs.Core.{CoreCapture, CoreClass, CoreProgram}
use Rattle.je_core.specs.View.{capture_view}
use Rattle.je_classes.specs.Hierarchy.{class_at}
use Rattle.je_classes.proofs.Lists.{bool_cases}
use Rattle.je_fitting.specs.Classes.{handed_count}
use Rattle.je_fitting.specs.Expressions.{field_at, places_up_to, handed_to, handed_upwards, handed_over}
use Rattle.je_fitting.specs.way.Deciding.{same_pair, same_pairs, is_step_on, field_type, leads_to}
use Rattle.fit_parts.specs.way.Handing.{filled, are_own, next_type}

-- ---- lists of pairs

lengths-differ : (xs ys : List (ClassId × ℕ)) → length xs ≢ length ys → same_pairs xs ys ≡ false
lengths-differ [] [] d = absurd (d refl)
lengths-differ [] (y ∷ ys) d = refl
lengths-differ (x ∷ xs) [] d = refl
lengths-differ (x ∷ xs) (y ∷ ys) d = rw (lengths-differ xs ys (λ e. d (ap suc e))) (and-false (same_pair x y))
  where
    and-false : (b : Bool) → (b && false) ≡ false
    and-false true = refl
    and-false false = refl

and-assoc : (a b c : Bool) → (a && (b && c)) ≡ ((a && b) && c)
and-assoc true b c = refl
and-assoc false b c = refl

parted : (xs as_ ys bs : List (ClassId × ℕ)) → length ys ≡ length bs → same_pairs (xs ++ ys) (as_ ++ bs) ≡ (same_pairs xs as_ && same_pairs ys bs)
parted [] [] ys bs e = refl
parted [] (a ∷ as_) ys bs e = lengths-differ ys (a ∷ (as_ ++ bs)) (λ h. let l : length (as_ ++ bs) ≡ length as_ + length bs = length-append as_ bs in absurd (omega (arith, e, h, l)))
parted (x ∷ xs) [] ys bs e = lengths-differ (x ∷ (xs ++ ys)) bs (λ h. let l : length (xs ++ ys) ≡ length xs + length ys = length-append xs ys in absurd (omega (arith, e, h, l)))
parted (x ∷ xs) (a ∷ as_) ys bs e = ap (λ b. same_pair x a && b) (parted xs as_ ys bs e) ∙ and-assoc (same_pair x a) (same_pairs xs as_) (same_pairs ys bs)

-- ---- the fields of one class

abbrev at_class : ClassId → ℕ → ClassId × ℕ
at_class c n = (c, n)

-- the numbers from one on
abbrev places_from : ℕ → ℕ → List ℕ
places_from k zero = []
places_from k (suc n) = k ∷ places_from (suc k) n

one-more : (k n : ℕ) → places_from k (suc n) ≡ places_from k n ++ (k + n) ∷ []
one-more k zero = let e : k ≡ k + 0 = omega arith in ap (λ i. i ∷ []) e
one-more k (suc n) = let e : suc k + n ≡ k + suc n = omega arith in ap (λ xs. k ∷ xs) (one-more (suc k) n ∙ ap (λ i. places_from (suc k) n ++ i ∷ []) e)

up-to : (n : ℕ) → places_up_to n ≡ places_from 0 n
up-to zero = refl
up-to (suc n) = let e : n ≡ 0 + n = omega arith in ap (λ xs. xs ++ n ∷ []) (up-to n) ∙ ap (λ i. places_from 0 n ++ i ∷ []) e ∙ sym (one-more 0 n)

own-from : (c : ClassId) (n : ℕ) (xs : List CoreCapture) → are_own c n xs ≡ same_pairs (filled xs) (map (at_class c) (places_from n (length xs)))
own-from c n [] = refl
own-from c n (x ∷ xs) = ap (λ b. same_pair (x.class, x.field) (c, n) && b) (own-from c (suc n) xs)

own : (c : ClassId) (xs : List CoreCapture) → are_own c 0 xs ≡ same_pairs (filled xs) (map (at_class c) (places_up_to (length xs)))
own c xs = own-from c 0 xs ∙ ap (λ ns. same_pairs (filled xs) (map (at_class c) ns)) (sym (up-to (length xs)))

length-places : (n : ℕ) → length (places_up_to n) ≡ n
length-places zero = refl
length-places (suc n) = let l : length (places_up_to n ++ n ∷ []) ≡ length (places_up_to n) + 1 = length-append (places_up_to n) (n ∷ []) in let h : length (places_up_to n) ≡ n = length-places n in omega (arith, l, h)

length-map-of : {A B : Type 0} (f : A → B) (xs : List A) → length (map f xs) ≡ length xs
length-map-of f [] = refl
length-map-of f (x ∷ xs) = ap suc (length-map-of f xs)

filled-append : (xs ys : List CoreCapture) → filled (xs ++ ys) ≡ filled xs ++ filled ys
filled-append [] ys = refl
filled-append (x ∷ xs) ys = ap (λ zs. (x.class, x.field) ∷ zs) (filled-append xs ys)

-- ---- upwards

module _ (p : CoreProgram) where
  pub hand_first : (n : ℕ) (c : ClassId) (xs : List CoreCapture) → n ≡ length p.classes → same_pairs (filled xs) (handed_upwards p n (Some c)) ≡ same_pairs (filled xs) (handed_over p c)
  hand_first n c xs e = ap (λ k. same_pairs (filled xs) (handed_upwards p k (Some c))) e

  none-handed : (xs : List Capture) → same_pairs (filled (map capture_view xs)) [] ≡ nat_eq (length xs) 0
  none-handed [] = refl
  none-handed (x ∷ xs) = grind (arith, nat_tests)

  upwards-none : (n : ℕ) → handed_upwards p n None ≡ []
  upwards-none zero = refl
  upwards-none (suc n) = refl

  upwards-over : (above : Option ClassId) → handed_upwards p 0 above ≡ []
  upwards-over None = refl
  upwards-over (Some c) = refl

  upwards-absent : (n : ℕ) (c : ClassId) → class_at p c ≡ None → handed_upwards p n (Some c) ≡ []
  upwards-absent zero c e = refl
  upwards-absent (suc n) c e = ap (handed_to (handed_upwards p n) c) e

  upwards-step : (n : ℕ) (c : ClassId) (k : CoreClass) → 0 < n → class_at p c ≡ Some k → handed_upwards p n (Some c) ≡ handed_upwards p (n - 1) k.superclass ++ map (at_class c) (places_up_to (handed_count k))
  upwards-step zero c k l e = absurd (omega arith)
  upwards-step (suc n) c k l e = let s : n ≡ suc n - 1 = omega arith in
      ap (handed_to (handed_upwards p n) c) e ∙ ap (λ m. handed_upwards p m k.superclass ++ map (at_class c) (places_up_to (handed_count k))) s

  pub hand_none : (n : ℕ) (xs : List Capture) → same_pairs (filled (map capture_view xs)) (handed_upwards p n None) ≡ nat_eq (length xs) 0
  hand_none n xs = ap (same_pairs (filled (map capture_view xs))) (upwards-none n) ∙ none-handed xs

  pub hand_over : (above : Option ClassId) (xs : List Capture) → same_pairs (filled (map capture_view xs)) (handed_upwards p 0 above) ≡ nat_eq (length xs) 0
  hand_over above xs = ap (same_pairs (filled (map capture_view xs))) (upwards-over above) ∙ none-handed xs

  pub hand_absent : (n : ℕ) (c : ClassId) (xs : List Capture) → class_at p c ≡ None → same_pairs (filled (map capture_view xs)) (handed_upwards p n (Some c)) ≡ nat_eq (length xs) 0
  hand_absent n c xs e = ap (same_pairs (filled (map capture_view xs))) (upwards-absent n c e) ∙ none-handed xs

  length-own : (c : ClassId) (n : ℕ) → length (map (at_class c) (places_up_to n)) ≡ n
  length-own c n = length-map-of (at_class c) (places_up_to n) ∙ length-places n

  -- fewer than the class itself is handed
  pub hand_few : (n : ℕ) (c : ClassId) (k : CoreClass) (xs : List Capture) → 0 < n → class_at p c ≡ Some k → length xs < handed_count k → same_pairs (filled (map capture_view xs)) (handed_upwards p n (Some c)) ≡ false
  hand_few n c k xs l e s = ap (same_pairs (filled (map capture_view xs))) (upwards-step n c k l e)
      ∙ lengths-differ (filled (map capture_view xs)) (handed_upwards p (n - 1) k.superclass ++ map (at_class c) (places_up_to (handed_count k)))
      (λ h. let a : length (handed_upwards p (n - 1) k.superclass ++ map (at_class c) (places_up_to (handed_count k))) ≡ length (handed_upwards p (n - 1) k.superclass) + length (map (at_class c) (places_up_to (handed_count k))) = length-append (handed_upwards p (n - 1) k.superclass) (map (at_class c) (places_up_to (handed_count k))) in
      let b : length (map (at_class c) (places_up_to (handed_count k))) ≡ handed_count k = length-own c (handed_count k) in
      let d : length (filled (map capture_view xs)) ≡ length xs = length-map-of (λ (x : CoreCapture). (x.class, x.field)) (map capture_view xs) ∙ length-map-of capture_view xs in absurd (omega (arith, h, a, b, d, s)))

  -- those of the class, and the others
  pub hand_parted : (n : ℕ) (c : ClassId) (k : CoreClass) (xs ys : List CoreCapture) → 0 < n → class_at p c ≡ Some k → length ys ≡ handed_count k →
      same_pairs (filled (xs ++ ys)) (handed_upwards p n (Some c)) ≡ (same_pairs (filled xs) (handed_upwards p (n - 1) k.superclass) && are_own c 0 ys)
  hand_parted n c k xs ys l e s =
      let d : length (filled ys) ≡ length ys = length-map-of (λ (x : CoreCapture). (x.class, x.field)) ys in
      let b : length (map (at_class c) (places_up_to (handed_count k))) ≡ handed_count k = length-own c (handed_count k) in
      ap (same_pairs (filled (xs ++ ys))) (upwards-step n c k l e)
      ∙ ap (λ zs. same_pairs zs (handed_upwards p (n - 1) k.superclass ++ map (at_class c) (places_up_to (handed_count k)))) (filled-append xs ys)
      ∙ parted (filled xs) (handed_upwards p (n - 1) k.superclass) (filled ys) (map (at_class c) (places_up_to (handed_count k))) (d ∙ s ∙ sym b)
      ∙ ap (λ z. same_pairs (filled xs) (handed_upwards p (n - 1) k.superclass) && z) (ap (λ i. same_pairs (filled ys) (map (at_class c) (places_up_to i))) (sym s) ∙ sym (own c ys))

  appended : (xs ys : List Capture) → map capture_view (xs ++ ys) ≡ map capture_view xs ++ map capture_view ys
  appended [] ys = refl
  appended (x ∷ xs) ys = ap (λ zs. capture_view x ∷ zs) (appended xs ys)

  joined : (n : ℕ) (xs : List Capture) → take n xs ++ drop n xs ≡ xs
  joined n xs = grind (arith, common_steps)

  -- the same of captures in memory that are split in two
  pub hand_split : (n : ℕ) (c : ClassId) (k : CoreClass) (rest higher own : List Capture) (at : ℕ) → 0 < n → class_at p c ≡ Some k → higher ≡ take at rest → own ≡ drop at rest → length own ≡ handed_count k →
      same_pairs (filled (map capture_view rest)) (handed_upwards p n (Some c)) ≡ (same_pairs (filled (map capture_view higher)) (handed_upwards p (n - 1) k.superclass) && are_own c 0 (map capture_view own))
  hand_split n c k rest higher own at l e f g s =
      let whole : higher ++ own ≡ rest = (λ i. f i ++ g i) ∙ joined at rest in
      ap (λ cs. same_pairs (filled (map capture_view cs)) (handed_upwards p n (Some c))) (sym whole)
      ∙ ap (λ cs. same_pairs (filled cs) (handed_upwards p n (Some c))) (appended higher own)
      ∙ hand_parted n c k (map capture_view higher) (map capture_view own) l e (length-map-of capture_view own ∙ s)

  pub and_false : (a b : Bool) → b ≡ false → (a && b) ≡ false
  and_false true b e = e
  and_false false b e = refl

  pub and_true : (a b : Bool) → b ≡ true → (a && b) ≡ a
  and_true true b e = e
  and_true false b e = refl

pub ruleset handing = (hand_first, hand_none, hand_over, hand_absent, hand_few)

-- ---- paths

pub leads_on : (p : CoreProgram) (t : Ty) (s : ClassId × ℕ) (path : List (ClassId × ℕ)) → leads_to p (Some t) (s ∷ path) ≡ leads_to p (next_type p t s) path
leads_on p t s path = bool_cases (λ b. (if b then leads_to p (field_type (field_at p s.0 s.1)) path else None) ≡ leads_to p (if b then field_type (field_at p s.0 s.1) else None) path) (is_step_on p t s.0 (field_at p s.0 s.1)) (λ _. refl) (λ _. refl)

pub leads_past : (p : CoreProgram) (t u : Ty) (path : List (ClassId × ℕ)) (i : ℕ) (d : ClassId × ℕ) → i < length path → next_type p t (get_or path i d) ≡ Some u →
    leads_to p (Some t) (drop i path) ≡ leads_to p (Some u) (drop (suc i) path)
leads_past p t u [] i d l e = absurd (omega arith)
leads_past p t u (x ∷ path) zero d l e = leads_on p t x path ∙ ap (λ o. leads_to p o path) e
leads_past p t u (x ∷ path) (suc i) d l e = leads_past p t u path i d (omega (arith, l)) e
