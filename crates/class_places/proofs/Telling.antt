-- What is the first to tell where a class stands.
use Rattle.std.proofs.Common.{◌≡◌, ◌≢◌, ℕ, zero, suc, ◌+◌, ◌<◌, ◌≤◌, replicate, set, List, [], ◌∷◌, ◌++◌, length, Option, Some, None, length-append, refl, sym, ap, ◌∙◌, arith}
use Rattle.std.specs.Prelude.{Bool, true, false, is_some, not, cond, nat_lt, eqb, nat_eq, slice_get}
use Rattle.std.specs.List.{find, position, position_or_len}
use Rattle.std.proofs.lemmas.Bool.Decides.{nat_tests}
use Rattle.std.proofs.lemmas.Grind.{common_steps}
use Rattle.std.proofs.lemmas.List.Folds.{find_at, position_or_len_push}
use Rattle.std.proofs.lemmas.List.Sums.{prefix_len-le-length}
use Rattle.std.proofs.lemmas.Bool.{eqb-true}
use Rattle.std.proofs.lemmas.List.{length-replicate}
use Rattle.std.proofs.lemmas.Option.{slice_get_past, slice_get_within}
use Rattle.je_classes.proofs.Lists.{bool_cases}
use Rattle.body_typing.specs.Bodies.{Met}
use Rattle.class_typing.specs.Places.{class_standing, same_number, stands_at}
use Rattle.class_places.proofs.Using.{get-set-other, get-set-same, length-set-same}
use Rattle.class_places.specs.declared.first.Stands.{Stands}
use Rattle.class_places.specs.First.{AreFirst, place_in, place_of}

module _ {A : Type 0} (p : A → Bool) (xs : List A) where
  pub found_there : (i : ℕ) → position p xs ≡ Some i → find p xs ≡ slice_get xs i
  found_there i e = bool_cases (λ b. cond b (Some (position_or_len p xs)) None ≡ Some i → find p xs ≡ slice_get xs i) (nat_lt (position_or_len p xs) (length xs))
      (λ _ h. let s : position_or_len p xs ≡ i = cc in find_at p xs ∙ ap (slice_get xs) s)
      (λ _ h. absurd cc) e

  pub found_nowhere : position p xs ≡ None → find p xs ≡ None
  found_nowhere e = bool_cases (λ b. cond b (Some (position_or_len p xs)) None ≡ None → find p xs ≡ None) (nat_lt (position_or_len p xs) (length xs))
      (λ _ h. absurd cc)
      (λ l h. find_at p xs ∙ slice_get_past xs (position_or_len p xs) (grind (arith, nat_tests, l))) e

  -- one more behind them

  pub first_stays : (x : A) (i : ℕ) → position p xs ≡ Some i → position p (xs ++ x ∷ []) ≡ Some i
  first_stays x i e = rw (position_or_len_push p xs x, length-append xs (x ∷ [])) (grind (arith, common_steps, e))

  pub passed_over : (x : A) → p x ≡ false → position p (xs ++ x ∷ []) ≡ position p xs
  passed_over x e = rw (position_or_len_push p xs x, length-append xs (x ∷ []), e) (grind (arith, common_steps))

  pub first_behind : (x : A) → p x ≡ true → position p xs ≡ None → position p (xs ++ x ∷ []) ≡ Some (length xs)
  first_behind x e h = rw (position_or_len_push p xs x, length-append xs (x ∷ []), e) (grind (arith, common_steps, h, prefix_len-le-length (λ y. not (p y)) xs))

-- ---- one thing more, of which it is known where it tells that a class stands

nothing-there : (n c : ℕ) → place_in (slice_get (replicate n None) c) ≡ None
nothing-there zero c = refl
nothing-there (suc n) zero = refl
nothing-there (suc n) (suc c) = nothing-there n c

pub nothing_first : (s : Stands) (n : ℕ) → s.places.items ≡ replicate n None → AreFirst n [] s
nothing_first s n e = record {
  whole = ap length e ∙ length-replicate n None;
  each = λ c l. ap (λ ps. place_in (slice_get ps c)) e ∙ nothing-there n c;
}

module _ (count : ℕ) (before : List Met) (m : Met) (s : Stands) (h : AreFirst count before s) where
  over : (c : ℕ) → stands_at c m ≡ false → place_of s c ≡ position (stands_at c) before → place_of s c ≡ position (stands_at c) (before ++ m ∷ [])
  over c e k = k ∙ sym (passed_over (stands_at c) before m e)

  pub tells_nothing : None ≡ class_standing m → AreFirst count (before ++ m ∷ []) s
  tells_nothing e = record { whole = h.whole; each = λ c l. over c (ap (same_number c) (sym e)) (h.each c l) }

  module _ (d : ℕ) (e : Some d ≡ class_standing m) where
    here : (c : ℕ) → nat_eq c d ≡ stands_at c m
    here c = ap (same_number c) e

    apart : (c : ℕ) → nat_eq c d ≡ false → c ≢ d
    apart c q r = absurd (grind (arith, nat_tests, q, r))

    pub tells_of_no_class : length s.places.items ≤ d → AreFirst count (before ++ m ∷ []) s
    tells_of_no_class b = record {
      whole = h.whole;
      each = λ c l. over c (sym (here c) ∙ grind (arith, nat_tests, b, l, h.whole)) (h.each c l);
    }

    -- what stands there stays
    told_before : (new : Stands) (i : ℕ) → slice_get s.places.items d ≡ Some (Some i) → new.places.items ≡ set s.places.items d (Some i) →
        AreFirst count (before ++ m ∷ []) new
    told_before new i k n = record {
      whole = ap length n ∙ length-set-same s.places.items d (Some i) ∙ h.whole;
      each = λ c l. bool_cases (λ b. nat_eq c d ≡ b → place_of new c ≡ position (stands_at c) (before ++ m ∷ [])) (nat_eq c d)
          (λ _ q. same c l (eqb-true c d q)) (λ _ q. ap place_in (ap (λ ps. slice_get ps c) n ∙ get-set-other s.places.items d c (Some i) (apart c q)) ∙ over c (sym (here c) ∙ q) (h.each c l)) refl;
    }
      where
        same : (c : ℕ) → c < count → c ≡ d → place_of new c ≡ position (stands_at c) (before ++ m ∷ [])
        same c l q =
            let old : place_of s c ≡ Some i = ap (λ x. place_of s x) q ∙ ap place_in k in
            let told : place_of new c ≡ Some i = ap (λ x. place_of new x) q ∙ ap place_in (ap (λ ps. slice_get ps d) n ∙ get-set-same s.places.items d (Some i) (slice_get_within s.places.items d (Some i) k)) in
            told ∙ sym (first_stays (stands_at c) before m i (sym (h.each c l) ∙ old))

    told_now : (new : Stands) → slice_get s.places.items d ≡ Some None → new.places.items ≡ set s.places.items d (Some (length before)) →
        AreFirst count (before ++ m ∷ []) new
    told_now new k n = record {
      whole = ap length n ∙ length-set-same s.places.items d (Some (length before)) ∙ h.whole;
      each = λ c l. bool_cases (λ b. nat_eq c d ≡ b → place_of new c ≡ position (stands_at c) (before ++ m ∷ [])) (nat_eq c d)
          (λ _ q. same c l (eqb-true c d q) q) (λ _ q. ap place_in (ap (λ ps. slice_get ps c) n ∙ get-set-other s.places.items d c (Some (length before)) (apart c q)) ∙ over c (sym (here c) ∙ q) (h.each c l)) refl;
    }
      where
        same : (c : ℕ) → c < count → c ≡ d → nat_eq c d ≡ true → place_of new c ≡ position (stands_at c) (before ++ m ∷ [])
        same c l q t =
            let told : place_of new c ≡ Some (length before) = ap (λ x. place_of new x) q ∙ ap place_in (ap (λ ps. slice_get ps d) n ∙ get-set-same s.places.items d (Some (length before)) (slice_get_within s.places.items d None k)) in
            let nothing : position (stands_at c) before ≡ None = sym (h.each c l) ∙ ap (λ x. place_of s x) q ∙ ap place_in k in
            told ∙ sym (first_behind (stands_at c) before m (sym (here c) ∙ t) nothing)

    pub stays_told : (new : Stands) (o : Option ℕ) → is_some o ≡ true → slice_get s.places.items d ≡ Some o → new.places.items ≡ set s.places.items d o →
        AreFirst count (before ++ m ∷ []) new
    stays_told new None e k n = absurd cc
    stays_told new (Some i) e k n = told_before new i k n

    pub is_told : (new : Stands) (o : Option ℕ) → is_some o ≡ false → slice_get s.places.items d ≡ Some o →
        new.places.items ≡ set s.places.items d (Some (length before)) → AreFirst count (before ++ m ∷ []) new
    is_told new None e k n = told_now new k n
    is_told new (Some i) e k n = absurd cc

-- ---- the first of all

module _ (count : ℕ) (met : List Met) (s : Stands) (c : ℕ) (h : AreFirst count met s) (l : c < count) where
  pub first_met : (i : ℕ) → Some i ≡ place_of s c → find (stands_at c) met ≡ slice_get met i
  first_met i e = found_there (stands_at c) met i (sym (h.each c l) ∙ sym e)

  pub nothing_met : None ≡ place_of s c → find (stands_at c) met ≡ None
  nothing_met e = found_nowhere (stands_at c) met (sym (h.each c l) ∙ sym e)
