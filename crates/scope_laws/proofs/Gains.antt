-- A list of distinct numbers that gains those of another one which it lacks, at its end.
use Rattle.std.proofs.Common.{◌≡◌, ℕ, zero, suc, ◌<◌, ◌≤◌, List, [], ◌∷◌, ◌++◌, length, get_or, refl, sym, ◌∙◌, subst, arith, inl, inr}
use Rattle.std.specs.Prelude.{◌⊎◌}
use Rattle.std.specs.List.{Contains}
use Rattle.je_classes.proofs.Lists.{contains-here, contains-later, contains-cases}
use Rattle.je_scopes.proofs.Either.{by_either, within_or_past, nothing-in}
use Rattle.je_scopes.proofs.Lists.{in-left, in-right, in-either}

pub record Gains (old new more : List ℕ) : Type 0 where
  pub longer : length old ≤ length new
  pub kept : (i : ℕ) → i < length old → get_or new i 0 ≡ get_or old i 0
  pub has : (d : ℕ) → Contains more d → Contains new d
  pub only : (i : ℕ) → length old ≤ i → i < length new → Contains more (get_or new i 0)

-- an element is at one of the places
pub at-place : (c : ℕ) (cs : List ℕ) (i : ℕ) → i < length cs → get_or cs i 0 ≡ c → Contains cs c
at-place c [] i l e = absurd (omega arith)
at-place c (d ∷ cs) zero l e = subst (Contains (d ∷ cs)) e (contains-here d cs)
at-place c (d ∷ cs) (suc i) l e = contains-later d c cs (at-place c cs i (omega arith) e)

-- the place of an element
pub record Place (cs : List ℕ) (c : ℕ) : Type 0 where
  pub at : ℕ
  pub within : at < length cs
  pub is : get_or cs at 0 ≡ c

place-by : (k c : ℕ) (cs : List ℕ) → k < length cs → get_or cs k c ≡ c → get_or cs k 0 ≡ c
place-by k c [] l e = absurd (omega arith)
place-by zero c (d ∷ cs) l e = e
place-by (suc k) c (d ∷ cs) l e = place-by k c cs (omega arith) e

pub place-of : (cs : List ℕ) (c : ℕ) → Contains cs c → Place cs c
place-of cs c q = let l : q.0 < length cs = q.1 in record { at = q.0; within = l; is = place-by q.0 c cs q.1 q.2 }

pub kept-all : {old new more : List ℕ} → Gains old new more → (c : ℕ) → Contains old c → Contains new c
kept-all {old = old} {new = new} g c q = let w = place-of old c q in let l : length old ≤ length new = g.longer in let k : w.at < length old = w.within in
    at-place c new w.at (omega (arith, l, k)) (g.kept w.at w.within ∙ w.is)

-- what is there was there, or is gained
pub gained-or-old : {old new more : List ℕ} → Gains old new more → (c : ℕ) → Contains new c → Contains old c ⊎ Contains more c
gained-or-old {old = old} {new = new} {more = more} g c q = let w = place-of new c q in by_either
    (λ l. inl (at-place c old w.at l (sym (g.kept w.at l) ∙ w.is)))
    (λ l. inr (subst (Contains more) w.is (g.only w.at l w.within)))
    (within_or_past w.at (length old))

pub gains-none : (cs : List ℕ) → Gains cs cs []
gains-none cs = record { longer = omega arith; kept = λ i l. refl; has = λ d q. absurd (nothing-in d q); only = λ i l k. let a : length cs ≤ i = l in let b : i < length cs = k in absurd (omega (arith, a, b)) }

-- one that is there already
pub gains-old : (cs : List ℕ) (c : ℕ) → Contains cs c → Gains cs cs (c ∷ [])
gains-old cs c q = record {
  longer = omega arith;
  kept = λ i l. refl;
  has = λ d r. by_either (λ e. subst (Contains cs) e q) (λ k. absurd (nothing-in d k)) (contains-cases c d [] r);
  only = λ i l k. let a : length cs ≤ i = l in let b : i < length cs = k in absurd (omega (arith, a, b));
}

before-last : (cs : List ℕ) (c i : ℕ) → i < length cs → get_or (cs ++ c ∷ []) i 0 ≡ get_or cs i 0
before-last [] c i l = absurd (omega arith)
before-last (d ∷ cs) c zero l = refl
before-last (d ∷ cs) c (suc i) l = before-last cs c i (omega arith)

at-last : (cs : List ℕ) (c : ℕ) → get_or (cs ++ c ∷ []) (length cs) 0 ≡ c
at-last [] c = refl
at-last (d ∷ cs) c = at-last cs c

one-longer : (cs : List ℕ) (c : ℕ) → length (cs ++ c ∷ []) ≡ suc (length cs)
one-longer [] c = refl
one-longer (d ∷ cs) c = let e : length (cs ++ c ∷ []) ≡ suc (length cs) = one-longer cs c in omega (arith, e)

-- one more
pub gains-last : (cs : List ℕ) (c : ℕ) → Gains cs (cs ++ c ∷ []) (c ∷ [])
gains-last cs c = let n : length (cs ++ c ∷ []) ≡ suc (length cs) = one-longer cs c in record {
  longer = omega (arith, n);
  kept = before-last cs c;
  has = λ d r. by_either (λ e. at-place d (cs ++ c ∷ []) (length cs) (omega (arith, n)) (at-last cs c ∙ e)) (λ k. absurd (nothing-in d k)) (contains-cases c d [] r);
  only = λ i l k. let a : length cs ≤ i = l in let b : i < length (cs ++ c ∷ []) = k in let e : i ≡ length cs = omega (arith, a, b, n) in
      rw (e, at-last cs c) (contains-here c []);
}

-- some, and then others
pub gains-then : {a b c xs ys : List ℕ} → Gains a b xs → Gains b c ys → Gains a c (xs ++ ys)
gains-then {a = a} {b = b} {c = c} {xs = xs} {ys = ys} g h = let s : length a ≤ length b = g.longer in let t : length b ≤ length c = h.longer in record {
  longer = omega (arith, s, t);
  kept = λ i l. let k : i < length a = l in h.kept i (omega (arith, k, s)) ∙ g.kept i l;
  has = λ e q. by_either (λ r. kept-all h e (g.has e r)) (h.has e) (in-either xs ys e q);
  only = λ i l k. by_either
      (λ m. in-left xs ys (get_or c i 0) (subst (Contains xs) (sym (h.kept i m)) (g.only i l m)))
      (λ m. in-right xs ys (get_or c i 0) (h.only i m k))
      (within_or_past i (length b));
}
