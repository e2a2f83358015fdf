-- Counting local and anonymous classes by their names.
use Rattle.std.proofs.Common.{◌≡◌, ℕ, zero, suc, ◌+◌, ◌<◌, ◌≤◌, Bool, true, false, nat_eq, List, [], ◌∷◌, ◌++◌, length, get_or, take, filter, Option, Some, refl, sym, ap, subst, ◌∙◌, arith, length-append}
use Rattle.std.specs.Prelude.{◌&&◌, Result, Ok, Err, IfOk, OnOk, slice_get, unwrap_or, if◌then◌else◌}
use Rattle.std.proofs.lemmas.List.{get_or_append_left, get_or_push}
use Rattle.std.specs.Option.{option_eq}
use Rattle.std.proofs.lemmas.List.Elements.{filter-append}
use Rattle.je_base.specs.declared.span.NameId.{NameId}
use Rattle.je_scopes.specs.Sites.{Site}
use Rattle.je_scopes.specs.Headers.{site_at, or_nothing, is_local_sort, within, name_in}
use Rattle.je_scopes.specs.Source.{Source}
use Rattle.je_scopes.specs.Scope.{same_place}
use Rattle.je_scopes.specs.BinaryNames.{same_names, number_in, is_namesake}
use Rattle.je_scopes.proofs.Either.{by_either, nat_split}
use Rattle.binary_names.specs.declared.counts.Counts.{Counts}
use Rattle.binary_names.specs.Counts.{counted, is_there, name_number}
use Rattle.binary_names.specs.Names.{AreCounted}
use Rattle.binary_names.proofs.Tests.{both, option_eq-true, place_flip, names_flip}

-- One more under a key.
pub counts_more : (old new : Option ℕ → Option ℕ → Option ℕ) (place : Option ℕ) (name : Option NameId) (v : ℕ) → v ≡ unwrap_or (old place (name_number name)) 0 + 1
    → ((p y : Option ℕ) → new p y ≡ (if (option_eq nat_eq place p && option_eq nat_eq (name_number name) y) then Some v else old p y))
    → (p : Option ℕ) (x : Option NameId) → unwrap_or (new p (name_number x)) 0 ≡ unwrap_or (old p (name_number x)) 0 + (if (same_place p place && same_names x name) then 1 else 0)
counts_more old new place name v count h p x = ap (λ (o : Option ℕ). unwrap_or o 0) (h p (name_number x)) ∙ by (option_eq nat_eq place p && option_eq nat_eq (name_number name) (name_number x)) refl
    ∙ ap (λ (b : Bool). unwrap_or (old p (name_number x)) 0 + (if b then 1 else 0)) ((λ i. place_flip place p i && names_flip name x i))
  where
    by : (b : Bool) → (option_eq nat_eq place p && option_eq nat_eq (name_number name) (name_number x)) ≡ b
        → unwrap_or (if b then Some v else old p (name_number x)) 0 ≡ unwrap_or (old p (name_number x)) 0 + (if (option_eq nat_eq place p && option_eq nat_eq (name_number name) (name_number x)) then 1 else 0)
    by true e =
        let q = both (option_eq nat_eq place p) (option_eq nat_eq (name_number name) (name_number x)) e in
        let o : old place (name_number name) ≡ old p (name_number x) = λ i. old (option_eq-true place p q.0 i) (option_eq-true (name_number name) (name_number x) q.1 i) in
        count ∙ ap (λ (z : Option ℕ). unwrap_or z 0 + 1) o ∙ ap (λ (b : Bool). unwrap_or (old p (name_number x)) 0 + (if b then 1 else 0)) (sym e)
    by false e = let z : unwrap_or (old p (name_number x)) 0 ≡ unwrap_or (old p (name_number x)) 0 + 0 = omega arith in z ∙ ap (λ (b : Bool). unwrap_or (old p (name_number x)) 0 + (if b then 1 else 0)) (sym e)

-- ---- the first sites, and one more

take-site : (ss : List Site) (n : ℕ) → n < length ss → take (suc n) ss ≡ take n ss ++ or_nothing (slice_get ss n) ∷ []
take-site [] n h = absurd (omega arith)
take-site (s ∷ ss) zero h = refl
take-site (s ∷ ss) (suc n) h = ap (λ (k : List Site). s ∷ k) (take-site ss n (omega arith))

one-more : (test : Site → Bool) (ss : List Site) (n : ℕ) → n < length ss
    → length (filter test (take (suc n) ss)) ≡ length (filter test (take n ss)) + (if test (site_at ss n) then 1 else 0)
one-more test ss n h = ap (λ (k : List Site). length (filter test k)) (take-site ss n h)
    ∙ ap length (filter-append test (take n ss) (site_at ss n ∷ [])) ∙ length-append (filter test (take n ss)) (filter test (site_at ss n ∷ []))
    ∙ ap (λ (k : ℕ). length (filter test (take n ss)) + k) (alone (test (site_at ss n)))
  where
    alone : (b : Bool) → length (if b then (site_at ss n ∷ []) else []) ≡ (if b then 1 else 0)
    alone true = refl
    alone false = refl

module _ (p : Source) (n : ℕ) (old new : Counts) (h : n < length p.sites) where
  pub local_counted : is_local_sort (site_at p.sites n).sort ≡ true → AreCounted p n old
      → ((q : Option ℕ) (x : Option NameId) → counted new q x ≡ counted old q x + (if (same_place q (within (site_at p.sites n)) && same_names x (name_in (site_at p.sites n).written)) then 1 else 0))
      → AreCounted p (suc n) new
  unfolding AreCounted
  local_counted local are more q x = more q x ∙ ap (λ (k : ℕ). k + (if (same_place q (within (site_at p.sites n)) && same_names x (name_in (site_at p.sites n).written)) then 1 else 0)) (are q x)
      ∙ ap (λ (b : Bool). length (filter (is_there q x) (take n p.sites)) + (if (b && same_place q (within (site_at p.sites n)) && same_names x (name_in (site_at p.sites n).written)) then 1 else 0)) (sym local)
      ∙ sym (one-more (is_there q x) p.sites n h)

  pub other_counted : is_local_sort (site_at p.sites n).sort ≡ false → AreCounted p n old → AreCounted p (suc n) old
  unfolding AreCounted
  other_counted other are q x =
      let z : counted old q x ≡ counted old q x + 0 = omega arith in
      z ∙ ap (λ (k : ℕ). k + 0) (are q x)
      ∙ ap (λ (b : Bool). length (filter (is_there q x) (take n p.sites)) + (if (b && same_place q (within (site_at p.sites n)) && same_names x (name_in (site_at p.sites n).written)) then 1 else 0)) (sym other)
      ∙ sym (one-more (is_there q x) p.sites n h)

-- ---- the number of a class

pub local_number : (p : Source) (c : ℕ) (counts : Counts) → is_local_sort (site_at p.sites c).sort ≡ true → AreCounted p (suc c) counts
    → counted counts (within (site_at p.sites c)) (name_in (site_at p.sites c).written) ≡ number_in p c
unfolding AreCounted
local_number p c counts local are = are (within (site_at p.sites c)) (name_in (site_at p.sites c).written)
    ∙ ap (λ (b : Bool). if b then length (filter (is_namesake (site_at p.sites c)) (take (suc c) p.sites)) else 0) (sym local)

pub no_number : (p : Source) (c : ℕ) → is_local_sort (site_at p.sites c).sort ≡ false → 0 ≡ number_in p c
no_number p c other = ap (λ (b : Bool). if b then length (filter (is_namesake (site_at p.sites c)) (take (suc c) p.sites)) else 0) (sym other)

-- ---- of what is counted

few-more : (b : Bool) (s : Site) (ss : List Site) → length (if b then (s ∷ ss) else ss) ≤ suc (length ss)
few-more true s ss = omega arith
few-more false s ss = omega arith

few-kept : (test : Site → Bool) (n : ℕ) (ss : List Site) → length (filter test (take n ss)) ≤ n
few-kept test zero ss = omega arith
few-kept test (suc n) [] = omega arith
few-kept test (suc n) (s ∷ ss) = let h = few-kept test n ss in let k = few-more (test s) s (filter test (take n ss)) in omega (arith, h, k)

pub few_counted : (p : Source) (n : ℕ) (counts : Counts) (q : Option ℕ) (x : Option NameId) → AreCounted p n counts → counted counts q x ≤ n
unfolding AreCounted
few_counted p n counts q x are = let h = few-kept (is_there q x) n p.sites in let e = are q x in omega (arith, h, e)

pub none_counted : (p : Source) (counts : Counts) → ((q : Option ℕ) (x : Option NameId) → counted counts q x ≡ 0) → AreCounted p 0 counts
unfolding AreCounted
none_counted p counts h = h

pub then_ok : {E : Type 0} (r : Result ℕ E) (k m : ℕ) → IfOk r (λ n. n ≡ k) → OnOk r (k ≡ m) → IfOk r (λ n. n ≡ m)
then_ok (Ok x) k m e f = e ∙ f
then_ok (Err x) k m e f = tt

-- the numbers of the first classes, and one more
pub numbers_more : (f : ℕ → ℕ) (ns : List ℕ) (i v : ℕ) → length ns ≡ i → v ≡ f i → ((c : ℕ) → c < i → get_or ns c 0 ≡ f c) → (c : ℕ) → c < i + 1 → get_or (ns ++ v ∷ []) c 0 ≡ f c
numbers_more f ns i v e w h c l = by_either
    (λ s. subst (λ (k : ℕ). get_or (ns ++ v ∷ []) k 0 ≡ f k) (sym s) (get_or_push ns v 0 i e ∙ w))
    (λ s. get_or_append_left ns (v ∷ []) 0 c (omega (arith, e, s)) ∙ h c s)
    (nat_split c i (omega (arith, l)))
