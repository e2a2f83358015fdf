-- The top-level class of a class is that of the class round it.
use Rattle.std.proofs.Common.{◌≡◌, ℕ, ◌+◌, ◌<◌, ◌≤◌, List, [], ◌∷◌, ◌++◌, length, get_or, Option, Some, None, refl, ◌∙◌, sym, ap, subst, below_more, arith}
use Rattle.std.proofs.lemmas.List.{get_or_append_left, get_or_push, length_push}
use Rattle.std.proofs.lemmas.Option.{slice_get_past, slice_get_read}
use Rattle.je_scopes.specs.Sites.{Site}
use Rattle.je_scopes.specs.Headers.{or_nothing, outermost, top_of}
use Rattle.name_walk.specs.View.{NameEarlier, round_from, sites_of}
use Rattle.name_walk.specs.declared.site.ClassSite.{ClassSite}
use Rattle.name_sites.specs.Shown.{Shows}
use Rattle.name_sites.specs.Tops.{top_beside}
use Rattle.name_sites.proofs.Shown.{shows_at}

pub top_inside : (cs : List ClassSite) (n : ℕ) (c : ClassSite) (w : ℕ) → NameEarlier cs → n < length cs → c ≡ get_or cs n c → c.spot.within ≡ Some w → top_of (sites_of cs) n ≡ top_of (sites_of cs) w
top_inside cs n c w earlier h e q =
    let s : Shows (sites_of cs) n c = shows_at cs n c earlier h e in
    ap (λ (r : List ℕ). outermost n r) (sym s.round ∙ ap (λ (o : Option ℕ). round_from (sites_of cs) o) q)

pub top_alone : (cs : List ClassSite) (n : ℕ) (c : ClassSite) → NameEarlier cs → n < length cs → c ≡ get_or cs n c → c.spot.within ≡ None → top_of (sites_of cs) n ≡ n
top_alone cs n c earlier h e q =
    let s : Shows (sites_of cs) n c = shows_at cs n c earlier h e in
    ap (λ (r : List ℕ). outermost n r) (sym s.round ∙ ap (λ (o : Option ℕ). round_from (sites_of cs) o) q)

-- past the last
pub top_past : (ss : List Site) (n : ℕ) → length ss ≤ n → top_of ss n ≡ n
top_past ss n h = ap (λ (s : Site). outermost n s.spot.round) (ap or_nothing (slice_get_past ss n h))

pub round_earlier : (cs : List ClassSite) (n : ℕ) (c : ClassSite) (w : ℕ) → NameEarlier cs → n < length cs → c ≡ get_or cs n c → c.spot.within ≡ Some w → w < n
round_earlier cs n c w earlier h e q = (earlier n c (slice_get_read cs (length cs) n c refl h e)).within w q

-- that of a class by those of the classes before it
pub top_step : (cs : List ClassSite) (tops : List ℕ) (n : ℕ) (c : ClassSite) → NameEarlier cs → n < length cs → c ≡ get_or cs n c → ((k : ℕ) → k < n → get_or tops k 0 ≡ top_of (sites_of cs) k) → top_beside tops c.spot.within n ≡ top_of (sites_of cs) n
top_step cs tops n c earlier h e before = of c.spot.within refl
  where
    of : (o : Option ℕ) → c.spot.within ≡ o → top_beside tops o n ≡ top_of (sites_of cs) n
    of None q = sym (top_alone cs n c earlier h e q)
    of (Some w) q = before w (round_earlier cs n c w earlier h e q) ∙ sym (top_inside cs n c w earlier h e q)

-- one number more
pub one_more : (f : ℕ → ℕ) (xs ys : List ℕ) (x n : ℕ) → ys ≡ xs ++ x ∷ [] → length xs ≡ n → ((k : ℕ) → k < n → get_or xs k 0 ≡ f k) → x ≡ f n → (length ys ≡ n + 1) × ((k : ℕ) → k < n + 1 → get_or ys k 0 ≡ f k)
one_more f xs ys x n e l before here = (
  ap length e ∙ length_push xs x ∙ ap (λ (m : ℕ). m + 1) l,
  subst (λ (zs : List ℕ). (k : ℕ) → k < n + 1 → get_or zs k 0 ≡ f k) (sym e)
      (below_more (λ (k : ℕ). get_or (xs ++ x ∷ []) k 0 ≡ f k) n (λ k h. get_or_append_left xs (x ∷ []) 0 k (omega (arith, h, l)) ∙ before k h) (get_or_push xs x 0 n l ∙ here)),
)
