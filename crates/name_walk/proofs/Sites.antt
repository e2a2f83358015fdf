-- What the site of a class is, by what was kept of it.
use Rattle.std.proofs.Common.{◌≡◌, ℕ, zero, suc, ◌+◌, ◌≤◌, ◌<◌, List, [], ◌∷◌, ◌++◌, length, take, drop, Option, Some, None, refl, ◌∙◌, sym, ap, subst, arith, append_assoc}
use Rattle.std.specs.Prelude.{slice_get}
use Rattle.std.proofs.lemmas.List.{append-nil, take-append-drop, length-take}
use Rattle.std.proofs.lemmas.Option.{slice_get_within, slice_get_past}
use Rattle.je_scopes.specs.Sites as sites
use Rattle.je_scopes.specs.Sites.{Site, site}
use Rattle.je_scopes.specs.Headers.{site_at, or_nothing}
use Rattle.name_walk.specs.declared.site.ClassSite.{ClassSite}
use Rattle.name_walk.specs.View.{IsAmong, NameEarlier, in_own_scope, site_from, sites_from, sites_of, spot_from, written_view}
use Rattle.name_walk.proofs.Behind.{count_of_sites}
use Rattle.name_walk.proofs.Standing.{among-more, spot-append}

found_from : (before : List Site) (cs : List ClassSite) (n : ℕ) (c : ClassSite) → slice_get cs n ≡ Some c → slice_get (sites_from before cs) n ≡ Some (site_from (before ++ take n (sites_from before cs)) c)
found_from before [] n c e = absurd (cc e)
found_from before (b ∷ cs) zero c e = let same : b ≡ c = cc e in rw (append-nil before, same) refl
found_from before (b ∷ cs) (suc n) c e =
    let s : Site = site_from before b in
    found_from (before ++ s ∷ []) cs n c e ∙ ap (λ (x : List Site). Some (site_from x c)) (append_assoc before (s ∷ []) (take n (sites_from (before ++ s ∷ []) cs)))

found_behind : (cs : List ClassSite) (n : ℕ) (c : ClassSite) → slice_get cs n ≡ Some c → slice_get (sites_of cs) n ≡ Some (site_from (take n (sites_of cs)) c)
unfolding sites_of
found_behind cs n c e = found_from [] cs n c e

count_before : (cs : List ClassSite) (n : ℕ) (c : ClassSite) → slice_get cs n ≡ Some c → length (take n (sites_of cs)) ≡ n
count_before cs n c e = omega (arith, length-take n (sites_of cs), count_of_sites cs, slice_get_within cs n c e)

-- the spot in which it stands is the same among all classes
spot_is : (cs : List ClassSite) (n : ℕ) (c : ClassSite) → NameEarlier cs → slice_get cs n ≡ Some c → spot_from (take n (sites_of cs)) c.spot ≡ spot_from (sites_of cs) c.spot
spot_is cs n c earlier e =
    let among : IsAmong (length (take n (sites_of cs))) c.spot = among-more n (length (take n (sites_of cs))) c.spot (omega (arith, count_before cs n c e)) (earlier n c e) in
    sym (spot-append (take n (sites_of cs)) (drop n (sites_of cs)) c.spot among) ∙ ap (λ (x : List Site). spot_from x c.spot) (take-append-drop n (sites_of cs))

pub site_is : (cs : List ClassSite) (n : ℕ) (c : ClassSite) → NameEarlier cs → slice_get cs n ≡ Some c → site_at (sites_of cs) n ≡ site (written_view c.written) c.sort (in_own_scope c.is_local n (spot_from (sites_of cs) c.spot))
site_is cs n c earlier e =
    ap or_nothing (found_behind cs n c e)
    ∙ ap (λ (m : ℕ). site (written_view c.written) c.sort (in_own_scope c.is_local m (spot_from (take n (sites_of cs)) c.spot))) (count_before cs n c e)
    ∙ ap (λ (s : sites.Spot). site (written_view c.written) c.sort (in_own_scope c.is_local n s)) (spot_is cs n c earlier e)

pub site_past : (cs : List ClassSite) (n : ℕ) → slice_get cs n ≡ None → site_at (sites_of cs) n ≡ or_nothing None
site_past cs n e = ap or_nothing (slice_get_past (sites_of cs) n (omega (arith, count_of_sites cs, past cs n e)))
  where
    past : (xs : List ClassSite) (m : ℕ) → slice_get xs m ≡ None → length xs ≤ m
    past [] m h = omega arith
    past (x ∷ xs) zero h = absurd (cc h)
    past (x ∷ xs) (suc m) h = omega (arith, past xs m h)
