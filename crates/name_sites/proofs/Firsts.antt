-- The first that is declared under a name is the first by what is kept of each class.
use Rattle.std.proofs.Common.{◌≡◌, ℕ, suc, ◌+◌, ◌<◌, Bool, true, false, not, ◌&&◌, nat_eq, List, [], ◌∷◌, ◌++◌, length, Option, Some, None, if◌then◌else◌, refl, ◌∙◌, ap, arith}
use Rattle.std.proofs.lemmas.Bool.Decides.{nat_tests}
use Rattle.je_base.specs.declared.span.NameId.{NameId}
use Rattle.je_scopes.specs.Sites.{Site}
use Rattle.je_scopes.specs.Headers.{has_name, innermost, is_local_sort, name_in, same_name, within}
use Rattle.je_scopes.specs.Scope.{first_declared, is_declared, same_place}
use Rattle.name_walk.specs.View.{in_own_scope, round_from, site_from, sites_from, sites_of, spot_from, written_view}
use Rattle.name_walk.specs.declared.site.ClassSite.{ClassSite}
use Rattle.name_sites.specs.ByName.{or_else}
use Rattle.name_sites.specs.First.{at_name, first_keyed}

within_is : (before : List Site) (c : ClassSite) → within (site_from before c) ≡ c.spot.within
within_is before c = own c.is_local ∙ innermost_is c.spot.within
  where
    own : (b : Bool) → innermost (in_own_scope b (length before) (spot_from before c.spot)).round ≡ innermost (round_from before c.spot.within)
    own true = refl
    own false = refl

    innermost_is : (o : Option ℕ) → innermost (round_from before o) ≡ o
    innermost_is None = refl
    innermost_is (Some d) = refl

eq_turned : (m n : ℕ) → nat_eq m n ≡ nat_eq n m
eq_turned m n = grind (arith, nat_tests)

-- the test, by its parts
by_parts : (local : Bool) (name : Option NameId) (place : Option ℕ) (n : ℕ) (p : Option ℕ) (x : NameId) (rest : Option ℕ)
    → (if (has_name name x && same_place place p && not local) then Some n else rest) ≡ or_else (at_name (if local then None else name) place n p x) rest
by_parts true None place n p x rest = refl
by_parts true (Some y) place n p x rest = never (same_name x y && same_place place p)
  where
    never : (b : Bool) → (if (b && false) then Some n else rest) ≡ rest
    never true = refl
    never false = refl
by_parts false None place n p x rest = refl
by_parts false (Some y) place n p x rest = ap (λ (b : Bool). if (b && same_place place p && true) then Some n else rest) (eq_turned x.0 y.0) ∙ of (same_name y x) (same_place place p)
  where
    of : (a b : Bool) → (if (a && b && true) then Some n else rest) ≡ or_else (if (b && a) then Some n else None) rest
    of true true = refl
    of true false = refl
    of false true = refl
    of false false = refl

firsts_from : (n : ℕ) (before : List Site) (cs : List ClassSite) (p : Option ℕ) (x : NameId) → first_declared n (sites_from before cs) p x ≡ first_keyed n cs p x
firsts_from n before [] p x = refl
firsts_from n before (c ∷ cs) p x =
    ap (λ (r : Option ℕ). if is_declared p x (site_from before c) then Some n else r) (firsts_from (suc n) (before ++ site_from before c ∷ []) cs p x)
    ∙ ap (λ (w : Option ℕ). if (has_name (name_in (written_view c.written)) x && same_place w p && not (is_local_sort c.sort)) then Some n else first_keyed (suc n) cs p x) (within_is before c)
    ∙ by_parts (is_local_sort c.sort) (name_in (written_view c.written)) c.spot.within n p x (first_keyed (suc n) cs p x)

pub firsts : (cs : List ClassSite) (p : Option ℕ) (x : NameId) → first_declared 0 (sites_of cs) p x ≡ first_keyed 0 cs p x
unfolding sites_of
firsts cs p x = firsts_from 0 [] cs p x

pub or_else_assoc : (a b c : Option ℕ) → or_else (or_else a b) c ≡ or_else a (or_else b c)
or_else_assoc None b c = refl
or_else_assoc (Some n) b c = refl

-- what is found is the number of a class
below : (n : ℕ) (ss : List Site) (p : Option ℕ) (x : NameId) (c : ℕ) → first_declared n ss p x ≡ Some c → c < n + length ss
below n [] p x c e = absurd (cc e)
below n (s ∷ ss) p x c e = of (is_declared p x s) e (λ h. below (suc n) ss p x c h)
  where
    of : (b : Bool) → (if b then Some n else first_declared (suc n) ss p x) ≡ Some c → (first_declared (suc n) ss p x ≡ Some c → c < suc n + length ss) → c < n + suc (length ss)
    of true h later = let z : n ≡ c = cc h in omega (arith, z)
    of false h later = let l : c < suc n + length ss = later h in omega (arith, l)

pub first_below : (ss : List Site) (p : Option ℕ) (x : NameId) (c : ℕ) → first_declared 0 ss p x ≡ Some c → c < length ss
first_below ss p x c e = omega (arith, below 0 ss p x c e)
