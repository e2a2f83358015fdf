-- Places that are sorted, each once.
use Rattle.std.proofs.Common.{◌≡◌, List, [], ◌∷◌, Bool, true, false, Ordering, Less, Equal, Greater, refl, sym, ap, ◌∙◌}
use Rattle.std.specs.Prelude.{◌||◌, if◌then◌else◌}
use Rattle.std.specs.List.{AllByRecursion, list_any}
use Rattle.std.specs.List.Sorted.{IsStrictlySortedBy}
use Rattle.std.specs.Ordering.{is_eq, is_lt, ordering_reverse}
use Rattle.std.proofs.lemmas.Map.Keys.{sorted_head, sorted_tail}
use Rattle.class_typing.specs.Bridges.{inserted, is_same_place, sorted, stands_before}
use Rattle.class_bridges.specs.way.Found.{place_order}
use Rattle.class_bridges.proofs.Orders.{Place, before_by_order, one_place, same_by_order, total}

-- it is before each of these
abbrev Before : Place → List Place → Type 0
Before p qs = AllByRecursion (λ q. place_order p q ≡ Less) qs

before-all : (p q : Place) (rs : List Place) → place_order p q ≡ Less → Before q rs → Before p rs
before-all p q [] e b = tt
before-all p q (r ∷ rs) e b = (total.trans p q r e b.0, before-all p q rs e b.1)

before-inserted : (p q : Place) (rs : List Place) → place_order q p ≡ Less → Before q rs → Before q (inserted p rs)
before-inserted p q [] e b = (e, tt)
before-inserted p q (r ∷ rs) e b = by (stands_before p r) (before-inserted p q rs e b.1)
  where
    by : (c : Bool) → Before q (inserted p rs) → Before q (if c then p ∷ r ∷ rs else r ∷ inserted p rs)
    by true h = (e, b)
    by false h = (b.0, h)

rising-cons : (p : Place) (qs : List Place) → Before p qs → IsStrictlySortedBy place_order qs → IsStrictlySortedBy place_order (p ∷ qs)
unfolding IsStrictlySortedBy
rising-cons p qs b s = (b, s)

no-place : IsStrictlySortedBy place_order []
unfolding IsStrictlySortedBy
no-place = tt

-- where it isn't one of them
rising-inserted : (p : Place) (qs : List Place) → list_any (is_same_place p) qs ≡ false → IsStrictlySortedBy place_order qs →
    IsStrictlySortedBy place_order (inserted p qs)
rising-inserted p [] n s = rising-cons p [] tt s
rising-inserted p (q ∷ qs) n s =
    by (place_order p q) refl (stands_before p q) (before_by_order p q) (is_same_place p q) (same_by_order p q) n (rising-inserted p qs)
  where
    head : Before q qs
    head = sorted_head place_order q qs s

    rest : IsStrictlySortedBy place_order qs
    rest = sorted_tail place_order q qs s

    by : (r : Ordering) → place_order p q ≡ r → (c : Bool) → is_lt (place_order p q) ≡ c → (d : Bool) →
        is_eq (place_order p q) ≡ d → (d || list_any (is_same_place p) qs) ≡ false →
        (list_any (is_same_place p) qs ≡ false → IsStrictlySortedBy place_order qs → IsStrictlySortedBy place_order (inserted p qs)) →
        IsStrictlySortedBy place_order (if c then p ∷ q ∷ qs else q ∷ inserted p qs)
    by Less e true f d g m h = rising-cons p (q ∷ qs) (e, before-all p q qs e head) s
    by Less e false f d g m h = let k : true ≡ false = ap is_lt (sym e) ∙ f in absurd (cc)
    by Equal e c f true g m h = absurd (cc)
    by Equal e c f false g m h = let k : true ≡ false = ap is_eq (sym e) ∙ g in absurd (cc)
    by Greater e true f d g m h = let k : false ≡ true = ap is_lt (sym e) ∙ f in absurd (cc)
    by Greater e false f true g m h = absurd (cc)
    by Greater e false f false g m h =
        let less : place_order q p ≡ Less = total.antisymm q p ∙ ap ordering_reverse e in
        rising-cons q (inserted p qs) (before-inserted p q qs less head) (h m rest)

second-first : (a b c : Bool) → (a || (b || c)) ≡ (b || (a || c))
second-first true true c = refl
second-first true false c = refl
second-first false b c = refl

any-inserted : (test : Place → Bool) (p : Place) (qs : List Place) → list_any test (inserted p qs) ≡ (test p || list_any test qs)
any-inserted test p [] = refl
any-inserted test p (q ∷ qs) = by (stands_before p q) (any-inserted test p qs)
  where
    by : (c : Bool) → list_any test (inserted p qs) ≡ (test p || list_any test qs) →
        list_any test (if c then p ∷ q ∷ qs else q ∷ inserted p qs) ≡ (test p || (test q || list_any test qs))
    by true h = refl
    by false h = ap (λ b. test q || b) h ∙ second-first (test q) (test p) (list_any test qs)

-- the same places
pub any_sorted : (q : Place) (ps : List Place) → list_any (is_same_place q) (sorted ps) ≡ list_any (is_same_place q) ps
any_sorted q [] = refl
any_sorted q (p ∷ ps) = by (list_any (is_same_place p) ps) refl (any_sorted q ps)
  where
    there : list_any (is_same_place p) ps ≡ true → (b : Bool) → is_same_place q p ≡ b →
        list_any (is_same_place q) ps ≡ (b || list_any (is_same_place q) ps)
    there e true f = ap (λ r. list_any (is_same_place r) ps) (one_place q p f) ∙ e
    there e false f = refl

    by : (b : Bool) → list_any (is_same_place p) ps ≡ b → list_any (is_same_place q) (sorted ps) ≡ list_any (is_same_place q) ps →
        list_any (is_same_place q) (if b then sorted ps else inserted p (sorted ps)) ≡ (is_same_place q p || list_any (is_same_place q) ps)
    by true e h = h ∙ there e (is_same_place q p) refl
    by false e h = any-inserted (is_same_place q) p (sorted ps) ∙ ap (λ b. is_same_place q p || b) h

pub rising : (ps : List Place) → IsStrictlySortedBy place_order (sorted ps)
rising [] = no-place
rising (p ∷ ps) = by (list_any (is_same_place p) ps) refl (rising ps)
  where
    by : (b : Bool) → list_any (is_same_place p) ps ≡ b → IsStrictlySortedBy place_order (sorted ps) →
        IsStrictlySortedBy place_order (if b then sorted ps else inserted p (sorted ps))
    by true e s = s
    by false e s = rising-inserted p (sorted ps) (any_sorted p ps ∙ e) s
