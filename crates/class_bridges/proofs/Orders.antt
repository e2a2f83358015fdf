-- The order of places.
use Rattle.std.proofs.Common.{◌≡◌, ℕ, Bool, true, false, Ordering, Less, Equal, Greater, refl, sym, ap, ◌∙◌}
use Rattle.std.specs.Prelude.{◌&&◌, ◌||◌, cond, nat_eq, nat_lt}
use Rattle.std.specs.Cmp.{IsTotalOrder, both_tied, unsigned_tied}
use Rattle.std.specs.Ordering.{is_eq, is_lt, nat_cmp, ordering_then}
use Rattle.std.proofs.lemmas.Cmp.{nat_cmp_total, nat_eq_equiv, on_total, then_total}
use Rattle.std.proofs.lemmas.Map.Lookups.{CmpEqualImpliesEq, exact_pairs, exact_unsigned}
use Rattle.class_typing.specs.Bridges.{is_same_place, stands_before}
use Rattle.class_bridges.specs.way.Found.{place_order}

abbrev pub Place : Type 0
Place = ℕ × ℕ

pub total : IsTotalOrder place_order
total = then_total (on_total (λ (p : Place). p.0) nat_cmp_total) (on_total (λ (p : Place). p.1) nat_cmp_total)

pub exact : CmpEqualImpliesEq place_order
exact = exact_pairs nat_cmp nat_cmp exact_unsigned exact_unsigned

pub same_by_order : (p q : Place) → is_eq (place_order p q) ≡ is_same_place p q
same_by_order p q =
    sym (both_tied (nat_eq p.0 q.0) (nat_eq p.1 q.1) (nat_cmp p.0 q.0) (nat_cmp p.1 q.1)
    (sym (unsigned_tied p.0 q.0)) (sym (unsigned_tied p.1 q.1)))

below : (x y : ℕ) → is_lt (nat_cmp x y) ≡ nat_lt x y
below x y = by (nat_lt x y) (nat_eq x y)
  where
    by : (a b : Bool) → is_lt (cond a Less (cond b Equal Greater)) ≡ a
    by true b = refl
    by false true = refl
    by false false = refl

then-below : (a b : Ordering) → is_lt (ordering_then a b) ≡ (is_lt a || (is_eq a && is_lt b))
then-below Less b = refl
then-below Equal b = refl
then-below Greater b = refl

pub before_by_order : (p q : Place) → is_lt (place_order p q) ≡ stands_before p q
before_by_order p q =
    then-below (nat_cmp p.0 q.0) (nat_cmp p.1 q.1)
    ∙ (λ i. below p.0 q.0 i || (unsigned_tied p.0 q.0 i && below p.1 q.1 i))

pub same_back : (p q : Place) → is_same_place p q ≡ is_same_place q p
same_back p q = λ i. nat_eq_equiv.symm p.0 q.0 i && nat_eq_equiv.symm p.1 q.1 i

pub one_place : (p q : Place) → is_same_place p q ≡ true → p ≡ q
one_place p q e = by (place_order p q) refl
  where
    apart : (r : Ordering) → place_order p q ≡ r → is_eq r ≡ false → p ≡ q
    apart r f g = let k : false ≡ true = sym g ∙ ap is_eq (sym f) ∙ same_by_order p q ∙ e in absurd (cc)

    by : (r : Ordering) → place_order p q ≡ r → p ≡ q
    by Equal f = exact p q f
    by Less f = apart Less f refl
    by Greater f = apart Greater f refl
