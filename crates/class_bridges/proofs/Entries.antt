-- What a map has by places, beside sorted places.
use Rattle.std.proofs.Common.{◌≡◌, List, [], ◌∷◌, ◌++◌, map, Bool, true, false, Option, Some, None, refl, sym, ap, ◌∙◌}
use Rattle.std.specs.Prelude.{◌&&◌, cond, filter, flat_map, is_some}
use Rattle.std.specs.BTreeMap.{BTreeMap, IsOrdered, get}
use Rattle.std.specs.Cmp.{eq_by_cmp_equiv}
use Rattle.std.specs.List.{All, list_any}
use Rattle.std.specs.Map.{keys_of}
use Rattle.std.specs.Ordering.{eq_by_cmp}
use Rattle.std.proofs.lemmas.List.Elements.{All-head, All-tail}
use Rattle.std.proofs.lemmas.List.Kept.{IsStrictlySortedBy-filter}
use Rattle.std.proofs.lemmas.Map.Lookups.{btree_set_from_contains}
use Rattle.std.proofs.lemmas.Map.Made.{is_member-filter, is_some-lookup}
use Rattle.std.proofs.lemmas.Map.Views.{All-found}
use Rattle.class_typing.specs.Bridges.{is_same_place, sorted}
use Rattle.class_bridges.specs.way.Found.{place_order}
use Rattle.class_bridges.proofs.Orders.{Place, exact, one_place, same_by_order, total}
use Rattle.class_bridges.proofs.Sorted.{any_sorted, rising}

module _ {Y : Type 0} (f : Place × Place → Y) where
  abbrev pub made_if : Place → Option Place → List Y
  made_if at None = []
  made_if at (Some by) = f (at, by) ∷ []

module _ {Y : Type 0} (f : Place × Place → Y) (g : Place → Option Place) where
  abbrev pub made_at : Place → List Y
  made_at at = made_if f at (g at)

  abbrev has : Place → Bool
  has at = is_some (g at)

  made-each : (es : List (Place × Place)) → All (λ e. g e.0 ≡ Some e.1) es → map f es ≡ flat_map made_at (keys_of es)
  made-each [] a = refl
  made-each (e ∷ es) a =
      (λ i. f e ∷ made-each es (All-tail (λ e. g e.0 ≡ Some e.1) e es a) i)
      ∙ sym (ap (λ o. made_if f e.0 o ++ flat_map made_at (keys_of es)) (All-head (λ e. g e.0 ≡ Some e.1) e es a))

  made-left : (ps : List Place) → flat_map made_at (filter has ps) ≡ flat_map made_at ps
  made-left [] = refl
  made-left (p ∷ ps) = by (g p) refl (made-left ps)
    where
      by : (o : Option Place) → g p ≡ o → flat_map made_at (filter has ps) ≡ flat_map made_at ps →
          flat_map made_at (cond (is_some o) (p ∷ filter has ps) (filter has ps)) ≡ made_if f p o ++ flat_map made_at ps
      by None e h = h
      by (Some q) e h = (λ i. made_if f p (e i) ++ h i)

  all-there : (q : Place) (b : Bool) → (b ≡ false → g q ≡ None) → (b && has q) ≡ has q
  all-there q true h = refl
  all-there q false h = sym (ap is_some (h refl))

  module _ (m : BTreeMap Place Place) (ps : List Place) (ordered : IsOrdered place_order m)
      (found : (at : Place) → get place_order m at ≡ g at) (none : (at : Place) → list_any (is_same_place at) ps ≡ false → g at ≡ None) where
    same-keys : (q : Place) →
        list_any (eq_by_cmp place_order q) (keys_of m.entries) ≡ list_any (eq_by_cmp place_order q) (filter has (sorted ps))
    same-keys q =
        sym (is_some-lookup (eq_by_cmp place_order q) m.entries)
        ∙ ap is_some (found q)
        ∙ sym (all-there q (list_any (is_same_place q) ps) (none q))
        ∙ ap (λ b. b && has q) (sym (any_sorted q ps) ∙ (λ i. list_any (λ p. sym (same_by_order q p) i) (sorted ps)))
        ∙ sym (is_member-filter (eq_by_cmp_equiv total) has q (λ x e. ap has (one_place q x (sym (same_by_order q x) ∙ e))) (sorted ps))

    keys-are : keys_of m.entries ≡ filter has (sorted ps)
    keys-are =
        btree_set_from_contains total (record { keys = keys_of m.entries }) (record { keys = filter has (sorted ps) }) ordered
        (IsStrictlySortedBy-filter place_order has (sorted ps) (rising ps)) same-keys exact

    -- in order of the places
    pub made_in_order : map f m.entries ≡ flat_map made_at (sorted ps)
    made_in_order =
        made-each m.entries (λ k d within. sym (found _) ∙ All-found total m ordered k d within)
        ∙ ap (flat_map made_at) keys-are ∙ made-left (sorted ps)
