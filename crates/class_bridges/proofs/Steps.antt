-- What runs for a place, one method more at a time.
use Rattle.std.proofs.Common.{◌≡◌, List, Bool, true, false, Option, Some, None, refl, sym, ap, ◌∙◌}
use Rattle.std.specs.Prelude.{if◌then◌else◌}
use Rattle.std.specs.BTreeMap.{BTreeMap, get, is_at}
use Rattle.std.specs.Map.{lookup}
use Rattle.std.specs.Option.{unwrap_or}
use Rattle.std.specs.Ordering.{is_eq}
use Rattle.overriding.specs.Methods.{Method}
use Rattle.class_typing.specs.Bridges.{is_same_place, place_of}
use Rattle.class_bridges.specs.way.Found.{else_by, place_order}
use Rattle.class_bridges.proofs.Orders.{Place, one_place, same_back, same_by_order}

else-none : (o : Option Place) (m : Method) → o ≡ else_by o false m
else-none None m = refl
else-none (Some at) m = refl

else-some : (o : Option Place) (m : Method) → Some (unwrap_or o (place_of m)) ≡ else_by o true m
else-some None m = refl
else-some (Some at) m = refl

module _ (found : BTreeMap Place Place) (k : Place) (m : Method) where
  abbrev now-at : Place → Option Place
  now-at at = get place_order found at

  -- what runs for a place, where nothing did yet
  pub else_written : (at : Place) →
      (if is_eq (place_order k at) then Some (unwrap_or (now-at k) (place_of m)) else now-at at)
      ≡ else_by (now-at at) (is_same_place at k) m
  else_written at = by (is_same_place at k) refl
    where
      at-order : is_eq (place_order k at) ≡ is_same_place at k
      at-order = same_by_order k at ∙ same_back k at

      by : (b : Bool) → is_same_place at k ≡ b →
          (if is_eq (place_order k at) then Some (unwrap_or (now-at k) (place_of m)) else now-at at) ≡ else_by (now-at at) (is_same_place at k) m
      by true e =
          (λ i. if (at-order ∙ e) i then Some (unwrap_or (now-at (sym (one_place at k e) i)) (place_of m)) else now-at at)
          ∙ else-some (now-at at) m ∙ ap (λ b. else_by (now-at at) b m) (sym e)
      by false e =
          (λ i. if (at-order ∙ e) i then Some (unwrap_or (now-at k) (place_of m)) else now-at at)
          ∙ else-none (now-at at) m ∙ ap (λ b. else_by (now-at at) b m) (sym e)

-- what a map has once something is written at a place, unless there was something
pub written : (old : BTreeMap Place Place) (there entries : List (Place × Place)) (k w by : Place) →
    ((q : Place) → lookup (is_at (place_order q)) there ≡ (if is_eq (place_order k q) then Some w else get place_order old q)) →
    entries ≡ there → w ≡ unwrap_or (get place_order old k) by → (q : Place) →
    lookup (is_at (place_order q)) entries
    ≡ (if is_eq (place_order k q) then Some (unwrap_or (get place_order old k) by) else get place_order old q)
written old there entries k w by u e f q =
    ap (lookup (is_at (place_order q))) e ∙ u q
    ∙ ap (λ v. if is_eq (place_order k q) then Some v else get place_order old q) f
