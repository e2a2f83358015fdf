use Rattle.std.proofs.Common.{refl}
use Rattle.std.proofs.lemmas.Cmp.{eq_by_cmp_equiv}
use Rattle.std.proofs.lemmas.List.Filters.{dedup_is}
use Rattle.std.proofs.lemmas.List.Kept.{Contains-dedup, Contains-from_dedup, IsStrictlySortedBy-dedup}
use Rattle.std.proofs.lemmas.List.Sorted.{Contains-permutation, IsPermutation-sym}
use Rattle.std.proofs.lemmas.Map.Views.{tells_apart}
use Rattle.rule_breaks.proofs.Order.{break-order-total, same-break}
use Rattle.rule_breaks.proofs.found.sorted.Goals as goal

pub returns-clause-in_order : goal.returns-clause-in_order
returns-clause-in_order c =
    let is = dedup_is _ _ _ c.dedup.ensures.filtered in
    rw is (IsStrictlySortedBy-dedup break-order-total (λ x y. refl) _ c.sort_unstable.ensures.sorted)

pub returns-clause-members : goal.returns-clause-members
returns-clause-members c =
    let is = dedup_is _ _ _ c.dedup.ensures.filtered in
    let moved = c.sort_unstable.ensures.permutation in
    λ b. (
      λ h. Contains-permutation _ _ b (IsPermutation-sym _ _ moved) (Contains-from_dedup _ _ b (rw is at h)),
      λ h. rw is (Contains-dedup (eq_by_cmp_equiv break-order-total) (tells_apart same-break) _ b (Contains-permutation _ _ b moved h)),
    )
