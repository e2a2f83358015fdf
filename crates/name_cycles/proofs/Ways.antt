-- All to which a class leads, as a set of classes in memory.
use Rattle.std.proofs.Common.{◌≡◌, ℕ, ◌+◌, ◌<◌, ◌≤◌, List, [], ◌∷◌, length, Some, refl, sym, ◌∙◌, ap, subst, arith, eq-eqb}
use Rattle.std.specs.Prelude.{◌-◌, ◌↔◌, ◌||◌, Bool, true, nat_eq, slice_get}
use Rattle.std.specs.List.{Contains, IsDistinct, list_any}
use Rattle.std.proofs.lemmas.Bool.{eqb-true}
use Rattle.je_core.specs.declared.types.ClassId.{ClassId}
use Rattle.je_classes.proofs.Lists.{any-contains, contains-any}
use Rattle.scope_laws.proofs.Gains.{Gains}
use Rattle.scope_laws.proofs.Cycles.{IsClosing, closing-goes-on}
use Rattle.name_lookup.specs.View.{numbers}
use Rattle.name_lookup.proofs.Walk.{number-at, within-numbers}

module _ (edges : ℕ → List ℕ) (n start : ℕ) (keys : List ClassId) (at : ℕ) (w : IsClosing edges n start (numbers keys) at) where
  pub close_on : (class : ClassId) (new : List ClassId) → slice_get keys at ≡ Some class → Gains (numbers keys) (numbers new) (edges class.0) → (IsDistinct nat_eq (numbers keys) → IsDistinct nat_eq (numbers new)) →
      ((c d : ℕ) → Contains (edges c) d → d < n) → IsClosing edges n start (numbers new) (at + 1)
  close_on class new g gains d within =
      closing-goes-on edges n start (numbers keys) (numbers new) at w (within-numbers keys at class g) (subst (λ c. Gains (numbers keys) (numbers new) (edges c)) (number-at keys at class g) gains) (d w.distinct) within

  pub close_nearer : (class : ClassId) → slice_get keys at ≡ Some class → n - (at + 1) < n - at
  close_nearer class g = let few : length (numbers keys) ≤ n = w.few in let l = within-numbers keys at class g in omega (arith, few, l)

-- whether a class is one of these, by its number
module _ (same : ClassId → Bool) (c : ClassId) (by_number : (k : ClassId) → same k ≡ nat_eq c.0 k.0) where
  any-number : (ks : List ClassId) → list_any same ks ≡ list_any (nat_eq c.0) (numbers ks)
  any-number [] = refl
  any-number (k ∷ ks) = ap (λ (b : Bool). b || list_any same ks) (by_number k) ∙ ap (λ (b : Bool). nat_eq c.0 k.0 || b) (any-number ks)

  pub is_one_of : (ks : List ClassId) (b : Bool) → b ≡ list_any same ks → (b ≡ true) ↔ Contains (numbers ks) c.0
  is_one_of ks b e = (
    λ t. let r = contains-any (nat_eq c.0) (numbers ks) (sym (any-number ks) ∙ sym e ∙ t) in subst (λ n. Contains (numbers ks) n) (sym (eqb-true c.0 r.element r.passes)) r.there,
    λ q. e ∙ any-number ks ∙ any-contains (nat_eq c.0) (numbers ks) c.0 q (eq-eqb c.0 c.0 refl),
  )
