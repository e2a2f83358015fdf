-- A set of breaks has one list.
use Rattle.std.proofs.Common.{◌≡◌, ◌⊎◌, inl, inr, List, [], ◌∷◌, refl, sym, ◌∙◌, subst}
use Rattle.std.specs.List.{Contains}
use Rattle.std.specs.List.Sorted.{IsStrictlySortedBy}
use Rattle.std.specs.declared.cmp.Ordering.TheVariants.{Less}
use Rattle.std.proofs.lemmas.Cmp.{tied_itself}
use Rattle.std.proofs.lemmas.List.Elements.{All-contains, Contains-append_left, Contains-append_right, Contains-append_cases, Contains-push, Contains-push_cases}
use Rattle.std.proofs.lemmas.Map.Keys.{sorted_tail}
use Rattle.std.proofs.lemmas.Map.Views.{All-after_first}
use Rattle.rule_breaks.specs.declared.breaks.Break.{Break}
use Rattle.rule_breaks.specs.Breaks.{break_order, ListIsOne}
use Rattle.rule_breaks.proofs.Members.{Contains-nil}
use Rattle.rule_breaks.proofs.Order.{break-order-total}

first : (x : Break) (xs : List Break) → Contains (x ∷ xs) x
first x xs = Contains-append_left (x ∷ []) xs x (Contains-push [] x)

later : (x : Break) (xs : List Break) (b : Break) → Contains xs b → Contains (x ∷ xs) b
later x xs b h = Contains-append_right (x ∷ []) xs b h

cases : (x : Break) (xs : List Break) (b : Break) → Contains (x ∷ xs) b → (x ≡ b) ⊎ Contains xs b
cases x xs b h =
    elim (Contains-append_cases (x ∷ []) xs b h) [
      | inl p ↦ elim (Contains-push_cases [] x b p) [ inl q ↦ absurd (Contains-nil b q) | inr q ↦ inl q ]
      | inr p ↦ inr p
    ]

above : (x : Break) (xs : List Break) (b : Break) → IsStrictlySortedBy break_order (x ∷ xs) → Contains xs b → break_order x b ≡ Less
above x xs b s h = All-contains (λ (b : Break). break_order x b ≡ Less) xs b (All-after_first break_order x xs s) h

not-above-itself : (x : Break) → break_order x x ≡ Less → ⊥
not-above-itself x h = let e = tied_itself break-order-total x in cc

not-above-each-other : (x y : Break) → break_order x y ≡ Less → break_order y x ≡ Less → ⊥
not-above-each-other x y h k = not-above-itself x (break-order-total.trans x y x h k)

abbrev Within : List Break → List Break → Type 0
Within xs ys = (b : Break) → Contains xs b → Contains ys b

same-first : (x y : Break) (xs ys : List Break) → IsStrictlySortedBy break_order (x ∷ xs) → IsStrictlySortedBy break_order (y ∷ ys) → Within (x ∷ xs) (y ∷ ys) → Within (y ∷ ys) (x ∷ xs) → x ≡ y
same-first x y xs ys s t to fro =
    elim (cases y ys x (to x (first x xs))) [
      | inl p ↦ sym p
      | inr p ↦ elim (cases x xs y (fro y (first y ys))) [
        | inl q ↦ q
        | inr q ↦ absurd (not-above-each-other x y (above x xs y s q) (above y ys x t p))
      ]
    ]

rest-within : (x y : Break) (xs ys : List Break) → x ≡ y → IsStrictlySortedBy break_order (x ∷ xs) → Within (x ∷ xs) (y ∷ ys) → Within xs ys
rest-within x y xs ys e s to b h =
    elim (cases y ys b (to b (later x xs b h))) [
      | inl p ↦ absurd (not-above-itself x (let P : Break → Type 0 = λ c. break_order x c ≡ Less in subst P (sym (e ∙ p)) (above x xs b s h)))
      | inr p ↦ p
    ]

one-list : (xs ys : List Break) → IsStrictlySortedBy break_order xs → IsStrictlySortedBy break_order ys → Within xs ys → Within ys xs → xs ≡ ys
one-list [] [] s t to fro = refl
one-list [] (y ∷ ys) s t to fro = absurd (Contains-nil y (fro y (first y ys)))
one-list (x ∷ xs) [] s t to fro = absurd (Contains-nil x (to x (first x xs)))
one-list (x ∷ xs) (y ∷ ys) s t to fro =
    let e = same-first x y xs ys s t to fro in
    let rest = one-list xs ys (sorted_tail break_order x xs s) (sorted_tail break_order y ys t) (rest-within x y xs ys e s to) (rest-within y x ys xs (sym e) t fro) in
    cc

pub list-is-one : ListIsOne
list-is-one breaks list other l m =
    one-list list other l.in_order m.in_order (λ b h. (m.members b).1 ((l.members b).0 h)) (λ b h. (l.members b).1 ((m.members b).0 h))
