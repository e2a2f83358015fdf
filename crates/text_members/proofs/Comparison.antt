-- Texts compared from one place on, and the sum that a hash is.
use Rattle.std.proofs.Common.{◌≡◌, ◌≢◌, ℕ, ◌+◌, ◌*◌, ◌%◌, ◌^◌, ◌<◌, ◌≤◌, min, List, [], ◌∷◌, ◌++◌, length, get_or, take, drop, Some, None, refl, sym, ap, ◌∙◌, inl, inr, suc, arith, eq-eqb, ne_eqb, pow-suc}
use Rattle.std.specs.Prelude.{ℤ, pos, ◌-ℤ◌, neg_ℤ}
use Rattle.std.specs.Int.{Width, w32, cast_signed, cast_unsigned, int_wrap, int_wrapping_sub}
use Rattle.std.proofs.lemmas.Int.{int_wrap-add_left, int_wrap-sub_right, wrapping_sub_is, SFits-int_wrap, to_z-of_z}
use Rattle.std.proofs.lemmas.List.{drop_more, drop_all, take_more, take_all, length-append}
use Rattle.std.proofs.lemmas.Bool.{cases_lt}
use Rattle.std.proofs.lemmas.Nat.{mul-mod_first}
use Rattle.std.proofs.Math.Nat.{mod-add-mod}
use Rattle.text_members.specs.Comparing.{first_difference, hash_code, weighed}

same_first : (a b : ℕ) (left right : List ℕ) → a ≡ b →
    first_difference (a ∷ left) (b ∷ right) ≡ first_difference left right
same_first a b left right e = rw (eq-eqb a b e) refl

differ_first : (a b : ℕ) (left right : List ℕ) → a ≢ b →
    first_difference (a ∷ left) (b ∷ right) ≡ Some (pos a -ℤ pos b)
differ_first a b left right e = rw (ne_eqb a b e) refl

pub same_here : (left right : List ℕ) (at : ℕ) → at < length left → at < length right →
    get_or left at 0 ≡ get_or right at 0 →
    first_difference (drop at left) (drop at right) ≡ first_difference (drop (at + 1) left) (drop (at + 1) right)
same_here left right at l r e =
    let x = drop_more left at 0 l in
    let y = drop_more right at 0 r in
    (λ i. first_difference (x i) (y i))
    ∙ same_first (get_or left at 0) (get_or right at 0) (drop (at + 1) left) (drop (at + 1) right) e

pub differ_here : (left right : List ℕ) (at : ℕ) → at < length left → at < length right →
    get_or left at 0 ≢ get_or right at 0 →
    first_difference (drop at left) (drop at right) ≡ Some (pos (get_or left at 0) -ℤ pos (get_or right at 0))
differ_here left right at l r e =
    let x = drop_more left at 0 l in
    let y = drop_more right at 0 r in
    (λ i. first_difference (x i) (y i))
    ∙ differ_first (get_or left at 0) (get_or right at 0) (drop (at + 1) left) (drop (at + 1) right) e

none_left : (right : List ℕ) → first_difference [] right ≡ None
none_left right = refl

none_right : (left : List ℕ) → first_difference left [] ≡ None
none_right [] = refl
none_right (unit ∷ left) = refl

pub none_further : (left right : List ℕ) (at : ℕ) → min (length left) (length right) ≤ at →
    first_difference (drop at left) (drop at right) ≡ None
none_further left right at h = elim (cases_lt at (length left)) [
  | inl l ↦ let past : length right ≤ at = omega arith in
      ap (first_difference (drop at left)) (drop_all at right past) ∙ none_right (drop at left)
  | inr past ↦ ap (λ us. first_difference us (drop at right)) (drop_all at left past)
]

pub ruleset differences = (same_here, differ_here, none_further)

pub natural_wrapped : (n : ℕ) → int_wrap w32 (pos n) ≡ cast_signed w32 (n % 2 ^ 32)
unfolding int_wrap
natural_wrapped n = refl

wrapped_difference : (w : Width) (x y : ℤ) → int_wrap w (int_wrap w x -ℤ int_wrap w y) ≡ int_wrap w (x -ℤ y)
wrapped_difference w x y = int_wrap-sub_right w (int_wrap w x) y ∙ int_wrap-add_left w x (neg_ℤ y)

pub difference_is : (x y a b : ℤ) → a ≡ int_wrap w32 x → b ≡ int_wrap w32 y →
    int_wrapping_sub w32 a b ≡ int_wrap w32 (x -ℤ y)
difference_is x y a b e f =
    (λ i. int_wrapping_sub w32 (e i) (f i))
    ∙ wrapping_sub_is w32 (int_wrap w32 x) (int_wrap w32 y) (SFits-int_wrap w32 x) (SFits-int_wrap w32 y)
    ∙ wrapped_difference w32 x y

pub weighed_push : (units : List ℕ) (unit : ℕ) → weighed (units ++ unit ∷ []) ≡ weighed units * 31 + unit
weighed_push [] unit = omega arith
weighed_push (first ∷ units) unit =
    let long : length (units ++ unit ∷ []) ≡ suc (length units) = omega (arith, length-append units (unit ∷ [])) in
    let power : 31 ^ length (units ++ unit ∷ []) ≡ 31 ^ length units * 31 = ap (λ n. 31 ^ n) long
    ∙ pow-suc 31 (length units) in
    rw (power, weighed_push units unit) (omega arith)

pub weighed_more : (units : List ℕ) (i : ℕ) → i < length units →
    weighed (take (i + 1) units) ≡ weighed (take i units) * 31 + get_or units i 0
weighed_more units i l = ap weighed (take_more units i 0 l) ∙ weighed_push (take i units) (get_or units i 0)

pub hash_more : (sum unit m : ℕ) → ((sum % m * 31) % m + unit) % m ≡ (sum * 31 + unit) % m
hash_more sum unit m = ap (λ n. (n + unit) % m) (mul-mod_first sum 31 m) ∙ mod-add-mod (sum * 31) m unit

pub ruleset hashes = (weighed_more, hash_more)

pub hash_is : (units : List ℕ) (i hash : ℕ) (result : ℤ) → length units ≤ i →
    hash ≡ weighed (take i units) % 2 ^ 32 → result ≡ cast_signed w32 hash →
    cast_signed w32 (cast_unsigned w32 result) ≡ hash_code units
hash_is units i hash result past sum cast =
    let wrapped : result ≡ hash_code units =
    cast ∙ ap (cast_signed w32) (sum ∙ ap (λ us. weighed us % 2 ^ 32) (take_all i units past))
    ∙ sym (natural_wrapped (weighed units)) in
    ap (λ z. cast_signed w32 (cast_unsigned w32 z)) wrapped
    ∙ to_z-of_z w32 (hash_code units) (SFits-int_wrap w32 (pos (weighed units)))
