-- Numbers that digits write, up to a greatest one.
use Rattle.std.proofs.Common.{◌≡◌, ℕ, zero, suc, ◌+◌, ◌-◌, ◌*◌, ◌^◌, ◌<◌, ◌≤◌, Bool, true, false, cond, leb, List, [], ◌∷◌, length, get_or, drop, Option, Some, None, refl, ap, ◌∙◌, inl, inr, arith, le-leb, ltb-true}
use Rattle.std.specs.Prelude.{ℤ, pos, negsuc, option_map, FitsSigned}
use Rattle.std.specs.Int.{w32}
use Rattle.std.proofs.lemmas.List.{drop_more, drop_all}
use Rattle.std.proofs.lemmas.Bool.{cases_lt}
use Rattle.std.proofs.lemmas.Bool.Decides.{nat_tests}
use Rattle.text_numbers.specs.Reading.{is_digit, is_within, kept_within, natural_in, negative, number_behind}
use Rattle.text_numbers.specs.way.Growing.{at_most, with_digit_at_most}

-- a number with digits behind it is no smaller
beyond : (most number : ℕ) (units : List ℕ) → most < number → at_most most (number_behind number units) ≡ None
beyond most number [] h = grind (arith, nat_tests)
beyond most number (unit ∷ units) h =
    elim (is_digit unit) as (λ digit. at_most most (cond digit (number_behind (number * 10 + (unit - 48)) units) None) ≡ None) [
      | true ↦ beyond most (number * 10 + (unit - 48)) units (omega arith)
      | false ↦ refl
    ]

further_by : (digit fits : Bool) (number more : ℕ) (units : List ℕ) →
    cond digit (cond fits (Some number) None) None ≡ Some more →
    cond digit (number_behind number units) None ≡ number_behind more units
further_by true true number more units e =
    let same : number ≡ more = cc in ap (λ n. number_behind n units) same
further_by true false number more units e = cc
further_by false fits number more units e = cc

nothing_by : (digit : Bool) (most number : ℕ) (units : List ℕ) →
    cond digit (at_most most (Some number)) None ≡ None →
    at_most most (cond digit (number_behind number units) None) ≡ None
nothing_by true most number units e = elim (cases_lt most number) [
  | inl h ↦ beyond most number units h
  | inr h ↦ let some : at_most most (Some number) ≡ Some number = ap (λ b. cond b (Some number) None) (le-leb number most h) in cc
]
nothing_by false most number units e = refl

-- one unit more
further : (most number more unit : ℕ) (units : List ℕ) → with_digit_at_most most number unit ≡ Some more →
    number_behind number (unit ∷ units) ≡ number_behind more units
further most number more unit units e =
    further_by (is_digit unit) (leb (number * 10 + (unit - 48)) most) (number * 10 + (unit - 48)) more units e

nothing_further : (most number unit : ℕ) (units : List ℕ) → with_digit_at_most most number unit ≡ None →
    at_most most (number_behind number (unit ∷ units)) ≡ None
nothing_further most number unit units e = nothing_by (is_digit unit) most (number * 10 + (unit - 48)) units e

pub digit_more : (most number more : ℕ) (units : List ℕ) (i : ℕ) → i < length units →
    with_digit_at_most most number (get_or units i 0) ≡ Some more →
    number_behind number (drop i units) ≡ number_behind more (drop (i + 1) units)
digit_more most number more units i l e =
    ap (number_behind number) (drop_more units i 0 l)
    ∙ further most number more (get_or units i 0) (drop (i + 1) units) e

pub no_digit_more : (most number : ℕ) (units : List ℕ) (i : ℕ) → i < length units →
    with_digit_at_most most number (get_or units i 0) ≡ None →
    at_most most (number_behind number (drop i units)) ≡ None
no_digit_more most number units i l e =
    ap (λ us. at_most most (number_behind number us)) (drop_more units i 0 l)
    ∙ nothing_further most number (get_or units i 0) (drop (i + 1) units) e

pub digits_end : (most number : ℕ) (units : List ℕ) (i : ℕ) → length units ≤ i → number ≤ most →
    at_most most (number_behind number (drop i units)) ≡ Some number
digits_end most number units i l h =
    ap (λ us. at_most most (number_behind number us)) (drop_all i units l)
    ∙ ap (λ b. cond b (Some number) None) (le-leb number most h)

pub some_digits : (units : List ℕ) → 0 < length units → natural_in units ≡ number_behind 0 units
some_digits [] h = absurd (omega arith)
some_digits (unit ∷ units) h = refl

pub no_digits : (units : List ℕ) → length units ≡ 0 → natural_in units ≡ None
no_digits [] h = refl
no_digits (unit ∷ units) h = absurd (omega arith)

pub ruleset digits = (digit_more, no_digit_more, digits_end, some_digits, no_digits)

-- a natural number within a limit, by its sign

pub kept_negative : (limit : ℕ) (number : Option ℕ) → 0 < limit →
    kept_within limit (option_map negative number) ≡ option_map negative (at_most limit number)
kept_negative limit None l = refl
kept_negative limit (Some zero) l = grind (arith, nat_tests)
kept_negative limit (Some (suc n)) l = grind (arith, nat_tests)

pub kept_plain : (limit : ℕ) (number : Option ℕ) → 0 < limit →
    kept_within limit (option_map pos number) ≡ option_map pos (at_most (limit - 1) number)
kept_plain limit None l = refl
kept_plain limit (Some n) l = grind (arith, nat_tests)

pub negative_within : (limit number : ℕ) → 0 < limit → number ≤ limit →
    is_within limit (negative number) ≡ true
negative_within limit zero l h = grind (arith, nat_tests)
negative_within limit (suc n) l h = grind (arith, nat_tests)

pub ruleset limits = (kept_negative, kept_plain, negative_within)

pub int_fits : (number : ℤ) → is_within (2 ^ 31) number ≡ true → FitsSigned w32 number
int_fits (pos n) h = record { sfits = ltb-true n (2 ^ 31) h }
int_fits (negsuc n) h = record { sfits = ltb-true n (2 ^ 31) h }
