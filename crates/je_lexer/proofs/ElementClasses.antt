-- Which characters begin a kind of input element, and which do not.
use Rattle.std.proofs.Common.{◌≡◌, ℕ, ◌+◌, ◌*◌, ◌^◌, ◌<◌, ◌≤◌, Bool, true, false, not, ◌&&◌, ◌||◌, ◌==◌, nat_lt, List, [], ◌∷◌, Some, None, if◌then◌else◌, All, refl, sym, ◌∙◌, arith, ⊎_elim, true≢false}
use Rattle.std.specs.Char.{digit_value, is_ascii_alphabetic, is_ascii_alphanumeric}
use Rattle.std.proofs.Math.Utf8.{low_scalar}
use Rattle.std.proofs.lemmas.Bool.{and_parts, or_cases, lt-ltb, le-ltb, ltb-true, ltb-false, not-true, agree_below_at, eqb-true}
use Rattle.std.proofs.lemmas.Bool.Decides.{nat_tests}
use Rattle.std.proofs.lemmas.List.Elements.{All-nil, All-cons}
use Rattle.std.proofs.lemmas.Str.Parse.{digit_from_value}
use Rattle.unicode_ident.proofs.IdentLemmas.{is_xid_start-ascii, is_xid_continue-ascii}
use Rattle.je_decode.specs.declared.character.Character.{Character}
use Rattle.je_lexer.specs.Classes.{is_space, starts_name, continues_name, is_digit_below, begins_with, begins_with_digit, tail}
use Rattle.je_lexer.specs.Numbers.{is_empty, is_suffix, digits, is_hexadecimal, number}
use Rattle.je_lexer.specs.declared.numbers.Number.{Number}

pub ascii_starts : (code : ℕ) → code < 128 → starts_name code ≡ (is_ascii_alphabetic code || (code == 95) || (code == 36))
unfolding starts_name
ascii_starts code low = rw (low_scalar code (omega arith), is_xid_start-ascii code low) refl

pub ascii_continues : (code : ℕ) → code < 128 → continues_name code ≡ ((is_ascii_alphanumeric code || (code == 95)) || (code == 36))
unfolding continues_name
ascii_continues code low = rw (low_scalar code (omega arith), is_xid_continue-ascii code low) refl

-- white space begins no name
pub space_starts : (code : ℕ) → is_space code ≡ true → starts_name code ≡ false
space_starts code e =
    let low : code < 33 = grind (arith, nat_tests) in
    ascii_starts code (omega arith) ∙ agree_below_at (λ c. is_ascii_alphabetic c || (c == 95) || (c == 36)) (λ c. false) 33 code refl low

pub name_spaces : (code : ℕ) → starts_name code ≡ true → is_space code ≡ false
name_spaces code e = by (is_space code) refl
  where
    by : (b : Bool) → is_space code ≡ b → is_space code ≡ false
    by true s = absurd (true≢false (sym e ∙ space_starts code s))
    by false s = s

-- digits are no white space and begin no name
digit_range : (code : ℕ) → is_digit_below 10 code ≡ true → (48 ≤ code) × (code ≤ 57)
digit_range code e = digit_from_value code (ltb-true (digit_value code) 10 e)

pub digit_starts : (code : ℕ) → is_digit_below 10 code ≡ true → starts_name code ≡ false
digit_starts code e =
    let h = digit_range code e in
    let tested : (nat_lt code 48 || not (is_ascii_alphabetic code || (code == 95) || (code == 36))) ≡ true =
    agree_below_at (λ c. nat_lt c 48 || not (is_ascii_alphabetic c || (c == 95) || (c == 36))) (λ c. true) 58 code refl (omega (arith, h.1)) in
    ascii_starts code (omega (arith, h.1)) ∙ not-true _ (rw (le-ltb code 48 h.0) at tested)

pub digit_spaces : (code : ℕ) → is_digit_below 10 code ≡ true → is_space code ≡ false
digit_spaces code e = let h = digit_range code e in grind (arith, nat_tests)

-- digits and letters continue names
alphanumeric : (code : ℕ) → digit_value code < 36 → (code < 123) × (is_ascii_alphanumeric code ≡ true)
alphanumeric code small = by (nat_lt code 123) refl
  where
    by : (b : Bool) → nat_lt code 123 ≡ b → (code < 123) × (is_ascii_alphanumeric code ≡ true)
    by true low =
        let tested : (not (nat_lt (digit_value code) 36) || is_ascii_alphanumeric code) ≡ true =
        agree_below_at (λ c. not (nat_lt (digit_value c) 36) || is_ascii_alphanumeric c) (λ c. true) 123 code refl (ltb-true code 123 low) in
        (ltb-true code 123 low, rw (lt-ltb (digit_value code) 36 small) at tested)
    by false high =
        let h = ltb-false code 123 high in
        let value : digit_value code ≡ 36 = rw (
          le-ltb code 48 (omega arith),
          le-ltb code 58 (omega arith),
          le-ltb code 65 (omega arith),
          le-ltb code 91 (omega arith),
          le-ltb code 97 (omega arith),
          le-ltb code 123 h,
        ) refl in
        absurd (omega arith)

letter_continues : (code : ℕ) → digit_value code < 36 → continues_name code ≡ true
letter_continues code small = let h = alphanumeric code small in ascii_continues code (omega (arith, h.0)) ∙ rw h.1 refl

code_continues : (code n : ℕ) → (code == n) ≡ true → digit_value n < 36 → continues_name code ≡ true
code_continues code n e small = rw (eqb-true code n e) (letter_continues n small)

-- ---- the characters of an integer literal continue names

abbrev pub Continue : List Character → Type 0
Continue cs = All (λ d. continues_name d.code ≡ true) cs

continue_nil : Continue []
continue_nil = All-nil (λ d. continues_name d.code ≡ true)

continue_cons : (c : Character) (cs : List Character) → continues_name c.code ≡ true → Continue cs → Continue (c ∷ cs)
continue_cons c cs = All-cons (λ d. continues_name d.code ≡ true) c cs

suffix_continues : (c : Character) (cs : List Character) → is_suffix c cs ≡ true → Continue (c ∷ cs)
suffix_continues c [] e =
    let first : continues_name c.code ≡ true =
    ⊎_elim (λ e. code_continues c.code 76 e (omega arith)) (λ e. code_continues c.code 108 e (omega arith)) (or_cases (c.code == 76) (c.code == 108) e) in
    continue_cons c [] first continue_nil
suffix_continues c (d ∷ ds) e = absurd (true≢false (sym e))

digits_continue : (decimal : Bool) (radix value : ℕ) (cs : List Character) (i : Number) → radix ≤ 36 → digits decimal radix value cs ≡ Some i → Continue cs
digits_continue decimal radix value [] i small e = continue_nil
digits_continue decimal radix value (c ∷ cs) i small e =
    by (is_suffix c cs) refl (is_digit_below radix c.code) refl (nat_lt (radix * value + digit_value c.code) (2 ^ 64)) e
    (digits_continue decimal radix (radix * value + digit_value c.code) cs i small)
  where
    by : (s : Bool) → is_suffix c cs ≡ s → (d : Bool) → is_digit_below radix c.code ≡ d → (l : Bool) →
        (if s then Some (record { decimal = decimal; long = true; value = value })
        else if d && l then digits decimal radix (radix * value + digit_value c.code) cs else None) ≡ Some i →
        (digits decimal radix (radix * value + digit_value c.code) cs ≡ Some i → Continue cs) → Continue (c ∷ cs)
    by true is d below l e rest = suffix_continues c cs is
    by false is true below true e rest = let h = ltb-true (digit_value c.code) radix below in continue_cons c cs (letter_continues c.code (omega arith)) (rest e)
    by false is true below false e rest = absurd (cc)
    by false is false below l e rest = absurd (cc)

hexadecimal_continues : (word : List Character) → is_hexadecimal word ≡ true → Continue (tail (tail word)) → Continue word
hexadecimal_continues [] e rest = rest
hexadecimal_continues (c ∷ []) e rest = absurd (true≢false (sym (and_parts (c.code == 48) _ e).1))
hexadecimal_continues (c ∷ d ∷ ds) e rest =
    let h = and_parts (c.code == 48) _ e in
    let mark : continues_name d.code ≡ true =
    ⊎_elim (λ e. code_continues d.code 120 e (omega arith)) (λ e. code_continues d.code 88 e (omega arith)) (or_cases (d.code == 120) (d.code == 88) h.1) in
    continue_cons c (d ∷ ds) (code_continues c.code 48 h.0 (omega arith)) (continue_cons d ds mark rest)

pub number_continues : (word : List Character) (i : Number) → number word ≡ Some i → Continue word
unfolding number
number_continues word i e = by (is_hexadecimal word) refl (begins_with_digit 16 (tail (tail word))) (begins_with 48 word && not (is_empty (tail word))) e
  where
    by : (h : Bool) → is_hexadecimal word ≡ h → (d o : Bool) →
        (if h then (if d then digits false 16 0 (tail (tail word)) else None) else if o then digits false 8 0 word else digits true 10 0 word) ≡ Some i → Continue word
    by true is true o e = hexadecimal_continues word is (digits_continue false 16 0 (tail (tail word)) i (omega arith) e)
    by true is false o e = absurd (cc)
    by false is d true e = digits_continue false 8 0 word i (omega arith) e
    by false is d false e = digits_continue true 10 0 word i (omega arith) e
