-- The sign at the front of a text is the longest, and the characters of a run are all of its kind.
use Rattle.std.proofs.Common.{◌+◌, ◌++◌, ◌≡◌, ℕ, suc, ◌≤◌, Bool, true, false, ◌&&◌, ◌==◌, nat_lt, List, [], ◌∷◌, length, take, Option, Some, None, if◌then◌else◌, All, refl, subst, ◌∙◌, arith}
use Rattle.std.specs.Option.{IfSome}
use Rattle.std.proofs.lemmas.Bool.{and_parts}
use Rattle.std.proofs.lemmas.Bool.Decides.{nat_tests}
use Rattle.std.proofs.lemmas.List.Elements.{All-nil, All-cons, All-head, All-tail}
use Rattle.je_decode.specs.declared.character.Character.{Character}
use Rattle.je_token.specs.Texts.{symbol_text}
use Rattle.je_token.specs.declared.symbol.Symbol.{Symbol}
use Rattle.je_lexer.specs.way.Runs.{run_of}
use Rattle.je_lexer.specs.way.Symbols.{fits, symbol_len, longer, longest, all_symbols, symbol_at}

module _ (text : List Character) where
  abbrev Fits : Symbol → Type 0
  Fits s = fits (symbol_text s) text ≡ true

  -- no more than this
  abbrev pub IsAtMost : ℕ → Symbol → Type 0
  IsAtMost n s = Fits s → length (symbol_text s) ≤ n

  record Step (best : Option Symbol) (s : Symbol) (next : Option Symbol) : Type 0 where
    fitting : IfSome best Fits → IfSome next Fits
    grown : symbol_len best ≤ symbol_len next
    covered : IsAtMost (symbol_len next) s

  step : (best : Option Symbol) (s : Symbol) → Step best s (longer best s text)
  unfolding longer
  step best s = by (fits (symbol_text s) text) refl (nat_lt (symbol_len best) (length (symbol_text s))) refl
    where
      by : (b : Bool) → fits (symbol_text s) text ≡ b → (l : Bool) → nat_lt (symbol_len best) (length (symbol_text s)) ≡ l → Step best s (if b && l then Some s else best)
      by true e true f = record { fitting = λ h. e; grown = grind (arith, nat_tests); covered = λ h. omega arith }
      by true e false f = record { fitting = λ h. h; grown = omega arith; covered = λ h. grind (arith, nat_tests) }
      by false e l f = record { fitting = λ h. h; grown = omega arith; covered = λ h. absurd (cc) }

  all_fit : (best : Option Symbol) (symbols : List Symbol) → IfSome best Fits → IfSome (longest best symbols text) Fits
  all_fit best [] h = h
  all_fit best (s ∷ more) h = all_fit (longer best s text) more ((step best s).fitting h)

  all_grow : (best : Option Symbol) (symbols : List Symbol) → symbol_len best ≤ symbol_len (longest best symbols text)
  all_grow best [] = omega arith
  all_grow best (s ∷ more) = let first = (step best s).grown in let rest = all_grow (longer best s text) more in omega arith

  all_covered : (best : Option Symbol) (symbols : List Symbol) → All (IsAtMost (symbol_len (longest best symbols text))) symbols
  all_covered best [] = All-nil (IsAtMost (symbol_len best))
  all_covered best (s ∷ more) =
      let n = symbol_len (longest (longer best s text) more text) in
      let first : IsAtMost n s = λ h. let small = (step best s).covered h in let grows = all_grow (longer best s text) more in omega arith in
      All-cons (IsAtMost n) s more first (all_covered (longer best s text) more)

pub longest_fits : (text : List Character) (s : Symbol) → symbol_at text ≡ Some s → fits (symbol_text s) text ≡ true
unfolding symbol_at
longest_fits text s is = subst (λ o. IfSome o (λ s. fits (symbol_text s) text ≡ true)) is (all_fit text None all_symbols tt)

pub longest_covers : (text : List Character) → All (λ other. fits (symbol_text other) text ≡ true → length (symbol_text other) ≤ symbol_len (symbol_at text)) all_symbols
unfolding symbol_at
longest_covers text = all_covered text None all_symbols

pub run_cons : (passes : ℕ → Bool) (c : Character) (cs : List Character) → run_of passes (c ∷ cs) ≡ (if passes c.code then suc (run_of passes cs) else 0)
run_cons passes c cs = by (passes c.code)
  where
    by : (b : Bool) → (if b then 1 + run_of passes cs else 0) ≡ (if b then suc (run_of passes cs) else 0)
    by true = omega arith
    by false = refl

module _ (passes : ℕ → Bool) where
  pub run_passes : (text : List Character) → All (λ c. passes c.code ≡ true) (take (run_of passes text) text)
  run_passes [] = All-nil (λ c. passes c.code ≡ true)
  run_passes (c ∷ cs) = rw (run_cons passes c cs) (by (passes c.code) refl (run_passes cs))
    where
      by : (b : Bool) → passes c.code ≡ b → All (λ d. passes d.code ≡ true) (take (run_of passes cs) cs) →
          All (λ d. passes d.code ≡ true) (take (if b then suc (run_of passes cs) else 0) (c ∷ cs))
      by true e h = All-cons (λ d. passes d.code ≡ true) c (take (run_of passes cs) cs) e h
      by false e h = All-nil (λ d. passes d.code ≡ true)

  pub run_fits : (text : List Character) → run_of passes text ≤ length text
  run_fits [] = omega arith
  run_fits (c ∷ cs) = rw (run_cons passes c cs) (by (passes c.code) (run_fits cs))
    where
      by : (b : Bool) → run_of passes cs ≤ length cs → (if b then suc (run_of passes cs) else 0) ≤ length (c ∷ cs)
      by true h = omega arith
      by false h = omega arith

  -- characters that pass are no more than the run's
  pub run_reaches : (cs rest : List Character) → All (λ d. passes d.code ≡ true) cs → length cs ≤ run_of passes (cs ++ rest)
  run_reaches [] rest h = omega arith
  run_reaches (c ∷ cs) rest h =
      let first : passes c.code ≡ true = All-head (λ d. passes d.code ≡ true) c cs h in
      let one : run_of passes (c ∷ cs ++ rest) ≡ suc (run_of passes (cs ++ rest)) = run_cons passes c (cs ++ rest) ∙ rw first refl in
      let more = run_reaches cs rest (All-tail (λ d. passes d.code ≡ true) c cs h) in
      omega arith

pub sign_fits : (codes : List ℕ) (text : List Character) → fits codes text ≡ true → length codes ≤ length text
sign_fits [] text e = omega arith
sign_fits (b ∷ bs) [] e = absurd (cc)
sign_fits (b ∷ bs) (c ∷ cs) e = let rest = sign_fits bs cs (and_parts (c.code == b) _ e).1 in omega arith
