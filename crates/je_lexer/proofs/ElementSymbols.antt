-- What the characters of separators and operators are, and that the longest that stands at the front of a text is cut.
use Rattle.std.proofs.Common.{◌≡◌, ℕ, ◌≤◌, Bool, true, false, not, ◌&&◌, ◌||◌, ◌==◌, nat_lt, List, [], ◌∷◌, ◌++◌, length, map, take, find, Option, Some, All, refl, sym, ap, ◌∙◌, subst, arith, ⊎_elim, true≢false}
use Rattle.std.specs.Char.{is_ascii_alphabetic}
use Rattle.std.specs.List.{list_any}
use Rattle.std.specs.Str.{bytes_eq}
use Rattle.std.proofs.lemmas.Bool.{and_parts, or_cases, eq-eqb, eqb-true, and_from}
use Rattle.std.proofs.lemmas.List.{length-map}
use Rattle.std.proofs.lemmas.List.Elements.{All-head, All-tail}
use Rattle.std.proofs.lemmas.Slice.Eq.{bytes_eq-Decides}
use Rattle.je_decode.specs.declared.character.Character.{Character}
use Rattle.je_token.specs.Texts.{symbol_text}
use Rattle.je_token.specs.declared.symbol.Symbol.{Symbol}
use Rattle.je_token.specs.declared.symbol.Symbol.TheVariants as symbol
use Rattle.je_lexer.specs.Classes.{is_space, is_digit_below}
use Rattle.je_lexer.specs.way.Symbols.{fits, all_symbols, symbol_at, symbol_len}
use Rattle.je_lexer.proofs.Fronts.{taken}
use Rattle.je_lexer.proofs.Longest.{longest_covers, longest_fits}

-- no slash, star or digit stands there
abbrev pub is_second_plain : List ℕ → Bool
is_second_plain [] = true
is_second_plain (b ∷ bs) = not (b == 47) && not (b == 42) && not (is_digit_below 10 b)

-- begins with an ASCII character that begins no element of another kind, but that a slash begins comments and a point numbers, which
-- the second character, if any, doesn't
abbrev pub is_plain : List ℕ → Bool
is_plain [] = false
is_plain (b ∷ bs) =
    nat_lt b 128 && not (is_space b) && not (is_ascii_alphabetic b || (b == 95) || (b == 36)) && not (is_digit_below 10 b) && not ((b == 34) || (b == 39)) &&
    is_second_plain bs

pub symbols_plain : (s : Symbol) → is_plain (symbol_text s) ≡ true
symbols_plain symbol.Not = refl
symbols_plain s = refl

listed : (s : Symbol) → list_any (λ t. bytes_eq (symbol_text t) (symbol_text s)) all_symbols ≡ true
listed symbol.Not = refl
listed s = refl

of_listed : (P : List ℕ → Type 0) (symbols : List Symbol) (text : List ℕ) → All (λ t. P (symbol_text t)) symbols →
    list_any (λ t. bytes_eq (symbol_text t) text) symbols ≡ true → P text
of_listed P [] text h e = absurd (true≢false (sym e))
of_listed P (t ∷ more) text h e =
    let Q : Symbol → Type 0 = λ t. P (symbol_text t) in
    ⊎_elim (λ e. subst P ((bytes_eq-Decides (symbol_text t) text).0 e) (All-head Q t more h))
    (λ e. of_listed P more text (All-tail Q t more h) e) (or_cases (bytes_eq (symbol_text t) text) _ e)

fits_front : (front rest : List Character) → fits (map (λ c. c.code) front) (front ++ rest) ≡ true
fits_front [] rest = refl
fits_front (c ∷ cs) rest = and_from (c.code == c.code) _ (eq-eqb c.code c.code refl) (fits_front cs rest)

pub symbol_covers : (s : Symbol) (front rest : List Character) → map (λ c. c.code) front ≡ symbol_text s → length (symbol_text s) ≤ symbol_len (symbol_at (front ++ rest))
symbol_covers s front rest e =
    let text = front ++ rest in
    of_listed (λ codes. fits codes text ≡ true → length codes ≤ symbol_len (symbol_at text)) all_symbols (symbol_text s) (longest_covers text) (listed s)
    (subst (λ codes. fits codes text ≡ true) e (fits_front front rest))

pub taken_text : (codes : List ℕ) (text : List Character) → fits codes text ≡ true → map (λ c. c.code) (take (length codes) text) ≡ codes
taken_text [] text e = refl
taken_text (b ∷ bs) [] e = absurd (true≢false (sym e))
taken_text (b ∷ bs) (c ∷ cs) e = let h = and_parts (c.code == b) _ e in let first = eqb-true c.code b h.0 in let rest = taken_text bs cs h.1 in cc

-- a text is that of one sign at most
abbrev named : List ℕ → Option Symbol
named text = find (λ t. bytes_eq (symbol_text t) text) all_symbols

named_is : (s : Symbol) → named (symbol_text s) ≡ Some s
named_is symbol.Not = refl
named_is s = refl

pub one_symbol : (s t : Symbol) (front rest : List Character) → map (λ c. c.code) front ≡ symbol_text s → symbol_at (front ++ rest) ≡ Some t →
    length (symbol_text t) ≤ length front → t ≡ s
one_symbol s t front rest e is short =
    let text = front ++ rest in
    let covers : length (symbol_text s) ≤ length (symbol_text t) = rw is at (symbol_covers s front rest e) in
    let size : length (symbol_text s) ≡ length front = rw (← e) (length-map front (λ c. c.code)) in
    let whole : length (symbol_text t) ≡ length front = omega arith in
    let other : map (λ c. c.code) (take (length (symbol_text t)) text) ≡ symbol_text t = taken_text (symbol_text t) text (longest_fits text t is) in
    let texts : symbol_text s ≡ symbol_text t = sym e ∙ ap (map (λ (c : Character). c.code)) (sym (taken front rest)) ∙ ap (λ n. map (λ (c : Character). c.code) (take n text)) (sym whole) ∙ other in
    let found : Some t ≡ Some s = sym (named_is t) ∙ ap named (sym texts) ∙ named_is s in
    cc
