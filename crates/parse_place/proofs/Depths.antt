-- How deep braces nest behind some open ones, token by token.
use Rattle.std.proofs.Common.{◌≡◌, ℕ, zero, suc, ◌+◌, ◌<◌, ◌≤◌, max, Bool, true, false, nat_le, List, [], ◌∷◌, refl, arith}
use Rattle.std.proofs.lemmas.Bool.Decides.{nat_tests}
use Rattle.je_token.specs.declared.symbol.Symbol.TheVariants as symbol
use Rattle.je_token.specs.declared.token.Token.{Token}
use Rattle.je_token.specs.declared.token.TokenKind.{TokenKind}
use Rattle.je_token.specs.declared.token.TokenKind.TheVariants as kind
use Rattle.parse_laws.specs.way.Tokens.{with}
use Rattle.parse_laws.specs.way.Place.{kind_nest, nest}
use Rattle.parse_place.specs.way.Nests.{open_behind_at}

-- How deep braces nest from the first of so many open ones on, where they nest so deep behind the last one, and so deep
-- behind each further one once it is closed.
abbrev reach : ℕ → ℕ → List ℕ → ℕ
reach zero n outer = n
reach (suc k) n [] = suc k + n
reach (suc k) n (d ∷ outer) = max (suc k + n) (reach k d outer)

-- whether they nest so deep
unfoldable pub deep : ℕ → ℕ → List Token → Bool
deep most opened ts = nat_le most (reach opened (nest ts).0 (nest ts).1)

reach_open : (opened n : ℕ) (outer : List ℕ) → opened ≤ reach opened n outer
reach_open zero n outer = omega arith
reach_open (suc k) n [] = omega arith
reach_open (suc k) n (d ∷ outer) = omega arith

is_le : (most n : ℕ) → most ≤ n → nat_le most n ≡ true
is_le most n le = grind (arith, nat_tests)

pub deep_here : (most opened : ℕ) (ts : List Token) → most ≤ opened → deep most opened ts ≡ true
unfolding deep
deep_here most opened ts le = let r = reach_open opened (nest ts).0 (nest ts).1 in is_le most _ (omega arith)

pub deep_at_first : (most : ℕ) (ts : List Token) → deep most 0 ts ≡ nat_le most (nest ts).0
unfolding deep
deep_at_first most ts = refl

pub deep_at_end : (most opened : ℕ) → deep most opened [] ≡ nat_le most opened
unfolding deep
deep_at_end most zero = refl
deep_at_end most (suc k) = let e : suc k + 0 ≡ suc k = omega arith in rw e refl

reach_opened : (opened n : ℕ) (outer : List ℕ) →
    reach opened (kind_nest (kind.Symbol symbol.OpenBrace) n outer).0 (kind_nest (kind.Symbol symbol.OpenBrace) n outer).1 ≡ reach (suc opened) n outer
reach_opened zero n [] = omega arith
reach_opened zero n (d ∷ outer) = omega arith
reach_opened (suc k) n [] = omega arith
reach_opened (suc k) n (d ∷ []) = omega arith
reach_opened (suc k) n (d ∷ e ∷ outer) = omega arith

low_first : (most k r : ℕ) → k < most → nat_le most (max k r) ≡ nat_le most r
low_first most k r lt = grind (arith, nat_tests)

not_le : (most : ℕ) → 0 < most → nat_le most 0 ≡ false
not_le most lt = grind (arith, nat_tests)

deep_closed : (most opened n : ℕ) (outer : List ℕ) → opened < most →
    nat_le most (reach opened 0 (n ∷ outer)) ≡ with (open_behind_at opened (kind.Symbol symbol.CloseBrace)) (λ k. nat_le most (reach k n outer)) false
deep_closed most zero n outer lt = not_le most lt
deep_closed most (suc k) n outer lt = let e : suc k + 0 ≡ suc k = omega arith in rw e (low_first most (suc k) (reach k n outer) lt)

deep_kind : (most opened : ℕ) (k : TokenKind) (n : ℕ) (outer : List ℕ) → opened < most →
    nat_le most (reach opened (kind_nest k n outer).0 (kind_nest k n outer).1) ≡ with (open_behind_at opened k) (λ j. nat_le most (reach j n outer)) false
deep_kind most opened (kind.Symbol symbol.OpenBrace) n outer lt = rw (reach_opened opened n outer) refl
deep_kind most opened (kind.Symbol symbol.CloseBrace) n outer lt = deep_closed most opened n outer lt
deep_kind most opened _ n outer lt = refl

pub deep_behind : (most opened : ℕ) (t : Token) (ts : List Token) → opened < most →
    deep most opened (t ∷ ts) ≡ with (open_behind_at opened t.kind) (λ k. deep most k ts) false
unfolding deep
deep_behind most opened t ts lt = deep_kind most opened t.kind (nest ts).0 (nest ts).1 lt
