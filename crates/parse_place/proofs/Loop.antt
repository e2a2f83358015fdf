-- A turn of the loop over items, at a count n of which i are used.
use Rattle.std.proofs.Common.{◌≡◌, ℕ, suc, ◌+◌, ◌-◌, ◌<◌, ◌≤◌, Bool, true, false, ◌&&◌, nat_le, List, Some, None, if◌then◌else◌, refl, arith}
use Rattle.je_token.specs.declared.symbol.Symbol.TheVariants as symbol
use Rattle.je_token.specs.declared.token.Token.{Token}
use Rattle.je_grammar.specs.Place.{Context}
use Rattle.parse_laws.specs.way.Tokens.{with, ◌>>=◌, is_symbol}
use Rattle.parse_laws.specs.way.Place.{Step, has_bracket, nest, deep_opening_at, follow_quickly_at}
use Rattle.parse_below.specs.declared.settings.Setting.{Setting}
use Rattle.parse_place.specs.way.Readings.{item_at, opening_at}
use Rattle.parse_place.specs.way.Turns.{Turn, over, stuck, behind, inside, is_deep_at, item_turn_at, turn_at}

-- what the loop goes on with, `f`, after a turn
abbrev pub after : (Context → List Token → List Token → List Token) → List Token → List Token → Turn → List Token
after f was ts over = was
after f was ts stuck = ts
after f was ts (behind y) = f y.0 was y.1
after f was ts (inside y) = f y.0 ts y.1

module _ (f : Context → List Token → List Token → List Token) (was ts : List Token) where
  by_item : (deep : Bool) (y : Context × List Token) (i : Step) →
      with (if deep then Some y else None) (λ y. f y.0 ts y.1) (with i (λ y. f y.0 was y.1) (f y.0 ts y.1)) ≡ after f was ts (item_turn_at deep i (Some y))
  by_item true y i = refl
  by_item false y (Some z) = refl
  by_item false y None = refl

  by_opening : (most : ℕ) (i o : Step) →
      with (o >>= λ y. if nat_le most (nest y.1).0 then Some y else None) (λ y. f y.0 ts y.1) (with i (λ y. f y.0 was y.1) (with o (λ y. f y.0 ts y.1) ts))
      ≡ after f was ts (item_turn_at (is_deep_at most o) i o)
  by_opening most i (Some y) = by_item (nat_le most (nest y.1).0) y i
  by_opening most (Some z) None = refl
  by_opening most None None = refl

  by_bracket : (ends : Bool) (next : List Token) (t : Turn) → next ≡ after f was ts t → (if ends then was else next) ≡ after f was ts (if ends then over else t)
  by_bracket true next t same = refl
  by_bracket false next t same = same

pub first_turn : (s : Setting) (n i : ℕ) (x : Context) (was ts : List Token) → i < n →
    follow_quickly_at s.names.now s.texts.now s.below (n - i) x was ts
    ≡ after (follow_quickly_at s.names.now s.texts.now s.below (n - (i + 1))) was ts (turn_at s x ts)
unfolding follow_quickly_at deep_opening_at turn_at
first_turn s n i x was ts lt =
    let eq : n - i ≡ suc (n - (i + 1)) = omega arith in
    let f = follow_quickly_at s.names.now s.texts.now s.below (n - (i + 1)) in
    let o = opening_at s x ts in
    let step = by_opening f was ts s.below (item_at s x ts) o in
    rw eq (by_bracket f was ts (has_bracket x && is_symbol symbol.CloseBrace ts) _ _ step)

pub no_turn : (s : Setting) (n i : ℕ) (x : Context) (was ts : List Token) → n ≤ i → follow_quickly_at s.names.now s.texts.now s.below (n - i) x was ts ≡ ts
unfolding follow_quickly_at
no_turn s n i x was ts le =
    let eq : n - i ≡ 0 = omega arith in
    rw eq refl
