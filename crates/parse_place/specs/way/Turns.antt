-- What comes of the first item.
use Rattle.std.specs.Prelude.{ℕ, Bool, false, ◌&&◌, nat_le, List, Some, None, if◌then◌else◌}
use Rattle.je_token.specs.declared.symbol.Symbol.TheVariants as symbol
use Rattle.je_token.specs.declared.token.Token.{Token}
use Rattle.je_grammar.specs.Place.{Context}
use Rattle.parse_laws.specs.way.Tokens.{with, is_symbol}
use Rattle.parse_laws.specs.way.Place.{Step, has_bracket, nest}
use Rattle.parse_below.specs.declared.settings.Setting.{Setting}
use Rattle.parse_place.specs.declared.turns.Turn as found
use Rattle.parse_place.specs.declared.turns.Turn.TheVariants as variant
use Rattle.parse_place.specs.way.Views.{context_view}
use Rattle.parse_place.specs.way.Readings.{item_at, opening_at}

-- A `}` ends the items; nothing is read or opened; an item is read; an item is opened.
pub data Turn : Type 0 where
  over : Turn
  stuck : Turn
  behind : Context × List Token → Turn
  inside : Context × List Token → Turn

abbrev pub seen_turn : found.Turn → Turn
seen_turn variant.Over = over
seen_turn variant.Stuck = stuck
seen_turn (variant.Behind y) = behind (context_view y.context, y.rest.now)
seen_turn (variant.Inside y) = inside (context_view y.context, y.rest.now)

-- whether an opened item nests so deep that it can't be read
abbrev pub is_deep_at : ℕ → Step → Bool
is_deep_at most (Some y) = nat_le most (nest y.1).0
is_deep_at most None = false

abbrev pub opened_turn_at : Step → Turn
opened_turn_at o = with o inside stuck

abbrev pub item_turn_at : Bool → Step → Step → Turn
item_turn_at deep i o = if deep then opened_turn_at o else with i behind (opened_turn_at o)

unfoldable pub turn_at : Setting → Context → List Token → Turn
turn_at s x ts = if has_bracket x && is_symbol symbol.CloseBrace ts then over
    else item_turn_at (is_deep_at s.below (opening_at s x ts)) (item_at s x ts) (opening_at s x ts)
