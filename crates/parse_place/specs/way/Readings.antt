-- The reading functions in a setting.
use Rattle.std.specs.Prelude.{List, Some}
use Rattle.je_token.specs.declared.symbol.Symbol.TheVariants as symbol
use Rattle.je_token.specs.declared.token.Token.{Token}
use Rattle.je_grammar.specs.Place.{Context}
use Rattle.je_grammar.specs.Place as context
use Rattle.parse_laws.specs.way.Tokens.{◌>>=◌, with, behind}
use Rattle.parse_laws.specs.way.Place.{Step}
use Rattle.parse_laws.specs.way.Place as reading
use Rattle.parse_below.specs.declared.settings.Setting.{Setting}
use Rattle.parse_members.specs.way.Readings.{first_call_at}

abbrev pub declared_item_at : Setting → List Token → Step
declared_item_at s ts = reading.declared_item_at s.names.now s.texts.now s.below ts

abbrev pub member_item_at : Setting → List Token → Step
member_item_at s ts = reading.member_item_at s.names.now s.texts.now s.below ts

abbrev pub statement_item_at : Setting → List Token → Step
statement_item_at s ts = reading.statement_item_at s.names.now s.texts.now s.below ts

-- what a constructor's body begins with
abbrev pub first_item_at : Setting → List Token → Step
first_item_at s ts = with (first_call_at s ts) (λ f. Some (context.statements, f.1)) (statement_item_at s ts)

abbrev pub item_at : Setting → Context → List Token → Step
item_at s x ts = reading.item_at s.names.now s.texts.now s.below x ts

-- behind the `{` that stands first
abbrev pub inside_at : Context → List Token → Step
inside_at x ts = behind symbol.OpenBrace ts >>= λ inner. Some (x, inner)

abbrev pub type_opening_at : Setting → List Token → Step
type_opening_at s ts = reading.type_opening_at s.names.now s.texts.now s.below ts

abbrev pub method_opening_at : Setting → List Token → Step
method_opening_at s ts = reading.method_opening_at s.names.now s.texts.now s.below ts

abbrev pub member_opening_at : Setting → List Token → Step
member_opening_at s ts = reading.member_opening_at s.names.now s.texts.now s.below ts

abbrev pub statement_opening_at : Setting → List Token → Step
statement_opening_at s ts = reading.statement_opening_at s.names.now s.texts.now s.below ts

abbrev pub opening_at : Setting → Context → List Token → Step
opening_at s x ts = reading.opening_at s.names.now s.texts.now s.below x ts

abbrev pub quick_place_at : Setting → List Token → List Token
quick_place_at s ts = reading.quick_place_at s.names.now s.texts.now s.below ts
