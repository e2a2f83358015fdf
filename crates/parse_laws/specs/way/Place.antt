-- Where a file goes wrong: items are read or opened, one after the other, up to the first that can be neither.
use Rattle.std.specs.Prelude.{ℕ, zero, suc, max, Bool, true, false, ◌&&◌, nat_le, List, [], ◌∷◌, length, Option, Some, None, if◌then◌else◌}
use Rattle.je_token.specs.declared.keyword.Keyword.TheVariants as word
use Rattle.je_token.specs.declared.symbol.Symbol.TheVariants as symbol
use Rattle.je_token.specs.declared.token.Token.{Token}
use Rattle.je_token.specs.declared.token.TokenKind.{TokenKind}
use Rattle.je_token.specs.declared.token.TokenKind.TheVariants as kind
use Rattle.je_grammar.specs.Place.{Context}
use Rattle.je_grammar.specs.Place as context
use Rattle.parse_laws.specs.way.Tokens.{◌>>=◌, with, behind, behind_word, is_symbol}
use Rattle.parse_laws.specs.way.Types.{modifiers_at}
use Rattle.parse_laws.specs.way.Members.{class_head_at, interface_head_at, method_head_at, constructor_head_at, first_call_at, begins_local_class_at, begins_initializer_at}
use Rattle.parse_laws.specs.way.Knot.{at, declaration_at, import_at}

-- what is read or opened: the context of what follows, and the tokens there
abbrev pub Step : Type 0
Step = Option (Context × List Token)

-- whether a `}` ends the items
abbrev pub has_bracket : Context → Bool
has_bracket context.imports = false
has_bracket context.declarations = false
has_bracket context.members = true
has_bracket context.constructor_body = true
has_bracket context.statements = true

module _ (names texts : List (List ℕ)) (most : ℕ) where
  -- ---- items

  -- a type declaration or a lone `;`
  unfoldable pub declared_item_at : List Token → Step
  declared_item_at ts = with (behind symbol.Semicolon ts) (λ rest. Some (context.declarations, rest)) (declaration_at names texts most ts >>= λ d. Some (context.declarations, d.1))

  unfoldable pub member_item_at : List Token → Step
  member_item_at ts = with (behind symbol.Semicolon ts) (λ rest. Some (context.members, rest)) ((at names texts most).member ts >>= λ m. Some (context.members, m.1))

  unfoldable pub statement_item_at : List Token → Step
  statement_item_at ts = (at names texts most).block_statement ts >>= λ b. Some (context.statements, b.1)

  unfoldable pub item_at : Context → List Token → Step
  item_at context.imports ts = with (import_at names texts ts) (λ n. Some (context.imports, n.1)) (declared_item_at ts)
  item_at context.declarations ts = declared_item_at ts
  item_at context.members ts = member_item_at ts
  item_at context.constructor_body ts = with (first_call_at texts names most (at names texts most) ts) (λ f. Some (context.statements, f.1)) (statement_item_at ts)
  item_at context.statements ts = statement_item_at ts

  -- ---- openings

  -- behind the `{` that stands first
  abbrev pub inside : Context → List Token → Step
  inside x ts = behind symbol.OpenBrace ts >>= λ inner. Some (x, inner)

  -- a class or interface
  unfoldable pub type_opening_at : List Token → Step
  type_opening_at ts = let ms = modifiers_at names ts in
      with (class_head_at most ms.1) (λ c. inside context.members c.1) (interface_head_at most ms.1 >>= λ i. inside context.members i.1)

  -- a constructor or method, behind its modifiers
  unfoldable pub method_opening_at : List Token → Step
  method_opening_at ts = let ms = modifiers_at names ts in
      with (constructor_head_at most ms.1) (λ c. inside context.constructor_body c.1) (method_head_at most ms.1 >>= λ m. inside context.statements m.1)

  unfoldable pub member_opening_at : List Token → Step
  member_opening_at ts = if begins_initializer_at ts then inside context.statements (with (behind_word word.Static ts) (λ rest. rest) ts)
      else with (type_opening_at ts) Some (method_opening_at ts)

  -- a local class or a block
  unfoldable pub statement_opening_at : List Token → Step
  statement_opening_at ts = if is_symbol symbol.OpenBrace ts then inside context.statements ts
      else if begins_local_class_at (length ts) ts then type_opening_at ts else None

  unfoldable pub opening_at : Context → List Token → Step
  opening_at context.imports ts = type_opening_at ts
  opening_at context.declarations ts = type_opening_at ts
  opening_at context.members ts = member_opening_at ts
  opening_at context.constructor_body ts = statement_opening_at ts
  opening_at context.statements ts = statement_opening_at ts

  -- ---- the place

  -- The number bounds how many items come; the first list begins with the innermost opened item.
  unfoldable pub follow_at : ℕ → Context → List Token → List Token → List Token
  follow_at zero x opened ts = ts
  follow_at (suc n) x opened ts = if has_bracket x && is_symbol symbol.CloseBrace ts then opened
      else with (item_at x ts) (λ y. follow_at n y.0 opened y.1)
      (with (opening_at x ts) (λ y. follow_at n y.0 ts y.1) ts)

  -- the tokens from the syntax place on
  unfoldable pub place_at : List Token → List Token
  place_at ts = follow_at (length ts) context.imports ts ts

-- ---- the same place in linear time: an item whose braces nest deeper than the height can't be read, and is opened at once

-- behind a token of this kind: how deep braces nest up to the `}` that closes what is open there, and the same up to each
-- further `}` that closes something open
abbrev pub kind_nest : TokenKind → ℕ → List ℕ → ℕ × List ℕ
kind_nest (kind.Symbol symbol.OpenBrace) depth [] = (suc depth, [])
kind_nest (kind.Symbol symbol.OpenBrace) depth (d ∷ outer) = (max d (suc depth), outer)
kind_nest (kind.Symbol symbol.CloseBrace) depth outer = (0, depth ∷ outer)
kind_nest _ depth outer = (depth, outer)

abbrev pub nest : List Token → ℕ × List ℕ
nest [] = (0, [])
nest (t ∷ ts) = let n = nest ts in kind_nest t.kind n.0 n.1

module _ (names texts : List (List ℕ)) (most : ℕ) where
  unfoldable pub deep_opening_at : Context → List Token → Step
  deep_opening_at x ts = opening_at names texts most x ts >>= λ y. if nat_le most (nest y.1).0 then Some y else None

  unfoldable pub follow_quickly_at : ℕ → Context → List Token → List Token → List Token
  follow_quickly_at zero x opened ts = ts
  follow_quickly_at (suc n) x opened ts = if has_bracket x && is_symbol symbol.CloseBrace ts then opened
      else with (deep_opening_at x ts) (λ y. follow_quickly_at n y.0 ts y.1)
      (with (item_at names texts most x ts) (λ y. follow_quickly_at n y.0 opened y.1)
      (with (opening_at names texts most x ts) (λ y. follow_quickly_at n y.0 ts y.1) ts))

  unfoldable pub quick_place_at : List Token → List Token
  quick_place_at ts = follow_quickly_at (length ts) context.imports ts ts
