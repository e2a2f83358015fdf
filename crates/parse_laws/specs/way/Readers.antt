-- What it is to read right: what is read is spelled, and what is spelled is read, or else something longer.
use Rattle.std.specs.Prelude.{◌≡◌, ℕ, suc, ◌<◌, ◌≤◌, Bool, true, ◌||◌, List, [], ◌∷◌, length, Some, IfSome, ⊤}
use Rattle.je_base.specs.declared.span.Span.{Span}
use Rattle.je_token.specs.declared.keyword.Keyword.TheVariants as word
use Rattle.je_token.specs.declared.symbol.Symbol.{Symbol}
use Rattle.je_token.specs.declared.symbol.Symbol.TheVariants as symbol
use Rattle.je_token.specs.declared.token.Token.{Token}
use Rattle.je_token.specs.declared.token.TokenKind.{TokenKind}
use Rattle.je_token.specs.declared.token.TokenKind.TheVariants as kind
use Rattle.je_ast.specs.Types.{QualifiedName, TypeName, TypeNames, class_type}
use Rattle.je_ast.specs.Trees.{Statement, Statements}
use Rattle.je_ast.specs.Height.{height, statement_height, statements_height, member_height}
use Rattle.je_grammar.specs.Tokens.{IsSymbol}
use Rattle.je_grammar.specs.Operators.{level}
use Rattle.je_grammar.specs.Types.{SpellsRef}
use Rattle.je_grammar.specs.Context.{ends_short}
use Rattle.je_grammar.specs.Grammar.{Spells, SpellsInit, SpellsStatement, SpellsBlockStatement, SpellsBlock, SpellsMember}
use Rattle.parse_laws.specs.way.Tokens.{Read, is_word}
use Rattle.parse_laws.specs.way.Below.{BlockTree, Below}

-- The level of what an expression can become part of by going on with this symbol, and 0 of any other symbol. An opening
-- bracket goes on behind a name, an opening brace behind the creation of an object.
abbrev pub symbol_reach : Symbol → ℕ
symbol_reach symbol.Dot = 15
symbol_reach symbol.OpenBracket = 15
symbol_reach symbol.OpenParen = 15
symbol_reach symbol.OpenBrace = 15
symbol_reach symbol.Increment = 14
symbol_reach symbol.Decrement = 14
symbol_reach symbol.Star = 12
symbol_reach symbol.Slash = 12
symbol_reach symbol.Percent = 12
symbol_reach symbol.Plus = 11
symbol_reach symbol.Minus = 11
symbol_reach symbol.ShiftLeft = 10
symbol_reach symbol.ShiftRight = 10
symbol_reach symbol.UnsignedShiftRight = 10
symbol_reach symbol.Less = 9
symbol_reach symbol.Greater = 9
symbol_reach symbol.LessEqual = 9
symbol_reach symbol.GreaterEqual = 9
symbol_reach symbol.Equal = 8
symbol_reach symbol.NotEqual = 8
symbol_reach symbol.And = 7
symbol_reach symbol.Caret = 6
symbol_reach symbol.Or = 5
symbol_reach symbol.AndAnd = 4
symbol_reach symbol.OrOr = 3
symbol_reach symbol.Question = 2
symbol_reach symbol.Assign = 1
symbol_reach symbol.StarAssign = 1
symbol_reach symbol.SlashAssign = 1
symbol_reach symbol.PercentAssign = 1
symbol_reach symbol.PlusAssign = 1
symbol_reach symbol.MinusAssign = 1
symbol_reach symbol.ShiftLeftAssign = 1
symbol_reach symbol.ShiftRightAssign = 1
symbol_reach symbol.UnsignedShiftRightAssign = 1
symbol_reach symbol.AndAssign = 1
symbol_reach symbol.CaretAssign = 1
symbol_reach symbol.OrAssign = 1
symbol_reach symbol.Not = 0
symbol_reach symbol.CloseParen = 0
symbol_reach symbol.Comma = 0
symbol_reach symbol.Ellipsis = 0
symbol_reach symbol.Colon = 0
symbol_reach symbol.Semicolon = 0
symbol_reach symbol.At = 0
symbol_reach symbol.CloseBracket = 0
symbol_reach symbol.CloseBrace = 0
symbol_reach symbol.Tilde = 0

abbrev pub kind_reach : TokenKind → ℕ
kind_reach (kind.Symbol y) = symbol_reach y
kind_reach (kind.Keyword word.InstanceOf) = 9
kind_reach _ = 0

-- of the token that stands first
abbrev pub reach : List Token → ℕ
reach [] = 0
reach (t ∷ ts) = kind_reach t.kind

-- whether a statement that ends here can go on
abbrev pub continues : List Token → Bool
continues ts = is_word word.Else ts || is_word word.Catch ts || is_word word.Finally ts

-- what goes on with a statement: an `else` only with one that ends in an `if` without `else`
abbrev pub GoesOn : Statement → List Token → Type 0
GoesOn b rest = (continues rest ≡ true) × (is_word word.Else rest ≡ true → ends_short b ≡ true)

-- Ref, as a type without brackets
pub data SpellsReference : TypeName → List Token → List Token → Type 0 where
  is_reference : {n : QualifiedName} {args : TypeNames} {s : Span} {ts rest : List Token} → SpellsRef n args s ts rest → SpellsReference (class_type n args 0 s) ts rest

-- The tree is what was read; or what was read leaves less than these tokens, which only some tokens let it.
pub data Reads {T : Type 0} (o : Read T) (t : T) (rest : List Token) (goes_on : Type 0) : Type 0 where
  itself : o ≡ Some (t, rest) → Reads o t rest goes_on
  longer : {u : T} {less : List Token} → o ≡ Some (u, less) → length less < length rest → goes_on → Reads o t rest goes_on

-- what was read spells the tokens, is one of those asked for, and is at most so high
pub record IsRead {T : Type 0} (spells : T → List Token → List Token → Type 0) (height_of : T → ℕ) (asked : T → Type 0) (most : ℕ) (ts : List Token) (x : T × List Token) : Type 0 where
  pub spelled : spells x.0 ts x.1
  pub fits : asked x.0
  pub within : height_of x.0 ≤ most

-- It reads the trees that are asked for, at most so high, where what may go on with a tree is given.
pub record IsReader {T : Type 0} (spells : T → List Token → List Token → Type 0) (height_of : T → ℕ) (asked : T → Type 0) (goes_on : T → List Token → Type 0) (most : ℕ) (f : List Token → Read T) : Type 0 where
  pub sound : (ts : List Token) → IfSome (f ts) (IsRead spells height_of asked most ts)
  pub exact : (t : T) (ts rest : List Token) → spells t ts rest → asked t → height_of t ≤ most → Reads (f ts) t rest (goes_on t rest)

abbrev pub any : {T : Type 0} → T → Type 0
any t = ⊤

abbrev pub never : {T : Type 0} → T → List Token → Type 0
never t ts = ⊥

abbrev pub block_tree_height : BlockTree → ℕ
block_tree_height b = suc (statements_height b.statements)

module _ (names texts : List (List ℕ)) where
  -- Block = "{" {BlockStatement} "}"
  pub data SpellsBlockTree : BlockTree → List Token → List Token → Type 0 where
    is_block_tree : {bs : Statements} {o : Token} {c : Span} {ts rest : List Token} → IsSymbol symbol.OpenBrace o → SpellsBlock names texts bs c ts rest →
        SpellsBlockTree (record { opening = o.span; statements = bs; closing = c }) (o ∷ ts) rest

  -- what reads the trees of at most this height
  pub record IsBelow (most : ℕ) (p : Below) : Type 0 where
    pub expression : (least : ℕ) → 0 < least → least ≤ 13 → IsReader (Spells names texts) height (λ e. least ≤ level e) (λ e rest. least ≤ reach rest) most (p.expression least)
    pub initializer : IsReader (SpellsInit names texts) height any (λ e rest. (1 ≤ level e) × (1 ≤ reach rest)) most p.initializer
    pub statement : IsReader (SpellsStatement names texts) statement_height any GoesOn most p.statement
    pub block_statement : IsReader (SpellsBlockStatement names texts) statement_height any GoesOn most p.block_statement
    pub block : IsReader SpellsBlockTree block_tree_height any never most p.block
    pub member : IsReader (SpellsMember names texts) member_height any never most p.member
