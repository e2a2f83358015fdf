-- What is read at the front of a list of tokens.
use Rattle.std.specs.Prelude.{ℕ, nat_eq, Bool, true, false, List, [], ◌∷◌, Option, Some, None, if◌then◌else◌}
use Rattle.je_base.specs.declared.span.Span.{Span}
use Rattle.je_token.specs.declared.keyword.Keyword.{Keyword}
use Rattle.je_token.specs.declared.keyword.Keyword.TheVariants as word
use Rattle.je_token.specs.declared.symbol.Symbol.{Symbol}
use Rattle.je_token.specs.declared.symbol.Symbol.TheVariants as symbol
use Rattle.je_token.specs.declared.token.Token.{Token}
use Rattle.je_token.specs.declared.token.TokenKind.{TokenKind}
use Rattle.je_token.specs.declared.token.TokenKind.TheVariants as kind
use Rattle.je_ast.specs.declared.name.Identifier.{Identifier}
use Rattle.je_grammar.specs.Tokens.{identifier, first_of, left_of}

-- what was read, and the tokens behind it
abbrev pub Read : Type 0 → Type 0
Read A = Option (A × List Token)

infixl 10 ◌>>=◌
abbrev pub ◌>>=◌ : {A B : Type 0} → Option A → (A → Option B) → Option B
(Some x) >>= f = f x
None >>= f = None

-- what comes of what was read, or else what stands already
abbrev pub with : {A B : Type 0} → Option A → (A → B) → B → B
with (Some x) f y = f x
with None f y = y

abbrev pub is_some : {A : Type 0} → Option A → Bool
is_some (Some x) = true
is_some None = false

-- a word's, a symbol's and a kind's number
abbrev pub word_number : Keyword → ℕ
word_number word.Abstract = 0
word_number word.Assert = 1
word_number word.Boolean = 2
word_number word.Break = 3
word_number word.Byte = 4
word_number word.Case = 5
word_number word.Catch = 6
word_number word.Char = 7
word_number word.Class = 8
word_number word.Const = 9
word_number word.Continue = 10
word_number word.Default = 11
word_number word.Do = 12
word_number word.Double = 13
word_number word.Else = 14
word_number word.Enum = 15
word_number word.Extends = 16
word_number word.False = 17
word_number word.Final = 18
word_number word.Finally = 19
word_number word.Float = 20
word_number word.For = 21
word_number word.Goto = 22
word_number word.If = 23
word_number word.Implements = 24
word_number word.Import = 25
word_number word.InstanceOf = 26
word_number word.Int = 27
word_number word.Interface = 28
word_number word.Long = 29
word_number word.Native = 30
word_number word.New = 31
word_number word.Null = 32
word_number word.Package = 33
word_number word.Private = 34
word_number word.Protected = 35
word_number word.Public = 36
word_number word.Return = 37
word_number word.Short = 38
word_number word.Static = 39
word_number word.StrictFp = 40
word_number word.Super = 41
word_number word.Switch = 42
word_number word.Synchronized = 43
word_number word.This = 44
word_number word.Throw = 45
word_number word.Throws = 46
word_number word.Transient = 47
word_number word.True = 48
word_number word.Try = 49
word_number word.Void = 50
word_number word.Volatile = 51
word_number word.While = 52

abbrev pub symbol_number : Symbol → ℕ
symbol_number symbol.Not = 0
symbol_number symbol.NotEqual = 1
symbol_number symbol.Percent = 2
symbol_number symbol.PercentAssign = 3
symbol_number symbol.And = 4
symbol_number symbol.AndAnd = 5
symbol_number symbol.AndAssign = 6
symbol_number symbol.OpenParen = 7
symbol_number symbol.CloseParen = 8
symbol_number symbol.Star = 9
symbol_number symbol.StarAssign = 10
symbol_number symbol.Plus = 11
symbol_number symbol.Increment = 12
symbol_number symbol.PlusAssign = 13
symbol_number symbol.Comma = 14
symbol_number symbol.Minus = 15
symbol_number symbol.Decrement = 16
symbol_number symbol.MinusAssign = 17
symbol_number symbol.Dot = 18
symbol_number symbol.Ellipsis = 19
symbol_number symbol.Slash = 20
symbol_number symbol.SlashAssign = 21
symbol_number symbol.Colon = 22
symbol_number symbol.Semicolon = 23
symbol_number symbol.Less = 24
symbol_number symbol.ShiftLeft = 25
symbol_number symbol.ShiftLeftAssign = 26
symbol_number symbol.LessEqual = 27
symbol_number symbol.Assign = 28
symbol_number symbol.Equal = 29
symbol_number symbol.Greater = 30
symbol_number symbol.GreaterEqual = 31
symbol_number symbol.ShiftRight = 32
symbol_number symbol.ShiftRightAssign = 33
symbol_number symbol.UnsignedShiftRight = 34
symbol_number symbol.UnsignedShiftRightAssign = 35
symbol_number symbol.Question = 36
symbol_number symbol.At = 37
symbol_number symbol.OpenBracket = 38
symbol_number symbol.CloseBracket = 39
symbol_number symbol.Caret = 40
symbol_number symbol.CaretAssign = 41
symbol_number symbol.OpenBrace = 42
symbol_number symbol.Or = 43
symbol_number symbol.OrAssign = 44
symbol_number symbol.OrOr = 45
symbol_number symbol.CloseBrace = 46
symbol_number symbol.Tilde = 47

abbrev pub same : TokenKind → TokenKind → Bool
same (kind.Keyword a) (kind.Keyword b) = nat_eq (word_number a) (word_number b)
same (kind.Symbol a) (kind.Symbol b) = nat_eq (symbol_number a) (symbol_number b)
same kind.Identifier kind.Identifier = true
same kind.IntLiteral kind.IntLiteral = true
same kind.LongLiteral kind.LongLiteral = true
same kind.CharLiteral kind.CharLiteral = true
same kind.TextLiteral kind.TextLiteral = true
same kind.End kind.End = true
same _ _ = false

-- the tokens behind one of this kind, where it stands first
abbrev pub behind_kind : TokenKind → List Token → Option (List Token)
behind_kind k [] = None
behind_kind k (t ∷ ts) = if same t.kind k then Some ts else None

abbrev pub behind : Symbol → List Token → Option (List Token)
behind y ts = behind_kind (kind.Symbol y) ts

abbrev pub behind_word : Keyword → List Token → Option (List Token)
behind_word w ts = behind_kind (kind.Keyword w) ts

abbrev pub is_symbol : Symbol → List Token → Bool
is_symbol y ts = is_some (behind y ts)

abbrev pub is_word : Keyword → List Token → Bool
is_word w ts = is_some (behind_word w ts)

abbrev pub is_identifier : List Token → Bool
is_identifier ts = is_some (behind_kind kind.Identifier ts)

-- the identifier that stands first
abbrev pub identifier_at : List Token → Read Identifier
identifier_at [] = None
identifier_at (t ∷ ts) = if same t.kind kind.Identifier then Some (identifier t, ts) else None

-- a closing `>`, also the first one of a `>>` or `>>>`
abbrev pub closing : Token → List Token → TokenKind → Read Span
closing t ts (kind.Symbol symbol.Greater) = Some (t.span, ts)
closing t ts (kind.Symbol symbol.ShiftRight) = Some (first_of t, left_of symbol.Greater t ∷ ts)
closing t ts (kind.Symbol symbol.UnsignedShiftRight) = Some (first_of t, left_of symbol.ShiftRight t ∷ ts)
closing t ts _ = None

abbrev pub closes_at : List Token → Read Span
closes_at [] = None
closes_at (t ∷ ts) = closing t ts t.kind
