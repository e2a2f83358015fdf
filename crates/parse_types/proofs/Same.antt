-- Two words or symbols are one where their numbers are.
use Rattle.std.proofs.Common.{◌≡◌, nat_eq, refl}
use denote.Enum.Bare.{sameb}
use denote.Enum.Declared.{tag_of}
use Rattle.je_token.specs.declared.keyword.Keyword.{Keyword}
use Rattle.je_token.specs.declared.keyword.Keyword.TheVariants as word
use Rattle.je_token.specs.declared.symbol.Symbol.{Symbol}
use Rattle.je_token.specs.declared.symbol.Symbol.TheVariants as symbol
use Rattle.je_token.specs.contracts.keyword.Keyword.{the_type as the_words}
use Rattle.je_token.specs.contracts.symbol.Symbol.{the_type as the_symbols}
use Rattle.parse_laws.specs.way.Tokens.{word_number, symbol_number}

word_tag : (w : Keyword) → tag_of the_words w ≡ word_number w
word_tag word.Abstract = refl
word_tag word.Assert = refl
word_tag word.Boolean = refl
word_tag word.Break = refl
word_tag word.Byte = refl
word_tag word.Case = refl
word_tag word.Catch = refl
word_tag word.Char = refl
word_tag word.Class = refl
word_tag word.Const = refl
word_tag word.Continue = refl
word_tag word.Default = refl
word_tag word.Do = refl
word_tag word.Double = refl
word_tag word.Else = refl
word_tag word.Enum = refl
word_tag word.Extends = refl
word_tag word.False = refl
word_tag word.Final = refl
word_tag word.Finally = refl
word_tag word.Float = refl
word_tag word.For = refl
word_tag word.Goto = refl
word_tag word.If = refl
word_tag word.Implements = refl
word_tag word.Import = refl
word_tag word.InstanceOf = refl
word_tag word.Int = refl
word_tag word.Interface = refl
word_tag word.Long = refl
word_tag word.Native = refl
word_tag word.New = refl
word_tag word.Null = refl
word_tag word.Package = refl
word_tag word.Private = refl
word_tag word.Protected = refl
word_tag word.Public = refl
word_tag word.Return = refl
word_tag word.Short = refl
word_tag word.Static = refl
word_tag word.StrictFp = refl
word_tag word.Super = refl
word_tag word.Switch = refl
word_tag word.Synchronized = refl
word_tag word.This = refl
word_tag word.Throw = refl
word_tag word.Throws = refl
word_tag word.Transient = refl
word_tag word.True = refl
word_tag word.Try = refl
word_tag word.Void = refl
word_tag word.Volatile = refl
word_tag word.While = refl

symbol_tag : (y : Symbol) → tag_of the_symbols y ≡ symbol_number y
symbol_tag symbol.Not = refl
symbol_tag symbol.NotEqual = refl
symbol_tag symbol.Percent = refl
symbol_tag symbol.PercentAssign = refl
symbol_tag symbol.And = refl
symbol_tag symbol.AndAnd = refl
symbol_tag symbol.AndAssign = refl
symbol_tag symbol.OpenParen = refl
symbol_tag symbol.CloseParen = refl
symbol_tag symbol.Star = refl
symbol_tag symbol.StarAssign = refl
symbol_tag symbol.Plus = refl
symbol_tag symbol.Increment = refl
symbol_tag symbol.PlusAssign = refl
symbol_tag symbol.Comma = refl
symbol_tag symbol.Minus = refl
symbol_tag symbol.Decrement = refl
symbol_tag symbol.MinusAssign = refl
symbol_tag symbol.Dot = refl
symbol_tag symbol.Ellipsis = refl
symbol_tag symbol.Slash = refl
symbol_tag symbol.SlashAssign = refl
symbol_tag symbol.Colon = refl
symbol_tag symbol.Semicolon = refl
symbol_tag symbol.Less = refl
symbol_tag symbol.ShiftLeft = refl
symbol_tag symbol.ShiftLeftAssign = refl
symbol_tag symbol.LessEqual = refl
symbol_tag symbol.Assign = refl
symbol_tag symbol.Equal = refl
symbol_tag symbol.Greater = refl
symbol_tag symbol.GreaterEqual = refl
symbol_tag symbol.ShiftRight = refl
symbol_tag symbol.ShiftRightAssign = refl
symbol_tag symbol.UnsignedShiftRight = refl
symbol_tag symbol.UnsignedShiftRightAssign = refl
symbol_tag symbol.Question = refl
symbol_tag symbol.At = refl
symbol_tag symbol.OpenBracket = refl
symbol_tag symbol.CloseBracket = refl
symbol_tag symbol.Caret = refl
symbol_tag symbol.CaretAssign = refl
symbol_tag symbol.OpenBrace = refl
symbol_tag symbol.Or = refl
symbol_tag symbol.OrAssign = refl
symbol_tag symbol.OrOr = refl
symbol_tag symbol.CloseBrace = refl
symbol_tag symbol.Tilde = refl

pub word_same : (v w : Keyword) → sameb the_words v w ≡ nat_eq (word_number v) (word_number w)
word_same v w = rw (word_tag v, word_tag w) refl

pub symbol_same : (y z : Symbol) → sameb the_symbols y z ≡ nat_eq (symbol_number y) (symbol_number z)
symbol_same y z = rw (symbol_tag y, symbol_tag z) refl
