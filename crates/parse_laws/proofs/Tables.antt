-- Two kinds of tokens of one number are one kind.
use Rattle.std.proofs.Common.{◌≡◌, true, List, [], ◌∷◌, get_or, refl, sym, ap, ◌∙◌, nat_eq}
use Rattle.std.proofs.lemmas.Bool.{eqb-true, eq-eqb}
use Rattle.je_token.specs.declared.keyword.Keyword.{Keyword}
use Rattle.je_token.specs.declared.keyword.Keyword.TheVariants as word
use Rattle.je_token.specs.declared.symbol.Symbol.{Symbol}
use Rattle.je_token.specs.declared.symbol.Symbol.TheVariants as symbol
use Rattle.je_token.specs.declared.token.TokenKind.{TokenKind}
use Rattle.je_token.specs.declared.token.TokenKind.TheVariants as kind
use Rattle.parse_laws.specs.way.Tokens.{word_number, symbol_number, same}

words : List Keyword
words = word.Abstract ∷ word.Assert ∷ word.Boolean ∷ word.Break ∷ word.Byte ∷ word.Case ∷ word.Catch ∷ word.Char ∷ word.Class ∷ word.Const ∷ word.Continue ∷ word.Default ∷ word.Do ∷ word.Double ∷ word.Else ∷ word.Enum ∷ word.Extends ∷ word.False ∷ word.Final ∷ word.Finally ∷ word.Float ∷ word.For ∷ word.Goto ∷ word.If ∷ word.Implements ∷ word.Import ∷ word.InstanceOf ∷ word.Int ∷ word.Interface ∷ word.Long ∷ word.Native ∷ word.New ∷ word.Null ∷ word.Package ∷ word.Private ∷ word.Protected ∷ word.Public ∷ word.Return ∷ word.Short ∷ word.Static ∷ word.StrictFp ∷ word.Super ∷ word.Switch ∷ word.Synchronized ∷ word.This ∷ word.Throw ∷ word.Throws ∷ word.Transient ∷ word.True ∷ word.Try ∷ word.Void ∷ word.Volatile ∷ word.While ∷ []

symbols : List Symbol
symbols = symbol.Not ∷ symbol.NotEqual ∷ symbol.Percent ∷ symbol.PercentAssign ∷ symbol.And ∷ symbol.AndAnd ∷ symbol.AndAssign ∷ symbol.OpenParen ∷ symbol.CloseParen ∷ symbol.Star ∷ symbol.StarAssign ∷ symbol.Plus ∷ symbol.Increment ∷ symbol.PlusAssign ∷ symbol.Comma ∷ symbol.Minus ∷ symbol.Decrement ∷ symbol.MinusAssign ∷ symbol.Dot ∷ symbol.Ellipsis ∷ symbol.Slash ∷ symbol.SlashAssign ∷ symbol.Colon ∷ symbol.Semicolon ∷ symbol.Less ∷ symbol.ShiftLeft ∷ symbol.ShiftLeftAssign ∷ symbol.LessEqual ∷ symbol.Assign ∷ symbol.Equal ∷ symbol.Greater ∷ symbol.GreaterEqual ∷ symbol.ShiftRight ∷ symbol.ShiftRightAssign ∷ symbol.UnsignedShiftRight ∷ symbol.UnsignedShiftRightAssign ∷ symbol.Question ∷ symbol.At ∷ symbol.OpenBracket ∷ symbol.CloseBracket ∷ symbol.Caret ∷ symbol.CaretAssign ∷ symbol.OpenBrace ∷ symbol.Or ∷ symbol.OrAssign ∷ symbol.OrOr ∷ symbol.CloseBrace ∷ symbol.Tilde ∷ []

word_back : (w : Keyword) → get_or words (word_number w) word.Abstract ≡ w
unfolding words
word_back word.Abstract = refl
word_back word.Assert = refl
word_back word.Boolean = refl
word_back word.Break = refl
word_back word.Byte = refl
word_back word.Case = refl
word_back word.Catch = refl
word_back word.Char = refl
word_back word.Class = refl
word_back word.Const = refl
word_back word.Continue = refl
word_back word.Default = refl
word_back word.Do = refl
word_back word.Double = refl
word_back word.Else = refl
word_back word.Enum = refl
word_back word.Extends = refl
word_back word.False = refl
word_back word.Final = refl
word_back word.Finally = refl
word_back word.Float = refl
word_back word.For = refl
word_back word.Goto = refl
word_back word.If = refl
word_back word.Implements = refl
word_back word.Import = refl
word_back word.InstanceOf = refl
word_back word.Int = refl
word_back word.Interface = refl
word_back word.Long = refl
word_back word.Native = refl
word_back word.New = refl
word_back word.Null = refl
word_back word.Package = refl
word_back word.Private = refl
word_back word.Protected = refl
word_back word.Public = refl
word_back word.Return = refl
word_back word.Short = refl
word_back word.Static = refl
word_back word.StrictFp = refl
word_back word.Super = refl
word_back word.Switch = refl
word_back word.Synchronized = refl
word_back word.This = refl
word_back word.Throw = refl
word_back word.Throws = refl
word_back word.Transient = refl
word_back word.True = refl
word_back word.Try = refl
word_back word.Void = refl
word_back word.Volatile = refl
word_back word.While = refl

symbol_back : (y : Symbol) → get_or symbols (symbol_number y) symbol.Not ≡ y
unfolding symbols
symbol_back symbol.Not = refl
symbol_back symbol.NotEqual = refl
symbol_back symbol.Percent = refl
symbol_back symbol.PercentAssign = refl
symbol_back symbol.And = refl
symbol_back symbol.AndAnd = refl
symbol_back symbol.AndAssign = refl
symbol_back symbol.OpenParen = refl
symbol_back symbol.CloseParen = refl
symbol_back symbol.Star = refl
symbol_back symbol.StarAssign = refl
symbol_back symbol.Plus = refl
symbol_back symbol.Increment = refl
symbol_back symbol.PlusAssign = refl
symbol_back symbol.Comma = refl
symbol_back symbol.Minus = refl
symbol_back symbol.Decrement = refl
symbol_back symbol.MinusAssign = refl
symbol_back symbol.Dot = refl
symbol_back symbol.Ellipsis = refl
symbol_back symbol.Slash = refl
symbol_back symbol.SlashAssign = refl
symbol_back symbol.Colon = refl
symbol_back symbol.Semicolon = refl
symbol_back symbol.Less = refl
symbol_back symbol.ShiftLeft = refl
symbol_back symbol.ShiftLeftAssign = refl
symbol_back symbol.LessEqual = refl
symbol_back symbol.Assign = refl
symbol_back symbol.Equal = refl
symbol_back symbol.Greater = refl
symbol_back symbol.GreaterEqual = refl
symbol_back symbol.ShiftRight = refl
symbol_back symbol.ShiftRightAssign = refl
symbol_back symbol.UnsignedShiftRight = refl
symbol_back symbol.UnsignedShiftRightAssign = refl
symbol_back symbol.Question = refl
symbol_back symbol.At = refl
symbol_back symbol.OpenBracket = refl
symbol_back symbol.CloseBracket = refl
symbol_back symbol.Caret = refl
symbol_back symbol.CaretAssign = refl
symbol_back symbol.OpenBrace = refl
symbol_back symbol.Or = refl
symbol_back symbol.OrAssign = refl
symbol_back symbol.OrOr = refl
symbol_back symbol.CloseBrace = refl
symbol_back symbol.Tilde = refl

same_word : (a b : Keyword) → nat_eq (word_number a) (word_number b) ≡ true → a ≡ b
same_word a b e = sym (word_back a) ∙ ap (λ n. get_or words n word.Abstract) (eqb-true (word_number a) (word_number b) e) ∙ word_back b

same_symbol : (a b : Symbol) → nat_eq (symbol_number a) (symbol_number b) ≡ true → a ≡ b
same_symbol a b e = sym (symbol_back a) ∙ ap (λ n. get_or symbols n symbol.Not) (eqb-true (symbol_number a) (symbol_number b) e) ∙ symbol_back b

pub same_true : (a b : TokenKind) → same a b ≡ true → a ≡ b
same_true (kind.Keyword a) (kind.Keyword b) e = ap kind.Keyword (same_word a b e)
same_true (kind.Symbol a) (kind.Symbol b) e = ap kind.Symbol (same_symbol a b e)
same_true kind.Identifier kind.Identifier e = refl
same_true kind.IntLiteral kind.IntLiteral e = refl
same_true kind.LongLiteral kind.LongLiteral e = refl
same_true kind.CharLiteral kind.CharLiteral e = refl
same_true kind.TextLiteral kind.TextLiteral e = refl
same_true kind.End kind.End e = refl
same_true _ _ e = absurd cc

pub same_refl : (k : TokenKind) → same k k ≡ true
same_refl (kind.Keyword w) = eq-eqb (word_number w) (word_number w) refl
same_refl (kind.Symbol y) = eq-eqb (symbol_number y) (symbol_number y) refl
same_refl kind.Identifier = refl
same_refl kind.IntLiteral = refl
same_refl kind.LongLiteral = refl
same_refl kind.CharLiteral = refl
same_refl kind.TextLiteral = refl
same_refl kind.End = refl
