-- JLS 3.9, and the literals of 3.10.3 and 3.10.7: which reserved word a word is.
use Rattle.std.specs.Prelude.{ℕ, List, [], ◌∷◌, slice_get, Option, Some, None}
use Rattle.je_table.specs.Tables.{place_of}
use Rattle.je_table.specs.Words.{keywords}
use Rattle.je_token.specs.declared.keyword.Keyword.{Keyword}
use Rattle.je_token.specs.declared.keyword.Keyword.TheVariants as keyword

-- in the order of the table of keywords
abbrev pub all_keywords : List Keyword
all_keywords =
    keyword.Abstract ∷ keyword.Assert ∷ keyword.Boolean ∷ keyword.Break ∷ keyword.Byte ∷ keyword.Case ∷ keyword.Catch ∷ keyword.Char ∷ keyword.Class ∷
    keyword.Const ∷ keyword.Continue ∷ keyword.Default ∷ keyword.Do ∷ keyword.Double ∷ keyword.Else ∷ keyword.Enum ∷ keyword.Extends ∷ keyword.False ∷
    keyword.Final ∷ keyword.Finally ∷ keyword.Float ∷ keyword.For ∷ keyword.Goto ∷ keyword.If ∷ keyword.Implements ∷ keyword.Import ∷
    keyword.InstanceOf ∷ keyword.Int ∷ keyword.Interface ∷ keyword.Long ∷ keyword.Native ∷ keyword.New ∷ keyword.Null ∷ keyword.Package ∷
    keyword.Private ∷ keyword.Protected ∷ keyword.Public ∷ keyword.Return ∷ keyword.Short ∷ keyword.Static ∷ keyword.StrictFp ∷ keyword.Super ∷
    keyword.Switch ∷ keyword.Synchronized ∷ keyword.This ∷ keyword.Throw ∷ keyword.Throws ∷ keyword.Transient ∷ keyword.True ∷ keyword.Try ∷
    keyword.Void ∷ keyword.Volatile ∷ keyword.While ∷
    []

abbrev pub keyword_at : Option ℕ → Option Keyword
keyword_at None = None
keyword_at (Some place) = slice_get all_keywords place

unfoldable pub keyword_of : List ℕ → Option Keyword
keyword_of text = keyword_at (place_of text keywords)
