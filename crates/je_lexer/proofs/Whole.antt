-- Of a file's tokens the last alone is of kind End, and their numbers are places in the names and texts.
use Rattle.std.proofs.Common.{◌≡◌, ℕ, ◌<◌, ◌≤◌, Bool, true, false, List, [], ◌∷◌, length, Option, Some, None, if◌then◌else◌, All, refl, arith, length-append}
use Rattle.std.proofs.lemmas.List.Elements.{All-nil, All-cons, All-append}
use Rattle.std.proofs.lemmas.Option.{slice_get_within}
use Rattle.je_base.proofs.Numbering.{number-text}
use Rattle.je_base.specs.Names.{interned, interned_by, place_of}
use Rattle.je_decode.specs.declared.character.Character.{Character}
use Rattle.je_token.specs.declared.keyword.Keyword.{Keyword}
use Rattle.je_token.specs.declared.token.Token.{Token}
use Rattle.je_token.specs.declared.token.TokenKind.{TokenKind}
use Rattle.je_token.specs.declared.token.TokenKind.TheVariants as kind
use Rattle.je_lexer.specs.Elements.{Element}
use Rattle.je_lexer.specs.Lexing.{Lexes, HasTokens, HasText, AreWhole, end_token}
use Rattle.je_lexer.specs.Tokens.{Gives, token, keyword_kind, word_kind, number_kind, spelled}
use Rattle.je_lexer.specs.Words.{keyword_of}
use Rattle.je_lexer.specs.declared.numbers.Number.{Number}

-- neither of kind End nor a string literal
record IsOther (k : TokenKind) : Type 0 where
  no_end : k ≡ kind.End → ⊥
  no_text : k ≡ kind.TextLiteral → ⊥

keyword_other : (o : Option Keyword) → IsOther (keyword_kind o)
keyword_other None = record { no_end = λ e. absurd (cc); no_text = λ e. absurd (cc) }
keyword_other (Some k) = record { no_end = λ e. absurd (cc); no_text = λ e. absurd (cc) }

word_other : (text : List ℕ) → IsOther (word_kind text)
unfolding word_kind
word_other text = keyword_other (keyword_of text)

number_other : (n : Number) → IsOther (number_kind n)
number_other n = by n.long
  where
    by : (b : Bool) → IsOther (if b then kind.LongLiteral else kind.IntLiteral)
    by true = record { no_end = λ e. absurd (cc); no_text = λ e. absurd (cc) }
    by false = record { no_end = λ e. absurd (cc); no_text = λ e. absurd (cc) }

length-le-interned : (names : List (List ℕ)) (text : List ℕ) → length names ≤ length (interned names text)
length-le-interned names text = by (place_of names text)
  where
    by : (o : Option ℕ) → length names ≤ length (interned_by o names text)
    by None = omega (arith, length-append names (text ∷ []))
    by (Some n) = omega arith

-- A token, with the names and texts before it and after it.
record IsPart (names texts names1 texts1 : List (List ℕ)) (t : Token) : Type 0 where
  names_kept : length names ≤ length names1
  texts_kept : length texts ≤ length texts1
  unended : t.kind ≡ kind.End → ⊥
  named : t.text.0 < length names1
  texted : HasText texts1 t

other_part : (names texts : List (List ℕ)) (t : Token) → IsOther t.kind → 0 < length names → t.text.0 ≡ 0 → IsPart names texts names texts t
other_part names texts t other some none =
    record { names_kept = omega arith; texts_kept = omega arith; unended = other.no_end; named = omega arith; texted = λ e. absurd (other.no_text e) }

part : (file : ℕ) (names texts names1 texts1 : List (List ℕ)) (e : Element) (front : List Character) (t : Token) → 0 < length names → Gives file names texts e front t names1 texts1 →
    IsPart names texts names1 texts1 t
unfolding token
part file names texts names1 texts1 _ front _ some (Gives.word {id = id} found) =
    let text = spelled front in let other = word_other text in
    record {
      names_kept = length-le-interned names text;
      texts_kept = omega arith;
      unended = other.no_end;
      named = slice_get_within (interned names text) id.0 text (number-text (interned names text) text id found);
      texted = λ e. absurd (other.no_text e);
    }
part file names texts names1 texts1 _ front t some Gives.sign =
    other_part names texts t (record { no_end = λ e. absurd (cc); no_text = λ e. absurd (cc) }) some refl
part file names texts names1 texts1 _ front t some (Gives.integer {i = i}) = other_part names texts t (number_other i) some refl
part file names texts names1 texts1 _ front t some Gives.char_literal =
    other_part names texts t (record { no_end = λ e. absurd (cc); no_text = λ e. absurd (cc) }) some refl
part file names texts names1 texts1 _ front _ some (Gives.text_literal {units = units}) =
    let more = length-append texts (units ∷ []) in
    record {
      names_kept = omega arith;
      texts_kept = omega arith;
      unended = λ e. absurd (cc);
      named = some;
      texted = λ e. (length texts, refl, omega arith);
    }

-- The tokens of characters, with the names and texts before them and after them.
record AreParts (names texts names1 texts1 : List (List ℕ)) (out : List Token) : Type 0 where
  names_kept : length names ≤ length names1
  texts_kept : length texts ≤ length texts1
  unended : All (λ t. t.kind ≡ kind.End → ⊥) out
  named : All (λ t. t.text.0 < length names1) out
  texted : All (HasText texts1) out

no_parts : (names texts : List (List ℕ)) → AreParts names texts names texts []
no_parts names texts = record {
  names_kept = omega arith;
  texts_kept = omega arith;
  unended = All-nil (λ t. t.kind ≡ kind.End → ⊥);
  named = All-nil (λ t. t.text.0 < length names);
  texted = All-nil (HasText texts);
}

one_part_more : (names texts names1 texts1 names2 texts2 : List (List ℕ)) (t : Token) (out : List Token) → IsPart names texts names1 texts1 t →
    AreParts names1 texts1 names2 texts2 out → AreParts names texts names2 texts2 (t ∷ out)
one_part_more names texts names1 texts1 names2 texts2 t out first rest =
    let here : HasText texts2 t = λ e. let h = first.texted e in (h.0, h.1, omega (arith, h.2, rest.texts_kept)) in
    record {
      names_kept = omega (arith, first.names_kept, rest.names_kept);
      texts_kept = omega (arith, first.texts_kept, rest.texts_kept);
      unended = All-cons (λ t. t.kind ≡ kind.End → ⊥) t out first.unended rest.unended;
      named = All-cons (λ t. t.text.0 < length names2) t out (omega (arith, first.named, rest.names_kept)) rest.named;
      texted = All-cons (HasText texts2) t out here rest.texted;
    }

parts : (file : ℕ) (names texts names1 texts1 : List (List ℕ)) (text : List Character) (out : List Token) → 0 < length names →
    Lexes file names texts text out names1 texts1 → AreParts names texts names1 texts1 out
parts file names texts _ _ _ _ some Lexes.at_end = no_parts names texts
parts file names texts names1 texts1 _ out some (Lexes.blank {behind = b} next rest) = parts file names texts names1 texts1 b out some rest
parts file names texts names2 texts2 _ _ some (Lexes.token {names1 = names1} {texts1 = texts1} {behind = b} {t = t} {out = out} next given rest) =
    let first = part file names texts names1 texts1 _ _ t some given in
    one_part_more names texts names1 texts1 names2 texts2 t out first
    (parts file names1 texts1 names2 texts2 b out (omega (arith, some, first.names_kept)) rest)

pub tokens_are_whole : (file : ℕ) (bytes : List ℕ) (list : List Token) (names texts : List (List ℕ)) → HasTokens file bytes list names texts → AreWhole list names texts
tokens_are_whole file bytes list names texts h =
    let front = parts file ([] ∷ []) [] names texts h.characters h.list (omega arith) h.lexed in
    let last = end_token file (length bytes) in
    let Named : Token → Type 0 = λ t. t.text.0 < length names in
    let some : Named last = omega (arith, front.names_kept) in
    let other : HasText texts last = λ e. absurd (cc) in
    record {
      front = h.list;
      last = last;
      whole = h.ended;
      ended = refl;
      unended = front.unended;
      named = rw h.ended (All-append Named h.list (last ∷ []) front.named (All-cons Named last [] some (All-nil Named)));
      texted = rw h.ended (All-append (HasText texts) h.list (last ∷ []) front.texted (All-cons (HasText texts) last [] other (All-nil (HasText texts))));
    }
