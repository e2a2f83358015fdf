-- Which token stands first, where its kind was tested: identifiers, and what closes type arguments.
use Rattle.std.proofs.Common.{◌≡◌, List, [], ◌∷◌, Some, None, IfSome, refl}
use Rattle.je_base.specs.declared.span.Span.{Span}
use Rattle.je_token.specs.declared.symbol.Symbol.TheVariants as symbol
use Rattle.je_token.specs.declared.token.Token.{Token}
use Rattle.je_token.specs.declared.token.TokenKind.{TokenKind}
use Rattle.je_token.specs.declared.token.TokenKind.TheVariants as kind
use Rattle.je_ast.specs.declared.name.Identifier.{Identifier}
use Rattle.je_grammar.specs.Tokens.{Is, it_is, IsIdentifier, identifier, Closes, one_closes, first_of_two, first_of_three}
use Rattle.parse_laws.specs.way.Tokens.{same, identifier_at, closing, closes_at}
use Rattle.parse_laws.proofs.Tables.{same_true}
use Rattle.parse_laws.proofs.Fronts.{is_of}
use Rattle.type_laws.proofs.Rules.{choose}

pub kind_is : {k : TokenKind} {t : Token} → Is k t → t.kind ≡ k
kind_is it_is = refl

-- an identifier, and the tokens behind it
pub data First : List Token → Identifier → List Token → Type 0 where
  a_first : {t : Token} {rest : List Token} → IsIdentifier t → First (t ∷ rest) (identifier t) rest

pub identifier_sound : (ts : List Token) → IfSome (identifier_at ts) (λ x. First ts x.0 x.1)
identifier_sound [] = tt
identifier_sound (t ∷ ts) =
    choose (same t.kind kind.Identifier) (Some (identifier t, ts)) None (λ x. First (t ∷ ts) x.0 x.1)
    (λ e. a_first (is_of kind.Identifier t (same_true t.kind kind.Identifier e))) (λ e. tt)

closing_sound : (t : Token) (ts : List Token) (k : TokenKind) → t.kind ≡ k → IfSome (closing t ts k) (λ x. Closes x.0 (t ∷ ts) x.1)
closing_sound t ts (kind.Symbol symbol.Greater) e = one_closes (is_of (kind.Symbol symbol.Greater) t e)
closing_sound t ts (kind.Symbol symbol.ShiftRight) e = first_of_two (is_of (kind.Symbol symbol.ShiftRight) t e)
closing_sound t ts (kind.Symbol symbol.UnsignedShiftRight) e = first_of_three (is_of (kind.Symbol symbol.UnsignedShiftRight) t e)
closing_sound t ts _ e = tt

pub closes_sound : (ts : List Token) → IfSome (closes_at ts) (λ x. Closes x.0 ts x.1)
closes_sound [] = tt
closes_sound (t ∷ ts) = closing_sound t ts t.kind refl

pub closes_exact : {c : Span} {ts rest : List Token} → Closes c ts rest → closes_at ts ≡ Some (c, rest)
closes_exact (one_closes it_is) = refl
closes_exact (first_of_two it_is) = refl
closes_exact (first_of_three it_is) = refl
