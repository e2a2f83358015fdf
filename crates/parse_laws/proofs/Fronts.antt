-- Which token stands first, where its kind was tested.
use Rattle.std.proofs.Common.{◌≡◌, Bool, true, false, cond, List, [], ◌∷◌, Some, None, IfSome, refl, subst}
use Rattle.je_token.specs.declared.token.Token.{Token}
use Rattle.je_token.specs.declared.token.TokenKind.{TokenKind}
use Rattle.je_token.specs.declared.token.TokenKind.TheVariants as kind
use Rattle.je_grammar.specs.Tokens.{Is, it_is, IsIdentifier, identifier}
use Rattle.je_ast.specs.declared.name.Identifier.{Identifier}
use Rattle.parse_laws.specs.way.Tokens.{same, behind_kind, identifier_at}
use Rattle.parse_laws.proofs.Tables.{same_true, same_refl}

pub is_of : (k : TokenKind) (t : Token) → t.kind ≡ k → Is k t
is_of k t e = subst (λ j. Is j t) e it_is

-- the first token of a list, of this kind, and the tokens behind it
pub data Front (k : TokenKind) : List Token → List Token → Type 0 where
  front : {t : Token} {rest : List Token} → Is k t → Front k (t ∷ rest) rest

front_by : (k : TokenKind) (t : Token) (rest : List Token) (b : Bool) → same t.kind k ≡ b → IfSome (cond b (Some rest) None) (Front k (t ∷ rest))
front_by k t rest true e = front (is_of k t (same_true t.kind k e))
front_by k t rest false e = tt

pub behind_front : (k : TokenKind) (ts : List Token) → IfSome (behind_kind k ts) (Front k ts)
behind_front k [] = tt
behind_front k (t ∷ ts) = front_by k t ts (same t.kind k) refl

pub behind_of : {k : TokenKind} {ts rest : List Token} → Front k ts rest → behind_kind k ts ≡ Some rest
behind_of {k} (front it_is) = rw (same_refl k) refl

-- an identifier in front
pub data FrontName : List Token → Identifier × List Token → Type 0 where
  front_name : {t : Token} {rest : List Token} → IsIdentifier t → FrontName (t ∷ rest) (identifier t, rest)

front_name_by : (t : Token) (rest : List Token) (b : Bool) → same t.kind kind.Identifier ≡ b → IfSome (cond b (Some (identifier t, rest)) None) (FrontName (t ∷ rest))
front_name_by t rest true e = front_name (is_of kind.Identifier t (same_true t.kind kind.Identifier e))
front_name_by t rest false e = tt

pub identifier_front : (ts : List Token) → IfSome (identifier_at ts) (FrontName ts)
identifier_front [] = tt
identifier_front (t ∷ ts) = front_name_by t ts (same t.kind kind.Identifier) refl
