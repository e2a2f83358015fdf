-- What is read as an argument, a length, a creation or another primary is spelled.
use Rattle.std.proofs.Common.{◌≡◌, ℕ, Bool, true, false, List, ◌∷◌, Some, refl, ap, ◌&&◌, ◌||◌, inl, inr}
use Rattle.std.proofs.lemmas.Bool.{both_ways}
use Rattle.je_base.specs.declared.span.Span.{Span}
use Rattle.je_token.specs.declared.symbol.Symbol.TheVariants as symbol
use Rattle.je_token.specs.declared.token.Token.{Token}
use Rattle.je_token.specs.declared.token.TokenKind.TheVariants as kind
use Rattle.je_ast.specs.Types.{QualifiedName}
use Rattle.je_ast.specs.Trees.{Expression}
use Rattle.je_grammar.specs.Tokens.{it_is, IsSymbol, IsIdentifier, first_span}
use Rattle.je_grammar.specs.Types.{SpellsName, simple_name, qualified_name, SpellsDims, no_dims}
use Rattle.je_grammar.specs.Context.{is_name, begins_operand, is_cast_before}
use Rattle.je_grammar.specs.Grammar.{Spells, is_simple_name, is_select}
use Rattle.parse_laws.specs.way.Tokens.{is_some}
use Rattle.parse_laws.specs.way.Types.{part_at, pair_at, name_at, past_name_at, primitive_at, dims_at, past_dims_at, is_cast_at}
use Rattle.parse_laws.specs.way.Readers.{itself, longer}
use Rattle.expression_laws.specs.way.Parts.{ReadTypes}
use Rattle.parse_laws.proofs.Fronts.{Front, front, behind_of}

-- ---- names in brackets

name_goes_on : {n : QualifiedName} {ts rest : List Token} {d t : Token} → SpellsName n ts (d ∷ t ∷ rest) → IsSymbol symbol.Dot d → IsIdentifier t → (m : QualifiedName) × SpellsName m ts rest
name_goes_on (simple_name i) d t = (_, qualified_name i d (simple_name t))
name_goes_on (qualified_name i k n) d t = let m = name_goes_on n d t in (_, qualified_name i k m.1)

module _ (names texts : List (List ℕ)) where
  -- an expression that is a name
  pub name_spelled : {e : Expression} {ts rest : List Token} → Spells names texts e ts rest → is_name e ≡ true → (n : QualifiedName) × SpellsName n ts rest
  name_spelled (is_simple_name i) e = (_, simple_name i)
  name_spelled (is_select le s d t) e = let m = name_spelled s e in name_goes_on m.1 d t
  name_spelled _ e = absurd cc

close_is_no_point : {ts rest : List Token} → Front (kind.Symbol symbol.CloseParen) ts rest → is_some (part_at ts) ≡ false
close_is_no_point (front it_is) = refl

close_is_no_pair : {ts rest : List Token} → Front (kind.Symbol symbol.CloseParen) ts rest → is_some (pair_at ts) ≡ false
close_is_no_pair (front it_is) = refl

name_is_no_primitive : {n : QualifiedName} {ts rest : List Token} → SpellsName n ts rest → is_some (primitive_at ts) ≡ false
name_is_no_primitive (simple_name it_is) = refl
name_is_no_primitive (qualified_name it_is d n) = refl

or_true : (b : Bool) → (b || true) ≡ true
or_true true = refl
or_true false = refl

by_cases : (a b : Bool) → (a ≡ true → b ≡ true → ⊥) → (a && b) ≡ false
by_cases true true f = absurd (f refl refl)
by_cases true false f = refl
by_cases false b f = refl

module _ {h : ℕ} (types : ReadTypes h) where
  -- a token that isn't a point
  pub name_before : {n : QualifiedName} {ts rest : List Token} → SpellsName n ts rest → is_some (part_at rest) ≡ false → name_at ts ≡ Some (n, rest)
  name_before {n} {ts} {rest} d stops = elim (types.name_exact n ts rest d) [
    | itself e ↦ e
    | longer e lt goes ↦ absurd cc
  ]

  pub dims_before : {n : ℕ} {s e : Span} {ts rest : List Token} → SpellsDims n s e ts rest → is_some (pair_at rest) ≡ false → dims_at s ts ≡ (n, e, rest)
  dims_before {n} {s} {e} {ts} {rest} d stops = elim (types.dims_exact n s e ts rest d) [
    | inl e ↦ e
    | inr both ↦ let goes = both.1 in absurd cc
  ]

  pub past_name_before : {n : QualifiedName} {ts rest : List Token} → SpellsName n ts rest → is_some (part_at rest) ≡ false → past_name_at ts ≡ Some rest
  unfolding past_name_at
  past_name_before d stops = rw (name_before d stops) refl

  past_no_dims : (ts : List Token) → is_some (pair_at ts) ≡ false → past_dims_at ts ≡ ts
  unfolding past_dims_at
  past_no_dims ts stops = ap (λ (x : ℕ × Span × List Token). x.2) (dims_before (no_dims {s = first_span ts} {rest = ts}) stops)

  name_in_brackets : {n : QualifiedName} {ts inside last rest : List Token} → Front (kind.Symbol symbol.OpenParen) ts inside → SpellsName n inside last →
      Front (kind.Symbol symbol.CloseParen) last rest → begins_operand rest ≡ true → is_some (primitive_at inside) ≡ false → is_cast_at ts ≡ true
  unfolding is_cast_at
  name_in_brackets {last = last} o d c b q =
      let e = past_name_before d (close_is_no_point c) in
      let n = past_no_dims last (close_is_no_pair c) in
      rw (behind_of o, q, e, n, behind_of c, b) (or_true _)

  -- what is no cast by its look-ahead, may stand in brackets
  pub no_cast_in_brackets : (names texts : List (List ℕ)) {e : Expression} {ts inside last rest : List Token} → Front (kind.Symbol symbol.OpenParen) ts inside → Spells names texts e inside last →
      Front (kind.Symbol symbol.CloseParen) last rest → is_cast_at ts ≡ false → is_cast_before e rest ≡ false
  no_cast_in_brackets names texts {e} {rest = rest} o d c false_of = by_cases (is_name e) (begins_operand rest)
      (λ n b. let m = name_spelled names texts d n in both_ways _ false_of (name_in_brackets o m.1 c b (name_is_no_primitive m.1)))
