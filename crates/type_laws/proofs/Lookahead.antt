-- Where a cast and a local variable begin.
use Rattle.std.proofs.Common.{◌≡◌, ℕ, ◌<◌, Bool, true, false, ◌||◌, List, ◌∷◌, Option, Some, None, IfSome, option_map, refl, ap, arith}
use Rattle.je_base.specs.declared.span.Span.{Span}
use Rattle.je_token.specs.declared.symbol.Symbol.TheVariants as symbol
use Rattle.je_token.specs.declared.token.Token.{Token}
use Rattle.je_token.specs.declared.token.TokenKind.TheVariants as kind
use Rattle.je_ast.specs.declared.ty_name.Primitive.{Primitive}
use Rattle.je_ast.specs.Types.{QualifiedName, TypeName}
use Rattle.je_ast.specs.Spans.{join}
use Rattle.je_grammar.specs.Tokens.{it_is, first_span}
use Rattle.je_grammar.specs.Types.{SpellsName, SpellsDims, no_dims, more_dims}
use Rattle.je_grammar.specs.Context.{begins_operand}
use Rattle.parse_laws.specs.way.Tokens.{Read, with, is_some, behind_kind, behind, is_identifier}
use Rattle.parse_laws.specs.way.Types.{pair_at, name_at, primitive_at, past_name_at, past_dims_at, is_cast_at, type_at, past_type_at, begins_local_at}
use Rattle.type_laws.specs.Ahead.{BeginsCast, to_primitive, to_array, to_class, BeginsLocal, begins_local}
use Rattle.type_laws.specs.Laws.{names_on, dims_on}
use Rattle.type_laws.proofs.Rules.{either}
use Rattle.parse_laws.proofs.Fronts.{Front, front, behind_front}
use Rattle.type_laws.proofs.Names.{name_sound, name_complete, dims_sound, dims_complete}
use Rattle.type_laws.proofs.Types.{Prim, a_prim, primitive_sound, primitive_exact, no_primitive, IsType, type_sound, type_complete}

primitive_in : {ts inside rest : List Token} {p : Primitive} → Front (kind.Symbol symbol.OpenParen) ts inside → Prim inside p rest → BeginsCast ts
primitive_in (front o) (a_prim {p} w) = to_primitive p o w

name_in : {ts inside mid last rest : List Token} {q : QualifiedName} {n : ℕ} {s e : Span} → Front (kind.Symbol symbol.OpenParen) ts inside → SpellsName q inside mid →
    SpellsDims n s e mid last → Front (kind.Symbol symbol.CloseParen) last rest → (is_some (pair_at mid) || begins_operand rest) ≡ true → BeginsCast ts
name_in (front o) m no_dims (front it_is) t = to_class o m it_is t
name_in {s = s} (front o) m (more_dims b c d) (front k) t = to_array {s = s} o m (omega arith) (more_dims {s = s} b c d) k

-- what is asked behind a name
abbrev behind_name : List Token → Bool
behind_name rest = with (behind symbol.CloseParen (past_dims_at rest)) (λ operand. is_some (pair_at rest) || begins_operand operand) false

behind_name_sound : {ts inside : List Token} (q : QualifiedName) (rest : List Token) → Front (kind.Symbol symbol.OpenParen) ts inside → SpellsName q inside rest → behind_name rest ≡ true → BeginsCast ts
unfolding past_dims_at
behind_name_sound {ts} q rest o m =
    either (behind symbol.CloseParen (past_dims_at rest)) _ _ (Front (kind.Symbol symbol.CloseParen) (past_dims_at rest)) (λ (b : Bool). b ≡ true → BeginsCast ts)
    (behind_front (kind.Symbol symbol.CloseParen) (past_dims_at rest))
    (λ operand k t. name_in o m (dims_sound (first_span rest) rest) k t) (λ e t. absurd cc)

inside_name : {ts inside : List Token} (x : Read QualifiedName) → Front (kind.Symbol symbol.OpenParen) ts inside → IfSome x (λ y. SpellsName y.0 inside y.1) →
    with (option_map (λ y. y.1) x) behind_name false ≡ true → BeginsCast ts
inside_name (Some y) o m t = behind_name_sound y.0 y.1 o m t
inside_name None o m t = absurd cc

inside_cast : {ts inside : List Token} (x : Read Primitive) → Front (kind.Symbol symbol.OpenParen) ts inside → IfSome x (λ y. Prim inside y.0 y.1) →
    (is_some x || with (past_name_at inside) behind_name false) ≡ true → BeginsCast ts
unfolding past_name_at
inside_cast (Some y) o w t = primitive_in o w
inside_cast {inside = inside} None o w t = inside_name (name_at inside) o (name_sound inside) t

pub cast_sound : (ts : List Token) → is_cast_at ts ≡ true → BeginsCast ts
unfolding is_cast_at
cast_sound ts =
    either (behind symbol.OpenParen ts) _ _ (Front (kind.Symbol symbol.OpenParen) ts) (λ (b : Bool). b ≡ true → BeginsCast ts) (behind_front (kind.Symbol symbol.OpenParen) ts)
    (λ inside o t. inside_cast (primitive_at inside) o (primitive_sound inside) t) (λ e t. absurd cc)

-- the same brackets behind another span
end_of : Span → {n : ℕ} {s e : Span} {ts rest : List Token} → SpellsDims n s e ts rest → Span
end_of a no_dims = a
end_of a (more_dims {c = c} o k d) = end_of (join a c.span) d

from_span : (a : Span) {n : ℕ} {s e : Span} {ts rest : List Token} (d : SpellsDims n s e ts rest) → SpellsDims n a (end_of a d) ts rest
unfolding end_of
from_span a no_dims = no_dims
from_span a (more_dims {c = c} o k d) = more_dims o k (from_span (join a c.span) d)

-- what is behind the brackets
past_exact : {n : ℕ} {s e : Span} {ts rest : List Token} → SpellsDims n s e ts rest → dims_on rest ≡ false → past_dims_at ts ≡ rest
unfolding past_dims_at
past_exact {ts = ts} d stops = ap (λ (y : ℕ × Span × List Token). y.2) (dims_complete (from_span (first_span ts) d) stops)

brackets_first : {n : ℕ} {s e : Span} {ts rest : List Token} → SpellsDims n s e ts rest → 0 < n → (names_on ts ≡ false) × (is_some (pair_at ts) ≡ true)
brackets_first no_dims positive = absurd (omega arith)
brackets_first (more_dims it_is it_is d) positive = (refl, refl)

pub cast_exact : {ts : List Token} → BeginsCast ts → is_cast_at ts ≡ true
unfolding is_cast_at past_name_at
cast_exact (to_primitive p {rest = rest} it_is w) = rw (primitive_exact p rest w) refl
cast_exact (to_array it_is m positive d it_is) = let f = brackets_first d positive in rw (no_primitive m, name_complete m f.0, past_exact d refl, f.1) refl
cast_exact (to_class {q} {c = c} {rest = rest} it_is m it_is operand) =
    rw (no_primitive m, name_complete m refl, past_exact (no_dims {s = q.span} {rest = c ∷ rest}) refl) operand

-- ---- local variables

local_of : (h : ℕ) {ts rest all : List Token} (t : TypeName) → IsType h ts (t, all) → Front kind.Identifier all rest → BeginsLocal h ts
local_of h t g (front i) = begins_local g.spelled g.within i

local_in : (h : ℕ) (ts : List Token) (o : Read TypeName) → IfSome o (IsType h ts) → with (option_map (λ x. x.1) o) is_identifier false ≡ true → BeginsLocal h ts
local_in h ts None g e = absurd cc
local_in h ts (Some x) g e = go (behind_kind kind.Identifier x.1) (behind_front kind.Identifier x.1) e
  where
    go : (b : Option (List Token)) → IfSome b (Front kind.Identifier x.1) → is_some b ≡ true → BeginsLocal h ts
    go (Some rest) b t = local_of h x.0 g b
    go None b t = absurd cc

pub local_sound : (h : ℕ) (ts : List Token) → begins_local_at h ts ≡ true → BeginsLocal h ts
unfolding begins_local_at past_type_at
local_sound h ts e = local_in h ts (type_at h ts) (type_sound h ts) e

pub local_exact : (h : ℕ) {ts : List Token} → BeginsLocal h ts → begins_local_at h ts ≡ true
unfolding begins_local_at past_type_at
local_exact h (begins_local {t} {ts = ts} d low it_is) = rw (type_complete h t ts _ d low (record { no_part = refl; no_less = refl; no_dims = refl })) refl
