-- What the productions of expressions rest on where names, types and class bodies stand in them.
use Rattle.std.specs.Prelude.{◌≡◌, ℕ, ◌<◌, ◌≤◌, true, false, List, length, Some, IfSome, ◌⊎◌}
use Rattle.je_base.specs.declared.span.Span.{Span}
use Rattle.je_token.specs.declared.symbol.Symbol.TheVariants as symbol
use Rattle.je_token.specs.declared.token.Token.{Token}
use Rattle.je_ast.specs.Types.{QualifiedName, TypeName, type_height}
use Rattle.je_ast.specs.Trees.{Members}
use Rattle.je_ast.specs.Height.{members_height}
use Rattle.je_grammar.specs.Grammar.{SpellsBody}
use Rattle.je_grammar.specs.Types.{SpellsName, SpellsDims}
use Rattle.parse_laws.specs.way.Tokens.{is_some, is_symbol}
use Rattle.parse_laws.specs.way.Types.{part_at, pair_at, name_at, dims_at, reference_at}
use Rattle.parse_laws.specs.way.Readers.{Reads, SpellsReference}
use Rattle.parse_laws.specs.way.Expressions.{Closed}

pub record IsReferenceRead (most : ℕ) (ts : List Token) (x : TypeName × List Token) : Type 0 where
  pub spelled : SpellsReference x.0 ts x.1
  pub within : type_height x.0 ≤ most

-- the names, brackets and references of at most this height are read right
pub record ReadTypes (most : ℕ) : Type 0 where
  pub name_sound : (ts : List Token) → IfSome (name_at ts) (λ x. SpellsName x.0 ts x.1)
  pub name_exact : (n : QualifiedName) (ts rest : List Token) → SpellsName n ts rest → Reads (name_at ts) n rest (is_some (part_at rest) ≡ true)
  pub dims_sound : (s : Span) (ts : List Token) → SpellsDims (dims_at s ts).0 s (dims_at s ts).1 ts (dims_at s ts).2
  pub dims_exact : (n : ℕ) (s e : Span) (ts rest : List Token) → SpellsDims n s e ts rest →
      (dims_at s ts ≡ (n, e, rest)) ⊎ ((length (dims_at s ts).2 < length rest) × (is_some (pair_at rest) ≡ true))
  pub reference_sound : (ts : List Token) → IfSome (reference_at most ts) (IsReferenceRead most ts)
  pub reference_exact : (t : TypeName) (ts rest : List Token) → SpellsReference t ts rest → type_height t ≤ most → is_some (part_at rest) ≡ false → is_symbol symbol.Less rest ≡ false →
      reference_at most ts ≡ Some (t, rest)

module _ (names texts : List (List ℕ)) where
  pub record IsBodyRead (most : ℕ) (ts : List Token) (x : Members × Span × List Token) : Type 0 where
    pub spelled : SpellsBody names texts x.0 x.1 ts x.2
    pub within : members_height x.0 ≤ most

  -- the class bodies with members of at most this height are read right
  pub record ReadBodies (most : ℕ) (body : List Token → Closed Members) : Type 0 where
    pub sound : (ts : List Token) → IfSome (body ts) (IsBodyRead most ts)
    pub exact : (ms : Members) (c : Span) (ts rest : List Token) → SpellsBody names texts ms c ts rest → members_height ms ≤ most → body ts ≡ Some (ms, c, rest)
