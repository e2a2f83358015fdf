-- JLS 14.4, 15.16: what is decided by looking ahead.
use Rattle.std.specs.Prelude.{◌≡◌, ℕ, ◌<◌, ◌≤◌, true, List, ◌∷◌}
use Rattle.je_base.specs.declared.span.Span.{Span}
use Rattle.je_token.specs.declared.symbol.Symbol.TheVariants as symbol
use Rattle.je_token.specs.declared.token.Token.{Token}
use Rattle.je_ast.specs.declared.ty_name.Primitive.{Primitive}
use Rattle.je_ast.specs.Types.{QualifiedName, TypeName, type_height}
use Rattle.je_grammar.specs.Tokens.{IsWord, IsSymbol, IsIdentifier}
use Rattle.je_grammar.specs.Types.{SpellsName, SpellsDims, SpellsTypeName, primitive_word}
use Rattle.je_grammar.specs.Context.{begins_operand}

-- In brackets stands a primitive type, or a name with brackets `[]`, or a name, and an operand follows.
pub data BeginsCast : List Token → Type 0 where
  to_primitive : (p : Primitive) {o t : Token} {rest : List Token} → IsSymbol symbol.OpenParen o → IsWord (primitive_word p) t → BeginsCast (o ∷ t ∷ rest)
  to_array : {q : QualifiedName} {n : ℕ} {s e : Span} {o c : Token} {ts mid rest : List Token} → IsSymbol symbol.OpenParen o →
      SpellsName q ts mid → 0 < n → SpellsDims n s e mid (c ∷ rest) → IsSymbol symbol.CloseParen c → BeginsCast (o ∷ ts)
  to_class : {q : QualifiedName} {o c : Token} {ts rest : List Token} → IsSymbol symbol.OpenParen o →
      SpellsName q ts (c ∷ rest) → IsSymbol symbol.CloseParen c → begins_operand rest ≡ true → BeginsCast (o ∷ ts)

-- a type of at most this height, and an identifier behind it
pub data BeginsLocal (most : ℕ) : List Token → Type 0 where
  begins_local : {t : TypeName} {n : Token} {ts rest : List Token} → SpellsTypeName t ts (n ∷ rest) → type_height t ≤ most → IsIdentifier n → BeginsLocal most ts
