-- What stands in front where an operator, a literal or a type without type arguments is read.
use Rattle.std.proofs.Common.{◌≡◌, ℕ, false, ℤ, pos, negsuc, List, [], ◌∷◌, Option, Some, None, IfSome, refl, subst, slice_get}
use Rattle.je_base.specs.declared.span.Span.{Span}
use Rattle.je_token.specs.declared.keyword.Keyword.TheVariants as word
use Rattle.je_token.specs.declared.symbol.Symbol.{Symbol}
use Rattle.je_token.specs.declared.symbol.Symbol.TheVariants as symbol
use Rattle.je_token.specs.declared.token.Token.{Token}
use Rattle.je_token.specs.declared.token.TokenKind.{TokenKind}
use Rattle.je_token.specs.declared.token.TokenKind.TheVariants as kind
use Rattle.je_ast.specs.declared.expr.Literal.{Literal}
use Rattle.je_ast.specs.declared.expr.Literal.TheVariants as lit
use Rattle.je_ast.specs.declared.operator.BinaryOp.{BinaryOp}
use Rattle.je_ast.specs.declared.operator.PrefixOp.{PrefixOp}
use Rattle.je_ast.specs.declared.operator.PostfixOp.{PostfixOp}
use Rattle.je_ast.specs.declared.operator.PostfixOp.TheVariants as postfix_op
use Rattle.je_ast.specs.declared.ty_name.Primitive.{Primitive}
use Rattle.je_ast.specs.Types.{QualifiedName, TypeName, primitive, class_type, no_types, type_height}
use Rattle.je_ast.specs.Trees.{Expression, Expressions, Member, Members}
use Rattle.je_ast.specs.Trees as tree
use Rattle.je_grammar.specs.Tokens.{IsWord, IsSymbol, first_span}
use Rattle.je_grammar.specs.Operators.{operator_symbol, prefix_symbol, postfix_symbol, assignment_symbol}
use Rattle.je_grammar.specs.Types.{SpellsName, SpellsDims, SpellsTypeName, primitive_type, reference_type, plain_ref, primitive_word, has_arguments}
use Rattle.je_grammar.specs.Grammar.{IsLiteral, int_literal, long_literal, char_literal, text_literal, true_literal, false_literal, null_literal, SpellsElement, primitive_element, class_element}
use Rattle.parse_laws.specs.way.Tokens.{◌>>=◌, behind}
use Rattle.parse_laws.specs.way.Types.{name_at, primitive_at, primitive_kind, primitive_type_at, with_dims, element_at, plain_type_at}
use Rattle.parse_laws.specs.way.Expressions.{literal_kind, literal_at, prefix_kind, prefix_operator, postfix_operator, binary_kind, binary_operator, assignment_kind, assignment_operator}
use Rattle.expression_laws.specs.way.Parts.{ReadTypes}
use Rattle.parse_laws.proofs.Rules.{bind, either}
use Rattle.parse_laws.proofs.Fronts.{is_of, Front, front, behind_front}

-- ---- kinds of tokens

primitive_of : (k : TokenKind) → IfSome (primitive_kind k) (λ p. k ≡ kind.Keyword (primitive_word p))
primitive_of (kind.Keyword word.Boolean) = refl
primitive_of (kind.Keyword word.Byte) = refl
primitive_of (kind.Keyword word.Short) = refl
primitive_of (kind.Keyword word.Char) = refl
primitive_of (kind.Keyword word.Int) = refl
primitive_of (kind.Keyword word.Long) = refl
primitive_of _ = tt

prefix_of : (k : TokenKind) → IfSome (prefix_kind k) (λ o. k ≡ kind.Symbol (prefix_symbol o))
prefix_of (kind.Symbol symbol.Plus) = refl
prefix_of (kind.Symbol symbol.Minus) = refl
prefix_of (kind.Symbol symbol.Increment) = refl
prefix_of (kind.Symbol symbol.Decrement) = refl
prefix_of (kind.Symbol symbol.Not) = refl
prefix_of (kind.Symbol symbol.Tilde) = refl
prefix_of _ = tt

binary_of : (k : TokenKind) → IfSome (binary_kind k) (λ o. k ≡ kind.Symbol (operator_symbol o))
binary_of (kind.Symbol symbol.OrOr) = refl
binary_of (kind.Symbol symbol.AndAnd) = refl
binary_of (kind.Symbol symbol.Or) = refl
binary_of (kind.Symbol symbol.Caret) = refl
binary_of (kind.Symbol symbol.And) = refl
binary_of (kind.Symbol symbol.Equal) = refl
binary_of (kind.Symbol symbol.NotEqual) = refl
binary_of (kind.Symbol symbol.Less) = refl
binary_of (kind.Symbol symbol.Greater) = refl
binary_of (kind.Symbol symbol.LessEqual) = refl
binary_of (kind.Symbol symbol.GreaterEqual) = refl
binary_of (kind.Symbol symbol.ShiftLeft) = refl
binary_of (kind.Symbol symbol.ShiftRight) = refl
binary_of (kind.Symbol symbol.UnsignedShiftRight) = refl
binary_of (kind.Symbol symbol.Plus) = refl
binary_of (kind.Symbol symbol.Minus) = refl
binary_of (kind.Symbol symbol.Star) = refl
binary_of (kind.Symbol symbol.Slash) = refl
binary_of (kind.Symbol symbol.Percent) = refl
binary_of _ = tt

-- the assignment's symbol
abbrev pub IsAssignment : Option BinaryOp → TokenKind → Type 0
IsAssignment o k = (y : Symbol) × (assignment_symbol o ≡ Some y) × (k ≡ kind.Symbol y)

assignment_of : (k : TokenKind) → IfSome (assignment_kind k) (λ o. IsAssignment o k)
assignment_of (kind.Symbol symbol.Assign) = (symbol.Assign, refl, refl)
assignment_of (kind.Symbol symbol.StarAssign) = (symbol.StarAssign, refl, refl)
assignment_of (kind.Symbol symbol.SlashAssign) = (symbol.SlashAssign, refl, refl)
assignment_of (kind.Symbol symbol.PercentAssign) = (symbol.PercentAssign, refl, refl)
assignment_of (kind.Symbol symbol.PlusAssign) = (symbol.PlusAssign, refl, refl)
assignment_of (kind.Symbol symbol.MinusAssign) = (symbol.MinusAssign, refl, refl)
assignment_of (kind.Symbol symbol.ShiftLeftAssign) = (symbol.ShiftLeftAssign, refl, refl)
assignment_of (kind.Symbol symbol.ShiftRightAssign) = (symbol.ShiftRightAssign, refl, refl)
assignment_of (kind.Symbol symbol.UnsignedShiftRightAssign) = (symbol.UnsignedShiftRightAssign, refl, refl)
assignment_of (kind.Symbol symbol.AndAssign) = (symbol.AndAssign, refl, refl)
assignment_of (kind.Symbol symbol.CaretAssign) = (symbol.CaretAssign, refl, refl)
assignment_of (kind.Symbol symbol.OrAssign) = (symbol.OrAssign, refl, refl)
assignment_of _ = tt

-- ---- what stands in front

pub data FrontPrimitive : List Token → Primitive × List Token → Type 0 where
  front_primitive : {p : Primitive} {t : Token} {rest : List Token} → IsWord (primitive_word p) t → FrontPrimitive (t ∷ rest) (p, rest)

pub primitive_front : (ts : List Token) → IfSome (primitive_at ts) (FrontPrimitive ts)
primitive_front [] = tt
primitive_front (t ∷ ts) = bind (primitive_kind t.kind) _ (λ p. t.kind ≡ kind.Keyword (primitive_word p)) (FrontPrimitive (t ∷ ts)) (primitive_of t.kind)
    (λ p e. front_primitive (is_of (kind.Keyword (primitive_word p)) t e))

pub data FrontPrefix : List Token → PrefixOp × List Token → Type 0 where
  front_prefix : {o : PrefixOp} {t : Token} {rest : List Token} → IsSymbol (prefix_symbol o) t → FrontPrefix (t ∷ rest) (o, rest)

pub prefix_front : (ts : List Token) → IfSome (prefix_operator ts) (FrontPrefix ts)
prefix_front [] = tt
prefix_front (t ∷ ts) = bind (prefix_kind t.kind) _ (λ o. t.kind ≡ kind.Symbol (prefix_symbol o)) (FrontPrefix (t ∷ ts)) (prefix_of t.kind)
    (λ o e. front_prefix (is_of (kind.Symbol (prefix_symbol o)) t e))

pub data FrontPostfix : List Token → PostfixOp × List Token → Type 0 where
  front_postfix : {o : PostfixOp} {t : Token} {rest : List Token} → IsSymbol (postfix_symbol o) t → FrontPostfix (t ∷ rest) (o, rest)

increment : {ts rest : List Token} → Front (kind.Symbol symbol.Increment) ts rest → FrontPostfix ts (postfix_op.Increment, rest)
increment (front i) = front_postfix i

decrement : {ts rest : List Token} → Front (kind.Symbol symbol.Decrement) ts rest → FrontPostfix ts (postfix_op.Decrement, rest)
decrement (front i) = front_postfix i

pub postfix_front : (ts : List Token) → IfSome (postfix_operator ts) (FrontPostfix ts)
postfix_front ts =
    either (behind symbol.Increment ts) _ _ (Front (kind.Symbol symbol.Increment) ts) (λ o. IfSome o (FrontPostfix ts)) (behind_front (kind.Symbol symbol.Increment) ts) (λ rest f. increment f)
    (bind (behind symbol.Decrement ts) _ (Front (kind.Symbol symbol.Decrement) ts) (FrontPostfix ts) (behind_front (kind.Symbol symbol.Decrement) ts) (λ rest f. decrement f))

pub data FrontBinary : List Token → BinaryOp × List Token → Type 0 where
  front_binary : {o : BinaryOp} {t : Token} {rest : List Token} → IsSymbol (operator_symbol o) t → FrontBinary (t ∷ rest) (o, rest)

pub binary_front : (ts : List Token) → IfSome (binary_operator ts) (FrontBinary ts)
binary_front [] = tt
binary_front (t ∷ ts) = bind (binary_kind t.kind) _ (λ o. t.kind ≡ kind.Symbol (operator_symbol o)) (FrontBinary (t ∷ ts)) (binary_of t.kind)
    (λ o e. front_binary (is_of (kind.Symbol (operator_symbol o)) t e))

pub data FrontAssignment : List Token → Option BinaryOp × List Token → Type 0 where
  front_assignment : {o : Option BinaryOp} {y : Symbol} {t : Token} {rest : List Token} → assignment_symbol o ≡ Some y → IsSymbol y t → FrontAssignment (t ∷ rest) (o, rest)

pub assignment_front : (ts : List Token) → IfSome (assignment_operator ts) (FrontAssignment ts)
assignment_front [] = tt
assignment_front (t ∷ ts) = bind (assignment_kind t.kind) _ (λ o. IsAssignment o t.kind) (FrontAssignment (t ∷ ts)) (assignment_of t.kind)
    (λ o e. front_assignment e.1 (is_of (kind.Symbol e.0) t e.2))

module _ (names texts : List (List ℕ)) where
  -- the literal of each token of this kind and value
  abbrev LiteralOf : ℤ → TokenKind → Literal → Type 0
  LiteralOf v k l = (t : Token) → t.kind ≡ k → t.value ≡ v → IsLiteral texts l t

  text_of : (place : ℕ) (o : Option (List ℕ)) → slice_get texts place ≡ o → IfSome (o >>= λ units. Some (lit.Text units)) (LiteralOf (pos place) kind.TextLiteral)
  text_of place (Some units) e = λ t k v. text_literal (is_of kind.TextLiteral t k) v e
  text_of place None e = tt

  literal_of : (v : ℤ) (k : TokenKind) → IfSome (literal_kind texts v k) (LiteralOf v k)
  literal_of v kind.IntLiteral = λ t k e. subst (λ n. IsLiteral texts (lit.Int n) t) e (int_literal (is_of kind.IntLiteral t k))
  literal_of v kind.LongLiteral = λ t k e. subst (λ n. IsLiteral texts (lit.Long n) t) e (long_literal (is_of kind.LongLiteral t k))
  literal_of v kind.CharLiteral = λ t k e. subst (λ n. IsLiteral texts (lit.Char n) t) e (char_literal (is_of kind.CharLiteral t k))
  literal_of (pos place) kind.TextLiteral = text_of place (slice_get texts place) refl
  literal_of (negsuc n) kind.TextLiteral = tt
  literal_of v (kind.Keyword word.True) = λ t k e. true_literal (is_of (kind.Keyword word.True) t k)
  literal_of v (kind.Keyword word.False) = λ t k e. false_literal (is_of (kind.Keyword word.False) t k)
  literal_of v (kind.Keyword word.Null) = λ t k e. null_literal (is_of (kind.Keyword word.Null) t k)
  literal_of v _ = tt

  pub data FrontLiteral : List Token → Expression × List Token → Type 0 where
    front_literal : {l : Literal} {t : Token} {rest : List Token} → IsLiteral texts l t → FrontLiteral (t ∷ rest) (tree.literal l t.span, rest)

  pub literal_front : (ts : List Token) → IfSome (literal_at texts ts) (FrontLiteral ts)
  literal_front [] = tt
  literal_front (t ∷ ts) = bind (literal_kind texts t.value t.kind) _ (LiteralOf t.value t.kind) (FrontLiteral (t ∷ ts)) (literal_of t.value t.kind)
      (λ l e. front_literal (e t refl refl))

-- ---- types without type arguments

pub data PlainType : List Token → TypeName × List Token → Type 0 where
  a_primitive : {p : Primitive} {n : ℕ} {s : Span} {t : Token} {ts rest : List Token} → IsWord (primitive_word p) t → SpellsDims n t.span s ts rest → PlainType (t ∷ ts) (primitive p n s, rest)
  a_class : {name : QualifiedName} {n : ℕ} {s : Span} {ts mid rest : List Token} → SpellsName name ts mid → SpellsDims n name.span s mid rest → PlainType ts (class_type name no_types n s, rest)

pub data Element : List Token → TypeName × List Token → Type 0 where
  an_element : {t : TypeName} {ts rest : List Token} → SpellsElement t ts rest → type_height t ≡ 1 → Element ts (t, rest)

module _ {h : ℕ} (types : ReadTypes h) where
  primitive_plain : {p : Primitive} {ts rest : List Token} → FrontPrimitive ts (p, rest) → PlainType ts (primitive_type_at p (first_span ts) rest)
  unfolding primitive_type_at
  primitive_plain {rest = rest} (front_primitive {t = t} i) = a_primitive i (types.dims_sound t.span rest)

  class_plain : {n : QualifiedName} {ts rest : List Token} → SpellsName n ts rest → PlainType ts (with_dims (class_type n no_types 0 n.span, rest))
  class_plain {n} {ts} {rest} d = a_class d (types.dims_sound n.span rest)

  pub plain_type_read : (ts : List Token) → IfSome (plain_type_at ts) (PlainType ts)
  unfolding plain_type_at
  plain_type_read ts =
      either (primitive_at ts) _ _ (FrontPrimitive ts) (λ o. IfSome o (PlainType ts)) (primitive_front ts) (λ x f. primitive_plain f)
      (bind (name_at ts) _ (λ n. SpellsName n.0 ts n.1) (PlainType ts) (types.name_sound ts) (λ n d. class_plain d))

  primitive_alone : {p : Primitive} {ts rest : List Token} → FrontPrimitive ts (p, rest) → Element ts (primitive p 0 (first_span ts), rest)
  primitive_alone (front_primitive i) = an_element (primitive_element i) refl

  pub element_read : (ts : List Token) → IfSome (element_at ts) (Element ts)
  unfolding element_at
  element_read ts =
      either (primitive_at ts) _ _ (FrontPrimitive ts) (λ o. IfSome o (Element ts)) (primitive_front ts) (λ x f. primitive_alone f)
      (bind (name_at ts) _ (λ n. SpellsName n.0 ts n.1) (Element ts) (types.name_sound ts) (λ n d. an_element (class_element d) refl))

pub plain_type_spelled : {t : TypeName} {ts rest : List Token} → PlainType ts (t, rest) → SpellsTypeName t ts rest
plain_type_spelled (a_primitive i d) = primitive_type i d
plain_type_spelled (a_class n d) = reference_type (plain_ref n) d

pub plain_has_no_arguments : {t : TypeName} {ts rest : List Token} → PlainType ts (t, rest) → has_arguments t ≡ false
plain_has_no_arguments (a_primitive i d) = refl
plain_has_no_arguments (a_class n d) = refl

pub plain_height : {t : TypeName} {ts rest : List Token} → PlainType ts (t, rest) → type_height t ≡ 1
plain_height (a_primitive i d) = refl
plain_height (a_class n d) = refl
