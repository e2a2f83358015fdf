-- Each expression is read where it is spelled, or something longer where what is behind it can go on.
use Rattle.std.proofs.Common.{◌≡◌, ℕ, ◌<◌, ◌≤◌, Bool, true, false, List, ◌∷◌, length, Option, Some, None, IfSome, refl, ap, ◌∙◌, subst, arith, ◌||◌, inl, inr}
use Rattle.je_base.specs.declared.span.Span.{Span}
use Rattle.je_token.specs.declared.keyword.Keyword.{Keyword}
use Rattle.je_token.specs.declared.keyword.Keyword.TheVariants as word
use Rattle.je_token.specs.declared.symbol.Symbol.{Symbol}
use Rattle.je_token.specs.declared.symbol.Symbol.TheVariants as symbol
use Rattle.je_token.specs.declared.token.Token.{Token}
use Rattle.je_token.specs.declared.token.TokenKind.TheVariants as kind
use Rattle.je_ast.specs.declared.expr.Literal.{Literal}
use Rattle.je_ast.specs.declared.operator.BinaryOp.{BinaryOp}
use Rattle.je_ast.specs.declared.operator.BinaryOp.TheVariants as op
use Rattle.je_ast.specs.declared.operator.PrefixOp.{PrefixOp}
use Rattle.je_ast.specs.declared.operator.PrefixOp.TheVariants as prefix_op
use Rattle.je_ast.specs.declared.ty_name.Primitive.{Primitive}
use Rattle.je_ast.specs.declared.ty_name.Primitive.TheVariants as prim
use Rattle.je_ast.specs.Types.{QualifiedName, TypeName, primitive, class_type, no_types}
use Rattle.je_ast.specs.Trees.{Expression}
use Rattle.je_ast.specs.Spans.{join}
use Rattle.je_grammar.specs.Tokens.{it_is, IsWord, IsSymbol, IsIdentifier, first_span}
use Rattle.je_grammar.specs.Operators.{level, operator_level, operator_symbol, prefix_symbol, assignment_symbol}
use Rattle.je_grammar.specs.Types.{SpellsName, simple_name, qualified_name, SpellsDims, no_dims, more_dims, SpellsTypeName, primitive_type, reference_type, plain_ref, primitive_word, has_arguments}
use Rattle.je_grammar.specs.Context.{begins_operand, is_not_plus_minus}
use Rattle.je_grammar.specs.Grammar.{IsLiteral, int_literal, long_literal, char_literal, text_literal, true_literal, false_literal, null_literal, Spells, is_literal, is_simple_name, is_this, is_outer_this, is_parens, is_select, is_super_select, is_call, is_call_on, is_super_call, is_index, is_new, is_new_anonymous, is_new_array, is_new_array_of, is_primitive_cast, is_class_cast, is_prefix, is_postfix, is_binary, is_instance_of, is_conditional, is_assign}
use Rattle.parse_laws.specs.way.Tokens.{Read, ◌>>=◌, is_some, behind, behind_word, identifier_at}
use Rattle.parse_laws.specs.way.Types.{part_at, pair_at, name_at, primitive_at, primitive_type_at, dims_at, plain_type_at, past_dims_at, is_cast_at}
use Rattle.parse_laws.specs.way.Readers.{Reads, itself, longer, reach}
use Rattle.parse_laws.specs.way.Expressions.{prefix_operator, binary_kind, binary_operator, assignment_kind, assignment_operator}
use Rattle.expression_laws.specs.way.Parts.{ReadTypes}
use Rattle.std.specs.Prelude.{nat_le}
use Rattle.je_grammar.specs.Types.{ref_with_arguments, last_argument, more_arguments}
use Rattle.je_grammar.specs.Context.{is_not_or_tilde}
use Rattle.je_grammar.proofs.Sizes.{size-SpellsDims}
use Rattle.parse_laws.proofs.Fronts.{Front, front, behind_front, behind_of}
use Rattle.expression_laws.proofs.Fronts.{PlainType, a_primitive, a_class}
use Rattle.expression_laws.proofs.Casts.{dims_before, past_name_before}
use Rattle.expression_laws.proofs.Begins.{operators_to, expression_begins}
use Rattle.expression_laws.proofs.Moves.{symbol_reaches}
use Rattle.expression_laws.proofs.NoCasts.{brackets_are_no_cast}

-- ---- what stands in front

some_of : (x : Symbol) {y : Symbol} → Some x ≡ Some y → x ≡ y
some_of x e = cc

assignment_kind_of : (o : Option BinaryOp) (y : Symbol) → assignment_symbol o ≡ Some y → assignment_kind (kind.Symbol y) ≡ Some o
assignment_kind_of None y e = let s = some_of symbol.Assign e in subst (λ z. assignment_kind (kind.Symbol z) ≡ Some None) s refl
assignment_kind_of (Some op.Or) y e = absurd cc
assignment_kind_of (Some op.And) y e = absurd cc
assignment_kind_of (Some op.BitOr) y e = let s = some_of symbol.OrAssign e in subst (λ z. assignment_kind (kind.Symbol z) ≡ Some (Some op.BitOr)) s refl
assignment_kind_of (Some op.BitXor) y e = let s = some_of symbol.CaretAssign e in subst (λ z. assignment_kind (kind.Symbol z) ≡ Some (Some op.BitXor)) s refl
assignment_kind_of (Some op.BitAnd) y e = let s = some_of symbol.AndAssign e in subst (λ z. assignment_kind (kind.Symbol z) ≡ Some (Some op.BitAnd)) s refl
assignment_kind_of (Some op.Equal) y e = absurd cc
assignment_kind_of (Some op.NotEqual) y e = absurd cc
assignment_kind_of (Some op.Less) y e = absurd cc
assignment_kind_of (Some op.Greater) y e = absurd cc
assignment_kind_of (Some op.LessEqual) y e = absurd cc
assignment_kind_of (Some op.GreaterEqual) y e = absurd cc
assignment_kind_of (Some op.ShiftLeft) y e = let s = some_of symbol.ShiftLeftAssign e in subst (λ z. assignment_kind (kind.Symbol z) ≡ Some (Some op.ShiftLeft)) s refl
assignment_kind_of (Some op.ShiftRight) y e = let s = some_of symbol.ShiftRightAssign e in subst (λ z. assignment_kind (kind.Symbol z) ≡ Some (Some op.ShiftRight)) s refl
assignment_kind_of (Some op.UnsignedShiftRight) y e = let s = some_of symbol.UnsignedShiftRightAssign e in subst (λ z. assignment_kind (kind.Symbol z) ≡ Some (Some op.UnsignedShiftRight)) s refl
assignment_kind_of (Some op.Add) y e = let s = some_of symbol.PlusAssign e in subst (λ z. assignment_kind (kind.Symbol z) ≡ Some (Some op.Add)) s refl
assignment_kind_of (Some op.Subtract) y e = let s = some_of symbol.MinusAssign e in subst (λ z. assignment_kind (kind.Symbol z) ≡ Some (Some op.Subtract)) s refl
assignment_kind_of (Some op.Multiply) y e = let s = some_of symbol.StarAssign e in subst (λ z. assignment_kind (kind.Symbol z) ≡ Some (Some op.Multiply)) s refl
assignment_kind_of (Some op.Divide) y e = let s = some_of symbol.SlashAssign e in subst (λ z. assignment_kind (kind.Symbol z) ≡ Some (Some op.Divide)) s refl
assignment_kind_of (Some op.Remainder) y e = let s = some_of symbol.PercentAssign e in subst (λ z. assignment_kind (kind.Symbol z) ≡ Some (Some op.Remainder)) s refl

pub assignment_stands : (o : Option BinaryOp) {y : Symbol} {a : Token} (ts : List Token) → assignment_symbol o ≡ Some y → IsSymbol y a → assignment_operator (a ∷ ts) ≡ Some (o, ts)
assignment_stands o {y} ts e it_is = rw (assignment_kind_of o y e) refl

binary_kind_of : (o : BinaryOp) → binary_kind (kind.Symbol (operator_symbol o)) ≡ Some o
binary_kind_of op.Or = refl
binary_kind_of op.And = refl
binary_kind_of op.BitOr = refl
binary_kind_of op.BitXor = refl
binary_kind_of op.BitAnd = refl
binary_kind_of op.Equal = refl
binary_kind_of op.NotEqual = refl
binary_kind_of op.Less = refl
binary_kind_of op.Greater = refl
binary_kind_of op.LessEqual = refl
binary_kind_of op.GreaterEqual = refl
binary_kind_of op.ShiftLeft = refl
binary_kind_of op.ShiftRight = refl
binary_kind_of op.UnsignedShiftRight = refl
binary_kind_of op.Add = refl
binary_kind_of op.Subtract = refl
binary_kind_of op.Multiply = refl
binary_kind_of op.Divide = refl
binary_kind_of op.Remainder = refl

pub binary_stands : (o : BinaryOp) {a : Token} (ts : List Token) → IsSymbol (operator_symbol o) a → binary_operator (a ∷ ts) ≡ Some (o, ts)
binary_stands o ts it_is = rw (binary_kind_of o) refl

pub no_instance : {y : Symbol} {a : Token} (ts : List Token) → IsSymbol y a → behind_word word.InstanceOf (a ∷ ts) ≡ None
no_instance ts it_is = refl

pub primitive_stands : (q : Primitive) {t : Token} (rest : List Token) → IsWord (primitive_word q) t → primitive_at (t ∷ rest) ≡ Some (q, rest)
primitive_stands prim.Boolean rest it_is = refl
primitive_stands prim.Byte rest it_is = refl
primitive_stands prim.Short rest it_is = refl
primitive_stands prim.Char rest it_is = refl
primitive_stands prim.Int rest it_is = refl
primitive_stands prim.Long rest it_is = refl

name_is_no_primitive : {n : QualifiedName} {ts rest : List Token} → SpellsName n ts rest → primitive_at ts ≡ None
name_is_no_primitive (simple_name it_is) = refl
name_is_no_primitive (qualified_name it_is d n) = refl

pair_reaches_by : (ts : List Token) (o : Option (List Token)) → IfSome o (Front (kind.Symbol symbol.OpenBracket) ts) → is_some {A = Span × List Token} (o >>= λ mid. behind symbol.CloseBracket mid >>= λ rest. Some (first_span mid, rest)) ≡ true → reach ts ≡ 15
pair_reaches_by ts (Some a) f e = symbol_reaches f
pair_reaches_by ts None f e = absurd cc

pair_reaches : (ts : List Token) → is_some (pair_at ts) ≡ true → reach ts ≡ 15
pair_reaches ts e = pair_reaches_by ts (behind symbol.OpenBracket ts) (behind_front (kind.Symbol symbol.OpenBracket) ts) e

part_reaches_by : (ts : List Token) (o : Option (List Token)) → IfSome o (Front (kind.Symbol symbol.Dot) ts) → is_some (o >>= identifier_at) ≡ true → reach ts ≡ 15
part_reaches_by ts (Some a) f e = symbol_reaches f
part_reaches_by ts None f e = absurd cc

part_reaches : (ts : List Token) → is_some (part_at ts) ≡ true → reach ts ≡ 15
part_reaches ts e = part_reaches_by ts (behind symbol.Dot ts) (behind_front (kind.Symbol symbol.Dot) ts) e

-- ---- types without type arguments

pub plain_of : {t : TypeName} {ts rest : List Token} → SpellsTypeName t ts rest → has_arguments t ≡ false → PlainType ts (t, rest)
plain_of (primitive_type i d) e = a_primitive i d
plain_of (reference_type (plain_ref n) d) e = a_class n d
plain_of (reference_type (ref_with_arguments n o (last_argument p t c)) d) e = absurd cc
plain_of (reference_type (ref_with_arguments n o (more_arguments p t k u)) d) e = absurd cc

module _ {h : ℕ} (types : ReadTypes h) where
  class_read : (ts : List Token) {mid : List Token} {n : QualifiedName} → primitive_at ts ≡ None → name_at ts ≡ Some (n, mid) →
      plain_type_at ts ≡ Some (class_type n no_types (dims_at n.span mid).0 (dims_at n.span mid).1, (dims_at n.span mid).2)
  unfolding plain_type_at
  class_read ts q e = rw (q, e) refl

  pub primitive_read : {q : Primitive} {t : Token} (ts : List Token) → IsWord (primitive_word q) t → plain_type_at (t ∷ ts) ≡ Some (primitive q (dims_at t.span ts).0 (dims_at t.span ts).1, (dims_at t.span ts).2)
  unfolding plain_type_at primitive_type_at
  primitive_read {q} ts i = rw (primitive_stands q ts i) refl

  class_dims : (ts : List Token) (n : QualifiedName) {k : ℕ} {s : Span} {mid rest : List Token} → plain_type_at ts ≡ Some (class_type n no_types (dims_at n.span mid).0 (dims_at n.span mid).1, (dims_at n.span mid).2) → SpellsDims k n.span s mid rest →
      Reads (plain_type_at ts) (class_type n no_types k s) rest (15 ≤ reach rest)
  class_dims ts n {k} {s} {mid} {rest} q d = elim (types.dims_exact k n.span s mid rest d) [
    | inl e ↦ itself (q ∙ ap (λ (x : ℕ × Span × List Token). Some (class_type n no_types x.0 x.1, x.2)) e)
    | inr both ↦ longer q both.0 (let r = pair_reaches rest both.1 in omega arith)
  ]

  longer_name : (ts less : List Token) (m : QualifiedName) {n : QualifiedName} {k : ℕ} {s : Span} {mid rest : List Token} → plain_type_at ts ≡ Some (class_type m no_types (dims_at m.span less).0 (dims_at m.span less).1, (dims_at m.span less).2) → length less < length mid →
      is_some (part_at mid) ≡ true → SpellsDims k n.span s mid rest → Reads (plain_type_at ts) (class_type n no_types k s) rest (15 ≤ reach rest)
  longer_name ts less m {rest = rest} q lt goes no_dims = longer q (let a = size-SpellsDims (types.dims_sound m.span less) in omega arith) (let r = part_reaches rest goes in omega arith)
  longer_name ts less m q lt goes (more_dims it_is c d) = absurd cc

  pub plain_exact : {t : TypeName} {ts rest : List Token} → PlainType ts (t, rest) → Reads (plain_type_at ts) t rest (15 ≤ reach rest)
  plain_exact {rest = rest} (a_primitive {p = q} {n = k} {s = s} {t = t} {ts = ts} i d) = elim (types.dims_exact k t.span s ts rest d) [
    | inl e ↦ itself (primitive_read ts i ∙ ap (λ (x : ℕ × Span × List Token). Some (primitive q x.0 x.1, x.2)) e)
    | inr both ↦ longer (primitive_read ts i) both.0 (let r = pair_reaches rest both.1 in omega arith)
  ]
  plain_exact {ts = ts} (a_class {name = n} {mid = mid} d k) = elim (types.name_exact n ts mid d) [
    | itself e ↦ class_dims ts n (class_read ts (name_is_no_primitive d) e) k
    | longer {u} {less} e lt goes ↦ longer_name ts less u {n = n} (class_read ts (name_is_no_primitive d) e) lt goes k
  ]

  pub plain_before : {t : TypeName} {ts rest a : List Token} → PlainType ts (t, rest) → Front (kind.Symbol symbol.CloseParen) rest a → plain_type_at ts ≡ Some (t, rest)
  plain_before d c = elim (plain_exact d) [
    | itself e ↦ e
    | longer e lt goes ↦ let r = symbol_reaches c in absurd (omega arith)
  ]

  any_span : {k : ℕ} {s e : Span} {ts rest : List Token} → SpellsDims k s e ts rest → (t : Span) → (f : Span) × SpellsDims k t f ts rest
  any_span no_dims t = (t, no_dims)
  any_span (more_dims {c = b} o c d) t = let x = any_span d (join t b.span) in (x.0, more_dims o c x.1)

  close_no_pair : {ts a : List Token} → Front (kind.Symbol symbol.CloseParen) ts a → is_some (pair_at ts) ≡ false
  close_no_pair (front it_is) = refl

  past_dims_before : {k : ℕ} {s e : Span} {ts rest a : List Token} → SpellsDims k s e ts rest → Front (kind.Symbol symbol.CloseParen) rest a → past_dims_at ts ≡ rest
  unfolding past_dims_at
  past_dims_before {ts = ts} d c = let x = any_span d (first_span ts) in ap (λ (y : ℕ × Span × List Token). y.2) (dims_before types x.1 (close_no_pair c))

  dims_no_part : {k : ℕ} {s e : Span} {ts rest a : List Token} → SpellsDims k s e ts rest → Front (kind.Symbol symbol.CloseParen) rest a → is_some (part_at ts) ≡ false
  dims_no_part no_dims (front it_is) = refl
  dims_no_part (more_dims it_is c d) f = refl

  or_true : (b : Bool) → (b || true) ≡ true
  or_true true = refl
  or_true false = refl

  pub class_is_cast : {n : QualifiedName} {k : ℕ} {s e : Span} {o : Token} {ts mid last rest : List Token} → IsSymbol symbol.OpenParen o → SpellsName n ts mid → SpellsDims k s e mid last → Front (kind.Symbol symbol.CloseParen) last rest →
      begins_operand rest ≡ true → is_cast_at (o ∷ ts) ≡ true
  unfolding is_cast_at
  class_is_cast it_is n d c b = rw (name_is_no_primitive n, past_name_before types n (dims_no_part d c), past_dims_before d c, behind_of c, b) (or_true _)

pub primitive_is_cast : (q : Primitive) {o t : Token} (ts : List Token) → IsSymbol symbol.OpenParen o → IsWord (primitive_word q) t → is_cast_at (o ∷ t ∷ ts) ≡ true
unfolding is_cast_at
primitive_is_cast q ts it_is i = rw (primitive_stands q ts i) refl

pub reads_map : {o : Read Expression} {e : Expression} {rest : List Token} {g : Type 0} (f : Expression → Expression) → Reads o e rest g → Reads (o >>= λ x. Some (f x.0, x.1)) (f e) rest g
reads_map f (itself q) = itself (ap (λ (o : Read Expression). o >>= λ x. Some (f x.0, x.1)) q)
reads_map f (longer q lt g) = longer (ap (λ (o : Read Expression). o >>= λ x. Some (f x.0, x.1)) q) lt g

-- ---- a prefix or a cast in front, or neither

module _ (names texts : List (List ℕ)) where
  pub record Plain (ts : List Token) : Type 0 where
    pub no_prefix : prefix_operator ts ≡ None
    pub no_cast : is_cast_at ts ≡ false

  plain_literal : {l : Literal} {t : Token} (ts : List Token) → IsLiteral texts l t → Plain (t ∷ ts)
  unfolding is_cast_at
  plain_literal ts (int_literal it_is) = record { no_prefix = refl; no_cast = refl }
  plain_literal ts (long_literal it_is) = record { no_prefix = refl; no_cast = refl }
  plain_literal ts (char_literal it_is) = record { no_prefix = refl; no_cast = refl }
  plain_literal ts (text_literal it_is v e) = record { no_prefix = refl; no_cast = refl }
  plain_literal ts (true_literal it_is) = record { no_prefix = refl; no_cast = refl }
  plain_literal ts (false_literal it_is) = record { no_prefix = refl; no_cast = refl }
  plain_literal ts (null_literal it_is) = record { no_prefix = refl; no_cast = refl }

  plain_identifier : {t : Token} (ts : List Token) → IsIdentifier t → Plain (t ∷ ts)
  unfolding is_cast_at
  plain_identifier ts it_is = record { no_prefix = refl; no_cast = refl }

  plain_word : {w : Keyword} {t : Token} (ts : List Token) → IsWord w t → Plain (t ∷ ts)
  unfolding is_cast_at
  plain_word ts it_is = record { no_prefix = refl; no_cast = refl }

  plain_name : {n : QualifiedName} {ts rest : List Token} → SpellsName n ts rest → Plain ts
  plain_name (simple_name {rest = rest} i) = plain_identifier rest i
  plain_name (qualified_name {d = d} {ts = ts} i k n) = plain_identifier (d ∷ ts) i

  paren_is_no_prefix : {o : Token} (ts : List Token) → IsSymbol symbol.OpenParen o → prefix_operator (o ∷ ts) ≡ None
  paren_is_no_prefix ts it_is = refl

  module _ {h : ℕ} (types : ReadTypes h) where
    pub plain : {e : Expression} {ts rest : List Token} → Spells names texts e ts rest → 14 ≤ level e → Plain ts
    plain (is_literal {rest = rest} l) le = plain_literal rest l
    plain (is_simple_name {rest = rest} i) le = plain_identifier rest i
    plain (is_this {rest = rest} i) le = plain_word rest i
    plain (is_outer_this n d t) le = plain_name n
    plain (is_parens {ts = ts} k o d c) le = record { no_prefix = paren_is_no_prefix ts o; no_cast = brackets_are_no_cast names texts types o d c k }
    plain (is_select x s d t) le = plain s (omega arith)
    plain (is_super_select {d = d} {t} {rest} w k i) le = plain_word (d ∷ t ∷ rest) w
    plain (is_call {ts = ts} i a) le = plain_identifier ts i
    plain (is_call_on x s d t a) le = plain s (omega arith)
    plain (is_super_call {d = d} {t} {ts = ts} w k i a) le = plain_word (d ∷ t ∷ ts) w
    plain (is_index x b s o i c) le = plain s (omega arith)
    plain (is_new {ts = ts} w r a) le = plain_word ts w
    plain (is_new_anonymous {ts = ts} w r a b) le = plain_word ts w
    plain (is_new_array {ts = ts} w t l d) le = plain_word ts w
    plain (is_new_array_of {ts = ts} w t m d a) le = plain_word ts w
    plain (is_postfix x s i) le = plain s x
    plain (is_primitive_cast _ _ _ _ _ _) le = absurd (omega arith)
    plain (is_class_cast _ _ _ _ _ _) le = absurd (omega arith)
    plain (is_prefix _ _ _) le = absurd (omega arith)
    plain (is_binary {op = o} _ _ _ _ _) le = absurd (omega (arith, operators_to o))
    plain (is_instance_of _ _ _ _ _) le = absurd (omega arith)
    plain (is_conditional _ _ _ _ _ _ _) le = absurd (omega arith)
    plain (is_assign _ _ _ _ _) le = absurd (omega arith)

    not_both : (a b : Bool) → (a || b) ≡ true → b ≡ false → a ≡ true
    not_both true b e f = refl
    not_both false b e f = absurd cc

    high_begins : {e : Expression} {ts rest : List Token} → Spells names texts e ts rest → 14 ≤ level e → begins_operand ts ≡ true
    high_begins {ts = ts} d le = not_both (begins_operand ts) (is_some (prefix_operator ts)) (expression_begins names texts d) (ap (λ (o : Read PrefixOp). is_some o) ((plain d le).no_prefix))

    not_or_tilde_begins : (o : PrefixOp) {a : Token} (ts : List Token) → IsSymbol (prefix_symbol o) a → is_not_or_tilde o ≡ true → begins_operand (a ∷ ts) ≡ true
    not_or_tilde_begins prefix_op.Plus ts it_is e = absurd cc
    not_or_tilde_begins prefix_op.Minus ts it_is e = absurd cc
    not_or_tilde_begins prefix_op.Increment ts it_is e = absurd cc
    not_or_tilde_begins prefix_op.Decrement ts it_is e = absurd cc
    not_or_tilde_begins prefix_op.Not ts it_is e = refl
    not_or_tilde_begins prefix_op.Tilde ts it_is e = refl

    paren_begins : {o : Token} (ts : List Token) → IsSymbol symbol.OpenParen o → begins_operand (o ∷ ts) ≡ true
    paren_begins ts it_is = refl

    not_high : (o : BinaryOp) → nat_le 14 (operator_level o) ≡ true → ⊥
    not_high op.Or e = cc
    not_high op.And e = cc
    not_high op.BitOr e = cc
    not_high op.BitXor e = cc
    not_high op.BitAnd e = cc
    not_high op.Equal e = cc
    not_high op.NotEqual e = cc
    not_high op.Less e = cc
    not_high op.Greater e = cc
    not_high op.LessEqual e = cc
    not_high op.GreaterEqual e = cc
    not_high op.ShiftLeft e = cc
    not_high op.ShiftRight e = cc
    not_high op.UnsignedShiftRight e = cc
    not_high op.Add e = cc
    not_high op.Subtract e = cc
    not_high op.Multiply e = cc
    not_high op.Divide e = cc
    not_high op.Remainder e = cc

    pub operand : {e : Expression} {ts rest : List Token} → Spells names texts e ts rest → is_not_plus_minus e ≡ true → (begins_operand ts ≡ true) × (13 ≤ level e)
    operand (is_primitive_cast {t = t} {ts = ts} _ o _ _ _ _) e = (paren_begins (t ∷ ts) o, omega arith)
    operand (is_class_cast {ts = ts} _ o _ _ _ _) e = (paren_begins ts o, omega arith)
    operand (is_prefix {op = o} {ts = ts} _ a _) e = (not_or_tilde_begins o ts a e, omega arith)
    operand (is_binary {op = o} _ _ _ _ _) e = absurd (not_high o e)
    operand (is_instance_of _ _ _ _ _) e = absurd cc
    operand (is_conditional _ _ _ _ _ _ _) e = absurd cc
    operand (is_assign _ _ _ _ _) e = absurd cc
    operand d e = (high_begins d (omega arith), omega arith)
