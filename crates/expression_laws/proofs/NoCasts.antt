-- What stands in brackets as an expression is no type before an operand, so the look-ahead takes it for no cast.
use Rattle.std.proofs.Common.{◌≡◌, ℕ, Bool, true, false, List, [], ◌∷◌, Option, Some, None, IfSome, refl, sym, ap, subst, ◌||◌, inl, inr}
use Rattle.std.proofs.lemmas.Bool.{cases_Bool}
use Rattle.je_base.specs.declared.span.Span.{Span}
use Rattle.je_token.specs.declared.symbol.Symbol.{Symbol}
use Rattle.je_token.specs.declared.symbol.Symbol.TheVariants as symbol
use Rattle.je_token.specs.declared.token.Token.{Token}
use Rattle.je_token.specs.declared.token.TokenKind.{TokenKind}
use Rattle.je_token.specs.declared.token.TokenKind.TheVariants as kind
use Rattle.je_ast.specs.declared.expr.Literal.{Literal}
use Rattle.je_ast.specs.declared.operator.BinaryOp.{BinaryOp}
use Rattle.je_ast.specs.declared.operator.BinaryOp.TheVariants as op
use Rattle.je_ast.specs.declared.operator.PrefixOp.{PrefixOp}
use Rattle.je_ast.specs.declared.operator.PostfixOp.{PostfixOp}
use Rattle.je_ast.specs.declared.operator.PostfixOp.TheVariants as postfix_op
use Rattle.je_ast.specs.declared.ty_name.Primitive.{Primitive}
use Rattle.je_ast.specs.declared.ty_name.Primitive.TheVariants as prim
use Rattle.je_ast.specs.Types.{QualifiedName}
use Rattle.je_ast.specs.Trees.{Expression, Expressions}
use Rattle.je_grammar.specs.Tokens.{Is, it_is, IsWord, IsSymbol, IsIdentifier, first_span}
use Rattle.je_grammar.specs.Operators.{operator_symbol, prefix_symbol, postfix_symbol, assignment_symbol}
use Rattle.je_grammar.specs.Types.{SpellsName, simple_name, qualified_name, SpellsDims, no_dims, more_dims, primitive_word}
use Rattle.je_grammar.specs.Context.{is_name, begins_operand, is_cast_before}
use Rattle.je_grammar.specs.Grammar.{IsLiteral, int_literal, long_literal, char_literal, text_literal, true_literal, false_literal, null_literal, Spells, is_literal, is_simple_name, is_this, is_outer_this, is_parens, is_select, is_super_select, is_call, is_call_on, is_super_call, is_index, is_new, is_new_anonymous, is_new_array, is_new_array_of, is_primitive_cast, is_class_cast, is_prefix, is_postfix, is_binary, is_instance_of, is_conditional, is_assign}
use Rattle.je_grammar.specs.Grammar.{SpellsArguments, no_arguments, some_arguments}
use Rattle.parse_laws.specs.way.Tokens.{Read, with, is_some, behind}
use Rattle.parse_laws.specs.way.Types.{pair_at, name_at, past_name_at, primitive_at, past_dims_at, is_cast_at}
use Rattle.parse_laws.specs.way.Expressions.{prefix_operator}
use Rattle.expression_laws.specs.way.Parts.{ReadTypes}
use Rattle.std.specs.Prelude.{option_map}
use Rattle.parse_laws.proofs.Fronts.{Front, front, behind_front}
use Rattle.expression_laws.proofs.Fronts.{FrontPrimitive, front_primitive, primitive_front}
use Rattle.expression_laws.proofs.Begins.{expression_begins, close_bracket_begins_none}

pub same_kind : {k l : TokenKind} {t : Token} {ts rest : List Token} → Front k (t ∷ ts) rest → Is l t → k ≡ l
same_kind (front it_is) it_is = refl

two_kinds : {k l : TokenKind} {t : Token} → Is k t → Is l t → k ≡ l
two_kinds it_is it_is = refl

-- where a name in brackets ends: before the closing bracket, or a pair of brackets
data Ends : List Token → Type 0 where
  close : {c : Token} {rest : List Token} → IsSymbol symbol.CloseParen c → Ends (c ∷ rest)
  pair : {o c : Token} {rest : List Token} → IsSymbol symbol.OpenBracket o → IsSymbol symbol.CloseBracket c → Ends (o ∷ c ∷ rest)

-- the identifiers and points of a name up to its end
data Dotted (end : List Token) : List Token → Type 0 where
  last_part : {t : Token} → IsIdentifier t → Dotted end (t ∷ end)
  more_parts : {t d : Token} {ts : List Token} → IsIdentifier t → IsSymbol symbol.Dot d → Dotted end ts → Dotted end (t ∷ d ∷ ts)

data Behind (end : List Token) (rest : List Token) : Type 0 where
  at_end : rest ≡ end → Behind end rest
  at_dot : {d : Token} {ts : List Token} → rest ≡ d ∷ ts → IsSymbol symbol.Dot d → Dotted end ts → Behind end rest

dotted : {n : QualifiedName} {ts rest : List Token} → SpellsName n ts rest → Dotted rest ts
dotted (simple_name i) = last_part i
dotted (qualified_name i d n) = more_parts i d (dotted n)

first_is_name : {end : List Token} {t : Token} {ts : List Token} → Dotted end (t ∷ ts) → IsIdentifier t
first_is_name (last_part i) = i
first_is_name (more_parts i d n) = i

behind_one : {end : List Token} {t : Token} {ts : List Token} → Dotted end (t ∷ ts) → Behind end ts
behind_one (last_part i) = at_end refl
behind_one (more_parts i d n) = at_dot refl d n

head_of : Token → List Token → Token
head_of t [] = t
head_of t (u ∷ us) = u

tail_of : List Token → List Token
tail_of [] = []
tail_of (u ∷ us) = us

same_head : {t u : Token} {ts us : List Token} → t ∷ ts ≡ u ∷ us → t ≡ u
unfolding head_of
same_head {t} e = ap (head_of t) e

same_tail : {t u : Token} {ts us : List Token} → t ∷ ts ≡ u ∷ us → ts ≡ us
unfolding tail_of
same_tail e = ap tail_of e

-- neither a point, nor a closing bracket, nor an opening square bracket
abbrev leaves_names : TokenKind → Bool
leaves_names (kind.Symbol symbol.Dot) = false
leaves_names (kind.Symbol symbol.CloseParen) = false
leaves_names (kind.Symbol symbol.OpenBracket) = false
leaves_names _ = true

ends_kind : {t : Token} {ts : List Token} → Ends (t ∷ ts) → leaves_names t.kind ≡ false
ends_kind (close it_is) = refl
ends_kind (pair it_is c) = refl

dot_kind : {t : Token} → IsSymbol symbol.Dot t → leaves_names t.kind ≡ false
dot_kind it_is = refl

behind_kind_of : {t : Token} {ts end : List Token} → Ends end → Behind end (t ∷ ts) → leaves_names t.kind ≡ false
behind_kind_of e (at_end q) = ends_kind (subst Ends (sym q) e)
behind_kind_of e (at_dot q d n) = subst (λ u. leaves_names u.kind ≡ false) (sym (same_head q)) (dot_kind d)

kind_leaves : {k : TokenKind} {t : Token} → Is k t → leaves_names k ≡ true → leaves_names t.kind ≡ true
kind_leaves it_is e = e

-- such a token stands not behind a part of the name
cannot : {A : Type 0} {k : TokenKind} {t : Token} {ts end : List Token} → Is k t → leaves_names k ≡ true → Ends end → Behind end (t ∷ ts) → A
cannot i l e b = let x = behind_kind_of e b in let y = kind_leaves i l in absurd cc

operator_leaves : (o : BinaryOp) → leaves_names (kind.Symbol (operator_symbol o)) ≡ true
operator_leaves op.Or = refl
operator_leaves op.And = refl
operator_leaves op.BitOr = refl
operator_leaves op.BitXor = refl
operator_leaves op.BitAnd = refl
operator_leaves op.Equal = refl
operator_leaves op.NotEqual = refl
operator_leaves op.Less = refl
operator_leaves op.Greater = refl
operator_leaves op.LessEqual = refl
operator_leaves op.GreaterEqual = refl
operator_leaves op.ShiftLeft = refl
operator_leaves op.ShiftRight = refl
operator_leaves op.UnsignedShiftRight = refl
operator_leaves op.Add = refl
operator_leaves op.Subtract = refl
operator_leaves op.Multiply = refl
operator_leaves op.Divide = refl
operator_leaves op.Remainder = refl

postfix_leaves : (o : PostfixOp) → leaves_names (kind.Symbol (postfix_symbol o)) ≡ true
postfix_leaves postfix_op.Increment = refl
postfix_leaves postfix_op.Decrement = refl

some_of : (x : Symbol) {y : Symbol} → Some x ≡ Some y → x ≡ y
some_of x e = cc

assignment_leaves : (o : Option BinaryOp) (y : Symbol) → assignment_symbol o ≡ Some y → leaves_names (kind.Symbol y) ≡ true
assignment_leaves None y e = let s = some_of symbol.Assign e in rw (sym s) refl
assignment_leaves (Some op.Or) y e = absurd cc
assignment_leaves (Some op.And) y e = absurd cc
assignment_leaves (Some op.BitOr) y e = let s = some_of symbol.OrAssign e in rw (sym s) refl
assignment_leaves (Some op.BitXor) y e = let s = some_of symbol.CaretAssign e in rw (sym s) refl
assignment_leaves (Some op.BitAnd) y e = let s = some_of symbol.AndAssign e in rw (sym s) refl
assignment_leaves (Some op.Equal) y e = absurd cc
assignment_leaves (Some op.NotEqual) y e = absurd cc
assignment_leaves (Some op.Less) y e = absurd cc
assignment_leaves (Some op.Greater) y e = absurd cc
assignment_leaves (Some op.LessEqual) y e = absurd cc
assignment_leaves (Some op.GreaterEqual) y e = absurd cc
assignment_leaves (Some op.ShiftLeft) y e = let s = some_of symbol.ShiftLeftAssign e in rw (sym s) refl
assignment_leaves (Some op.ShiftRight) y e = let s = some_of symbol.ShiftRightAssign e in rw (sym s) refl
assignment_leaves (Some op.UnsignedShiftRight) y e = let s = some_of symbol.UnsignedShiftRightAssign e in rw (sym s) refl
assignment_leaves (Some op.Add) y e = let s = some_of symbol.PlusAssign e in rw (sym s) refl
assignment_leaves (Some op.Subtract) y e = let s = some_of symbol.MinusAssign e in rw (sym s) refl
assignment_leaves (Some op.Multiply) y e = let s = some_of symbol.StarAssign e in rw (sym s) refl
assignment_leaves (Some op.Divide) y e = let s = some_of symbol.SlashAssign e in rw (sym s) refl
assignment_leaves (Some op.Remainder) y e = let s = some_of symbol.PercentAssign e in rw (sym s) refl

no_dot_ends : {A : Type 0} {d : Token} {ts : List Token} → IsSymbol symbol.Dot d → Ends (d ∷ ts) → A
no_dot_ends d (close c) = let x = two_kinds d c in absurd cc
no_dot_ends d (pair o c) = let x = two_kinds d o in absurd cc

pair_ends : {o : Token} {ts : List Token} → IsSymbol symbol.OpenBracket o → Ends (o ∷ ts) → (rest : List Token) × Front (kind.Symbol symbol.CloseBracket) ts rest
pair_ends o (close c) = let x = two_kinds o c in absurd cc
pair_ends o (pair p c) = (_, front c)

abbrev leaves_identifiers : TokenKind → Bool
leaves_identifiers kind.Identifier = false
leaves_identifiers _ = true

identifier_kind : {k : TokenKind} {t : Token} → Is k t → IsIdentifier t → leaves_identifiers k ≡ true → ⊥
identifier_kind it_is it_is l = cc

prefix_no_identifier : (o : PrefixOp) → leaves_identifiers (kind.Symbol (prefix_symbol o)) ≡ true
prefix_no_identifier o = refl

primitive_begins_none : (q : Primitive) {t : Token} (ts : List Token) → IsWord (primitive_word q) t → (begins_operand (t ∷ ts) || is_some (prefix_operator (t ∷ ts))) ≡ true → ⊥
primitive_begins_none prim.Boolean ts it_is e = cc
primitive_begins_none prim.Byte ts it_is e = cc
primitive_begins_none prim.Short ts it_is e = cc
primitive_begins_none prim.Char ts it_is e = cc
primitive_begins_none prim.Int ts it_is e = cc
primitive_begins_none prim.Long ts it_is e = cc

dotted_behind_first : {t d : Token} {ts end : List Token} → IsSymbol symbol.Dot d → Dotted end (t ∷ d ∷ ts) → Ends end → Dotted end ts
dotted_behind_first d (last_part i) e = no_dot_ends d e
dotted_behind_first d (more_parts i k n) e = n

dotted_behind_dot : {d t : Token} {ts end : List Token} → Ends end → IsSymbol symbol.Dot d → Behind end (d ∷ t ∷ ts) → Dotted end (t ∷ ts)
dotted_behind_dot e d (at_end q) = no_dot_ends d (subst Ends (sym q) e)
dotted_behind_dot {end = end} e d (at_dot q k n) = subst (Dotted end) (sym (same_tail q)) n

pair_at_index : {o : Token} {ts end : List Token} → Ends end → IsSymbol symbol.OpenBracket o → Behind end (o ∷ ts) → (rest : List Token) × Front (kind.Symbol symbol.CloseBracket) ts rest
pair_at_index e i (at_end q) = pair_ends i (subst Ends (sym q) e)
pair_at_index e i (at_dot q d n) = let x = two_kinds (subst (λ u. IsSymbol symbol.Dot u) (sym (same_head q)) d) i in absurd cc

name_in_dotted : {n : QualifiedName} {ts mid end : List Token} → SpellsName n ts mid → Dotted end ts → Ends end → Behind end mid
name_in_dotted (simple_name i) b e = behind_one b
name_in_dotted (qualified_name i d n) b e = name_in_dotted n (dotted_behind_first d b e) e

not_identifier : {A : Type 0} {k : TokenKind} {t : Token} {ts end : List Token} → Is k t → leaves_identifiers k ≡ true → Dotted end (t ∷ ts) → A
not_identifier i l b = absurd (identifier_kind i (first_is_name b) l)

module _ (names texts : List (List ℕ)) where
  literal_in_name : {A : Type 0} {l : Literal} {t : Token} {ts end : List Token} → IsLiteral texts l t → Dotted end (t ∷ ts) → A
  literal_in_name (int_literal i) b = not_identifier i refl b
  literal_in_name (long_literal i) b = not_identifier i refl b
  literal_in_name (char_literal i) b = not_identifier i refl b
  literal_in_name (text_literal i v e) b = not_identifier i refl b
  literal_in_name (true_literal i) b = not_identifier i refl b
  literal_in_name (false_literal i) b = not_identifier i refl b
  literal_in_name (null_literal i) b = not_identifier i refl b

  -- a name, and where it ends
  record InName (e : Expression) (end rest : List Token) : Type 0 where
    name : is_name e ≡ true
    behind : Behind end rest

  arguments_cannot : {A : Type 0} {es : Expressions} {c : Span} {ts rest end : List Token} → SpellsArguments names texts es c ts rest → Ends end → Behind end ts → A
  arguments_cannot (no_arguments o c) e b = cannot o refl e b
  arguments_cannot (some_arguments o l c) e b = cannot o refl e b

  in_name : {x : Expression} {ts rest end : List Token} → Spells names texts x ts rest → Dotted end ts → Ends end → InName x end rest
  in_name (is_literal l) b e = literal_in_name l b
  in_name (is_simple_name i) b e = record { name = refl; behind = behind_one b }
  in_name (is_this i) b e = not_identifier i refl b
  in_name (is_outer_this n d t) b e = not_identifier t refl (dotted_behind_dot e d (name_in_dotted n b e))
  in_name (is_parens _ i _ _) b e = not_identifier i refl b
  in_name (is_select _ s d t) b e = let x = in_name s b e in record { name = x.name; behind = behind_one (dotted_behind_dot e d x.behind) }
  in_name (is_super_select i _ _) b e = not_identifier i refl b
  in_name (is_call i a) b e = arguments_cannot a e (behind_one b)
  in_name (is_call_on _ s d t a) b e = let x = in_name s b e in arguments_cannot a e (behind_one (dotted_behind_dot e d x.behind))
  in_name (is_super_call i _ _ _) b e = not_identifier i refl b
  in_name (is_index _ _ s o i c) b e = let x = in_name s b e in let f = pair_at_index e o x.behind in absurd (close_bracket_begins_none names texts f.1 i)
  in_name (is_new i _ _) b e = not_identifier i refl b
  in_name (is_new_anonymous i _ _ _) b e = not_identifier i refl b
  in_name (is_new_array i _ _ _) b e = not_identifier i refl b
  in_name (is_new_array_of i _ _ _ _) b e = not_identifier i refl b
  in_name (is_primitive_cast _ i _ _ _ _) b e = not_identifier i refl b
  in_name (is_class_cast _ i _ _ _ _) b e = not_identifier i refl b
  in_name (is_prefix {op = o} _ i _) b e = not_identifier i (prefix_no_identifier o) b
  in_name (is_postfix {op = o} _ s i) b e = let x = in_name s b e in cannot i (postfix_leaves o) e x.behind
  in_name (is_binary {op = o} _ _ s i _) b e = let x = in_name s b e in cannot i (operator_leaves o) e x.behind
  in_name (is_instance_of _ _ s i _) b e = let x = in_name s b e in cannot i refl e x.behind
  in_name (is_conditional _ _ s i _ _ _) b e = let x = in_name s b e in cannot i refl e x.behind
  in_name (is_assign {op = o} {y} _ s q i _) b e = let x = in_name s b e in cannot i (assignment_leaves o y q) e x.behind

  no_primitive_begins : {e : Expression} {ts rest : List Token} {x : Primitive × List Token} → Spells names texts e ts rest → ¬ FrontPrimitive ts x
  no_primitive_begins d (front_primitive {p = q} {rest = rest} i) = primitive_begins_none q rest i (expression_begins names texts d)

  -- the end of a name before brackets and a closing bracket
  end_by : {ts r operand : List Token} {n : ℕ} {s e : Span} → SpellsDims n s e ts r → Front (kind.Symbol symbol.CloseParen) r operand → Ends ts
  end_by no_dims (front c) = close c
  end_by (more_dims o c d) f = pair o c

  end_behind : {ts operand : List Token} {n : ℕ} {s e : Span} {r : List Token} {c : Token} {rest : List Token} → SpellsDims n s e ts r → Front (kind.Symbol symbol.CloseParen) r operand → (is_some (pair_at ts) || begins_operand operand) ≡ true →
      IsSymbol symbol.CloseParen c → c ∷ rest ≡ ts → begins_operand rest ≡ true
  end_behind no_dims (front it_is) t c q = subst (λ u. begins_operand u ≡ true) (sym (same_tail q)) t
  end_behind (more_dims o k d) f t c q = let x = two_kinds (subst (λ u. IsSymbol symbol.OpenBracket u) (sym (same_head q)) o) c in absurd cc

  end_at : {ts operand r : List Token} {n : ℕ} {s e : Span} {c : Token} {rest : List Token} → Behind ts (c ∷ rest) → IsSymbol symbol.CloseParen c → SpellsDims n s e ts r → Front (kind.Symbol symbol.CloseParen) r operand →
      (is_some (pair_at ts) || begins_operand operand) ≡ true → begins_operand rest ≡ true
  end_at (at_end q) c d f t = end_behind d f t c q
  end_at (at_dot q k n) c d f t = let x = two_kinds (subst (λ u. IsSymbol symbol.Dot u) (sym (same_head q)) k) c in absurd cc

  module _ {h : ℕ} (types : ReadTypes h) where
    named_cast : {e : Expression} {ts rest : List Token} {c : Token} (r : List Token) {n : QualifiedName} (o : Option (List Token)) → IfSome o (Front (kind.Symbol symbol.CloseParen) (past_dims_at r)) → SpellsName n ts r →
        with o (λ operand. is_some (pair_at r) || begins_operand operand) false ≡ true → Spells names texts e ts (c ∷ rest) → IsSymbol symbol.CloseParen c → is_cast_before e rest ≡ true
    unfolding past_dims_at
    named_cast r (Some operand) f n t d c =
        let dims = types.dims_sound (first_span r) r in
        let x = in_name d (dotted n) (end_by dims f) in
        rw x.name (end_at x.behind c dims f t)
    named_cast r None f n t d c = absurd cc

    named_cast_by : {e : Expression} {ts rest : List Token} {c : Token} (o : Read QualifiedName) → IfSome o (λ x. SpellsName x.0 ts x.1) →
        with (option_map (λ x. x.1) o) (λ r. with (behind symbol.CloseParen (past_dims_at r)) (λ operand. is_some (pair_at r) || begins_operand operand) false) false ≡ true →
        Spells names texts e ts (c ∷ rest) → IsSymbol symbol.CloseParen c → is_cast_before e rest ≡ true
    named_cast_by (Some x) n t d c = named_cast x.1 (behind symbol.CloseParen (past_dims_at x.1)) (behind_front (kind.Symbol symbol.CloseParen) (past_dims_at x.1)) n t d c
    named_cast_by None n t d c = absurd cc

    cast_by : {e : Expression} {ts rest : List Token} {c : Token} (o : Read Primitive) → IfSome o (FrontPrimitive ts) →
        (is_some o || with (past_name_at ts) (λ r. with (behind symbol.CloseParen (past_dims_at r)) (λ operand. is_some (pair_at r) || begins_operand operand) false) false) ≡ true →
        Spells names texts e ts (c ∷ rest) → IsSymbol symbol.CloseParen c → is_cast_before e rest ≡ true
    unfolding past_name_at
    cast_by (Some x) f t d c = absurd (no_primitive_begins d f)
    cast_by {ts = ts} None f t d c = named_cast_by (name_at ts) (types.name_sound ts) t d c

    cast_before : {e : Expression} {ts rest : List Token} {o c : Token} → IsSymbol symbol.OpenParen o → is_cast_at (o ∷ ts) ≡ true → Spells names texts e ts (c ∷ rest) → IsSymbol symbol.CloseParen c → is_cast_before e rest ≡ true
    unfolding is_cast_at
    cast_before {ts = ts} it_is t d c = cast_by (primitive_at ts) (primitive_front ts) t d c

    -- what may stand in brackets, is no cast by its look-ahead
    pub brackets_are_no_cast : {e : Expression} {ts rest : List Token} {o c : Token} → IsSymbol symbol.OpenParen o → Spells names texts e ts (c ∷ rest) → IsSymbol symbol.CloseParen c → is_cast_before e rest ≡ false → is_cast_at (o ∷ ts) ≡ false
    brackets_are_no_cast {ts = ts} {o = o} i d c no_cast = elim (cases_Bool (is_cast_at (o ∷ ts))) [
      | inl t ↦ let x = cast_before i t d c in absurd cc
      | inr f ↦ f
    ]
