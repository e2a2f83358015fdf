-- What an expression begins with.
use Rattle.std.proofs.Common.{◌≡◌, ℕ, ◌<◌, ◌≤◌, Bool, true, List, ◌∷◌, refl, arith, ◌||◌}
use Rattle.je_token.specs.declared.symbol.Symbol.TheVariants as symbol
use Rattle.je_token.specs.declared.token.Token.{Token}
use Rattle.je_token.specs.declared.token.TokenKind.TheVariants as kind
use Rattle.je_ast.specs.declared.expr.Literal.{Literal}
use Rattle.je_ast.specs.declared.operator.BinaryOp.{BinaryOp}
use Rattle.je_ast.specs.declared.operator.BinaryOp.TheVariants as op
use Rattle.je_ast.specs.declared.operator.PrefixOp.{PrefixOp}
use Rattle.je_ast.specs.declared.operator.PrefixOp.TheVariants as prefix_op
use Rattle.je_ast.specs.Types.{QualifiedName}
use Rattle.je_ast.specs.Trees.{Expression, Expressions, Member, Members}
use Rattle.je_ast.specs.Trees as tree
use Rattle.je_ast.specs.Height.{height}
use Rattle.je_grammar.specs.Tokens.{it_is, IsSymbol}
use Rattle.je_grammar.specs.Operators.{level, operator_level, prefix_symbol}
use Rattle.je_grammar.specs.Types.{SpellsName, simple_name, qualified_name}
use Rattle.je_grammar.specs.Context.{is_not_or_tilde, begins_operand, is_not_plus_minus}
use Rattle.je_grammar.specs.Grammar.{IsLiteral, int_literal, long_literal, char_literal, text_literal, true_literal, false_literal, null_literal, Spells, is_literal, is_simple_name, is_this, is_outer_this, is_parens, is_select, is_super_select, is_call, is_call_on, is_super_call, is_index, is_new, is_new_anonymous, is_new_array, is_new_array_of, is_primitive_cast, is_class_cast, is_prefix, is_postfix, is_binary, is_instance_of, is_conditional, is_assign}
use Rattle.parse_laws.specs.way.Tokens.{is_some}
use Rattle.parse_laws.specs.way.Expressions.{prefix_operator}
use Rattle.parse_laws.proofs.Fronts.{Front, front}

-- whether an expression may begin here
abbrev pub may_begin : List Token → Bool
may_begin ts = begins_operand ts || is_some (prefix_operator ts)

literal_begins : {texts : List (List ℕ)} {l : Literal} {t : Token} (ts : List Token) → IsLiteral texts l t → begins_operand (t ∷ ts) ≡ true
literal_begins ts (int_literal it_is) = refl
literal_begins ts (long_literal it_is) = refl
literal_begins ts (char_literal it_is) = refl
literal_begins ts (text_literal it_is v e) = refl
literal_begins ts (true_literal it_is) = refl
literal_begins ts (false_literal it_is) = refl
literal_begins ts (null_literal it_is) = refl

pub name_begins : {n : QualifiedName} {ts rest : List Token} → SpellsName n ts rest → begins_operand ts ≡ true
name_begins (simple_name it_is) = refl
name_begins (qualified_name it_is d n) = refl

prefix_begins : (o : PrefixOp) {t : Token} (ts : List Token) → IsSymbol (prefix_symbol o) t → may_begin (t ∷ ts) ≡ true
prefix_begins prefix_op.Plus ts it_is = refl
prefix_begins prefix_op.Minus ts it_is = refl
prefix_begins prefix_op.Increment ts it_is = refl
prefix_begins prefix_op.Decrement ts it_is = refl
prefix_begins prefix_op.Not ts it_is = refl
prefix_begins prefix_op.Tilde ts it_is = refl

or_first : (a b : Bool) → a ≡ true → (a || b) ≡ true
or_first a b e = rw e refl

pub height_positive : (e : Expression) → 0 < height e
height_positive (tree.literal l s) = omega arith
height_positive _ = omega arith

-- the levels of operators
pub operators_from : (o : BinaryOp) → 3 ≤ operator_level o
operators_from op.Or = omega arith
operators_from op.And = omega arith
operators_from op.BitOr = omega arith
operators_from op.BitXor = omega arith
operators_from op.BitAnd = omega arith
operators_from op.Equal = omega arith
operators_from op.NotEqual = omega arith
operators_from op.Less = omega arith
operators_from op.Greater = omega arith
operators_from op.LessEqual = omega arith
operators_from op.GreaterEqual = omega arith
operators_from op.ShiftLeft = omega arith
operators_from op.ShiftRight = omega arith
operators_from op.UnsignedShiftRight = omega arith
operators_from op.Add = omega arith
operators_from op.Subtract = omega arith
operators_from op.Multiply = omega arith
operators_from op.Divide = omega arith
operators_from op.Remainder = omega arith

pub operators_to : (o : BinaryOp) → operator_level o ≤ 12
operators_to op.Or = omega arith
operators_to op.And = omega arith
operators_to op.BitOr = omega arith
operators_to op.BitXor = omega arith
operators_to op.BitAnd = omega arith
operators_to op.Equal = omega arith
operators_to op.NotEqual = omega arith
operators_to op.Less = omega arith
operators_to op.Greater = omega arith
operators_to op.LessEqual = omega arith
operators_to op.GreaterEqual = omega arith
operators_to op.ShiftLeft = omega arith
operators_to op.ShiftRight = omega arith
operators_to op.UnsignedShiftRight = omega arith
operators_to op.Add = omega arith
operators_to op.Subtract = omega arith
operators_to op.Multiply = omega arith
operators_to op.Divide = omega arith
operators_to op.Remainder = omega arith

-- `++` or `--` before it, or another sign, begins none of what a cast to a class takes
sign_or_not : (o : PrefixOp) {t : Token} (ts : List Token) → IsSymbol (prefix_symbol o) t → begins_operand (t ∷ ts) ≡ true → is_not_or_tilde o ≡ true
sign_or_not prefix_op.Plus ts it_is e = absurd cc
sign_or_not prefix_op.Minus ts it_is e = absurd cc
sign_or_not prefix_op.Increment ts it_is e = absurd cc
sign_or_not prefix_op.Decrement ts it_is e = absurd cc
sign_or_not prefix_op.Not ts it_is e = refl
sign_or_not prefix_op.Tilde ts it_is e = refl

module _ (names texts : List (List ℕ)) where
  pub expression_begins : {e : Expression} {ts rest : List Token} → Spells names texts e ts rest → may_begin ts ≡ true
  expression_begins (is_literal {t = t} {rest} h) = or_first (begins_operand (t ∷ rest)) _ (literal_begins rest h)
  expression_begins (is_simple_name it_is) = refl
  expression_begins (is_this it_is) = refl
  expression_begins {ts = ts} (is_outer_this h _ _) = or_first (begins_operand ts) _ (name_begins h)
  expression_begins (is_parens _ it_is _ _) = refl
  expression_begins (is_select _ h _ _) = expression_begins h
  expression_begins (is_super_select it_is _ _) = refl
  expression_begins (is_call it_is _) = refl
  expression_begins (is_call_on _ h _ _ _) = expression_begins h
  expression_begins (is_super_call it_is _ _ _) = refl
  expression_begins (is_index _ _ h _ _ _) = expression_begins h
  expression_begins (is_new it_is _ _) = refl
  expression_begins (is_new_anonymous it_is _ _ _) = refl
  expression_begins (is_new_array it_is _ _ _) = refl
  expression_begins (is_new_array_of it_is _ _ _ _) = refl
  expression_begins (is_primitive_cast _ it_is _ _ _ _) = refl
  expression_begins (is_class_cast _ it_is _ _ _ _) = refl
  expression_begins (is_prefix {op = o} {ts = ts} _ h _) = prefix_begins o ts h
  expression_begins (is_postfix _ h _) = expression_begins h
  expression_begins (is_binary _ _ h _ _) = expression_begins h
  expression_begins (is_instance_of _ _ h _ _) = expression_begins h
  expression_begins (is_conditional _ _ h _ _ _ _) = expression_begins h
  expression_begins (is_assign _ h _ _ _) = expression_begins h

  pub lowest : {e : Expression} {ts rest : List Token} → Spells names texts e ts rest → 1 ≤ level e
  lowest (is_binary {op = o} _ _ _ _ _) = omega (arith, operators_from o)
  lowest (is_literal _) = omega arith
  lowest (is_simple_name _) = omega arith
  lowest (is_this _) = omega arith
  lowest (is_outer_this _ _ _) = omega arith
  lowest (is_parens _ _ _ _) = omega arith
  lowest (is_select _ _ _ _) = omega arith
  lowest (is_super_select _ _ _) = omega arith
  lowest (is_call _ _) = omega arith
  lowest (is_call_on _ _ _ _ _) = omega arith
  lowest (is_super_call _ _ _ _) = omega arith
  lowest (is_index _ _ _ _ _ _) = omega arith
  lowest (is_new _ _ _) = omega arith
  lowest (is_new_anonymous _ _ _ _) = omega arith
  lowest (is_new_array _ _ _ _) = omega arith
  lowest (is_new_array_of _ _ _ _ _) = omega arith
  lowest (is_primitive_cast _ _ _ _ _ _) = omega arith
  lowest (is_class_cast _ _ _ _ _ _) = omega arith
  lowest (is_prefix _ _ _) = omega arith
  lowest (is_postfix _ _ _) = omega arith
  lowest (is_instance_of _ _ _ _ _) = omega arith
  lowest (is_conditional _ _ _ _ _ _ _) = omega arith
  lowest (is_assign _ _ _ _ _) = omega arith

  -- a Unary before which a cast to a class may stand
  pub takes_class_cast : {e : Expression} {ts rest : List Token} → Spells names texts e ts rest → 13 ≤ level e → begins_operand ts ≡ true → is_not_plus_minus e ≡ true
  takes_class_cast (is_literal _) le b = refl
  takes_class_cast (is_simple_name _) le b = refl
  takes_class_cast (is_this _) le b = refl
  takes_class_cast (is_outer_this _ _ _) le b = refl
  takes_class_cast (is_parens _ _ _ _) le b = refl
  takes_class_cast (is_select _ _ _ _) le b = refl
  takes_class_cast (is_super_select _ _ _) le b = refl
  takes_class_cast (is_call _ _) le b = refl
  takes_class_cast (is_call_on _ _ _ _ _) le b = refl
  takes_class_cast (is_super_call _ _ _ _) le b = refl
  takes_class_cast (is_index _ _ _ _ _ _) le b = refl
  takes_class_cast (is_new _ _ _) le b = refl
  takes_class_cast (is_new_anonymous _ _ _ _) le b = refl
  takes_class_cast (is_new_array _ _ _ _) le b = refl
  takes_class_cast (is_new_array_of _ _ _ _ _) le b = refl
  takes_class_cast (is_primitive_cast _ _ _ _ _ _) le b = refl
  takes_class_cast (is_class_cast _ _ _ _ _ _) le b = refl
  takes_class_cast (is_prefix {op = o} {ts = ts} _ i _) le b = sign_or_not o ts i b
  takes_class_cast (is_postfix _ _ _) le b = refl
  takes_class_cast (is_binary {op = o} _ _ _ _ _) le b = absurd (omega (arith, operators_to o))
  takes_class_cast (is_instance_of _ _ _ _ _) le b = absurd (omega arith)
  takes_class_cast (is_conditional _ _ _ _ _ _ _) le b = absurd (omega arith)
  takes_class_cast (is_assign _ _ _ _ _) le b = absurd (omega arith)

  -- Neither a closing bracket nor an opening brace begins an expression.
  pub close_paren_begins_none : {e : Expression} {ts behind_it rest : List Token} → Front (kind.Symbol symbol.CloseParen) ts behind_it → ¬ Spells names texts e ts rest
  close_paren_begins_none (front it_is) d = let b = expression_begins d in cc

  pub close_bracket_begins_none : {e : Expression} {ts behind_it rest : List Token} → Front (kind.Symbol symbol.CloseBracket) ts behind_it → ¬ Spells names texts e ts rest
  close_bracket_begins_none (front it_is) d = let b = expression_begins d in cc

  pub open_brace_begins_none : {e : Expression} {ts behind_it rest : List Token} → Front (kind.Symbol symbol.OpenBrace) ts behind_it → ¬ Spells names texts e ts rest
  open_brace_begins_none (front it_is) d = let b = expression_begins d in cc

  pub close_brace_begins_none : {e : Expression} {ts behind_it rest : List Token} → Front (kind.Symbol symbol.CloseBrace) ts behind_it → ¬ Spells names texts e ts rest
  close_brace_begins_none (front it_is) d = let b = expression_begins d in cc
