-- What a step begins with is no type before an identifier.
use Rattle.std.proofs.Common.{◌≡◌, ℕ, ◌≤◌, Bool, true, false, List, ◌∷◌, Option, Some, None, IfSome, refl, subst, arith}
use Rattle.je_base.specs.declared.span.Span.{Span}
use Rattle.je_token.specs.declared.keyword.Keyword.TheVariants as word
use Rattle.je_token.specs.declared.symbol.Symbol.{Symbol}
use Rattle.je_token.specs.declared.symbol.Symbol.TheVariants as symbol
use Rattle.je_token.specs.declared.token.Token.{Token}
use Rattle.je_token.specs.declared.token.TokenKind.{TokenKind}
use Rattle.je_token.specs.declared.token.TokenKind.TheVariants as kind
use Rattle.je_ast.specs.declared.expr.Literal.{Literal}
use Rattle.je_ast.specs.declared.operator.BinaryOp.{BinaryOp}
use Rattle.je_ast.specs.declared.operator.BinaryOp.TheVariants as op
use Rattle.je_ast.specs.declared.operator.PostfixOp.{PostfixOp}
use Rattle.je_ast.specs.declared.operator.PostfixOp.TheVariants as postfix_op
use Rattle.je_ast.specs.declared.ty_name.Primitive.{Primitive}
use Rattle.je_ast.specs.declared.ty_name.Primitive.TheVariants as prim
use Rattle.je_ast.specs.Types.{QualifiedName, TypeName}
use Rattle.je_ast.specs.Trees.{Expression, Expressions}
use Rattle.je_grammar.specs.Tokens.{it_is, IsWord, IsSymbol, IsIdentifier}
use Rattle.je_grammar.specs.Operators.{level, assignment_symbol, postfix_symbol}
use Rattle.je_grammar.specs.Context.{is_name, is_step}
use Rattle.je_grammar.specs.Types.{SpellsName, simple_name, qualified_name, SpellsDims, no_dims, more_dims, SpellsTypeName, primitive_type, reference_type, plain_ref, ref_with_arguments, primitive_word}
use Rattle.je_grammar.specs.Grammar.{IsLiteral, int_literal, long_literal, char_literal, text_literal, true_literal, false_literal, null_literal, SpellsArguments, no_arguments, some_arguments}
use Rattle.je_grammar.specs.Grammar.{Spells, is_literal, is_simple_name, is_this, is_outer_this, is_parens, is_select, is_super_select, is_call, is_call_on, is_super_call, is_index, is_new, is_new_anonymous, is_new_array, is_new_array_of, is_primitive_cast, is_class_cast, is_prefix, is_postfix, is_binary, is_instance_of, is_conditional, is_assign}
use Rattle.parse_laws.proofs.Fronts.{front}
use Rattle.expression_laws.proofs.Begins.{operators_to, close_bracket_begins_none}
use Rattle.statement_laws.proofs.Stops.{first_is, first_kind, begins_expression, expression_first}

-- what follows the name in a type before an identifier, or a label
pub data Follows : List Token → Type 0 where
  identifier_follows : {t : Token} {rest : List Token} → IsIdentifier t → Follows (t ∷ rest)
  less_follows : {t : Token} {rest : List Token} → IsSymbol symbol.Less t → Follows (t ∷ rest)
  colon_follows : {t : Token} {rest : List Token} → IsSymbol symbol.Colon t → Follows (t ∷ rest)
  brackets_follow : {o c : Token} {rest : List Token} → IsSymbol symbol.OpenBracket o → IsSymbol symbol.CloseBracket c → Follows (o ∷ c ∷ rest)

-- the end of a name, or a point in it
data InName (a : List Token) : List Token → Type 0 where
  here : InName a a
  dotted : {q : QualifiedName} {d : Token} {ts : List Token} → IsSymbol symbol.Dot d → SpellsName q ts a → InName a (d ∷ ts)

abbrev follows_name : TokenKind → Bool
follows_name kind.Identifier = true
follows_name (kind.Symbol symbol.Less) = true
follows_name (kind.Symbol symbol.Colon) = true
follows_name (kind.Symbol symbol.OpenBracket) = true
follows_name (kind.Symbol symbol.Dot) = true
follows_name _ = false

abbrev pub is_id : TokenKind → Bool
is_id kind.Identifier = true
is_id _ = false

pub name_first : {q : QualifiedName} {ts rest : List Token} → SpellsName q ts rest → first_is is_id ts ≡ true
name_first (simple_name it_is) = refl
name_first (qualified_name it_is d m) = refl

no_dot : {d : Token} {ts : List Token} → IsSymbol symbol.Dot d → ¬ Follows (d ∷ ts)
no_dot it_is (identifier_follows i) = elim i [ ]
no_dot it_is (less_follows i) = elim i [ ]
no_dot it_is (colon_follows i) = elim i [ ]
no_dot it_is (brackets_follow i j) = elim i [ ]

follows_first : {a : List Token} → Follows a → first_is follows_name a ≡ true
follows_first (identifier_follows it_is) = refl
follows_first (less_follows it_is) = refl
follows_first (colon_follows it_is) = refl
follows_first (brackets_follow it_is j) = refl

in_first : {a b : List Token} → InName a b → Follows a → first_is follows_name b ≡ true
in_first here g = follows_first g
in_first (dotted it_is m) g = refl

names_in : {n q : QualifiedName} {ts a b : List Token} → SpellsName n ts b → SpellsName q ts a → Follows a → InName a b
names_in (simple_name i) (simple_name j) g = here
names_in (simple_name i) (qualified_name j d m) g = dotted d m
names_in (qualified_name i d m) (simple_name j) g = absurd (no_dot d g)
names_in (qualified_name i d m) (qualified_name j e n) g = names_in m n g

simple_in : {q : QualifiedName} {t : Token} {rest a : List Token} → SpellsName q (t ∷ rest) a → InName a rest
simple_in (simple_name i) = here
simple_in (qualified_name i d m) = dotted d m

select_in : {d t : Token} {rest a : List Token} → InName a (d ∷ t ∷ rest) → IsSymbol symbol.Dot d → Follows a → InName a rest
select_in here d g = absurd (no_dot d g)
select_in (dotted e m) d g = simple_in m

no_outer_this : {d t : Token} {rest a : List Token} → InName a (d ∷ t ∷ rest) → IsSymbol symbol.Dot d → IsWord word.This t → ¬ Follows a
no_outer_this here d w g = no_dot d g
no_outer_this (dotted e m) d it_is g = let b = name_first m in cc

literal_first : {texts : List (List ℕ)} {l : Literal} {t : Token} (ts : List Token) → IsLiteral texts l t → first_is is_id (t ∷ ts) ≡ false
literal_first ts (int_literal it_is) = refl
literal_first ts (long_literal it_is) = refl
literal_first ts (char_literal it_is) = refl
literal_first ts (text_literal it_is v e) = refl
literal_first ts (true_literal it_is) = refl
literal_first ts (false_literal it_is) = refl
literal_first ts (null_literal it_is) = refl

postfix_first : (o : PostfixOp) {t : Token} (ts : List Token) → IsSymbol (postfix_symbol o) t → first_is follows_name (t ∷ ts) ≡ false
postfix_first postfix_op.Increment ts it_is = refl
postfix_first postfix_op.Decrement ts it_is = refl

assignment_plain : (o : Option BinaryOp) → IfSome (assignment_symbol o) (λ y. follows_name (kind.Symbol y) ≡ false)
assignment_plain None = refl
assignment_plain (Some op.Or) = tt
assignment_plain (Some op.And) = tt
assignment_plain (Some op.BitOr) = refl
assignment_plain (Some op.BitXor) = refl
assignment_plain (Some op.BitAnd) = refl
assignment_plain (Some op.Equal) = tt
assignment_plain (Some op.NotEqual) = tt
assignment_plain (Some op.Less) = tt
assignment_plain (Some op.Greater) = tt
assignment_plain (Some op.LessEqual) = tt
assignment_plain (Some op.GreaterEqual) = tt
assignment_plain (Some op.ShiftLeft) = refl
assignment_plain (Some op.ShiftRight) = refl
assignment_plain (Some op.UnsignedShiftRight) = refl
assignment_plain (Some op.Add) = refl
assignment_plain (Some op.Subtract) = refl
assignment_plain (Some op.Multiply) = refl
assignment_plain (Some op.Divide) = refl
assignment_plain (Some op.Remainder) = refl

assignment_first : (o : Option BinaryOp) {y : Symbol} {t : Token} (ts : List Token) → assignment_symbol o ≡ Some y → IsSymbol y t → first_is follows_name (t ∷ ts) ≡ false
assignment_first o {y} ts e i = rw (first_kind follows_name ts i) (subst (λ r. IfSome r (λ z. follows_name (kind.Symbol z) ≡ false)) e (assignment_plain o))

no_primitive_begins : (p : Primitive) → begins_expression (kind.Keyword (primitive_word p)) ≡ false
no_primitive_begins prim.Boolean = refl
no_primitive_begins prim.Byte = refl
no_primitive_begins prim.Short = refl
no_primitive_begins prim.Char = refl
no_primitive_begins prim.Int = refl
no_primitive_begins prim.Long = refl

pub dims_follow : {n : ℕ} {s e : Span} {t : Token} {ts rest : List Token} → SpellsDims n s e ts (t ∷ rest) → IsIdentifier t → Follows ts
dims_follow no_dims i = identifier_follows i
dims_follow (more_dims o c d) i = brackets_follow o c

module _ (names texts : List (List ℕ)) where
  arguments_first : {es : Expressions} {c : Span} {ts rest : List Token} → SpellsArguments names texts es c ts rest → first_is follows_name ts ≡ false
  arguments_first (no_arguments it_is i) = refl
  arguments_first (some_arguments it_is l i) = refl

  no_index : {i : Expression} {o : Token} {mid rest a : List Token} → InName a (o ∷ mid) → IsSymbol symbol.OpenBracket o → Spells names texts i mid rest → ¬ Follows a
  no_index here it_is d (identifier_follows i) = elim i [ ]
  no_index here it_is d (less_follows i) = elim i [ ]
  no_index here it_is d (colon_follows i) = elim i [ ]
  no_index here it_is d (brackets_follow i j) = close_bracket_begins_none names texts (front j) d
  no_index (dotted e m) it_is d g = elim e [ ]

  -- An expression of this level that begins with such a name is a name itself, and ends in it.
  in_name : {e : Expression} {q : QualifiedName} {ts rest a : List Token} → Spells names texts e ts rest → 14 ≤ level e → SpellsName q ts a → Follows a → InName a rest × (is_name e ≡ true)
  in_name (is_literal {rest = rest} l) le n g = absurd (let b = name_first n in let c = literal_first rest l in cc)
  in_name (is_simple_name i) le n g = (simple_in n, refl)
  in_name (is_this it_is) le n g = absurd (let b = name_first n in cc)
  in_name (is_outer_this m d t) le n g = absurd (no_outer_this (names_in m n g) d t g)
  in_name (is_parens _ it_is _ _) le n g = absurd (let b = name_first n in cc)
  in_name (is_select le d k t) _ n g = let r = in_name d (omega arith) n g in (select_in r.0 k g, r.1)
  in_name (is_super_select it_is _ _) le n g = absurd (let b = name_first n in cc)
  in_name (is_call i l) le n g = absurd (let b = in_first (simple_in n) g in let c = arguments_first l in cc)
  in_name (is_call_on le d k t l) _ n g = absurd (let r = in_name d (omega arith) n g in let b = in_first (select_in r.0 k g) g in let c = arguments_first l in cc)
  in_name (is_super_call it_is _ _ _) le n g = absurd (let b = name_first n in cc)
  in_name (is_index le _ d o i c) _ n g = absurd (no_index (in_name d (omega arith) n g).0 o i g)
  in_name (is_new it_is _ _) le n g = absurd (let b = name_first n in cc)
  in_name (is_new_anonymous it_is _ _ _) le n g = absurd (let b = name_first n in cc)
  in_name (is_new_array it_is _ _ _) le n g = absurd (let b = name_first n in cc)
  in_name (is_new_array_of it_is _ _ _ _) le n g = absurd (let b = name_first n in cc)
  in_name (is_primitive_cast _ it_is _ _ _ _) le n g = absurd (let b = name_first n in cc)
  in_name (is_class_cast _ it_is _ _ _ _) le n g = absurd (let b = name_first n in cc)
  in_name (is_prefix _ _ _) le n g = absurd (omega arith)
  in_name (is_postfix {op = o} {rest = rest} le d i) _ n g = absurd (let b = in_first (in_name d le n g).0 g in let c = postfix_first o rest i in cc)
  in_name (is_binary {op = o} _ _ _ _ _) le n g = absurd (omega (arith, operators_to o))
  in_name (is_instance_of _ _ _ _ _) le n g = absurd (omega arith)
  in_name (is_conditional _ _ _ _ _ _ _) le n g = absurd (omega arith)
  in_name (is_assign _ _ _ _ _) le n g = absurd (omega arith)

  no_step : {e : Expression} {q : QualifiedName} {ts rest a : List Token} → Spells names texts e ts rest → is_step e ≡ true → SpellsName q ts a → ¬ Follows a
  no_step (is_literal l) s n g = cc
  no_step (is_simple_name i) s n g = cc
  no_step (is_this i) s n g = cc
  no_step (is_outer_this m d t) s n g = cc
  no_step (is_parens _ _ _ _) s n g = cc
  no_step (is_select _ _ _ _) s n g = cc
  no_step (is_super_select _ _ _) s n g = cc
  no_step (is_call i l) s n g = let b = (in_name (is_call i l) (omega arith) n g).1 in cc
  no_step (is_call_on le d k t l) s n g = let b = (in_name (is_call_on le d k t l) (omega arith) n g).1 in cc
  no_step (is_super_call it_is _ _ _) s n g = let b = name_first n in cc
  no_step (is_index _ _ _ _ _ _) s n g = cc
  no_step (is_new it_is _ _) s n g = let b = name_first n in cc
  no_step (is_new_anonymous it_is _ _ _) s n g = let b = name_first n in cc
  no_step (is_new_array _ _ _ _) s n g = cc
  no_step (is_new_array_of _ _ _ _ _) s n g = cc
  no_step (is_primitive_cast _ _ _ _ _ _) s n g = cc
  no_step (is_class_cast _ _ _ _ _ _) s n g = cc
  no_step (is_prefix {ts = ts} _ i _) s n g = let b = name_first n in let c = first_kind is_id ts i in cc
  no_step (is_postfix le d i) s n g = let b = (in_name (is_postfix le d i) (omega arith) n g).1 in cc
  no_step (is_binary _ _ _ _ _) s n g = cc
  no_step (is_instance_of _ _ _ _ _) s n g = cc
  no_step (is_conditional _ _ _ _ _ _ _) s n g = cc
  no_step (is_assign {op = o} {mid = mid} le d e i r) s n g = let b = in_first (in_name d (omega arith) n g).0 g in let c = assignment_first o mid e i in cc

  pub step_no_type : {e : Expression} {t : TypeName} {k : Token} {ts rest all : List Token} → Spells names texts e ts rest → is_step e ≡ true → SpellsTypeName t ts (k ∷ all) → ¬ IsIdentifier k
  step_no_type d s (primitive_type {p} {ts = ts} w n) i = let a = expression_first names texts d in let b = first_kind begins_expression ts w in let c = no_primitive_begins p in cc
  step_no_type d s (reference_type (plain_ref m) n) i = no_step d s m (dims_follow n i)
  step_no_type d s (reference_type (ref_with_arguments m o l) n) i = no_step d s m (less_follows o)

  -- A step begins with no label.
  pub step_no_label : {e : Expression} {t k : Token} {ts rest : List Token} → Spells names texts e (t ∷ k ∷ ts) rest → is_step e ≡ true → IsIdentifier t → ¬ IsSymbol symbol.Colon k
  step_no_label d s i k = no_step d s (simple_name i) (colon_follows k)

-- A type before an identifier begins with no label.
colon_no_dims : {n : ℕ} {s e : Span} {c k : Token} {ts rest : List Token} → IsSymbol symbol.Colon c → SpellsDims n s e (c ∷ ts) (k ∷ rest) → ¬ IsIdentifier k
colon_no_dims it_is no_dims i = elim i [ ]
colon_no_dims it_is (more_dims o c d) i = elim o [ ]

pub label_no_type : {t : TypeName} {i c k : Token} {ts rest : List Token} → SpellsTypeName t (i ∷ c ∷ ts) (k ∷ rest) → IsIdentifier i → IsSymbol symbol.Colon c → ¬ IsIdentifier k
label_no_type (primitive_type w n) it_is c j = elim w [ ]
label_no_type (reference_type (plain_ref (simple_name _)) n) i c j = colon_no_dims c n j
label_no_type (reference_type (plain_ref (qualified_name _ d _)) n) i it_is j = elim d [ ]
label_no_type (reference_type (ref_with_arguments (simple_name _) o l) n) i it_is j = elim o [ ]
label_no_type (reference_type (ref_with_arguments (qualified_name _ d _) o l) n) i it_is j = elim d [ ]
