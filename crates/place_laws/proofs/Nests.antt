-- The braces inside a tree are closed inside it, they nest no deeper than the tree is high, and no tree has the file's end.
use Rattle.std.proofs.Common.{◌≡◌, ℕ, suc, ◌≤◌, max, Bool, true, false, List, ◌∷◌, Option, Some, None, IfSome, refl, subst, arith}
use Rattle.je_base.specs.declared.span.Span.{Span}
use Rattle.je_token.specs.declared.symbol.Symbol.{Symbol}
use Rattle.je_token.specs.declared.symbol.Symbol.TheVariants as symbol
use Rattle.je_token.specs.declared.token.Token.{Token}
use Rattle.je_token.specs.declared.token.TokenKind.TheVariants as kind
use Rattle.je_ast.specs.declared.expr.Literal.{Literal}
use Rattle.je_ast.specs.declared.operator.BinaryOp.{BinaryOp}
use Rattle.je_ast.specs.declared.operator.BinaryOp.TheVariants as op
use Rattle.je_ast.specs.declared.operator.PrefixOp.{PrefixOp}
use Rattle.je_ast.specs.declared.operator.PrefixOp.TheVariants as prefix_op
use Rattle.je_ast.specs.declared.operator.PostfixOp.{PostfixOp}
use Rattle.je_ast.specs.declared.operator.PostfixOp.TheVariants as postfix_op
use Rattle.je_ast.specs.declared.decl.Modifier.{Modifier}
use Rattle.je_ast.specs.declared.name.Identifier.{Identifier}
use Rattle.je_ast.specs.Types.{QualifiedName, TypeName, TypeNames, TypeParameter, FormalParameter}
use Rattle.je_ast.specs.Trees.{Expression, Expressions, MaybeExpression, Statement, Statements, ForInitializer, Variables, Groups, Labels, Catches, Member, Members, MaybeBlock, ConstructorInvocation, Declaration}
use Rattle.je_ast.specs.Height.{block_height_if, catches_height, constructor_invocation_height, declaration_height, for_initializer_height, groups_height, height, height_if, heights, labels_height, member_height, members_height, statement_height, statements_height, variables_height}
use Rattle.je_grammar.specs.Tokens.{it_is, IsSymbol, Closes, one_closes, first_of_two, first_of_three}
use Rattle.je_grammar.specs.Operators.{operator_symbol, prefix_symbol, postfix_symbol, assignment_symbol}
use Rattle.je_grammar.specs.Types.{SpellsName, SpellsNames, SpellsDims, SpellsTypeName, SpellsRef, SpellsTypeArguments, SpellsRefs, SpellsTypeParameter, SpellsMoreTypeParameters, SpellsTypeParameters, SpellsFinal, SpellsFormal, SpellsMoreFormals, SpellsFormals, SpellsThrows, SpellsResult, SpellsModifier, SpellsModifiers}
use Rattle.je_grammar.specs.Types.{simple_name, qualified_name, last_name, more_names, no_dims, more_dims, primitive_type, reference_type, plain_ref, ref_with_arguments, last_argument, more_arguments, last_ref, more_refs, plain_parameter, bounded_parameter, last_parameter, more_parameters, no_parameters, some_parameters, not_final, is_final, formal, last_formal, more_formals, no_formals, some_formals, no_throws, some_throws, void_result, typed_result, override_modifier, word_modifier, no_modifiers, more_modifiers}
use Rattle.je_grammar.specs.Grammar.{SpellsElement, SpellsMaybeLabel, SpellsExtends, SpellsImplements, SpellsExtendsAll, SpellsConstants, SpellsMaybeConstants, Spells, SpellsArguments, SpellsList, SpellsLengths, SpellsInit, SpellsArrayInit, SpellsInits, SpellsMoreInits, SpellsVariables, SpellsMaybeInit, SpellsMaybe, SpellsSteps, SpellsMaybeSteps, SpellsForInitializer, SpellsStatement, SpellsCondition, SpellsCatches, SpellsGroups, SpellsLabels, SpellsStatements, SpellsBlock, SpellsBlockStatement, SpellsMember, SpellsMaybeBlock, SpellsConstructorInvocation, SpellsBody, SpellsMembers, SpellsDeclaration, SpellsClass, SpellsInterface, SpellsEnum, SpellsMaybeSign}
use Rattle.je_grammar.specs.Grammar.{primitive_element, class_element, no_label, a_label, no_extends, some_extends, no_implements, some_implements, extends_nothing, extends_all, last_constant, more_constants, no_constants, some_constants, is_literal, is_simple_name, is_this, is_outer_this, is_parens, is_select, is_super_select, is_call, is_call_on, is_super_call, is_index, is_new, is_new_anonymous, is_new_array, is_new_array_of, is_primitive_cast, is_class_cast, is_prefix, is_postfix, is_binary, is_instance_of, is_conditional, is_assign, no_arguments, some_arguments, last_expression, more_expressions, last_length, more_lengths, expression_init, array_init, is_array_init, no_inits, comma_alone, some_inits, last_init, last_init_and_comma, more_inits, last_variable, more_variables, without_init, with_init, nothing, something, last_step, more_steps, no_steps, some_steps, for_locals, for_steps, is_block, is_empty, is_labelled, is_if_only, is_if_else, is_while, is_do, is_for, is_for_each, is_switch, is_break, is_continue, is_return, is_throw, is_try, is_try_finally, is_expression_statement, condition, no_catches, more_catches, no_groups, last_labels, more_groups, last_case, last_default, more_cases, more_defaults, last_statement, more_statements, empty_block, full_block, is_local, is_local_class, is_statement, is_type, is_field, is_method, is_constructor, is_initializer, is_static_initializer, without_body, with_body, no_call, this_call, super_call, is_body, no_members, lone_semicolon, more_members, is_class, is_interface, is_enum, class_declaration, interface_declaration, enum_declaration, no_sign, a_sign}
use Rattle.je_grammar.specs.Grammar.{IsLiteral, int_literal, long_literal, char_literal, text_literal, true_literal, false_literal, null_literal}
use Rattle.parse_laws.specs.way.Place.{kind_nest, nest}
use Rattle.place_laws.specs.way.Ends.{ends}

-- What stands before the rest closes the braces that it opens, which nest so deep at most, and has no file's end.
pub record Level (k : ℕ) (ts rest : List Token) : Type 0 where
  pub outer : (nest ts).1 ≡ (nest rest).1
  pub depth : (nest ts).0 ≤ max (nest rest).0 k
  pub ended : ends ts ≡ ends rest

-- What stands before the rest closes one brace more.
pub record Closed (k : ℕ) (ts rest : List Token) : Type 0 where
  pub outer : (nest ts).1 ≡ (nest rest).0 ∷ (nest rest).1
  pub depth : (nest ts).0 ≤ k
  pub ended : ends ts ≡ ends rest

opened_by : {k d e : ℕ} {outer more : List ℕ} → outer ≡ e ∷ more → d ≤ k → ((kind_nest (kind.Symbol symbol.OpenBrace) d outer).1 ≡ more) × ((kind_nest (kind.Symbol symbol.OpenBrace) d outer).0 ≤ max e (suc k))
opened_by {k} {d} {e} {outer} {more} q le = rw q (refl, omega arith)

pub opened : {k : ℕ} {o : Token} {ts rest : List Token} → IsSymbol symbol.OpenBrace o → Closed k ts rest → Level (suc k) (o ∷ ts) rest
opened it_is c = let a = opened_by c.outer c.depth in record { outer = a.0; depth = a.1; ended = c.ended }

pub then_closed : {j k : ℕ} {ts mid rest : List Token} → Level j ts mid → Closed k mid rest → Closed (max j k) ts rest
then_closed a b = let e1 = a.outer in let l1 = a.depth in let c1 = a.ended in let e2 = b.outer in let l2 = b.depth in let c2 = b.ended in record { outer = cc; depth = omega arith; ended = cc }

closing : {c : Token} {rest : List Token} → IsSymbol symbol.CloseBrace c → Closed 0 (c ∷ rest) rest
closing it_is = record { outer = refl; depth = omega arith; ended = refl }

-- ---- tokens of which the tree tells the kind

literal_level : {texts : List (List ℕ)} {l : Literal} {t : Token} (rest : List Token) → IsLiteral texts l t → Level 0 (t ∷ rest) rest
literal_level rest (int_literal it_is) = record { outer = refl; depth = omega arith; ended = refl }
literal_level rest (long_literal it_is) = record { outer = refl; depth = omega arith; ended = refl }
literal_level rest (char_literal it_is) = record { outer = refl; depth = omega arith; ended = refl }
literal_level rest (text_literal it_is _ _) = record { outer = refl; depth = omega arith; ended = refl }
literal_level rest (true_literal it_is) = record { outer = refl; depth = omega arith; ended = refl }
literal_level rest (false_literal it_is) = record { outer = refl; depth = omega arith; ended = refl }
literal_level rest (null_literal it_is) = record { outer = refl; depth = omega arith; ended = refl }

-- a symbol that is no brace
abbrev no_brace : Symbol → Bool
no_brace symbol.OpenBrace = false
no_brace symbol.CloseBrace = false
no_brace _ = true

symbol_nest : (y : Symbol) (d : ℕ) (outer : List ℕ) → no_brace y ≡ true → kind_nest (kind.Symbol y) d outer ≡ (d, outer)
symbol_nest symbol.OpenBrace d outer e = absurd cc
symbol_nest symbol.CloseBrace d outer e = absurd cc
symbol_nest _ d outer e = refl

symbol_level : (y : Symbol) {t : Token} (rest : List Token) → IsSymbol y t → no_brace y ≡ true → Level 0 (t ∷ rest) rest
symbol_level y rest it_is e = let q = symbol_nest y (nest rest).0 (nest rest).1 e in record { outer = rw q refl; depth = rw q (omega arith); ended = refl }

operator_plain : (o : BinaryOp) → no_brace (operator_symbol o) ≡ true
operator_plain op.Or = refl
operator_plain op.And = refl
operator_plain op.BitOr = refl
operator_plain op.BitXor = refl
operator_plain op.BitAnd = refl
operator_plain op.Equal = refl
operator_plain op.NotEqual = refl
operator_plain op.Less = refl
operator_plain op.Greater = refl
operator_plain op.LessEqual = refl
operator_plain op.GreaterEqual = refl
operator_plain op.ShiftLeft = refl
operator_plain op.ShiftRight = refl
operator_plain op.UnsignedShiftRight = refl
operator_plain op.Add = refl
operator_plain op.Subtract = refl
operator_plain op.Multiply = refl
operator_plain op.Divide = refl
operator_plain op.Remainder = refl

prefix_plain : (o : PrefixOp) → no_brace (prefix_symbol o) ≡ true
prefix_plain prefix_op.Plus = refl
prefix_plain prefix_op.Minus = refl
prefix_plain prefix_op.Increment = refl
prefix_plain prefix_op.Decrement = refl
prefix_plain prefix_op.Not = refl
prefix_plain prefix_op.Tilde = refl

postfix_plain : (o : PostfixOp) → no_brace (postfix_symbol o) ≡ true
postfix_plain postfix_op.Increment = refl
postfix_plain postfix_op.Decrement = refl

assign_plain : (o : Option BinaryOp) → IfSome (assignment_symbol o) (λ y. no_brace y ≡ true)
assign_plain None = refl
assign_plain (Some op.Or) = tt
assign_plain (Some op.And) = tt
assign_plain (Some op.BitOr) = refl
assign_plain (Some op.BitXor) = refl
assign_plain (Some op.BitAnd) = refl
assign_plain (Some op.Equal) = tt
assign_plain (Some op.NotEqual) = tt
assign_plain (Some op.Less) = tt
assign_plain (Some op.Greater) = tt
assign_plain (Some op.LessEqual) = tt
assign_plain (Some op.GreaterEqual) = tt
assign_plain (Some op.ShiftLeft) = refl
assign_plain (Some op.ShiftRight) = refl
assign_plain (Some op.UnsignedShiftRight) = refl
assign_plain (Some op.Add) = refl
assign_plain (Some op.Subtract) = refl
assign_plain (Some op.Multiply) = refl
assign_plain (Some op.Divide) = refl
assign_plain (Some op.Remainder) = refl

operator_level_plain : (o : BinaryOp) {t : Token} (rest : List Token) → IsSymbol (operator_symbol o) t → Level 0 (t ∷ rest) rest
operator_level_plain o rest i = symbol_level (operator_symbol o) rest i (operator_plain o)

prefix_level : (o : PrefixOp) {t : Token} (rest : List Token) → IsSymbol (prefix_symbol o) t → Level 0 (t ∷ rest) rest
prefix_level o rest i = symbol_level (prefix_symbol o) rest i (prefix_plain o)

postfix_level : (o : PostfixOp) {t : Token} (rest : List Token) → IsSymbol (postfix_symbol o) t → Level 0 (t ∷ rest) rest
postfix_level o rest i = symbol_level (postfix_symbol o) rest i (postfix_plain o)

assign_level : (o : Option BinaryOp) {y : Symbol} {t : Token} (rest : List Token) → assignment_symbol o ≡ Some y → IsSymbol y t → Level 0 (t ∷ rest) rest
assign_level o {y} rest q i = symbol_level y rest i (subst (λ r. IfSome r (λ z. no_brace z ≡ true)) q (assign_plain o))

level-Closes : {c : Span} {ts rest : List Token} → Closes c ts rest → Level 0 ts rest
level-Closes (one_closes it_is) = record { outer = refl; depth = omega arith; ended = refl }
level-Closes (first_of_two it_is) = record { outer = refl; depth = omega arith; ended = refl }
level-Closes (first_of_three it_is) = record { outer = refl; depth = omega arith; ended = refl }

sign_level : (y : Symbol) {ts rest : List Token} → no_brace y ≡ true → SpellsMaybeSign y ts rest → Level 0 ts rest
sign_level y e no_sign = record { outer = refl; depth = omega arith; ended = refl }
sign_level y e (a_sign {rest = rest} i) = symbol_level y rest i e

-- ---- trees

pub level-SpellsName : {n : QualifiedName} {ts rest : List Token} → SpellsName n ts rest → Level 0 ts rest
level-SpellsName (simple_name it_is) = record { outer = refl; depth = omega arith; ended = refl }
level-SpellsName (qualified_name it_is it_is d3) = let h1 = level-SpellsName d3 in record { outer = cc; depth = omega arith; ended = cc }

pub level-SpellsNames : {ns : List QualifiedName} {ts rest : List Token} → SpellsNames ns ts rest → Level 0 ts rest
level-SpellsNames (last_name d1) = let h1 = level-SpellsName d1 in record { outer = cc; depth = omega arith; ended = cc }
level-SpellsNames (more_names d1 it_is d3) = let h1 = level-SpellsName d1 in let h2 = level-SpellsNames d3 in record { outer = cc; depth = omega arith; ended = cc }

pub level-SpellsDims : {n : ℕ} {s : Span} {e : Span} {ts rest : List Token} → SpellsDims n s e ts rest → Level 0 ts rest
level-SpellsDims no_dims = record { outer = refl; depth = omega arith; ended = refl }
level-SpellsDims (more_dims it_is it_is d3) = let h1 = level-SpellsDims d3 in record { outer = cc; depth = omega arith; ended = cc }

mutual
  pub level-SpellsTypeName : {t : TypeName} {ts rest : List Token} → SpellsTypeName t ts rest → Level 0 ts rest
  level-SpellsTypeName (primitive_type it_is d2) = let h1 = level-SpellsDims d2 in record { outer = cc; depth = omega arith; ended = cc }
  level-SpellsTypeName (reference_type d1 d2) = let h1 = level-SpellsRef d1 in let h2 = level-SpellsDims d2 in record { outer = cc; depth = omega arith; ended = cc }

  pub level-SpellsRef : {n : QualifiedName} {args : TypeNames} {s : Span} {ts rest : List Token} → SpellsRef n args s ts rest → Level 0 ts rest
  level-SpellsRef (plain_ref d1) = let h1 = level-SpellsName d1 in record { outer = cc; depth = omega arith; ended = cc }
  level-SpellsRef (ref_with_arguments d1 it_is d3) = let h1 = level-SpellsName d1 in let h2 = level-SpellsTypeArguments d3 in record { outer = cc; depth = omega arith; ended = cc }

  pub level-SpellsTypeArguments : {args : TypeNames} {c : Span} {ts rest : List Token} → SpellsTypeArguments args c ts rest → Level 0 ts rest
  level-SpellsTypeArguments (last_argument _ d2 d3) = let h1 = level-SpellsTypeName d2 in let h2 = level-Closes d3 in record { outer = cc; depth = omega arith; ended = cc }
  level-SpellsTypeArguments (more_arguments _ d2 it_is d4) = let h1 = level-SpellsTypeName d2 in let h2 = level-SpellsTypeArguments d4 in record { outer = cc; depth = omega arith; ended = cc }

pub level-SpellsRefs : {is : TypeNames} {ts rest : List Token} → SpellsRefs is ts rest → Level 0 ts rest
level-SpellsRefs (last_ref d1) = let h1 = level-SpellsRef d1 in record { outer = cc; depth = omega arith; ended = cc }
level-SpellsRefs (more_refs d1 it_is d3) = let h1 = level-SpellsRef d1 in let h2 = level-SpellsRefs d3 in record { outer = cc; depth = omega arith; ended = cc }

pub level-SpellsTypeParameter : {p : TypeParameter} {ts rest : List Token} → SpellsTypeParameter p ts rest → Level 0 ts rest
level-SpellsTypeParameter (plain_parameter it_is) = record { outer = refl; depth = omega arith; ended = refl }
level-SpellsTypeParameter (bounded_parameter it_is it_is d3) = let h1 = level-SpellsRef d3 in record { outer = cc; depth = omega arith; ended = cc }

pub level-SpellsMoreTypeParameters : {ps : List TypeParameter} {ts rest : List Token} → SpellsMoreTypeParameters ps ts rest → Level 0 ts rest
level-SpellsMoreTypeParameters (last_parameter d1 d2) = let h1 = level-SpellsTypeParameter d1 in let h2 = level-Closes d2 in record { outer = cc; depth = omega arith; ended = cc }
level-SpellsMoreTypeParameters (more_parameters d1 it_is d3) = let h1 = level-SpellsTypeParameter d1 in let h2 = level-SpellsMoreTypeParameters d3 in record { outer = cc; depth = omega arith; ended = cc }

pub level-SpellsTypeParameters : {ps : List TypeParameter} {ts rest : List Token} → SpellsTypeParameters ps ts rest → Level 0 ts rest
level-SpellsTypeParameters no_parameters = record { outer = refl; depth = omega arith; ended = refl }
level-SpellsTypeParameters (some_parameters it_is d2) = let h1 = level-SpellsMoreTypeParameters d2 in record { outer = cc; depth = omega arith; ended = cc }

pub level-SpellsFinal : {m : Bool} {ts rest : List Token} → SpellsFinal m ts rest → Level 0 ts rest
level-SpellsFinal not_final = record { outer = refl; depth = omega arith; ended = refl }
level-SpellsFinal (is_final it_is) = record { outer = refl; depth = omega arith; ended = refl }

pub level-SpellsFormal : {f : FormalParameter} {ts rest : List Token} → SpellsFormal f ts rest → Level 0 ts rest
level-SpellsFormal (formal d1 d2 it_is d4) = let h1 = level-SpellsFinal d1 in let h2 = level-SpellsTypeName d2 in let h3 = level-SpellsDims d4 in record { outer = cc; depth = omega arith; ended = cc }

pub level-SpellsMoreFormals : {fs : List FormalParameter} {ts rest : List Token} → SpellsMoreFormals fs ts rest → Level 0 ts rest
level-SpellsMoreFormals (last_formal d1 it_is) = let h1 = level-SpellsFormal d1 in record { outer = cc; depth = omega arith; ended = cc }
level-SpellsMoreFormals (more_formals d1 it_is d3) = let h1 = level-SpellsFormal d1 in let h2 = level-SpellsMoreFormals d3 in record { outer = cc; depth = omega arith; ended = cc }

pub level-SpellsFormals : {fs : List FormalParameter} {ts rest : List Token} → SpellsFormals fs ts rest → Level 0 ts rest
level-SpellsFormals (no_formals it_is it_is) = record { outer = refl; depth = omega arith; ended = refl }
level-SpellsFormals (some_formals it_is d2) = let h1 = level-SpellsMoreFormals d2 in record { outer = cc; depth = omega arith; ended = cc }

pub level-SpellsThrows : {ns : List QualifiedName} {ts rest : List Token} → SpellsThrows ns ts rest → Level 0 ts rest
level-SpellsThrows no_throws = record { outer = refl; depth = omega arith; ended = refl }
level-SpellsThrows (some_throws it_is d2) = let h1 = level-SpellsNames d2 in record { outer = cc; depth = omega arith; ended = cc }

pub level-SpellsResult : {r : Option TypeName} {ts rest : List Token} → SpellsResult r ts rest → Level 0 ts rest
level-SpellsResult (void_result it_is) = record { outer = refl; depth = omega arith; ended = refl }
level-SpellsResult (typed_result d1) = let h1 = level-SpellsTypeName d1 in record { outer = cc; depth = omega arith; ended = cc }

pub level-SpellsElement : {t : TypeName} {ts rest : List Token} → SpellsElement t ts rest → Level 0 ts rest
level-SpellsElement (primitive_element it_is) = record { outer = refl; depth = omega arith; ended = refl }
level-SpellsElement (class_element d1) = let h1 = level-SpellsName d1 in record { outer = cc; depth = omega arith; ended = cc }

pub level-SpellsMaybeLabel : {n : Option Identifier} {ts rest : List Token} → SpellsMaybeLabel n ts rest → Level 0 ts rest
level-SpellsMaybeLabel no_label = record { outer = refl; depth = omega arith; ended = refl }
level-SpellsMaybeLabel (a_label it_is) = record { outer = refl; depth = omega arith; ended = refl }

pub level-SpellsExtends : {e : Option TypeName} {ts rest : List Token} → SpellsExtends e ts rest → Level 0 ts rest
level-SpellsExtends no_extends = record { outer = refl; depth = omega arith; ended = refl }
level-SpellsExtends (some_extends it_is d2) = let h1 = level-SpellsRef d2 in record { outer = cc; depth = omega arith; ended = cc }

pub level-SpellsImplements : {is : TypeNames} {ts rest : List Token} → SpellsImplements is ts rest → Level 0 ts rest
level-SpellsImplements no_implements = record { outer = refl; depth = omega arith; ended = refl }
level-SpellsImplements (some_implements it_is d2) = let h1 = level-SpellsRefs d2 in record { outer = cc; depth = omega arith; ended = cc }

pub level-SpellsExtendsAll : {es : TypeNames} {ts rest : List Token} → SpellsExtendsAll es ts rest → Level 0 ts rest
level-SpellsExtendsAll extends_nothing = record { outer = refl; depth = omega arith; ended = refl }
level-SpellsExtendsAll (extends_all it_is d2) = let h1 = level-SpellsRefs d2 in record { outer = cc; depth = omega arith; ended = cc }

pub level-SpellsConstants : {ids : List Identifier} {ts rest : List Token} → SpellsConstants ids ts rest → Level 0 ts rest
level-SpellsConstants (last_constant it_is) = record { outer = refl; depth = omega arith; ended = refl }
level-SpellsConstants (more_constants it_is it_is d3) = let h1 = level-SpellsConstants d3 in record { outer = cc; depth = omega arith; ended = cc }

pub level-SpellsMaybeConstants : {ids : List Identifier} {ts rest : List Token} → SpellsMaybeConstants ids ts rest → Level 0 ts rest
level-SpellsMaybeConstants no_constants = record { outer = refl; depth = omega arith; ended = refl }
level-SpellsMaybeConstants (some_constants d1) = let h1 = level-SpellsConstants d1 in record { outer = cc; depth = omega arith; ended = cc }

pub level-SpellsEnum : {ms : List Modifier} {s : Span} {d : Declaration} {ts rest : List Token} → SpellsEnum ms s d ts rest → Level (declaration_height d) ts rest
level-SpellsEnum (enum_declaration it_is it_is o ids k e c) =
    let inner = then_closed (level-SpellsMaybeConstants ids) (then_closed (sign_level symbol.Comma refl k) (then_closed (sign_level symbol.Semicolon refl e) (closing c))) in
    let h1 = opened o inner in record { outer = cc; depth = omega arith; ended = cc }

module _ (names texts : List (List ℕ)) where
  pub level-SpellsModifier : {m : Modifier} {ts rest : List Token} → SpellsModifier names m ts rest → Level 0 ts rest
  level-SpellsModifier (override_modifier it_is it_is _) = record { outer = refl; depth = omega arith; ended = refl }
  level-SpellsModifier (word_modifier _ it_is) = record { outer = refl; depth = omega arith; ended = refl }

  pub level-SpellsModifiers : {ms : List Modifier} {ts rest : List Token} → SpellsModifiers names ms ts rest → Level 0 ts rest
  level-SpellsModifiers no_modifiers = record { outer = refl; depth = omega arith; ended = refl }
  level-SpellsModifiers (more_modifiers d1 d2) = let h1 = level-SpellsModifier d1 in let h2 = level-SpellsModifiers d2 in record { outer = cc; depth = omega arith; ended = cc }

  mutual
    pub level-Spells : {e : Expression} {ts rest : List Token} → Spells names texts e ts rest → Level (height e) ts rest
    level-Spells (is_literal {rest = rest} i1) = let h1 = literal_level rest i1 in record { outer = cc; depth = omega arith; ended = cc }
    level-Spells (is_simple_name it_is) = record { outer = refl; depth = omega arith; ended = refl }
    level-Spells (is_this it_is) = record { outer = refl; depth = omega arith; ended = refl }
    level-Spells (is_outer_this d1 it_is it_is) = let h1 = level-SpellsName d1 in record { outer = cc; depth = omega arith; ended = cc }
    level-Spells (is_parens _ it_is d3 it_is) = let h1 = level-Spells d3 in record { outer = cc; depth = omega arith; ended = cc }
    level-Spells (is_select _ d2 it_is it_is) = let h1 = level-Spells d2 in record { outer = cc; depth = omega arith; ended = cc }
    level-Spells (is_super_select it_is it_is it_is) = record { outer = refl; depth = omega arith; ended = refl }
    level-Spells (is_call it_is d2) = let h1 = level-SpellsArguments d2 in record { outer = cc; depth = omega arith; ended = cc }
    level-Spells (is_call_on _ d2 it_is it_is d5) = let h1 = level-Spells d2 in let h2 = level-SpellsArguments d5 in record { outer = cc; depth = omega arith; ended = cc }
    level-Spells (is_super_call it_is it_is it_is d4) = let h1 = level-SpellsArguments d4 in record { outer = cc; depth = omega arith; ended = cc }
    level-Spells (is_index _ _ d3 it_is d5 it_is) = let h1 = level-Spells d3 in let h2 = level-Spells d5 in record { outer = cc; depth = omega arith; ended = cc }
    level-Spells (is_new it_is d2 d3) = let h1 = level-SpellsRef d2 in let h2 = level-SpellsArguments d3 in record { outer = cc; depth = omega arith; ended = cc }
    level-Spells (is_new_anonymous it_is d2 d3 d4) = let h1 = level-SpellsRef d2 in let h2 = level-SpellsArguments d3 in let h3 = level-SpellsBody d4 in record { outer = cc; depth = omega arith; ended = cc }
    level-Spells (is_new_array it_is d2 d3 d4) = let h1 = level-SpellsElement d2 in let h2 = level-SpellsLengths d3 in let h3 = level-SpellsDims d4 in record { outer = cc; depth = omega arith; ended = cc }
    level-Spells (is_new_array_of it_is d2 _ d4 d5) = let h1 = level-SpellsElement d2 in let h2 = level-SpellsDims d4 in let h3 = level-SpellsArrayInit d5 in record { outer = cc; depth = omega arith; ended = cc }
    level-Spells (is_primitive_cast _ it_is it_is d4 it_is d6) = let h1 = level-SpellsDims d4 in let h2 = level-Spells d6 in record { outer = cc; depth = omega arith; ended = cc }
    level-Spells (is_class_cast _ it_is d3 d4 it_is d6) = let h1 = level-SpellsName d3 in let h2 = level-SpellsDims d4 in let h3 = level-Spells d6 in record { outer = cc; depth = omega arith; ended = cc }
    level-Spells (is_prefix {op = op} {ts = ts} _ i2 d3) = let h1 = prefix_level op ts i2 in let h2 = level-Spells d3 in record { outer = cc; depth = omega arith; ended = cc }
    level-Spells (is_postfix {op = op} {rest = rest} _ d2 i3) = let h1 = level-Spells d2 in let h2 = postfix_level op rest i3 in record { outer = cc; depth = omega arith; ended = cc }
    level-Spells (is_binary {op = op} {mid = mid} _ _ d3 i4 d5) = let h1 = level-Spells d3 in let h2 = operator_level_plain op mid i4 in let h3 = level-Spells d5 in record { outer = cc; depth = omega arith; ended = cc }
    level-Spells (is_instance_of _ _ d3 it_is d5) = let h1 = level-Spells d3 in let h2 = level-SpellsTypeName d5 in record { outer = cc; depth = omega arith; ended = cc }
    level-Spells (is_conditional _ _ d3 it_is d5 it_is d7) = let h1 = level-Spells d3 in let h2 = level-Spells d5 in let h3 = level-Spells d7 in record { outer = cc; depth = omega arith; ended = cc }
    level-Spells (is_assign {op = op} {mid = mid} _ d2 q3 i4 d5) = let h1 = level-Spells d2 in let h2 = assign_level op mid q3 i4 in let h3 = level-Spells d5 in record { outer = cc; depth = omega arith; ended = cc }

    pub level-SpellsArguments : {es : Expressions} {c : Span} {ts rest : List Token} → SpellsArguments names texts es c ts rest → Level (heights es) ts rest
    level-SpellsArguments (no_arguments it_is it_is) = record { outer = refl; depth = omega arith; ended = refl }
    level-SpellsArguments (some_arguments it_is d2 it_is) = let h1 = level-SpellsList d2 in record { outer = cc; depth = omega arith; ended = cc }

    pub level-SpellsList : {es : Expressions} {ts rest : List Token} → SpellsList names texts es ts rest → Level (heights es) ts rest
    level-SpellsList (last_expression d1) = let h1 = level-Spells d1 in record { outer = cc; depth = omega arith; ended = cc }
    level-SpellsList (more_expressions d1 it_is d3) = let h1 = level-Spells d1 in let h2 = level-SpellsList d3 in record { outer = cc; depth = omega arith; ended = cc }

    pub level-SpellsLengths : {es : Expressions} {s : Span} {ts rest : List Token} → SpellsLengths names texts es s ts rest → Level (heights es) ts rest
    level-SpellsLengths (last_length it_is d2 it_is) = let h1 = level-Spells d2 in record { outer = cc; depth = omega arith; ended = cc }
    level-SpellsLengths (more_lengths it_is d2 it_is d4) = let h1 = level-Spells d2 in let h2 = level-SpellsLengths d4 in record { outer = cc; depth = omega arith; ended = cc }

    pub level-SpellsInit : {e : Expression} {ts rest : List Token} → SpellsInit names texts e ts rest → Level (height e) ts rest
    level-SpellsInit (expression_init d1) = let h1 = level-Spells d1 in record { outer = cc; depth = omega arith; ended = cc }
    level-SpellsInit (array_init d1) = let h1 = level-SpellsArrayInit d1 in record { outer = cc; depth = omega arith; ended = cc }

    pub level-SpellsArrayInit : {e : Expression} {ts rest : List Token} → SpellsArrayInit names texts e ts rest → Level (height e) ts rest
    level-SpellsArrayInit (is_array_init o1 d2) = let h1 = opened o1 (level-SpellsInits d2) in record { outer = cc; depth = omega arith; ended = cc }

    pub level-SpellsInits : {es : Expressions} {c : Span} {ts rest : List Token} → SpellsInits names texts es c ts rest → Closed (heights es) ts rest
    level-SpellsInits (no_inits it_is) = record { outer = refl; depth = omega arith; ended = refl }
    level-SpellsInits (comma_alone it_is it_is) = record { outer = refl; depth = omega arith; ended = refl }
    level-SpellsInits (some_inits d1) = let h1 = level-SpellsMoreInits d1 in record { outer = cc; depth = omega arith; ended = cc }

    pub level-SpellsMoreInits : {es : Expressions} {c : Span} {ts rest : List Token} → SpellsMoreInits names texts es c ts rest → Closed (heights es) ts rest
    level-SpellsMoreInits (last_init d1 it_is) = let h1 = level-SpellsInit d1 in record { outer = cc; depth = omega arith; ended = cc }
    level-SpellsMoreInits (last_init_and_comma d1 it_is it_is) = let h1 = level-SpellsInit d1 in record { outer = cc; depth = omega arith; ended = cc }
    level-SpellsMoreInits (more_inits d1 it_is d3) = let h1 = level-SpellsInit d1 in let h2 = level-SpellsMoreInits d3 in record { outer = cc; depth = omega arith; ended = cc }

    pub level-SpellsVariables : {vs : Variables} {ts rest : List Token} → SpellsVariables names texts vs ts rest → Level (variables_height vs) ts rest
    level-SpellsVariables (last_variable it_is d2 d3) = let h1 = level-SpellsDims d2 in let h2 = level-SpellsMaybeInit d3 in record { outer = cc; depth = omega arith; ended = cc }
    level-SpellsVariables (more_variables it_is d2 d3 it_is d5) = let h1 = level-SpellsDims d2 in let h2 = level-SpellsMaybeInit d3 in let h3 = level-SpellsVariables d5 in record { outer = cc; depth = omega arith; ended = cc }

    pub level-SpellsMaybeInit : {e : MaybeExpression} {ts rest : List Token} → SpellsMaybeInit names texts e ts rest → Level (height_if e) ts rest
    level-SpellsMaybeInit without_init = record { outer = refl; depth = omega arith; ended = refl }
    level-SpellsMaybeInit (with_init it_is d2) = let h1 = level-SpellsInit d2 in record { outer = cc; depth = omega arith; ended = cc }

    pub level-SpellsMaybe : {e : MaybeExpression} {ts rest : List Token} → SpellsMaybe names texts e ts rest → Level (height_if e) ts rest
    level-SpellsMaybe nothing = record { outer = refl; depth = omega arith; ended = refl }
    level-SpellsMaybe (something d1) = let h1 = level-Spells d1 in record { outer = cc; depth = omega arith; ended = cc }

    pub level-SpellsSteps : {es : Expressions} {ts rest : List Token} → SpellsSteps names texts es ts rest → Level (heights es) ts rest
    level-SpellsSteps (last_step _ d2) = let h1 = level-Spells d2 in record { outer = cc; depth = omega arith; ended = cc }
    level-SpellsSteps (more_steps _ d2 it_is d4) = let h1 = level-Spells d2 in let h2 = level-SpellsSteps d4 in record { outer = cc; depth = omega arith; ended = cc }

    pub level-SpellsMaybeSteps : {es : Expressions} {ts rest : List Token} → SpellsMaybeSteps names texts es ts rest → Level (heights es) ts rest
    level-SpellsMaybeSteps no_steps = record { outer = refl; depth = omega arith; ended = refl }
    level-SpellsMaybeSteps (some_steps d1) = let h1 = level-SpellsSteps d1 in record { outer = cc; depth = omega arith; ended = cc }

    pub level-SpellsForInitializer : {i : ForInitializer} {ts rest : List Token} → SpellsForInitializer names texts i ts rest → Level (for_initializer_height i) ts rest
    level-SpellsForInitializer (for_locals d1 d2 d3) = let h1 = level-SpellsFinal d1 in let h2 = level-SpellsTypeName d2 in let h3 = level-SpellsVariables d3 in record { outer = cc; depth = omega arith; ended = cc }
    level-SpellsForInitializer (for_steps d1) = let h1 = level-SpellsMaybeSteps d1 in record { outer = cc; depth = omega arith; ended = cc }

    pub level-SpellsStatement : {b : Statement} {ts rest : List Token} → SpellsStatement names texts b ts rest → Level (statement_height b) ts rest
    level-SpellsStatement (is_block o1 d2) = let h1 = opened o1 (level-SpellsBlock d2) in record { outer = cc; depth = omega arith; ended = cc }
    level-SpellsStatement (is_empty it_is) = record { outer = refl; depth = omega arith; ended = refl }
    level-SpellsStatement (is_labelled it_is it_is d3) = let h1 = level-SpellsStatement d3 in record { outer = cc; depth = omega arith; ended = cc }
    level-SpellsStatement (is_if_only it_is d2 d3) = let h1 = level-SpellsCondition d2 in let h2 = level-SpellsStatement d3 in record { outer = cc; depth = omega arith; ended = cc }
    level-SpellsStatement (is_if_else _ it_is d3 d4 it_is d6) = let h1 = level-SpellsCondition d3 in let h2 = level-SpellsStatement d4 in let h3 = level-SpellsStatement d6 in record { outer = cc; depth = omega arith; ended = cc }
    level-SpellsStatement (is_while it_is d2 d3) = let h1 = level-SpellsCondition d2 in let h2 = level-SpellsStatement d3 in record { outer = cc; depth = omega arith; ended = cc }
    level-SpellsStatement (is_do it_is d2 it_is d4 it_is) = let h1 = level-SpellsStatement d2 in let h2 = level-SpellsCondition d4 in record { outer = cc; depth = omega arith; ended = cc }
    level-SpellsStatement (is_for it_is it_is d3 it_is d5 it_is d7 it_is d9) = let h1 = level-SpellsForInitializer d3 in let h2 = level-SpellsMaybe d5 in let h3 = level-SpellsMaybeSteps d7 in let h4 = level-SpellsStatement d9 in record { outer = cc; depth = omega arith; ended = cc }
    level-SpellsStatement (is_for_each it_is it_is d3 d4 it_is it_is d7 it_is d9) = let h1 = level-SpellsFinal d3 in let h2 = level-SpellsTypeName d4 in let h3 = level-Spells d7 in let h4 = level-SpellsStatement d9 in record { outer = cc; depth = omega arith; ended = cc }
    level-SpellsStatement (is_switch it_is d2 o3 d4) = let h1 = level-SpellsCondition d2 in let h2 = opened o3 (level-SpellsGroups d4) in record { outer = cc; depth = omega arith; ended = cc }
    level-SpellsStatement (is_break it_is d2 it_is) = let h1 = level-SpellsMaybeLabel d2 in record { outer = cc; depth = omega arith; ended = cc }
    level-SpellsStatement (is_continue it_is d2 it_is) = let h1 = level-SpellsMaybeLabel d2 in record { outer = cc; depth = omega arith; ended = cc }
    level-SpellsStatement (is_return it_is d2 it_is) = let h1 = level-SpellsMaybe d2 in record { outer = cc; depth = omega arith; ended = cc }
    level-SpellsStatement (is_throw it_is d2 it_is) = let h1 = level-Spells d2 in record { outer = cc; depth = omega arith; ended = cc }
    level-SpellsStatement (is_try _ it_is o3 d4 d5) = let h1 = opened o3 (level-SpellsBlock d4) in let h2 = level-SpellsCatches d5 in record { outer = cc; depth = omega arith; ended = cc }
    level-SpellsStatement (is_try_finally it_is o2 d3 d4 it_is o6 d7) = let h1 = opened o2 (level-SpellsBlock d3) in let h2 = level-SpellsCatches d4 in let h3 = opened o6 (level-SpellsBlock d7) in record { outer = cc; depth = omega arith; ended = cc }
    level-SpellsStatement (is_expression_statement _ d2 it_is) = let h1 = level-Spells d2 in record { outer = cc; depth = omega arith; ended = cc }

    pub level-SpellsCondition : {e : Expression} {ts rest : List Token} → SpellsCondition names texts e ts rest → Level (height e) ts rest
    level-SpellsCondition (condition it_is d2 it_is) = let h1 = level-Spells d2 in record { outer = cc; depth = omega arith; ended = cc }

    pub level-SpellsCatches : {cs : Catches} {s : Span} {e : Span} {ts rest : List Token} → SpellsCatches names texts cs s e ts rest → Level (catches_height cs) ts rest
    level-SpellsCatches no_catches = record { outer = refl; depth = omega arith; ended = refl }
    level-SpellsCatches (more_catches it_is it_is d3 d4 it_is it_is o7 d8 d9) = let h1 = level-SpellsFinal d3 in let h2 = level-SpellsName d4 in let h3 = opened o7 (level-SpellsBlock d8) in let h4 = level-SpellsCatches d9 in record { outer = cc; depth = omega arith; ended = cc }

    pub level-SpellsGroups : {gs : Groups} {c : Span} {ts rest : List Token} → SpellsGroups names texts gs c ts rest → Closed (groups_height gs) ts rest
    level-SpellsGroups (no_groups it_is) = record { outer = refl; depth = omega arith; ended = refl }
    level-SpellsGroups (last_labels d1 it_is) = let h1 = level-SpellsLabels d1 in record { outer = cc; depth = omega arith; ended = cc }
    level-SpellsGroups (more_groups d1 d2 d3) = let h1 = level-SpellsLabels d1 in let h2 = level-SpellsStatements d2 in let h3 = level-SpellsGroups d3 in record { outer = cc; depth = omega arith; ended = cc }

    pub level-SpellsLabels : {ls : Labels} {ts rest : List Token} → SpellsLabels names texts ls ts rest → Level (labels_height ls) ts rest
    level-SpellsLabels (last_case it_is d2 it_is) = let h1 = level-Spells d2 in record { outer = cc; depth = omega arith; ended = cc }
    level-SpellsLabels (last_default it_is it_is) = record { outer = refl; depth = omega arith; ended = refl }
    level-SpellsLabels (more_cases it_is d2 it_is d4) = let h1 = level-Spells d2 in let h2 = level-SpellsLabels d4 in record { outer = cc; depth = omega arith; ended = cc }
    level-SpellsLabels (more_defaults it_is it_is d3) = let h1 = level-SpellsLabels d3 in record { outer = cc; depth = omega arith; ended = cc }

    pub level-SpellsStatements : {bs : Statements} {ts rest : List Token} → SpellsStatements names texts bs ts rest → Level (statements_height bs) ts rest
    level-SpellsStatements (last_statement d1) = let h1 = level-SpellsBlockStatement d1 in record { outer = cc; depth = omega arith; ended = cc }
    level-SpellsStatements (more_statements d1 d2) = let h1 = level-SpellsBlockStatement d1 in let h2 = level-SpellsStatements d2 in record { outer = cc; depth = omega arith; ended = cc }

    pub level-SpellsBlock : {bs : Statements} {c : Span} {ts rest : List Token} → SpellsBlock names texts bs c ts rest → Closed (statements_height bs) ts rest
    level-SpellsBlock (empty_block it_is) = record { outer = refl; depth = omega arith; ended = refl }
    level-SpellsBlock (full_block d1 it_is) = let h1 = level-SpellsStatements d1 in record { outer = cc; depth = omega arith; ended = cc }

    pub level-SpellsBlockStatement : {b : Statement} {ts rest : List Token} → SpellsBlockStatement names texts b ts rest → Level (statement_height b) ts rest
    level-SpellsBlockStatement (is_local d1 d2 d3 it_is) = let h1 = level-SpellsFinal d1 in let h2 = level-SpellsTypeName d2 in let h3 = level-SpellsVariables d3 in record { outer = cc; depth = omega arith; ended = cc }
    level-SpellsBlockStatement (is_local_class _ d2 d3) = let h1 = level-SpellsModifiers d2 in let h2 = level-SpellsClass d3 in record { outer = cc; depth = omega arith; ended = cc }
    level-SpellsBlockStatement (is_statement d1) = let h1 = level-SpellsStatement d1 in record { outer = cc; depth = omega arith; ended = cc }

    pub level-SpellsMember : {m : Member} {ts rest : List Token} → SpellsMember names texts m ts rest → Level (member_height m) ts rest
    level-SpellsMember (is_type d1) = let h1 = level-SpellsDeclaration d1 in record { outer = cc; depth = omega arith; ended = cc }
    level-SpellsMember (is_field d1 d2 d3 it_is) = let h1 = level-SpellsModifiers d1 in let h2 = level-SpellsTypeName d2 in let h3 = level-SpellsVariables d3 in record { outer = cc; depth = omega arith; ended = cc }
    level-SpellsMember (is_method d1 d2 it_is d4 d5 d6) = let h1 = level-SpellsModifiers d1 in let h2 = level-SpellsResult d2 in let h3 = level-SpellsFormals d4 in let h4 = level-SpellsThrows d5 in let h5 = level-SpellsMaybeBlock d6 in record { outer = cc; depth = omega arith; ended = cc }
    level-SpellsMember (is_constructor d1 it_is d3 d4 o5 d6 d7) = let h1 = level-SpellsModifiers d1 in let h2 = level-SpellsFormals d3 in let h3 = level-SpellsThrows d4 in let h4 = opened o5 (then_closed (level-SpellsConstructorInvocation d6) (level-SpellsBlock d7)) in record { outer = cc; depth = omega arith; ended = cc }
    level-SpellsMember (is_initializer o1 d2) = let h1 = opened o1 (level-SpellsBlock d2) in record { outer = cc; depth = omega arith; ended = cc }
    level-SpellsMember (is_static_initializer it_is o2 d3) = let h1 = opened o2 (level-SpellsBlock d3) in record { outer = cc; depth = omega arith; ended = cc }

    pub level-SpellsMaybeBlock : {b : MaybeBlock} {c : Span} {ts rest : List Token} → SpellsMaybeBlock names texts b c ts rest → Level (block_height_if b) ts rest
    level-SpellsMaybeBlock (without_body it_is) = record { outer = refl; depth = omega arith; ended = refl }
    level-SpellsMaybeBlock (with_body o1 d2) = let h1 = opened o1 (level-SpellsBlock d2) in record { outer = cc; depth = omega arith; ended = cc }

    pub level-SpellsConstructorInvocation : {f : ConstructorInvocation} {ts rest : List Token} → SpellsConstructorInvocation names texts f ts rest → Level (constructor_invocation_height f) ts rest
    level-SpellsConstructorInvocation no_call = record { outer = refl; depth = omega arith; ended = refl }
    level-SpellsConstructorInvocation (this_call it_is d2 it_is) = let h1 = level-SpellsArguments d2 in record { outer = cc; depth = omega arith; ended = cc }
    level-SpellsConstructorInvocation (super_call it_is d2 it_is) = let h1 = level-SpellsArguments d2 in record { outer = cc; depth = omega arith; ended = cc }

    pub level-SpellsBody : {ms : Members} {c : Span} {ts rest : List Token} → SpellsBody names texts ms c ts rest → Level (suc (members_height ms)) ts rest
    level-SpellsBody (is_body o1 d2) = let h1 = opened o1 (level-SpellsMembers d2) in record { outer = cc; depth = omega arith; ended = cc }

    pub level-SpellsMembers : {ms : Members} {c : Span} {ts rest : List Token} → SpellsMembers names texts ms c ts rest → Closed (members_height ms) ts rest
    level-SpellsMembers (no_members it_is) = record { outer = refl; depth = omega arith; ended = refl }
    level-SpellsMembers (lone_semicolon it_is d2) = let h1 = level-SpellsMembers d2 in record { outer = cc; depth = omega arith; ended = cc }
    level-SpellsMembers (more_members d1 d2) = let h1 = level-SpellsMember d1 in let h2 = level-SpellsMembers d2 in record { outer = cc; depth = omega arith; ended = cc }

    pub level-SpellsDeclaration : {d : Declaration} {ts rest : List Token} → SpellsDeclaration names texts d ts rest → Level (declaration_height d) ts rest
    level-SpellsDeclaration (is_class d1 d2) = let h1 = level-SpellsModifiers d1 in let h2 = level-SpellsClass d2 in record { outer = cc; depth = omega arith; ended = cc }
    level-SpellsDeclaration (is_interface d1 d2) = let h1 = level-SpellsModifiers d1 in let h2 = level-SpellsInterface d2 in record { outer = cc; depth = omega arith; ended = cc }
    level-SpellsDeclaration (is_enum d1 d2) = let h1 = level-SpellsModifiers d1 in let h2 = level-SpellsEnum d2 in record { outer = cc; depth = omega arith; ended = cc }

    pub level-SpellsClass : {ms : List Modifier} {s : Span} {d : Declaration} {ts rest : List Token} → SpellsClass names texts ms s d ts rest → Level (declaration_height d) ts rest
    level-SpellsClass (class_declaration it_is it_is d3 d4 d5 d6) = let h1 = level-SpellsTypeParameters d3 in let h2 = level-SpellsExtends d4 in let h3 = level-SpellsImplements d5 in let h4 = level-SpellsBody d6 in record { outer = cc; depth = omega arith; ended = cc }

    pub level-SpellsInterface : {ms : List Modifier} {s : Span} {d : Declaration} {ts rest : List Token} → SpellsInterface names texts ms s d ts rest → Level (declaration_height d) ts rest
    level-SpellsInterface (interface_declaration it_is it_is d3 d4 d5) = let h1 = level-SpellsTypeParameters d3 in let h2 = level-SpellsExtendsAll d4 in let h3 = level-SpellsBody d5 in record { outer = cc; depth = omega arith; ended = cc }
