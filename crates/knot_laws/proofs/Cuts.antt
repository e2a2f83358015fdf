-- What a tree spells is told by its own tokens: they may be cut off from what follows, or followed by other tokens.
use Rattle.std.proofs.Common.{◌≡◌, ℕ, ◌<◌, ◌≤◌, Bool, true, false, ◌&&◌, List, [], ◌∷◌, ◌++◌, length, Option, refl, sym, ap, subst, arith}
use Rattle.je_base.specs.declared.span.Span.{Span}
use Rattle.je_token.specs.declared.symbol.Symbol.{Symbol}
use Rattle.je_token.specs.declared.token.Token.{Token}
use Rattle.je_ast.specs.declared.decl.Modifier.{Modifier}
use Rattle.je_ast.specs.declared.name.Identifier.{Identifier}
use Rattle.je_ast.specs.Types.{QualifiedName, TypeName, TypeNames, TypeParameter, FormalParameter}
use Rattle.je_ast.specs.Trees.{Expression, Expressions, MaybeExpression, Statement, Statements, ForInitializer, Variables, Groups, Labels, Catches, Member, Members, MaybeBlock, ConstructorInvocation, Declaration}
use Rattle.je_ast.specs.Trees as tree
use Rattle.je_ast.specs.Spans.{join}
use Rattle.je_grammar.specs.Tokens.{identifier, first_span, first_of, Closes, one_closes, first_of_two, first_of_three}
use Rattle.je_grammar.specs.Context.{is_name, is_cast_before}
use Rattle.je_grammar.specs.Types.{has_arguments, SpellsName, SpellsNames, SpellsDims, SpellsTypeName, SpellsRef, SpellsTypeArguments, SpellsRefs, SpellsTypeParameter, SpellsMoreTypeParameters, SpellsTypeParameters, SpellsFinal, SpellsFormal, SpellsMoreFormals, SpellsFormals, SpellsThrows, SpellsResult, SpellsModifier, SpellsModifiers}
use Rattle.je_grammar.specs.Types.{simple_name, qualified_name, last_name, more_names, no_dims, more_dims, primitive_type, reference_type, plain_ref, ref_with_arguments, last_argument, more_arguments, last_ref, more_refs, plain_parameter, bounded_parameter, last_parameter, more_parameters, no_parameters, some_parameters, not_final, is_final, formal, last_formal, more_formals, no_formals, some_formals, no_throws, some_throws, void_result, typed_result, override_modifier, word_modifier, no_modifiers, more_modifiers}
use Rattle.je_grammar.specs.Grammar.{SpellsElement, SpellsMaybeLabel, SpellsExtends, SpellsImplements, SpellsExtendsAll, SpellsConstants, SpellsMaybeConstants, SpellsMaybeSign, SpellsEnum, Spells, SpellsArguments, SpellsList, SpellsLengths, SpellsInit, SpellsArrayInit, SpellsInits, SpellsMoreInits, SpellsVariables, SpellsMaybeInit, SpellsMaybe, SpellsSteps, SpellsMaybeSteps, SpellsForInitializer, SpellsStatement, SpellsCondition, SpellsCatches, SpellsGroups, SpellsLabels, SpellsStatements, SpellsBlock, SpellsBlockStatement, SpellsMember, SpellsMaybeBlock, SpellsConstructorInvocation, SpellsBody, SpellsMembers, SpellsDeclaration, SpellsClass, SpellsInterface}
use Rattle.je_grammar.specs.Grammar.{primitive_element, class_element, no_label, a_label, no_extends, some_extends, no_implements, some_implements, extends_nothing, extends_all, last_constant, more_constants, no_constants, some_constants, no_sign, a_sign, enum_declaration, is_literal, is_simple_name, is_this, is_outer_this, is_parens, is_select, is_super_select, is_call, is_call_on, is_super_call, is_index, is_new, is_new_anonymous, is_new_array, is_new_array_of, is_primitive_cast, is_class_cast, is_prefix, is_postfix, is_binary, is_instance_of, is_conditional, is_assign, no_arguments, some_arguments, last_expression, more_expressions, last_length, more_lengths, expression_init, array_init, is_array_init, no_inits, comma_alone, some_inits, last_init, last_init_and_comma, more_inits, last_variable, more_variables, without_init, with_init, nothing, something, last_step, more_steps, no_steps, some_steps, for_locals, for_steps, is_block, is_empty, is_labelled, is_if_only, is_if_else, is_while, is_do, is_for, is_for_each, is_switch, is_break, is_continue, is_return, is_throw, is_try, is_try_finally, is_expression_statement, condition, no_catches, more_catches, no_groups, last_labels, more_groups, last_case, last_default, more_cases, more_defaults, last_statement, more_statements, empty_block, full_block, is_local, is_local_class, is_statement, is_type, is_field, is_method, is_constructor, is_initializer, is_static_initializer, without_body, with_body, no_call, this_call, super_call, is_body, no_members, lone_semicolon, more_members, is_class, is_interface, is_enum, class_declaration, interface_declaration}

abbrev head_of : Token → List Token → Token
head_of t [] = t
head_of t (u ∷ us) = u

abbrev tail_of : List Token → List Token
tail_of [] = []
tail_of (u ∷ us) = us

and_false : (a : Bool) → (a && false) ≡ false
and_false true = refl
and_false false = refl

some-SpellsClass : {names texts : List (List ℕ)} {ms : List Modifier} {s : Span} {d : Declaration} {ts rest : List Token} → SpellsClass names texts ms s d ts rest → 0 < length ts
some-SpellsClass (class_declaration _ _ _ _ _ _) = omega arith

some-SpellsInterface : {names texts : List (List ℕ)} {ms : List Modifier} {s : Span} {d : Declaration} {ts rest : List Token} → SpellsInterface names texts ms s d ts rest → 0 < length ts
some-SpellsInterface (interface_declaration _ _ _ _ _) = omega arith

some-SpellsEnum : {ms : List Modifier} {s : Span} {d : Declaration} {ts rest : List Token} → SpellsEnum ms s d ts rest → 0 < length ts
some-SpellsEnum (enum_declaration _ _ _ _ _ _ _) = omega arith

some-SpellsArguments : {names texts : List (List ℕ)} {es : Expressions} {c : Span} {ts rest : List Token} → SpellsArguments names texts es c ts rest → 0 < length ts
some-SpellsArguments (no_arguments _ _) = omega arith
some-SpellsArguments (some_arguments _ _ _) = omega arith

some-SpellsBody : {names texts : List (List ℕ)} {ms : Members} {c : Span} {ts rest : List Token} → SpellsBody names texts ms c ts rest → 0 < length ts
some-SpellsBody (is_body _ _) = omega arith

some-SpellsVariables : {names texts : List (List ℕ)} {vs : Variables} {ts rest : List Token} → SpellsVariables names texts vs ts rest → 0 < length ts
some-SpellsVariables (last_variable _ _ _) = omega arith
some-SpellsVariables (more_variables _ _ _ _ _) = omega arith

module _ (tail : List Token) where
  -- the tokens of a tree and some behind them, without the tail
  pub record Cut (spells : List Token → List Token → Type 0) (ts r : List Token) : Type 0 where
    pub front : List Token
    pub whole : ts ≡ front ++ tail
    pub kept : length r ≤ length front
    pub spelled : spells front r

  first_same : {ts : List Token} (front : List Token) → ts ≡ front ++ tail → 0 < length front → first_span ts ≡ first_span front
  first_same [] e s = absurd (omega arith)
  first_same (t ∷ us) e s = ap first_span e

  no_cast : (x : Expression) {rest : List Token} (r : List Token) → is_cast_before x rest ≡ false → rest ≡ r ++ tail → is_cast_before x r ≡ false
  no_cast x [] f e = and_false (is_name x)
  no_cast x (t ∷ us) f e = subst (λ (zs : List Token). is_cast_before x zs ≡ false) e f

  cut-Closes : {c : Span} {ts rest : List Token} → Closes c ts rest → (r : List Token) → rest ≡ r ++ tail → 0 < length r → Cut (Closes c) ts r
  cut-Closes (one_closes {t = t} i) r e s = record { front = t ∷ r; whole = ap (λ (zs : List Token). t ∷ zs) e; kept = omega arith; spelled = one_closes i }
  cut-Closes (first_of_two {t = t} i) [] e s = absurd (omega arith)
  cut-Closes (first_of_two {t = t} i) (u ∷ us) e s = record {
    front = t ∷ us;
    whole = ap (λ (zs : List Token). t ∷ tail_of zs) e;
    kept = omega arith;
    spelled = subst (λ v. Closes (first_of t) (t ∷ us) (v ∷ us)) (ap (head_of t) e) (first_of_two i);
  }
  cut-Closes (first_of_three {t = t} i) [] e s = absurd (omega arith)
  cut-Closes (first_of_three {t = t} i) (u ∷ us) e s = record {
    front = t ∷ us;
    whole = ap (λ (zs : List Token). t ∷ tail_of zs) e;
    kept = omega arith;
    spelled = subst (λ v. Closes (first_of t) (t ∷ us) (v ∷ us)) (ap (head_of t) e) (first_of_three i);
  }

  pub cut-SpellsName : {n : QualifiedName} {ts rest : List Token} → SpellsName n ts rest → (r : List Token) → rest ≡ r ++ tail → Cut (SpellsName n) ts r
  cut-SpellsName (simple_name {t = t} p1) r e = record { front = t ∷ r; whole = ap (λ (zs : List Token). t ∷ zs) e; kept = omega arith; spelled = simple_name p1 }
  cut-SpellsName (qualified_name {t = t} {d = d} p1 p2 d3) r e = let x3 = cut-SpellsName d3 r e in record { front = t ∷ d ∷ x3.front; whole = ap (λ (zs : List Token). t ∷ d ∷ zs) x3.whole; kept = omega arith; spelled = qualified_name p1 p2 x3.spelled }

  pub cut-SpellsNames : {ns : List QualifiedName} {ts rest : List Token} → SpellsNames ns ts rest → (r : List Token) → rest ≡ r ++ tail → Cut (SpellsNames ns) ts r
  cut-SpellsNames (last_name d1) r e = let x1 = cut-SpellsName d1 r e in record { front = x1.front; whole = x1.whole; kept = omega arith; spelled = last_name x1.spelled }
  cut-SpellsNames (more_names {k = k} d1 p2 d3) r e = let x3 = cut-SpellsNames d3 r e in let x1 = cut-SpellsName d1 (k ∷ x3.front) (ap (λ (zs : List Token). k ∷ zs) x3.whole) in record { front = x1.front; whole = x1.whole; kept = omega arith; spelled = more_names x1.spelled p2 x3.spelled }

  pub cut-SpellsDims : {n : ℕ} {s : Span} {e : Span} {ts rest : List Token} → SpellsDims n s e ts rest → (r : List Token) → rest ≡ r ++ tail → Cut (SpellsDims n s e) ts r
  cut-SpellsDims no_dims r e = record { front = r; whole = e; kept = omega arith; spelled = no_dims }
  cut-SpellsDims (more_dims {o = o} {c = c} p1 p2 d3) r e = let x3 = cut-SpellsDims d3 r e in record { front = o ∷ c ∷ x3.front; whole = ap (λ (zs : List Token). o ∷ c ∷ zs) x3.whole; kept = omega arith; spelled = more_dims p1 p2 x3.spelled }

  mutual
    pub cut-SpellsTypeName : {t : TypeName} {ts rest : List Token} → SpellsTypeName t ts rest → (r : List Token) → rest ≡ r ++ tail → 0 < length r → Cut (SpellsTypeName t) ts r
    cut-SpellsTypeName (primitive_type {t = t} p1 d2) r e s = let x2 = cut-SpellsDims d2 r e in record { front = t ∷ x2.front; whole = ap (λ (zs : List Token). t ∷ zs) x2.whole; kept = omega arith; spelled = primitive_type p1 x2.spelled }
    cut-SpellsTypeName (reference_type d1 d2) r e s = let x2 = cut-SpellsDims d2 r e in let x1 = cut-SpellsRef d1 x2.front x2.whole (omega arith) in record { front = x1.front; whole = x1.whole; kept = omega arith; spelled = reference_type x1.spelled x2.spelled }

    pub cut-SpellsRef : {n : QualifiedName} {args : TypeNames} {s : Span} {ts rest : List Token} → SpellsRef n args s ts rest → (r : List Token) → rest ≡ r ++ tail → 0 < length r → Cut (SpellsRef n args s) ts r
    cut-SpellsRef (plain_ref d1) r e s = let x1 = cut-SpellsName d1 r e in record { front = x1.front; whole = x1.whole; kept = omega arith; spelled = plain_ref x1.spelled }
    cut-SpellsRef (ref_with_arguments {o = o} d1 p2 d3) r e s = let x3 = cut-SpellsTypeArguments d3 r e (omega arith) in let x1 = cut-SpellsName d1 (o ∷ x3.front) (ap (λ (zs : List Token). o ∷ zs) x3.whole) in record { front = x1.front; whole = x1.whole; kept = omega arith; spelled = ref_with_arguments x1.spelled p2 x3.spelled }

    pub cut-SpellsTypeArguments : {args : TypeNames} {c : Span} {ts rest : List Token} → SpellsTypeArguments args c ts rest → (r : List Token) → rest ≡ r ++ tail → 0 < length r → Cut (SpellsTypeArguments args c) ts r
    cut-SpellsTypeArguments (last_argument p1 d2 d3) r e s = let x3 = cut-Closes d3 r e (omega arith) in let x2 = cut-SpellsTypeName d2 x3.front x3.whole (omega arith) in record { front = x2.front; whole = x2.whole; kept = omega arith; spelled = last_argument p1 x2.spelled x3.spelled }
    cut-SpellsTypeArguments (more_arguments {k = k} p1 d2 p3 d4) r e s = let x4 = cut-SpellsTypeArguments d4 r e (omega arith) in let x2 = cut-SpellsTypeName d2 (k ∷ x4.front) (ap (λ (zs : List Token). k ∷ zs) x4.whole) (omega arith) in record { front = x2.front; whole = x2.whole; kept = omega arith; spelled = more_arguments p1 x2.spelled p3 x4.spelled }

  -- a type without type arguments, whatever is cut off
  cut-plain : {t : TypeName} {ts rest : List Token} → SpellsTypeName t ts rest → has_arguments t ≡ false → (r : List Token) → rest ≡ r ++ tail → Cut (SpellsTypeName t) ts r
  cut-plain (primitive_type {t = t} p1 d2) f r e = let x2 = cut-SpellsDims d2 r e in record { front = t ∷ x2.front; whole = ap (λ (zs : List Token). t ∷ zs) x2.whole; kept = omega arith; spelled = primitive_type p1 x2.spelled }
  cut-plain (reference_type (plain_ref d1) d2) f r e = let x2 = cut-SpellsDims d2 r e in let x1 = cut-SpellsName d1 x2.front x2.whole in record { front = x1.front; whole = x1.whole; kept = omega arith; spelled = reference_type (plain_ref x1.spelled) x2.spelled }
  cut-plain (reference_type (ref_with_arguments d1 o (last_argument _ _ _)) d2) f r e = absurd cc
  cut-plain (reference_type (ref_with_arguments d1 o (more_arguments _ _ _ _)) d2) f r e = absurd cc

  pub cut-SpellsRefs : {is : TypeNames} {ts rest : List Token} → SpellsRefs is ts rest → (r : List Token) → rest ≡ r ++ tail → 0 < length r → Cut (SpellsRefs is) ts r
  cut-SpellsRefs (last_ref d1) r e s = let x1 = cut-SpellsRef d1 r e (omega arith) in record { front = x1.front; whole = x1.whole; kept = omega arith; spelled = last_ref x1.spelled }
  cut-SpellsRefs (more_refs {k = k} d1 p2 d3) r e s = let x3 = cut-SpellsRefs d3 r e (omega arith) in let x1 = cut-SpellsRef d1 (k ∷ x3.front) (ap (λ (zs : List Token). k ∷ zs) x3.whole) (omega arith) in record { front = x1.front; whole = x1.whole; kept = omega arith; spelled = more_refs x1.spelled p2 x3.spelled }

  pub cut-SpellsTypeParameter : {p : TypeParameter} {ts rest : List Token} → SpellsTypeParameter p ts rest → (r : List Token) → rest ≡ r ++ tail → 0 < length r → Cut (SpellsTypeParameter p) ts r
  cut-SpellsTypeParameter (plain_parameter {t = t} p1) r e s = record { front = t ∷ r; whole = ap (λ (zs : List Token). t ∷ zs) e; kept = omega arith; spelled = plain_parameter p1 }
  cut-SpellsTypeParameter (bounded_parameter {t = t} {w = w} p1 p2 d3) r e s = let x3 = cut-SpellsRef d3 r e (omega arith) in record { front = t ∷ w ∷ x3.front; whole = ap (λ (zs : List Token). t ∷ w ∷ zs) x3.whole; kept = omega arith; spelled = bounded_parameter p1 p2 x3.spelled }

  pub cut-SpellsMoreTypeParameters : {ps : List TypeParameter} {ts rest : List Token} → SpellsMoreTypeParameters ps ts rest → (r : List Token) → rest ≡ r ++ tail → 0 < length r → Cut (SpellsMoreTypeParameters ps) ts r
  cut-SpellsMoreTypeParameters (last_parameter d1 d2) r e s = let x2 = cut-Closes d2 r e (omega arith) in let x1 = cut-SpellsTypeParameter d1 x2.front x2.whole (omega arith) in record { front = x1.front; whole = x1.whole; kept = omega arith; spelled = last_parameter x1.spelled x2.spelled }
  cut-SpellsMoreTypeParameters (more_parameters {k = k} d1 p2 d3) r e s = let x3 = cut-SpellsMoreTypeParameters d3 r e (omega arith) in let x1 = cut-SpellsTypeParameter d1 (k ∷ x3.front) (ap (λ (zs : List Token). k ∷ zs) x3.whole) (omega arith) in record { front = x1.front; whole = x1.whole; kept = omega arith; spelled = more_parameters x1.spelled p2 x3.spelled }

  pub cut-SpellsTypeParameters : {ps : List TypeParameter} {ts rest : List Token} → SpellsTypeParameters ps ts rest → (r : List Token) → rest ≡ r ++ tail → 0 < length r → Cut (SpellsTypeParameters ps) ts r
  cut-SpellsTypeParameters no_parameters r e s = record { front = r; whole = e; kept = omega arith; spelled = no_parameters }
  cut-SpellsTypeParameters (some_parameters {o = o} p1 d2) r e s = let x2 = cut-SpellsMoreTypeParameters d2 r e (omega arith) in record { front = o ∷ x2.front; whole = ap (λ (zs : List Token). o ∷ zs) x2.whole; kept = omega arith; spelled = some_parameters p1 x2.spelled }

  pub cut-SpellsFinal : {m : Bool} {ts rest : List Token} → SpellsFinal m ts rest → (r : List Token) → rest ≡ r ++ tail → Cut (SpellsFinal m) ts r
  cut-SpellsFinal not_final r e = record { front = r; whole = e; kept = omega arith; spelled = not_final }
  cut-SpellsFinal (is_final {w = w} p1) r e = record { front = w ∷ r; whole = ap (λ (zs : List Token). w ∷ zs) e; kept = omega arith; spelled = is_final p1 }

  pub cut-SpellsFormal : {f : FormalParameter} {ts rest : List Token} → SpellsFormal f ts rest → (r : List Token) → rest ≡ r ++ tail → Cut (SpellsFormal f) ts r
  cut-SpellsFormal (formal {t = t} d1 d2 p3 d4) r e = let x4 = cut-SpellsDims d4 r e in let x2 = cut-SpellsTypeName d2 (t ∷ x4.front) (ap (λ (zs : List Token). t ∷ zs) x4.whole) (omega arith) in let x1 = cut-SpellsFinal d1 x2.front x2.whole in record { front = x1.front; whole = x1.whole; kept = omega arith; spelled = formal x1.spelled x2.spelled p3 x4.spelled }

  pub cut-SpellsMoreFormals : {fs : List FormalParameter} {ts rest : List Token} → SpellsMoreFormals fs ts rest → (r : List Token) → rest ≡ r ++ tail → Cut (SpellsMoreFormals fs) ts r
  cut-SpellsMoreFormals (last_formal {c = c} d1 p2) r e = let x1 = cut-SpellsFormal d1 (c ∷ r) (ap (λ (zs : List Token). c ∷ zs) e) in record { front = x1.front; whole = x1.whole; kept = omega arith; spelled = last_formal x1.spelled p2 }
  cut-SpellsMoreFormals (more_formals {k = k} d1 p2 d3) r e = let x3 = cut-SpellsMoreFormals d3 r e in let x1 = cut-SpellsFormal d1 (k ∷ x3.front) (ap (λ (zs : List Token). k ∷ zs) x3.whole) in record { front = x1.front; whole = x1.whole; kept = omega arith; spelled = more_formals x1.spelled p2 x3.spelled }

  pub cut-SpellsFormals : {fs : List FormalParameter} {ts rest : List Token} → SpellsFormals fs ts rest → (r : List Token) → rest ≡ r ++ tail → Cut (SpellsFormals fs) ts r
  cut-SpellsFormals (no_formals {o = o} {c = c} p1 p2) r e = record { front = o ∷ c ∷ r; whole = ap (λ (zs : List Token). o ∷ c ∷ zs) e; kept = omega arith; spelled = no_formals p1 p2 }
  cut-SpellsFormals (some_formals {o = o} p1 d2) r e = let x2 = cut-SpellsMoreFormals d2 r e in record { front = o ∷ x2.front; whole = ap (λ (zs : List Token). o ∷ zs) x2.whole; kept = omega arith; spelled = some_formals p1 x2.spelled }

  pub cut-SpellsThrows : {ns : List QualifiedName} {ts rest : List Token} → SpellsThrows ns ts rest → (r : List Token) → rest ≡ r ++ tail → Cut (SpellsThrows ns) ts r
  cut-SpellsThrows no_throws r e = record { front = r; whole = e; kept = omega arith; spelled = no_throws }
  cut-SpellsThrows (some_throws {w = w} p1 d2) r e = let x2 = cut-SpellsNames d2 r e in record { front = w ∷ x2.front; whole = ap (λ (zs : List Token). w ∷ zs) x2.whole; kept = omega arith; spelled = some_throws p1 x2.spelled }

  pub cut-SpellsResult : {ty : Option TypeName} {ts rest : List Token} → SpellsResult ty ts rest → (r : List Token) → rest ≡ r ++ tail → 0 < length r → Cut (SpellsResult ty) ts r
  cut-SpellsResult (void_result {w = w} p1) r e s = record { front = w ∷ r; whole = ap (λ (zs : List Token). w ∷ zs) e; kept = omega arith; spelled = void_result p1 }
  cut-SpellsResult (typed_result d1) r e s = let x1 = cut-SpellsTypeName d1 r e (omega arith) in record { front = x1.front; whole = x1.whole; kept = omega arith; spelled = typed_result x1.spelled }

  pub cut-SpellsElement : {t : TypeName} {ts rest : List Token} → SpellsElement t ts rest → (r : List Token) → rest ≡ r ++ tail → Cut (SpellsElement t) ts r
  cut-SpellsElement (primitive_element {t = t} p1) r e = record { front = t ∷ r; whole = ap (λ (zs : List Token). t ∷ zs) e; kept = omega arith; spelled = primitive_element p1 }
  cut-SpellsElement (class_element d1) r e = let x1 = cut-SpellsName d1 r e in record { front = x1.front; whole = x1.whole; kept = omega arith; spelled = class_element x1.spelled }

  pub cut-SpellsMaybeLabel : {n : Option Identifier} {ts rest : List Token} → SpellsMaybeLabel n ts rest → (r : List Token) → rest ≡ r ++ tail → Cut (SpellsMaybeLabel n) ts r
  cut-SpellsMaybeLabel no_label r e = record { front = r; whole = e; kept = omega arith; spelled = no_label }
  cut-SpellsMaybeLabel (a_label {t = t} p1) r e = record { front = t ∷ r; whole = ap (λ (zs : List Token). t ∷ zs) e; kept = omega arith; spelled = a_label p1 }

  pub cut-SpellsExtends : {e : Option TypeName} {ts rest : List Token} → SpellsExtends e ts rest → (r : List Token) → rest ≡ r ++ tail → 0 < length r → Cut (SpellsExtends e) ts r
  cut-SpellsExtends no_extends r e s = record { front = r; whole = e; kept = omega arith; spelled = no_extends }
  cut-SpellsExtends (some_extends {w = w} p1 d2) r e s = let x2 = cut-SpellsRef d2 r e (omega arith) in record { front = w ∷ x2.front; whole = ap (λ (zs : List Token). w ∷ zs) x2.whole; kept = omega arith; spelled = some_extends p1 x2.spelled }

  pub cut-SpellsImplements : {is : TypeNames} {ts rest : List Token} → SpellsImplements is ts rest → (r : List Token) → rest ≡ r ++ tail → 0 < length r → Cut (SpellsImplements is) ts r
  cut-SpellsImplements no_implements r e s = record { front = r; whole = e; kept = omega arith; spelled = no_implements }
  cut-SpellsImplements (some_implements {w = w} p1 d2) r e s = let x2 = cut-SpellsRefs d2 r e (omega arith) in record { front = w ∷ x2.front; whole = ap (λ (zs : List Token). w ∷ zs) x2.whole; kept = omega arith; spelled = some_implements p1 x2.spelled }

  pub cut-SpellsExtendsAll : {es : TypeNames} {ts rest : List Token} → SpellsExtendsAll es ts rest → (r : List Token) → rest ≡ r ++ tail → 0 < length r → Cut (SpellsExtendsAll es) ts r
  cut-SpellsExtendsAll extends_nothing r e s = record { front = r; whole = e; kept = omega arith; spelled = extends_nothing }
  cut-SpellsExtendsAll (extends_all {w = w} p1 d2) r e s = let x2 = cut-SpellsRefs d2 r e (omega arith) in record { front = w ∷ x2.front; whole = ap (λ (zs : List Token). w ∷ zs) x2.whole; kept = omega arith; spelled = extends_all p1 x2.spelled }

  pub cut-SpellsConstants : {ids : List Identifier} {ts rest : List Token} → SpellsConstants ids ts rest → (r : List Token) → rest ≡ r ++ tail → Cut (SpellsConstants ids) ts r
  cut-SpellsConstants (last_constant {t = t} p1) r e = record { front = t ∷ r; whole = ap (λ (zs : List Token). t ∷ zs) e; kept = omega arith; spelled = last_constant p1 }
  cut-SpellsConstants (more_constants {t = t} {k = k} p1 p2 d3) r e = let x3 = cut-SpellsConstants d3 r e in record { front = t ∷ k ∷ x3.front; whole = ap (λ (zs : List Token). t ∷ k ∷ zs) x3.whole; kept = omega arith; spelled = more_constants p1 p2 x3.spelled }

  pub cut-SpellsMaybeConstants : {ids : List Identifier} {ts rest : List Token} → SpellsMaybeConstants ids ts rest → (r : List Token) → rest ≡ r ++ tail → Cut (SpellsMaybeConstants ids) ts r
  cut-SpellsMaybeConstants no_constants r e = record { front = r; whole = e; kept = omega arith; spelled = no_constants }
  cut-SpellsMaybeConstants (some_constants d1) r e = let x1 = cut-SpellsConstants d1 r e in record { front = x1.front; whole = x1.whole; kept = omega arith; spelled = some_constants x1.spelled }

  pub cut-SpellsMaybeSign : {y : Symbol} {ts rest : List Token} → SpellsMaybeSign y ts rest → (r : List Token) → rest ≡ r ++ tail → Cut (SpellsMaybeSign y) ts r
  cut-SpellsMaybeSign no_sign r e = record { front = r; whole = e; kept = omega arith; spelled = no_sign }
  cut-SpellsMaybeSign (a_sign {t = t} p1) r e = record { front = t ∷ r; whole = ap (λ (zs : List Token). t ∷ zs) e; kept = omega arith; spelled = a_sign p1 }

  pub cut-SpellsEnum : {ms : List Modifier} {s : Span} {d : Declaration} {ts rest : List Token} → SpellsEnum ms s d ts rest → (r : List Token) → rest ≡ r ++ tail → Cut (SpellsEnum ms s d) ts r
  cut-SpellsEnum (enum_declaration {w = w} {t = t} {o = o} {c = c} p1 p2 p3 d4 d5 d6 p7) r e = let x6 = cut-SpellsMaybeSign d6 (c ∷ r) (ap (λ (zs : List Token). c ∷ zs) e) in let x5 = cut-SpellsMaybeSign d5 x6.front x6.whole in let x4 = cut-SpellsMaybeConstants d4 x5.front x5.whole in record { front = w ∷ t ∷ o ∷ x4.front; whole = ap (λ (zs : List Token). w ∷ t ∷ o ∷ zs) x4.whole; kept = omega arith; spelled = enum_declaration p1 p2 p3 x4.spelled x5.spelled x6.spelled p7 }

  module _ (names texts : List (List ℕ)) where
    pub cut-SpellsModifier : {m : Modifier} {ts rest : List Token} → SpellsModifier names m ts rest → (r : List Token) → rest ≡ r ++ tail → Cut (SpellsModifier names m) ts r
    cut-SpellsModifier (override_modifier {a = a} {t = t} p1 p2 p3) r e = record { front = a ∷ t ∷ r; whole = ap (λ (zs : List Token). a ∷ t ∷ zs) e; kept = omega arith; spelled = override_modifier p1 p2 p3 }
    cut-SpellsModifier (word_modifier {w = w} p1 p2) r e = record { front = w ∷ r; whole = ap (λ (zs : List Token). w ∷ zs) e; kept = omega arith; spelled = word_modifier p1 p2 }

    pub cut-SpellsModifiers : {ms : List Modifier} {ts rest : List Token} → SpellsModifiers names ms ts rest → (r : List Token) → rest ≡ r ++ tail → Cut (SpellsModifiers names ms) ts r
    cut-SpellsModifiers no_modifiers r e = record { front = r; whole = e; kept = omega arith; spelled = no_modifiers }
    cut-SpellsModifiers (more_modifiers d1 d2) r e = let x2 = cut-SpellsModifiers d2 r e in let x1 = cut-SpellsModifier d1 x2.front x2.whole in record { front = x1.front; whole = x1.whole; kept = omega arith; spelled = more_modifiers x1.spelled x2.spelled }

    mutual
      pub cut-Spells : {e : Expression} {ts rest : List Token} → Spells names texts e ts rest → (r : List Token) → rest ≡ r ++ tail → Cut (Spells names texts e) ts r
      cut-Spells (is_literal {t = t} p1) r e = record { front = t ∷ r; whole = ap (λ (zs : List Token). t ∷ zs) e; kept = omega arith; spelled = is_literal p1 }
      cut-Spells (is_simple_name {t = t} p1) r e = record { front = t ∷ r; whole = ap (λ (zs : List Token). t ∷ zs) e; kept = omega arith; spelled = is_simple_name p1 }
      cut-Spells (is_this {t = t} p1) r e = record { front = t ∷ r; whole = ap (λ (zs : List Token). t ∷ zs) e; kept = omega arith; spelled = is_this p1 }
      cut-Spells (is_outer_this {d = d} {t = t} d1 p2 p3) r e = let x1 = cut-SpellsName d1 (d ∷ t ∷ r) (ap (λ (zs : List Token). d ∷ t ∷ zs) e) in record { front = x1.front; whole = x1.whole; kept = omega arith; spelled = is_outer_this x1.spelled p2 p3 }
      cut-Spells (is_parens {e = x} {o = o} {c = c} p1 p2 d3 p4) r e = let x3 = cut-Spells d3 (c ∷ r) (ap (λ (zs : List Token). c ∷ zs) e) in record { front = o ∷ x3.front; whole = ap (λ (zs : List Token). o ∷ zs) x3.whole; kept = omega arith; spelled = is_parens (no_cast x r p1 e) p2 x3.spelled p4 }
      cut-Spells (is_select {d = d} {t = t} p1 d2 p3 p4) r e = let x2 = cut-Spells d2 (d ∷ t ∷ r) (ap (λ (zs : List Token). d ∷ t ∷ zs) e) in record { front = x2.front; whole = x2.whole; kept = omega arith; spelled = is_select p1 x2.spelled p3 p4 }
      cut-Spells (is_super_select {w = w} {d = d} {t = t} p1 p2 p3) r e = record { front = w ∷ d ∷ t ∷ r; whole = ap (λ (zs : List Token). w ∷ d ∷ t ∷ zs) e; kept = omega arith; spelled = is_super_select p1 p2 p3 }
      cut-Spells (is_call {t = t} p1 d2) r e = let x2 = cut-SpellsArguments d2 r e in let y2 = some-SpellsArguments x2.spelled in record { front = t ∷ x2.front; whole = ap (λ (zs : List Token). t ∷ zs) x2.whole; kept = omega arith; spelled = is_call p1 x2.spelled }
      cut-Spells (is_call_on {d = d} {t = t} p1 d2 p3 p4 d5) r e = let x5 = cut-SpellsArguments d5 r e in let y5 = some-SpellsArguments x5.spelled in let x2 = cut-Spells d2 (d ∷ t ∷ x5.front) (ap (λ (zs : List Token). d ∷ t ∷ zs) x5.whole) in record { front = x2.front; whole = x2.whole; kept = omega arith; spelled = is_call_on p1 x2.spelled p3 p4 x5.spelled }
      cut-Spells (is_super_call {w = w} {d = d} {t = t} p1 p2 p3 d4) r e = let x4 = cut-SpellsArguments d4 r e in let y4 = some-SpellsArguments x4.spelled in record { front = w ∷ d ∷ t ∷ x4.front; whole = ap (λ (zs : List Token). w ∷ d ∷ t ∷ zs) x4.whole; kept = omega arith; spelled = is_super_call p1 p2 p3 x4.spelled }
      cut-Spells (is_index {o = o} {c = c} p1 p2 d3 p4 d5 p6) r e = let x5 = cut-Spells d5 (c ∷ r) (ap (λ (zs : List Token). c ∷ zs) e) in let x3 = cut-Spells d3 (o ∷ x5.front) (ap (λ (zs : List Token). o ∷ zs) x5.whole) in record { front = x3.front; whole = x3.whole; kept = omega arith; spelled = is_index p1 p2 x3.spelled p4 x5.spelled p6 }
      cut-Spells (is_new {w = w} p1 d2 d3) r e = let x3 = cut-SpellsArguments d3 r e in let y3 = some-SpellsArguments x3.spelled in let x2 = cut-SpellsRef d2 x3.front x3.whole (omega arith) in record { front = w ∷ x2.front; whole = ap (λ (zs : List Token). w ∷ zs) x2.whole; kept = omega arith; spelled = is_new p1 x2.spelled x3.spelled }
      cut-Spells (is_new_anonymous {w = w} p1 d2 d3 d4) r e = let x4 = cut-SpellsBody d4 r e in let y4 = some-SpellsBody x4.spelled in let x3 = cut-SpellsArguments d3 x4.front x4.whole in let y3 = some-SpellsArguments x3.spelled in let x2 = cut-SpellsRef d2 x3.front x3.whole (omega arith) in record { front = w ∷ x2.front; whole = ap (λ (zs : List Token). w ∷ zs) x2.whole; kept = omega arith; spelled = is_new_anonymous p1 x2.spelled x3.spelled x4.spelled }
      cut-Spells (is_new_array {w = w} p1 d2 d3 d4) r e = let x4 = cut-SpellsDims d4 r e in let x3 = cut-SpellsLengths d3 x4.front x4.whole in let x2 = cut-SpellsElement d2 x3.front x3.whole in record { front = w ∷ x2.front; whole = ap (λ (zs : List Token). w ∷ zs) x2.whole; kept = omega arith; spelled = is_new_array p1 x2.spelled x3.spelled x4.spelled }
      cut-Spells (is_new_array_of {w = w} p1 d2 p3 d4 d5) r e = let x5 = cut-SpellsArrayInit d5 r e in let x4 = cut-SpellsDims d4 x5.front x5.whole in let x2 = cut-SpellsElement d2 x4.front x4.whole in record { front = w ∷ x2.front; whole = ap (λ (zs : List Token). w ∷ zs) x2.whole; kept = omega arith; spelled = is_new_array_of p1 x2.spelled p3 x4.spelled x5.spelled }
      cut-Spells (is_primitive_cast {o = o} {t = t} {c = c} p1 p2 p3 d4 p5 d6) r e = let x6 = cut-Spells d6 r e in let x4 = cut-SpellsDims d4 (c ∷ x6.front) (ap (λ (zs : List Token). c ∷ zs) x6.whole) in record { front = o ∷ t ∷ x4.front; whole = ap (λ (zs : List Token). o ∷ t ∷ zs) x4.whole; kept = omega arith; spelled = is_primitive_cast p1 p2 p3 x4.spelled p5 x6.spelled }
      cut-Spells (is_class_cast {o = o} {c = c} p1 p2 d3 d4 p5 d6) r e = let x6 = cut-Spells d6 r e in let x4 = cut-SpellsDims d4 (c ∷ x6.front) (ap (λ (zs : List Token). c ∷ zs) x6.whole) in let x3 = cut-SpellsName d3 x4.front x4.whole in record { front = o ∷ x3.front; whole = ap (λ (zs : List Token). o ∷ zs) x3.whole; kept = omega arith; spelled = is_class_cast p1 p2 x3.spelled x4.spelled p5 x6.spelled }
      cut-Spells (is_prefix {a = a} p1 p2 d3) r e = let x3 = cut-Spells d3 r e in record { front = a ∷ x3.front; whole = ap (λ (zs : List Token). a ∷ zs) x3.whole; kept = omega arith; spelled = is_prefix p1 p2 x3.spelled }
      cut-Spells (is_postfix {a = a} p1 d2 p3) r e = let x2 = cut-Spells d2 (a ∷ r) (ap (λ (zs : List Token). a ∷ zs) e) in record { front = x2.front; whole = x2.whole; kept = omega arith; spelled = is_postfix p1 x2.spelled p3 }
      cut-Spells (is_binary {a = a} p1 p2 d3 p4 d5) r e = let x5 = cut-Spells d5 r e in let x3 = cut-Spells d3 (a ∷ x5.front) (ap (λ (zs : List Token). a ∷ zs) x5.whole) in record { front = x3.front; whole = x3.whole; kept = omega arith; spelled = is_binary p1 p2 x3.spelled p4 x5.spelled }
      cut-Spells (is_instance_of {w = w} p1 p2 d3 p4 d5) r e = let x5 = cut-plain d5 p2 r e in let x3 = cut-Spells d3 (w ∷ x5.front) (ap (λ (zs : List Token). w ∷ zs) x5.whole) in record { front = x3.front; whole = x3.whole; kept = omega arith; spelled = is_instance_of p1 p2 x3.spelled p4 x5.spelled }
      cut-Spells (is_conditional {q = q} {k = k} p1 p2 d3 p4 d5 p6 d7) r e = let x7 = cut-Spells d7 r e in let x5 = cut-Spells d5 (k ∷ x7.front) (ap (λ (zs : List Token). k ∷ zs) x7.whole) in let x3 = cut-Spells d3 (q ∷ x5.front) (ap (λ (zs : List Token). q ∷ zs) x5.whole) in record { front = x3.front; whole = x3.whole; kept = omega arith; spelled = is_conditional p1 p2 x3.spelled p4 x5.spelled p6 x7.spelled }
      cut-Spells (is_assign {a = a} p1 d2 p3 p4 d5) r e = let x5 = cut-Spells d5 r e in let x2 = cut-Spells d2 (a ∷ x5.front) (ap (λ (zs : List Token). a ∷ zs) x5.whole) in record { front = x2.front; whole = x2.whole; kept = omega arith; spelled = is_assign p1 x2.spelled p3 p4 x5.spelled }

      pub cut-SpellsArguments : {es : Expressions} {c : Span} {ts rest : List Token} → SpellsArguments names texts es c ts rest → (r : List Token) → rest ≡ r ++ tail → Cut (SpellsArguments names texts es c) ts r
      cut-SpellsArguments (no_arguments {o = o} {c = c} p1 p2) r e = record { front = o ∷ c ∷ r; whole = ap (λ (zs : List Token). o ∷ c ∷ zs) e; kept = omega arith; spelled = no_arguments p1 p2 }
      cut-SpellsArguments (some_arguments {o = o} {c = c} p1 d2 p3) r e = let x2 = cut-SpellsList d2 (c ∷ r) (ap (λ (zs : List Token). c ∷ zs) e) in record { front = o ∷ x2.front; whole = ap (λ (zs : List Token). o ∷ zs) x2.whole; kept = omega arith; spelled = some_arguments p1 x2.spelled p3 }

      pub cut-SpellsList : {es : Expressions} {ts rest : List Token} → SpellsList names texts es ts rest → (r : List Token) → rest ≡ r ++ tail → Cut (SpellsList names texts es) ts r
      cut-SpellsList (last_expression d1) r e = let x1 = cut-Spells d1 r e in record { front = x1.front; whole = x1.whole; kept = omega arith; spelled = last_expression x1.spelled }
      cut-SpellsList (more_expressions {k = k} d1 p2 d3) r e = let x3 = cut-SpellsList d3 r e in let x1 = cut-Spells d1 (k ∷ x3.front) (ap (λ (zs : List Token). k ∷ zs) x3.whole) in record { front = x1.front; whole = x1.whole; kept = omega arith; spelled = more_expressions x1.spelled p2 x3.spelled }

      pub cut-SpellsLengths : {es : Expressions} {s : Span} {ts rest : List Token} → SpellsLengths names texts es s ts rest → (r : List Token) → rest ≡ r ++ tail → Cut (SpellsLengths names texts es s) ts r
      cut-SpellsLengths (last_length {o = o} {c = c} p1 d2 p3) r e = let x2 = cut-Spells d2 (c ∷ r) (ap (λ (zs : List Token). c ∷ zs) e) in record { front = o ∷ x2.front; whole = ap (λ (zs : List Token). o ∷ zs) x2.whole; kept = omega arith; spelled = last_length p1 x2.spelled p3 }
      cut-SpellsLengths (more_lengths {o = o} {c = c} p1 d2 p3 d4) r e = let x4 = cut-SpellsLengths d4 r e in let x2 = cut-Spells d2 (c ∷ x4.front) (ap (λ (zs : List Token). c ∷ zs) x4.whole) in record { front = o ∷ x2.front; whole = ap (λ (zs : List Token). o ∷ zs) x2.whole; kept = omega arith; spelled = more_lengths p1 x2.spelled p3 x4.spelled }

      pub cut-SpellsInit : {e : Expression} {ts rest : List Token} → SpellsInit names texts e ts rest → (r : List Token) → rest ≡ r ++ tail → Cut (SpellsInit names texts e) ts r
      cut-SpellsInit (expression_init d1) r e = let x1 = cut-Spells d1 r e in record { front = x1.front; whole = x1.whole; kept = omega arith; spelled = expression_init x1.spelled }
      cut-SpellsInit (array_init d1) r e = let x1 = cut-SpellsArrayInit d1 r e in record { front = x1.front; whole = x1.whole; kept = omega arith; spelled = array_init x1.spelled }

      pub cut-SpellsArrayInit : {e : Expression} {ts rest : List Token} → SpellsArrayInit names texts e ts rest → (r : List Token) → rest ≡ r ++ tail → Cut (SpellsArrayInit names texts e) ts r
      cut-SpellsArrayInit (is_array_init {o = o} p1 d2) r e = let x2 = cut-SpellsInits d2 r e in record { front = o ∷ x2.front; whole = ap (λ (zs : List Token). o ∷ zs) x2.whole; kept = omega arith; spelled = is_array_init p1 x2.spelled }

      pub cut-SpellsInits : {es : Expressions} {c : Span} {ts rest : List Token} → SpellsInits names texts es c ts rest → (r : List Token) → rest ≡ r ++ tail → Cut (SpellsInits names texts es c) ts r
      cut-SpellsInits (no_inits {c = c} p1) r e = record { front = c ∷ r; whole = ap (λ (zs : List Token). c ∷ zs) e; kept = omega arith; spelled = no_inits p1 }
      cut-SpellsInits (comma_alone {k = k} {c = c} p1 p2) r e = record { front = k ∷ c ∷ r; whole = ap (λ (zs : List Token). k ∷ c ∷ zs) e; kept = omega arith; spelled = comma_alone p1 p2 }
      cut-SpellsInits (some_inits d1) r e = let x1 = cut-SpellsMoreInits d1 r e in record { front = x1.front; whole = x1.whole; kept = omega arith; spelled = some_inits x1.spelled }

      pub cut-SpellsMoreInits : {es : Expressions} {c : Span} {ts rest : List Token} → SpellsMoreInits names texts es c ts rest → (r : List Token) → rest ≡ r ++ tail → Cut (SpellsMoreInits names texts es c) ts r
      cut-SpellsMoreInits (last_init {c = c} d1 p2) r e = let x1 = cut-SpellsInit d1 (c ∷ r) (ap (λ (zs : List Token). c ∷ zs) e) in record { front = x1.front; whole = x1.whole; kept = omega arith; spelled = last_init x1.spelled p2 }
      cut-SpellsMoreInits (last_init_and_comma {k = k} {c = c} d1 p2 p3) r e = let x1 = cut-SpellsInit d1 (k ∷ c ∷ r) (ap (λ (zs : List Token). k ∷ c ∷ zs) e) in record { front = x1.front; whole = x1.whole; kept = omega arith; spelled = last_init_and_comma x1.spelled p2 p3 }
      cut-SpellsMoreInits (more_inits {k = k} d1 p2 d3) r e = let x3 = cut-SpellsMoreInits d3 r e in let x1 = cut-SpellsInit d1 (k ∷ x3.front) (ap (λ (zs : List Token). k ∷ zs) x3.whole) in record { front = x1.front; whole = x1.whole; kept = omega arith; spelled = more_inits x1.spelled p2 x3.spelled }

      pub cut-SpellsVariables : {vs : Variables} {ts rest : List Token} → SpellsVariables names texts vs ts rest → (r : List Token) → rest ≡ r ++ tail → Cut (SpellsVariables names texts vs) ts r
      cut-SpellsVariables (last_variable {t = t} p1 d2 d3) r e = let x3 = cut-SpellsMaybeInit d3 r e in let x2 = cut-SpellsDims d2 x3.front x3.whole in record { front = t ∷ x2.front; whole = ap (λ (zs : List Token). t ∷ zs) x2.whole; kept = omega arith; spelled = last_variable p1 x2.spelled x3.spelled }
      cut-SpellsVariables (more_variables {t = t} {k = k} p1 d2 d3 p4 d5) r e = let x5 = cut-SpellsVariables d5 r e in let y5 = some-SpellsVariables x5.spelled in let x3 = cut-SpellsMaybeInit d3 (k ∷ x5.front) (ap (λ (zs : List Token). k ∷ zs) x5.whole) in let x2 = cut-SpellsDims d2 x3.front x3.whole in record { front = t ∷ x2.front; whole = ap (λ (zs : List Token). t ∷ zs) x2.whole; kept = omega arith; spelled = more_variables p1 x2.spelled x3.spelled p4 x5.spelled }

      pub cut-SpellsMaybeInit : {e : MaybeExpression} {ts rest : List Token} → SpellsMaybeInit names texts e ts rest → (r : List Token) → rest ≡ r ++ tail → Cut (SpellsMaybeInit names texts e) ts r
      cut-SpellsMaybeInit without_init r e = record { front = r; whole = e; kept = omega arith; spelled = without_init }
      cut-SpellsMaybeInit (with_init {a = a} p1 d2) r e = let x2 = cut-SpellsInit d2 r e in record { front = a ∷ x2.front; whole = ap (λ (zs : List Token). a ∷ zs) x2.whole; kept = omega arith; spelled = with_init p1 x2.spelled }

      pub cut-SpellsMaybe : {e : MaybeExpression} {ts rest : List Token} → SpellsMaybe names texts e ts rest → (r : List Token) → rest ≡ r ++ tail → Cut (SpellsMaybe names texts e) ts r
      cut-SpellsMaybe nothing r e = record { front = r; whole = e; kept = omega arith; spelled = nothing }
      cut-SpellsMaybe (something d1) r e = let x1 = cut-Spells d1 r e in record { front = x1.front; whole = x1.whole; kept = omega arith; spelled = something x1.spelled }

      pub cut-SpellsSteps : {es : Expressions} {ts rest : List Token} → SpellsSteps names texts es ts rest → (r : List Token) → rest ≡ r ++ tail → Cut (SpellsSteps names texts es) ts r
      cut-SpellsSteps (last_step p1 d2) r e = let x2 = cut-Spells d2 r e in record { front = x2.front; whole = x2.whole; kept = omega arith; spelled = last_step p1 x2.spelled }
      cut-SpellsSteps (more_steps {k = k} p1 d2 p3 d4) r e = let x4 = cut-SpellsSteps d4 r e in let x2 = cut-Spells d2 (k ∷ x4.front) (ap (λ (zs : List Token). k ∷ zs) x4.whole) in record { front = x2.front; whole = x2.whole; kept = omega arith; spelled = more_steps p1 x2.spelled p3 x4.spelled }

      pub cut-SpellsMaybeSteps : {es : Expressions} {ts rest : List Token} → SpellsMaybeSteps names texts es ts rest → (r : List Token) → rest ≡ r ++ tail → Cut (SpellsMaybeSteps names texts es) ts r
      cut-SpellsMaybeSteps no_steps r e = record { front = r; whole = e; kept = omega arith; spelled = no_steps }
      cut-SpellsMaybeSteps (some_steps d1) r e = let x1 = cut-SpellsSteps d1 r e in record { front = x1.front; whole = x1.whole; kept = omega arith; spelled = some_steps x1.spelled }

      pub cut-SpellsForInitializer : {i : ForInitializer} {ts rest : List Token} → SpellsForInitializer names texts i ts rest → (r : List Token) → rest ≡ r ++ tail → Cut (SpellsForInitializer names texts i) ts r
      cut-SpellsForInitializer (for_locals d1 d2 d3) r e = let x3 = cut-SpellsVariables d3 r e in let y3 = some-SpellsVariables x3.spelled in let x2 = cut-SpellsTypeName d2 x3.front x3.whole (omega arith) in let x1 = cut-SpellsFinal d1 x2.front x2.whole in record { front = x1.front; whole = x1.whole; kept = omega arith; spelled = for_locals x1.spelled x2.spelled x3.spelled }
      cut-SpellsForInitializer (for_steps d1) r e = let x1 = cut-SpellsMaybeSteps d1 r e in record { front = x1.front; whole = x1.whole; kept = omega arith; spelled = for_steps x1.spelled }

      pub cut-SpellsStatement : {b : Statement} {ts rest : List Token} → SpellsStatement names texts b ts rest → (r : List Token) → rest ≡ r ++ tail → Cut (SpellsStatement names texts b) ts r
      cut-SpellsStatement (is_block {o = o} p1 d2) r e = let x2 = cut-SpellsBlock d2 r e in record { front = o ∷ x2.front; whole = ap (λ (zs : List Token). o ∷ zs) x2.whole; kept = omega arith; spelled = is_block p1 x2.spelled }
      cut-SpellsStatement (is_empty {t = t} p1) r e = record { front = t ∷ r; whole = ap (λ (zs : List Token). t ∷ zs) e; kept = omega arith; spelled = is_empty p1 }
      cut-SpellsStatement (is_labelled {t = t} {k = k} p1 p2 d3) r e = let x3 = cut-SpellsStatement d3 r e in record { front = t ∷ k ∷ x3.front; whole = ap (λ (zs : List Token). t ∷ k ∷ zs) x3.whole; kept = omega arith; spelled = is_labelled p1 p2 x3.spelled }
      cut-SpellsStatement (is_if_only {w = w} p1 d2 d3) r e = let x3 = cut-SpellsStatement d3 r e in let x2 = cut-SpellsCondition d2 x3.front x3.whole in record { front = w ∷ x2.front; whole = ap (λ (zs : List Token). w ∷ zs) x2.whole; kept = omega arith; spelled = is_if_only p1 x2.spelled x3.spelled }
      cut-SpellsStatement (is_if_else {w = w} {l = l} p1 p2 d3 d4 p5 d6) r e = let x6 = cut-SpellsStatement d6 r e in let x4 = cut-SpellsStatement d4 (l ∷ x6.front) (ap (λ (zs : List Token). l ∷ zs) x6.whole) in let x3 = cut-SpellsCondition d3 x4.front x4.whole in record { front = w ∷ x3.front; whole = ap (λ (zs : List Token). w ∷ zs) x3.whole; kept = omega arith; spelled = is_if_else p1 p2 x3.spelled x4.spelled p5 x6.spelled }
      cut-SpellsStatement (is_while {w = w} p1 d2 d3) r e = let x3 = cut-SpellsStatement d3 r e in let x2 = cut-SpellsCondition d2 x3.front x3.whole in record { front = w ∷ x2.front; whole = ap (λ (zs : List Token). w ∷ zs) x2.whole; kept = omega arith; spelled = is_while p1 x2.spelled x3.spelled }
      cut-SpellsStatement (is_do {w = w} {l = l} {c = c} p1 d2 p3 d4 p5) r e = let x4 = cut-SpellsCondition d4 (c ∷ r) (ap (λ (zs : List Token). c ∷ zs) e) in let x2 = cut-SpellsStatement d2 (l ∷ x4.front) (ap (λ (zs : List Token). l ∷ zs) x4.whole) in record { front = w ∷ x2.front; whole = ap (λ (zs : List Token). w ∷ zs) x2.whole; kept = omega arith; spelled = is_do p1 x2.spelled p3 x4.spelled p5 }
      cut-SpellsStatement (is_for {w = w} {o = o} {c = c} {d = d} {p = p} p1 p2 d3 p4 d5 p6 d7 p8 d9) r e = let x9 = cut-SpellsStatement d9 r e in let x7 = cut-SpellsMaybeSteps d7 (p ∷ x9.front) (ap (λ (zs : List Token). p ∷ zs) x9.whole) in let x5 = cut-SpellsMaybe d5 (d ∷ x7.front) (ap (λ (zs : List Token). d ∷ zs) x7.whole) in let x3 = cut-SpellsForInitializer d3 (c ∷ x5.front) (ap (λ (zs : List Token). c ∷ zs) x5.whole) in record { front = w ∷ o ∷ x3.front; whole = ap (λ (zs : List Token). w ∷ o ∷ zs) x3.whole; kept = omega arith; spelled = is_for p1 p2 x3.spelled p4 x5.spelled p6 x7.spelled p8 x9.spelled }
      cut-SpellsStatement (is_for_each {w = w} {o = o} {t = t} {k = k} {p = p} p1 p2 d3 d4 p5 p6 d7 p8 d9) r e = let x9 = cut-SpellsStatement d9 r e in let x7 = cut-Spells d7 (p ∷ x9.front) (ap (λ (zs : List Token). p ∷ zs) x9.whole) in let x4 = cut-SpellsTypeName d4 (t ∷ k ∷ x7.front) (ap (λ (zs : List Token). t ∷ k ∷ zs) x7.whole) (omega arith) in let x3 = cut-SpellsFinal d3 x4.front x4.whole in record { front = w ∷ o ∷ x3.front; whole = ap (λ (zs : List Token). w ∷ o ∷ zs) x3.whole; kept = omega arith; spelled = is_for_each p1 p2 x3.spelled x4.spelled p5 p6 x7.spelled p8 x9.spelled }
      cut-SpellsStatement (is_switch {w = w} {o = o} p1 d2 p3 d4) r e = let x4 = cut-SpellsGroups d4 r e in let x2 = cut-SpellsCondition d2 (o ∷ x4.front) (ap (λ (zs : List Token). o ∷ zs) x4.whole) in record { front = w ∷ x2.front; whole = ap (λ (zs : List Token). w ∷ zs) x2.whole; kept = omega arith; spelled = is_switch p1 x2.spelled p3 x4.spelled }
      cut-SpellsStatement (is_break {w = w} {c = c} p1 d2 p3) r e = let x2 = cut-SpellsMaybeLabel d2 (c ∷ r) (ap (λ (zs : List Token). c ∷ zs) e) in record { front = w ∷ x2.front; whole = ap (λ (zs : List Token). w ∷ zs) x2.whole; kept = omega arith; spelled = is_break p1 x2.spelled p3 }
      cut-SpellsStatement (is_continue {w = w} {c = c} p1 d2 p3) r e = let x2 = cut-SpellsMaybeLabel d2 (c ∷ r) (ap (λ (zs : List Token). c ∷ zs) e) in record { front = w ∷ x2.front; whole = ap (λ (zs : List Token). w ∷ zs) x2.whole; kept = omega arith; spelled = is_continue p1 x2.spelled p3 }
      cut-SpellsStatement (is_return {w = w} {c = c} p1 d2 p3) r e = let x2 = cut-SpellsMaybe d2 (c ∷ r) (ap (λ (zs : List Token). c ∷ zs) e) in record { front = w ∷ x2.front; whole = ap (λ (zs : List Token). w ∷ zs) x2.whole; kept = omega arith; spelled = is_return p1 x2.spelled p3 }
      cut-SpellsStatement (is_throw {w = w} {c = c} p1 d2 p3) r e = let x2 = cut-Spells d2 (c ∷ r) (ap (λ (zs : List Token). c ∷ zs) e) in record { front = w ∷ x2.front; whole = ap (λ (zs : List Token). w ∷ zs) x2.whole; kept = omega arith; spelled = is_throw p1 x2.spelled p3 }
      cut-SpellsStatement (is_try {w = w} {o = o} p1 p2 p3 d4 d5) r e = let x5 = cut-SpellsCatches d5 r e in let x4 = cut-SpellsBlock d4 x5.front x5.whole in record { front = w ∷ o ∷ x4.front; whole = ap (λ (zs : List Token). w ∷ o ∷ zs) x4.whole; kept = omega arith; spelled = is_try p1 p2 p3 x4.spelled x5.spelled }
      cut-SpellsStatement (is_try_finally {w = w} {o = o} {f = f} {p = p} p1 p2 d3 d4 p5 p6 d7) r e = let x7 = cut-SpellsBlock d7 r e in let x4 = cut-SpellsCatches d4 (f ∷ p ∷ x7.front) (ap (λ (zs : List Token). f ∷ p ∷ zs) x7.whole) in let x3 = cut-SpellsBlock d3 x4.front x4.whole in record { front = w ∷ o ∷ x3.front; whole = ap (λ (zs : List Token). w ∷ o ∷ zs) x3.whole; kept = omega arith; spelled = is_try_finally p1 p2 x3.spelled x4.spelled p5 p6 x7.spelled }
      cut-SpellsStatement (is_expression_statement {e = g} {c = c} p1 d2 p3) r e = let x2 = cut-Spells d2 (c ∷ r) (ap (λ (zs : List Token). c ∷ zs) e) in record { front = x2.front; whole = x2.whole; kept = omega arith; spelled = subst (λ z. SpellsStatement names texts (tree.expression_statement z g (join z c.span)) x2.front r) (sym (first_same x2.front x2.whole (omega arith))) (is_expression_statement p1 x2.spelled p3) }

      pub cut-SpellsCondition : {e : Expression} {ts rest : List Token} → SpellsCondition names texts e ts rest → (r : List Token) → rest ≡ r ++ tail → Cut (SpellsCondition names texts e) ts r
      cut-SpellsCondition (condition {o = o} {c = c} p1 d2 p3) r e = let x2 = cut-Spells d2 (c ∷ r) (ap (λ (zs : List Token). c ∷ zs) e) in record { front = o ∷ x2.front; whole = ap (λ (zs : List Token). o ∷ zs) x2.whole; kept = omega arith; spelled = condition p1 x2.spelled p3 }

      pub cut-SpellsCatches : {cs : Catches} {s : Span} {e : Span} {ts rest : List Token} → SpellsCatches names texts cs s e ts rest → (r : List Token) → rest ≡ r ++ tail → Cut (SpellsCatches names texts cs s e) ts r
      cut-SpellsCatches no_catches r e = record { front = r; whole = e; kept = omega arith; spelled = no_catches }
      cut-SpellsCatches (more_catches {w = w} {o = o} {t = t} {p = p} {b = b} p1 p2 d3 d4 p5 p6 p7 d8 d9) r e = let x9 = cut-SpellsCatches d9 r e in let x8 = cut-SpellsBlock d8 x9.front x9.whole in let x4 = cut-SpellsName d4 (t ∷ p ∷ b ∷ x8.front) (ap (λ (zs : List Token). t ∷ p ∷ b ∷ zs) x8.whole) in let x3 = cut-SpellsFinal d3 x4.front x4.whole in record { front = w ∷ o ∷ x3.front; whole = ap (λ (zs : List Token). w ∷ o ∷ zs) x3.whole; kept = omega arith; spelled = more_catches p1 p2 x3.spelled x4.spelled p5 p6 p7 x8.spelled x9.spelled }

      pub cut-SpellsGroups : {gs : Groups} {c : Span} {ts rest : List Token} → SpellsGroups names texts gs c ts rest → (r : List Token) → rest ≡ r ++ tail → Cut (SpellsGroups names texts gs c) ts r
      cut-SpellsGroups (no_groups {c = c} p1) r e = record { front = c ∷ r; whole = ap (λ (zs : List Token). c ∷ zs) e; kept = omega arith; spelled = no_groups p1 }
      cut-SpellsGroups (last_labels {c = c} d1 p2) r e = let x1 = cut-SpellsLabels d1 (c ∷ r) (ap (λ (zs : List Token). c ∷ zs) e) in record { front = x1.front; whole = x1.whole; kept = omega arith; spelled = last_labels x1.spelled p2 }
      cut-SpellsGroups (more_groups d1 d2 d3) r e = let x3 = cut-SpellsGroups d3 r e in let x2 = cut-SpellsStatements d2 x3.front x3.whole in let x1 = cut-SpellsLabels d1 x2.front x2.whole in record { front = x1.front; whole = x1.whole; kept = omega arith; spelled = more_groups x1.spelled x2.spelled x3.spelled }

      pub cut-SpellsLabels : {ls : Labels} {ts rest : List Token} → SpellsLabels names texts ls ts rest → (r : List Token) → rest ≡ r ++ tail → Cut (SpellsLabels names texts ls) ts r
      cut-SpellsLabels (last_case {w = w} {k = k} p1 d2 p3) r e = let x2 = cut-Spells d2 (k ∷ r) (ap (λ (zs : List Token). k ∷ zs) e) in record { front = w ∷ x2.front; whole = ap (λ (zs : List Token). w ∷ zs) x2.whole; kept = omega arith; spelled = last_case p1 x2.spelled p3 }
      cut-SpellsLabels (last_default {w = w} {k = k} p1 p2) r e = record { front = w ∷ k ∷ r; whole = ap (λ (zs : List Token). w ∷ k ∷ zs) e; kept = omega arith; spelled = last_default p1 p2 }
      cut-SpellsLabels (more_cases {w = w} {k = k} p1 d2 p3 d4) r e = let x4 = cut-SpellsLabels d4 r e in let x2 = cut-Spells d2 (k ∷ x4.front) (ap (λ (zs : List Token). k ∷ zs) x4.whole) in record { front = w ∷ x2.front; whole = ap (λ (zs : List Token). w ∷ zs) x2.whole; kept = omega arith; spelled = more_cases p1 x2.spelled p3 x4.spelled }
      cut-SpellsLabels (more_defaults {w = w} {k = k} p1 p2 d3) r e = let x3 = cut-SpellsLabels d3 r e in record { front = w ∷ k ∷ x3.front; whole = ap (λ (zs : List Token). w ∷ k ∷ zs) x3.whole; kept = omega arith; spelled = more_defaults p1 p2 x3.spelled }

      pub cut-SpellsStatements : {bs : Statements} {ts rest : List Token} → SpellsStatements names texts bs ts rest → (r : List Token) → rest ≡ r ++ tail → Cut (SpellsStatements names texts bs) ts r
      cut-SpellsStatements (last_statement d1) r e = let x1 = cut-SpellsBlockStatement d1 r e in record { front = x1.front; whole = x1.whole; kept = omega arith; spelled = last_statement x1.spelled }
      cut-SpellsStatements (more_statements d1 d2) r e = let x2 = cut-SpellsStatements d2 r e in let x1 = cut-SpellsBlockStatement d1 x2.front x2.whole in record { front = x1.front; whole = x1.whole; kept = omega arith; spelled = more_statements x1.spelled x2.spelled }

      pub cut-SpellsBlock : {bs : Statements} {c : Span} {ts rest : List Token} → SpellsBlock names texts bs c ts rest → (r : List Token) → rest ≡ r ++ tail → Cut (SpellsBlock names texts bs c) ts r
      cut-SpellsBlock (empty_block {c = c} p1) r e = record { front = c ∷ r; whole = ap (λ (zs : List Token). c ∷ zs) e; kept = omega arith; spelled = empty_block p1 }
      cut-SpellsBlock (full_block {c = c} d1 p2) r e = let x1 = cut-SpellsStatements d1 (c ∷ r) (ap (λ (zs : List Token). c ∷ zs) e) in record { front = x1.front; whole = x1.whole; kept = omega arith; spelled = full_block x1.spelled p2 }

      pub cut-SpellsBlockStatement : {b : Statement} {ts rest : List Token} → SpellsBlockStatement names texts b ts rest → (r : List Token) → rest ≡ r ++ tail → Cut (SpellsBlockStatement names texts b) ts r
      cut-SpellsBlockStatement (is_local {m = m} {t = t} {vs = vs} {c = c} d1 d2 d3 p4) r e = let x3 = cut-SpellsVariables d3 (c ∷ r) (ap (λ (zs : List Token). c ∷ zs) e) in let y3 = some-SpellsVariables x3.spelled in let x2 = cut-SpellsTypeName d2 x3.front x3.whole (omega arith) in let x1 = cut-SpellsFinal d1 x2.front x2.whole in record { front = x1.front; whole = x1.whole; kept = omega arith; spelled = subst (λ z. SpellsBlockStatement names texts (tree.local z m t vs (join z c.span)) x1.front r) (sym (first_same x1.front x1.whole (omega arith))) (is_local x1.spelled x2.spelled x3.spelled p4) }
      cut-SpellsBlockStatement (is_local_class {ms = ms} {d = k} p1 d2 d3) r e = let x3 = cut-SpellsClass d3 r e in let y3 = some-SpellsClass x3.spelled in let x2 = cut-SpellsModifiers d2 x3.front x3.whole in record { front = x2.front; whole = x2.whole; kept = omega arith; spelled = is_local_class p1 x2.spelled (subst (λ z. SpellsClass names texts ms z k x3.front r) (first_same x2.front x2.whole (omega arith)) x3.spelled) }
      cut-SpellsBlockStatement (is_statement d1) r e = let x1 = cut-SpellsStatement d1 r e in record { front = x1.front; whole = x1.whole; kept = omega arith; spelled = is_statement x1.spelled }

      pub cut-SpellsMember : {m : Member} {ts rest : List Token} → SpellsMember names texts m ts rest → (r : List Token) → rest ≡ r ++ tail → Cut (SpellsMember names texts m) ts r
      cut-SpellsMember (is_type d1) r e = let x1 = cut-SpellsDeclaration d1 r e in record { front = x1.front; whole = x1.whole; kept = omega arith; spelled = is_type x1.spelled }
      cut-SpellsMember (is_field {ms = ms} {t = t} {vs = vs} {c = c} d1 d2 d3 p4) r e = let x3 = cut-SpellsVariables d3 (c ∷ r) (ap (λ (zs : List Token). c ∷ zs) e) in let y3 = some-SpellsVariables x3.spelled in let x2 = cut-SpellsTypeName d2 x3.front x3.whole (omega arith) in let x1 = cut-SpellsModifiers d1 x2.front x2.whole in record { front = x1.front; whole = x1.whole; kept = omega arith; spelled = subst (λ z. SpellsMember names texts (tree.field ms t vs (join z c.span)) x1.front r) (sym (first_same x1.front x1.whole (omega arith))) (is_field x1.spelled x2.spelled x3.spelled p4) }
      cut-SpellsMember (is_method {ms = ms} {r = g} {t = t} {fs = fs} {ns = ns} {b = b} {c = c} d1 d2 p3 d4 d5 d6) r e = let x6 = cut-SpellsMaybeBlock d6 r e in let x5 = cut-SpellsThrows d5 x6.front x6.whole in let x4 = cut-SpellsFormals d4 x5.front x5.whole in let x2 = cut-SpellsResult d2 (t ∷ x4.front) (ap (λ (zs : List Token). t ∷ zs) x4.whole) (omega arith) in let x1 = cut-SpellsModifiers d1 x2.front x2.whole in record { front = x1.front; whole = x1.whole; kept = omega arith; spelled = subst (λ z. SpellsMember names texts (tree.method ms g (identifier t) fs ns b (join z c)) x1.front r) (sym (first_same x1.front x1.whole (omega arith))) (is_method x1.spelled x2.spelled p3 x4.spelled x5.spelled x6.spelled) }
      cut-SpellsMember (is_constructor {ms = ms} {t = t} {o = o} {fs = fs} {ns = ns} {f = f} {bs = bs} {c = c} d1 p2 d3 d4 p5 d6 d7) r e = let x7 = cut-SpellsBlock d7 r e in let x6 = cut-SpellsConstructorInvocation d6 x7.front x7.whole in let x4 = cut-SpellsThrows d4 (o ∷ x6.front) (ap (λ (zs : List Token). o ∷ zs) x6.whole) in let x3 = cut-SpellsFormals d3 x4.front x4.whole in let x1 = cut-SpellsModifiers d1 (t ∷ x3.front) (ap (λ (zs : List Token). t ∷ zs) x3.whole) in record { front = x1.front; whole = x1.whole; kept = omega arith; spelled = subst (λ z. SpellsMember names texts (tree.constructor ms (identifier t) fs ns f o.span bs c (join z c)) x1.front r) (sym (first_same x1.front x1.whole (omega arith))) (is_constructor x1.spelled p2 x3.spelled x4.spelled p5 x6.spelled x7.spelled) }
      cut-SpellsMember (is_initializer {o = o} p1 d2) r e = let x2 = cut-SpellsBlock d2 r e in record { front = o ∷ x2.front; whole = ap (λ (zs : List Token). o ∷ zs) x2.whole; kept = omega arith; spelled = is_initializer p1 x2.spelled }
      cut-SpellsMember (is_static_initializer {w = w} {o = o} p1 p2 d3) r e = let x3 = cut-SpellsBlock d3 r e in record { front = w ∷ o ∷ x3.front; whole = ap (λ (zs : List Token). w ∷ o ∷ zs) x3.whole; kept = omega arith; spelled = is_static_initializer p1 p2 x3.spelled }

      pub cut-SpellsMaybeBlock : {b : MaybeBlock} {c : Span} {ts rest : List Token} → SpellsMaybeBlock names texts b c ts rest → (r : List Token) → rest ≡ r ++ tail → Cut (SpellsMaybeBlock names texts b c) ts r
      cut-SpellsMaybeBlock (without_body {c = c} p1) r e = record { front = c ∷ r; whole = ap (λ (zs : List Token). c ∷ zs) e; kept = omega arith; spelled = without_body p1 }
      cut-SpellsMaybeBlock (with_body {o = o} p1 d2) r e = let x2 = cut-SpellsBlock d2 r e in record { front = o ∷ x2.front; whole = ap (λ (zs : List Token). o ∷ zs) x2.whole; kept = omega arith; spelled = with_body p1 x2.spelled }

      pub cut-SpellsConstructorInvocation : {f : ConstructorInvocation} {ts rest : List Token} → SpellsConstructorInvocation names texts f ts rest → (r : List Token) → rest ≡ r ++ tail → Cut (SpellsConstructorInvocation names texts f) ts r
      cut-SpellsConstructorInvocation no_call r e = record { front = r; whole = e; kept = omega arith; spelled = no_call }
      cut-SpellsConstructorInvocation (this_call {w = w} {k = k} p1 d2 p3) r e = let x2 = cut-SpellsArguments d2 (k ∷ r) (ap (λ (zs : List Token). k ∷ zs) e) in let y2 = some-SpellsArguments x2.spelled in record { front = w ∷ x2.front; whole = ap (λ (zs : List Token). w ∷ zs) x2.whole; kept = omega arith; spelled = this_call p1 x2.spelled p3 }
      cut-SpellsConstructorInvocation (super_call {w = w} {k = k} p1 d2 p3) r e = let x2 = cut-SpellsArguments d2 (k ∷ r) (ap (λ (zs : List Token). k ∷ zs) e) in let y2 = some-SpellsArguments x2.spelled in record { front = w ∷ x2.front; whole = ap (λ (zs : List Token). w ∷ zs) x2.whole; kept = omega arith; spelled = super_call p1 x2.spelled p3 }

      pub cut-SpellsBody : {ms : Members} {c : Span} {ts rest : List Token} → SpellsBody names texts ms c ts rest → (r : List Token) → rest ≡ r ++ tail → Cut (SpellsBody names texts ms c) ts r
      cut-SpellsBody (is_body {o = o} p1 d2) r e = let x2 = cut-SpellsMembers d2 r e in record { front = o ∷ x2.front; whole = ap (λ (zs : List Token). o ∷ zs) x2.whole; kept = omega arith; spelled = is_body p1 x2.spelled }

      pub cut-SpellsMembers : {ms : Members} {c : Span} {ts rest : List Token} → SpellsMembers names texts ms c ts rest → (r : List Token) → rest ≡ r ++ tail → Cut (SpellsMembers names texts ms c) ts r
      cut-SpellsMembers (no_members {c = c} p1) r e = record { front = c ∷ r; whole = ap (λ (zs : List Token). c ∷ zs) e; kept = omega arith; spelled = no_members p1 }
      cut-SpellsMembers (lone_semicolon {t = t} p1 d2) r e = let x2 = cut-SpellsMembers d2 r e in record { front = t ∷ x2.front; whole = ap (λ (zs : List Token). t ∷ zs) x2.whole; kept = omega arith; spelled = lone_semicolon p1 x2.spelled }
      cut-SpellsMembers (more_members d1 d2) r e = let x2 = cut-SpellsMembers d2 r e in let x1 = cut-SpellsMember d1 x2.front x2.whole in record { front = x1.front; whole = x1.whole; kept = omega arith; spelled = more_members x1.spelled x2.spelled }

      pub cut-SpellsDeclaration : {d : Declaration} {ts rest : List Token} → SpellsDeclaration names texts d ts rest → (r : List Token) → rest ≡ r ++ tail → Cut (SpellsDeclaration names texts d) ts r
      cut-SpellsDeclaration (is_class {ms = ms} {d = k} d1 d2) r e = let x2 = cut-SpellsClass d2 r e in let y2 = some-SpellsClass x2.spelled in let x1 = cut-SpellsModifiers d1 x2.front x2.whole in record { front = x1.front; whole = x1.whole; kept = omega arith; spelled = is_class x1.spelled (subst (λ z. SpellsClass names texts ms z k x2.front r) (first_same x1.front x1.whole (omega arith)) x2.spelled) }
      cut-SpellsDeclaration (is_interface {ms = ms} {d = k} d1 d2) r e = let x2 = cut-SpellsInterface d2 r e in let y2 = some-SpellsInterface x2.spelled in let x1 = cut-SpellsModifiers d1 x2.front x2.whole in record { front = x1.front; whole = x1.whole; kept = omega arith; spelled = is_interface x1.spelled (subst (λ z. SpellsInterface names texts ms z k x2.front r) (first_same x1.front x1.whole (omega arith)) x2.spelled) }
      cut-SpellsDeclaration (is_enum {ms = ms} {d = k} d1 d2) r e = let x2 = cut-SpellsEnum d2 r e in let y2 = some-SpellsEnum x2.spelled in let x1 = cut-SpellsModifiers d1 x2.front x2.whole in record { front = x1.front; whole = x1.whole; kept = omega arith; spelled = is_enum x1.spelled (subst (λ z. SpellsEnum ms z k x2.front r) (first_same x1.front x1.whole (omega arith)) x2.spelled) }

      pub cut-SpellsClass : {ms : List Modifier} {s : Span} {d : Declaration} {ts rest : List Token} → SpellsClass names texts ms s d ts rest → (r : List Token) → rest ≡ r ++ tail → Cut (SpellsClass names texts ms s d) ts r
      cut-SpellsClass (class_declaration {w = w} {t = t} p1 p2 d3 d4 d5 d6) r e = let x6 = cut-SpellsBody d6 r e in let y6 = some-SpellsBody x6.spelled in let x5 = cut-SpellsImplements d5 x6.front x6.whole (omega arith) in let x4 = cut-SpellsExtends d4 x5.front x5.whole (omega arith) in let x3 = cut-SpellsTypeParameters d3 x4.front x4.whole (omega arith) in record { front = w ∷ t ∷ x3.front; whole = ap (λ (zs : List Token). w ∷ t ∷ zs) x3.whole; kept = omega arith; spelled = class_declaration p1 p2 x3.spelled x4.spelled x5.spelled x6.spelled }

      pub cut-SpellsInterface : {ms : List Modifier} {s : Span} {d : Declaration} {ts rest : List Token} → SpellsInterface names texts ms s d ts rest → (r : List Token) → rest ≡ r ++ tail → Cut (SpellsInterface names texts ms s d) ts r
      cut-SpellsInterface (interface_declaration {w = w} {t = t} p1 p2 d3 d4 d5) r e = let x5 = cut-SpellsBody d5 r e in let y5 = some-SpellsBody x5.spelled in let x4 = cut-SpellsExtendsAll d4 x5.front x5.whole (omega arith) in let x3 = cut-SpellsTypeParameters d3 x4.front x4.whole (omega arith) in record { front = w ∷ t ∷ x3.front; whole = ap (λ (zs : List Token). w ∷ t ∷ zs) x3.whole; kept = omega arith; spelled = interface_declaration p1 p2 x3.spelled x4.spelled x5.spelled }
