-- What a tree leaves is the list without its first tokens, though a type may leave a part of a `>>` or `>>>`.
use Rattle.std.proofs.Common.{◌≡◌, ℕ, suc, ◌-◌, ◌<◌, false, List, [], ◌∷◌, length, drop, arith}
use Rattle.je_base.specs.declared.span.Span.{Span}
use Rattle.je_token.specs.declared.token.Token.{Token}
use Rattle.je_ast.specs.declared.decl.Modifier.{Modifier}
use Rattle.je_ast.specs.Types.{QualifiedName, TypeName}
use Rattle.je_ast.specs.Trees.{Expression, Expressions, Statement, Statements, Groups, Catches, Member, Members, MaybeBlock, Declaration}
use Rattle.je_grammar.specs.Types.{simple_name, qualified_name, no_dims, more_dims, primitive_type, reference_type, plain_ref, ref_with_arguments, last_argument, more_arguments, SpellsName, SpellsDims, SpellsTypeName}
use Rattle.je_grammar.specs.Grammar.{primitive_element, class_element, is_literal, is_simple_name, is_this, is_outer_this, is_parens, is_select, is_super_select, is_call, is_call_on, is_super_call, is_index, is_new, is_new_anonymous, is_new_array, is_new_array_of, is_primitive_cast, is_class_cast, is_prefix, is_postfix, is_binary, is_instance_of, is_conditional, is_assign, no_arguments, some_arguments, last_length, more_lengths, is_array_init, no_inits, comma_alone, some_inits, last_init, last_init_and_comma, more_inits, is_block, is_empty, is_labelled, is_if_only, is_if_else, is_while, is_do, is_for, is_for_each, is_switch, is_break, is_continue, is_return, is_throw, is_try, is_try_finally, is_expression_statement, no_catches, more_catches, no_groups, last_labels, more_groups, empty_block, full_block, is_local, is_local_class, is_statement, is_type, is_field, is_method, is_constructor, is_initializer, is_static_initializer, without_body, with_body, is_body, no_members, lone_semicolon, more_members, is_class, is_interface, class_declaration, interface_declaration, SpellsElement, Spells, SpellsArguments, SpellsLengths, SpellsArrayInit, SpellsInits, SpellsMoreInits, SpellsStatement, SpellsCatches, SpellsGroups, SpellsBlock, SpellsBlockStatement, SpellsMember, SpellsMaybeBlock, SpellsBody, SpellsMembers, SpellsDeclaration, SpellsClass, SpellsInterface, SpellsEnum, enum_declaration, is_enum}
use Rattle.je_grammar.specs.Types.{SpellsTypeName, has_arguments}
use Rattle.je_grammar.specs.Laws.{LeavesSuffix}
use Rattle.je_grammar.proofs.Through.{Stays, through-SpellsName, through-SpellsTypeName, through-Spells, through-SpellsRef, through-SpellsArguments, through-SpellsElement, through-SpellsDims, through-SpellsList, through-SpellsInit, through-SpellsCondition, through-SpellsStatement, through-SpellsForInitializer, through-SpellsMaybe, through-SpellsMaybeSteps, through-SpellsFinal, through-SpellsMaybeLabel, through-SpellsBlock, through-SpellsCatches, through-SpellsLabels, through-SpellsStatements, through-SpellsVariables, through-SpellsModifiers, through-SpellsResult, through-SpellsFormals, through-SpellsThrows, through-SpellsConstructorInvocation, through-SpellsMember, through-SpellsTypeParameters, through-SpellsExtends, through-SpellsImplements, through-SpellsExtendsAll, through-SpellsMaybeConstants, through-SpellsMaybeSign}

-- The second list is the first one without at least one token ahead.
data Behind : List Token → List Token → Type 0 where
  next : {t : Token} {rest : List Token} → Behind (t ∷ rest) rest
  further : {t : Token} {ts rest : List Token} → Behind ts rest → Behind (t ∷ ts) rest

in_place : {t u : Token} {ts rest : List Token} → Behind (u ∷ ts) rest → Behind (t ∷ ts) rest
in_place next = next
in_place (further x) = further x

behind_stays : {rest : List Token} → Stays (λ ts. Behind ts rest)
behind_stays = record { token = λ t ts x. further x; part = λ t y ts h x. in_place x }

behind-next : {t : Token} {ts rest : List Token} → Behind ts (t ∷ rest) → Behind ts rest
behind-next next = further next
behind-next (further x) = further (behind-next x)

join-behind : {ts mid rest : List Token} → Behind ts mid → Behind mid rest → Behind ts rest
join-behind next y = further y
join-behind (further x) y = further (join-behind x y)

shorter : {ts rest : List Token} → Behind ts rest → length rest < length ts
shorter next = omega arith
shorter (further x) = let h = shorter x in omega arith

behind_drop : (ts rest : List Token) → Behind ts rest → drop (length ts - length rest) ts ≡ rest
behind_drop [] rest x = elim x [ ]
behind_drop (t ∷ ts) _ next = let e : suc (length ts) - length ts ≡ suc 0 = omega arith in rw e
behind_drop (t ∷ ts) rest (further x) = let h = shorter x in let e : suc (length ts) - length rest ≡ suc (length ts - length rest) = omega arith in rw e (behind_drop ts rest x)

behind-SpellsDims : {n : ℕ} {s e : Span} {ts mid rest : List Token} → SpellsDims n s e mid rest → Behind ts mid → Behind ts rest
behind-SpellsDims no_dims x = x
behind-SpellsDims (more_dims _ _ d) x = behind-SpellsDims d (behind-next (behind-next x))

behind-SpellsName : {n : QualifiedName} {ts rest : List Token} → SpellsName n ts rest → Behind ts rest
behind-SpellsName (simple_name _) = next
behind-SpellsName (qualified_name _ _ d2) = further (further (behind-SpellsName d2))

-- a type without arguments
behind-plain_type : {t : TypeName} {ts rest : List Token} → has_arguments t ≡ false → SpellsTypeName t ts rest → Behind ts rest
behind-plain_type q (primitive_type _ d1) = behind-SpellsDims d1 next
behind-plain_type q (reference_type (plain_ref d0) d1) = behind-SpellsDims d1 (behind-SpellsName d0)
behind-plain_type q (reference_type (ref_with_arguments _ _ (last_argument _ _ _)) _) = absurd cc
behind-plain_type q (reference_type (ref_with_arguments _ _ (more_arguments _ _ _ _)) _) = absurd cc

behind-SpellsElement : {t : TypeName} {ts rest : List Token} → SpellsElement t ts rest → Behind ts rest
behind-SpellsElement (primitive_element _) = next
behind-SpellsElement (class_element d0) = behind-SpellsName d0

behind-SpellsEnum : {ms : List Modifier} {s : Span} {d : Declaration} {ts rest : List Token} → SpellsEnum ms s d ts rest → Behind ts rest
behind-SpellsEnum (enum_declaration _ _ _ d3 d4 d5 _) = further (further (further (through-SpellsMaybeConstants behind_stays d3 (through-SpellsMaybeSign behind_stays d4 (through-SpellsMaybeSign behind_stays d5 next)))))

module _ (names texts : List (List ℕ)) where
  mutual
    behind-Spells : {e : Expression} {ts rest : List Token} → Spells names texts e ts rest → Behind ts rest
    behind-Spells (is_literal _) = next
    behind-Spells (is_simple_name _) = next
    behind-Spells (is_this _) = next
    behind-Spells (is_outer_this d0 _ _) = through-SpellsName behind_stays d0 (further next)
    behind-Spells (is_parens _ _ d2 _) = further (through-Spells behind_stays names texts d2 next)
    behind-Spells (is_select _ d1 _ _) = through-Spells behind_stays names texts d1 (further next)
    behind-Spells (is_super_select _ _ _) = further (further next)
    behind-Spells (is_call _ d1) = further (behind-SpellsArguments d1)
    behind-Spells (is_call_on _ d1 _ _ d4) = through-Spells behind_stays names texts d1 (further (further (behind-SpellsArguments d4)))
    behind-Spells (is_super_call _ _ _ d3) = further (further (further (behind-SpellsArguments d3)))
    behind-Spells (is_index _ _ d2 _ d4 _) = through-Spells behind_stays names texts d2 (further (through-Spells behind_stays names texts d4 next))
    behind-Spells (is_new _ d1 d2) = further (through-SpellsRef behind_stays d1 (behind-SpellsArguments d2))
    behind-Spells (is_new_anonymous _ d1 d2 d3) = further (through-SpellsRef behind_stays d1 (through-SpellsArguments behind_stays names texts d2 (behind-SpellsBody d3)))
    behind-Spells (is_new_array _ d1 d2 d3) = behind-SpellsDims d3 (further (through-SpellsElement behind_stays d1 (behind-SpellsLengths d2)))
    behind-Spells (is_new_array_of _ d1 _ d3 d4) = further (through-SpellsElement behind_stays d1 (through-SpellsDims behind_stays d3 (behind-SpellsArrayInit d4)))
    behind-Spells (is_primitive_cast _ _ _ d3 _ d5) = further (further (through-SpellsDims behind_stays d3 (further (behind-Spells d5))))
    behind-Spells (is_class_cast _ _ d2 d3 _ d5) = further (through-SpellsName behind_stays d2 (through-SpellsDims behind_stays d3 (further (behind-Spells d5))))
    behind-Spells (is_prefix _ _ d2) = further (behind-Spells d2)
    behind-Spells (is_postfix _ d1 _) = through-Spells behind_stays names texts d1 next
    behind-Spells (is_binary _ _ d2 _ d4) = through-Spells behind_stays names texts d2 (further (behind-Spells d4))
    behind-Spells (is_instance_of _ q d2 _ d4) = through-Spells behind_stays names texts d2 (further (behind-plain_type q d4))
    behind-Spells (is_conditional _ _ d2 _ d4 _ d6) = through-Spells behind_stays names texts d2 (further (through-Spells behind_stays names texts d4 (further (behind-Spells d6))))
    behind-Spells (is_assign _ d1 _ _ d4) = through-Spells behind_stays names texts d1 (further (behind-Spells d4))

    behind-SpellsArguments : {es : Expressions} {c : Span} {ts rest : List Token} → SpellsArguments names texts es c ts rest → Behind ts rest
    behind-SpellsArguments (no_arguments _ _) = further next
    behind-SpellsArguments (some_arguments _ d1 _) = further (through-SpellsList behind_stays names texts d1 next)

    behind-SpellsLengths : {es : Expressions} {s : Span} {ts rest : List Token} → SpellsLengths names texts es s ts rest → Behind ts rest
    behind-SpellsLengths (last_length _ d1 _) = further (through-Spells behind_stays names texts d1 next)
    behind-SpellsLengths (more_lengths _ d1 _ d3) = further (through-Spells behind_stays names texts d1 (further (behind-SpellsLengths d3)))

    behind-SpellsArrayInit : {e : Expression} {ts rest : List Token} → SpellsArrayInit names texts e ts rest → Behind ts rest
    behind-SpellsArrayInit (is_array_init _ d1) = further (behind-SpellsInits d1)

    behind-SpellsInits : {es : Expressions} {c : Span} {ts rest : List Token} → SpellsInits names texts es c ts rest → Behind ts rest
    behind-SpellsInits (no_inits _) = next
    behind-SpellsInits (comma_alone _ _) = further next
    behind-SpellsInits (some_inits d0) = behind-SpellsMoreInits d0

    behind-SpellsMoreInits : {es : Expressions} {c : Span} {ts rest : List Token} → SpellsMoreInits names texts es c ts rest → Behind ts rest
    behind-SpellsMoreInits (last_init d0 _) = through-SpellsInit behind_stays names texts d0 next
    behind-SpellsMoreInits (last_init_and_comma d0 _ _) = through-SpellsInit behind_stays names texts d0 (further next)
    behind-SpellsMoreInits (more_inits d0 _ d2) = through-SpellsInit behind_stays names texts d0 (further (behind-SpellsMoreInits d2))

    behind-SpellsStatement : {b : Statement} {ts rest : List Token} → SpellsStatement names texts b ts rest → Behind ts rest
    behind-SpellsStatement (is_block _ d1) = further (behind-SpellsBlock d1)
    behind-SpellsStatement (is_empty _) = next
    behind-SpellsStatement (is_labelled _ _ d2) = further (further (behind-SpellsStatement d2))
    behind-SpellsStatement (is_if_only _ d1 d2) = further (through-SpellsCondition behind_stays names texts d1 (behind-SpellsStatement d2))
    behind-SpellsStatement (is_if_else _ _ d2 d3 _ d5) = further (through-SpellsCondition behind_stays names texts d2 (through-SpellsStatement behind_stays names texts d3 (further (behind-SpellsStatement d5))))
    behind-SpellsStatement (is_while _ d1 d2) = further (through-SpellsCondition behind_stays names texts d1 (behind-SpellsStatement d2))
    behind-SpellsStatement (is_do _ d1 _ d3 _) = further (through-SpellsStatement behind_stays names texts d1 (further (through-SpellsCondition behind_stays names texts d3 next)))
    behind-SpellsStatement (is_for _ _ d2 _ d4 _ d6 _ d8) = further (further (through-SpellsForInitializer behind_stays names texts d2 (further (through-SpellsMaybe behind_stays names texts d4 (further (through-SpellsMaybeSteps behind_stays names texts d6 (further (behind-SpellsStatement d8))))))))
    behind-SpellsStatement (is_for_each _ _ d2 d3 _ _ d6 _ d8) = further (further (through-SpellsFinal behind_stays d2 (through-SpellsTypeName behind_stays d3 (further (further (through-Spells behind_stays names texts d6 (further (behind-SpellsStatement d8))))))))
    behind-SpellsStatement (is_switch _ d1 _ d3) = further (through-SpellsCondition behind_stays names texts d1 (further (behind-SpellsGroups d3)))
    behind-SpellsStatement (is_break _ d1 _) = further (through-SpellsMaybeLabel behind_stays d1 next)
    behind-SpellsStatement (is_continue _ d1 _) = further (through-SpellsMaybeLabel behind_stays d1 next)
    behind-SpellsStatement (is_return _ d1 _) = further (through-SpellsMaybe behind_stays names texts d1 next)
    behind-SpellsStatement (is_throw _ d1 _) = further (through-Spells behind_stays names texts d1 next)
    behind-SpellsStatement (is_try _ _ _ d3 d4) = behind-SpellsCatches d4 (further (further (behind-SpellsBlock d3)))
    behind-SpellsStatement (is_try_finally _ _ d2 d3 _ _ d6) = further (further (through-SpellsBlock behind_stays names texts d2 (through-SpellsCatches behind_stays names texts d3 (further (further (behind-SpellsBlock d6))))))
    behind-SpellsStatement (is_expression_statement _ d1 _) = through-Spells behind_stays names texts d1 next

    behind-SpellsCatches : {cs : Catches} {s e : Span} {ts mid rest : List Token} → SpellsCatches names texts cs s e mid rest → Behind ts mid → Behind ts rest
    behind-SpellsCatches no_catches x = x
    behind-SpellsCatches (more_catches _ _ d2 d3 _ _ _ d7 d8) x = behind-SpellsCatches d8 (join-behind x (further (further (through-SpellsFinal behind_stays d2 (through-SpellsName behind_stays d3 (further (further (further (behind-SpellsBlock d7)))))))))

    behind-SpellsGroups : {gs : Groups} {c : Span} {ts rest : List Token} → SpellsGroups names texts gs c ts rest → Behind ts rest
    behind-SpellsGroups (no_groups _) = next
    behind-SpellsGroups (last_labels d0 _) = through-SpellsLabels behind_stays names texts d0 next
    behind-SpellsGroups (more_groups d0 d1 d2) = through-SpellsLabels behind_stays names texts d0 (through-SpellsStatements behind_stays names texts d1 (behind-SpellsGroups d2))

    behind-SpellsBlock : {bs : Statements} {c : Span} {ts rest : List Token} → SpellsBlock names texts bs c ts rest → Behind ts rest
    behind-SpellsBlock (empty_block _) = next
    behind-SpellsBlock (full_block d0 _) = through-SpellsStatements behind_stays names texts d0 next

    behind-SpellsBlockStatement : {b : Statement} {ts rest : List Token} → SpellsBlockStatement names texts b ts rest → Behind ts rest
    behind-SpellsBlockStatement (is_local d0 d1 d2 _) = through-SpellsFinal behind_stays d0 (through-SpellsTypeName behind_stays d1 (through-SpellsVariables behind_stays names texts d2 next))
    behind-SpellsBlockStatement (is_local_class _ d1 d2) = through-SpellsModifiers behind_stays names texts d1 (behind-SpellsClass d2)
    behind-SpellsBlockStatement (is_statement d0) = behind-SpellsStatement d0

    behind-SpellsMember : {m : Member} {ts rest : List Token} → SpellsMember names texts m ts rest → Behind ts rest
    behind-SpellsMember (is_type d0) = behind-SpellsDeclaration d0
    behind-SpellsMember (is_field d0 d1 d2 _) = through-SpellsModifiers behind_stays names texts d0 (through-SpellsTypeName behind_stays d1 (through-SpellsVariables behind_stays names texts d2 next))
    behind-SpellsMember (is_method d0 d1 _ d3 d4 d5) = through-SpellsModifiers behind_stays names texts d0 (through-SpellsResult behind_stays d1 (further (through-SpellsFormals behind_stays d3 (through-SpellsThrows behind_stays d4 (behind-SpellsMaybeBlock d5)))))
    behind-SpellsMember (is_constructor d0 _ d2 d3 _ d5 d6) = through-SpellsModifiers behind_stays names texts d0 (further (through-SpellsFormals behind_stays d2 (through-SpellsThrows behind_stays d3 (further (through-SpellsConstructorInvocation behind_stays names texts d5 (behind-SpellsBlock d6))))))
    behind-SpellsMember (is_initializer _ d1) = further (behind-SpellsBlock d1)
    behind-SpellsMember (is_static_initializer _ _ d2) = further (further (behind-SpellsBlock d2))

    behind-SpellsMaybeBlock : {b : MaybeBlock} {c : Span} {ts rest : List Token} → SpellsMaybeBlock names texts b c ts rest → Behind ts rest
    behind-SpellsMaybeBlock (without_body _) = next
    behind-SpellsMaybeBlock (with_body _ d1) = further (behind-SpellsBlock d1)

    behind-SpellsBody : {ms : Members} {c : Span} {ts rest : List Token} → SpellsBody names texts ms c ts rest → Behind ts rest
    behind-SpellsBody (is_body _ d1) = further (behind-SpellsMembers d1)

    behind-SpellsMembers : {ms : Members} {c : Span} {ts rest : List Token} → SpellsMembers names texts ms c ts rest → Behind ts rest
    behind-SpellsMembers (no_members _) = next
    behind-SpellsMembers (lone_semicolon _ d1) = further (behind-SpellsMembers d1)
    behind-SpellsMembers (more_members d0 d1) = through-SpellsMember behind_stays names texts d0 (behind-SpellsMembers d1)

    behind-SpellsDeclaration : {d : Declaration} {ts rest : List Token} → SpellsDeclaration names texts d ts rest → Behind ts rest
    behind-SpellsDeclaration (is_class d0 d1) = through-SpellsModifiers behind_stays names texts d0 (behind-SpellsClass d1)
    behind-SpellsDeclaration (is_interface d0 d1) = through-SpellsModifiers behind_stays names texts d0 (behind-SpellsInterface d1)
    behind-SpellsDeclaration (is_enum d0 d1) = through-SpellsModifiers behind_stays names texts d0 (behind-SpellsEnum d1)

    behind-SpellsClass : {ms : List Modifier} {s : Span} {d : Declaration} {ts rest : List Token} → SpellsClass names texts ms s d ts rest → Behind ts rest
    behind-SpellsClass (class_declaration _ _ d2 d3 d4 d5) = further (further (through-SpellsTypeParameters behind_stays d2 (through-SpellsExtends behind_stays d3 (through-SpellsImplements behind_stays d4 (behind-SpellsBody d5)))))

    behind-SpellsInterface : {ms : List Modifier} {s : Span} {d : Declaration} {ts rest : List Token} → SpellsInterface names texts ms s d ts rest → Behind ts rest
    behind-SpellsInterface (interface_declaration _ _ d2 d3 d4) = further (further (through-SpellsTypeParameters behind_stays d2 (through-SpellsExtendsAll behind_stays d3 (behind-SpellsBody d4))))

  pub expressions_leave_suffix : LeavesSuffix (Spells names texts)
  expressions_leave_suffix e ts rest d = behind_drop ts rest (behind-Spells d)

  pub statements_leave_suffix : LeavesSuffix (SpellsBlockStatement names texts)
  statements_leave_suffix b ts rest d = behind_drop ts rest (behind-SpellsBlockStatement d)

  pub members_leave_suffix : LeavesSuffix (SpellsMember names texts)
  members_leave_suffix m ts rest d = behind_drop ts rest (behind-SpellsMember d)

  pub declarations_leave_suffix : LeavesSuffix (SpellsDeclaration names texts)
  declarations_leave_suffix d ts rest s = behind_drop ts rest (behind-SpellsDeclaration s)
