-- What tokens spell is written: by the derivations of the grammar.
use Rattle.std.proofs.Common.{◌<◌, ℕ, List, [], Option, arith, refl}
use Rattle.std.specs.Prelude.{All}
use Rattle.std.proofs.lemmas.List.Elements.{All-cons, All-nil}
use Rattle.je_base.specs.declared.span.Span.{Span}
use Rattle.je_token.specs.declared.token.Token.{Token}
use Rattle.je_ast.specs.declared.decl.Modifier.{Modifier}
use Rattle.je_ast.specs.Trees.{Catches, ConstructorInvocation, Declaration, Expression, Expressions, ForInitializer, Groups}
use Rattle.je_ast.specs.Trees.{Labels, MaybeBlock, MaybeExpression, Member, Members, Statement, Statements, Variables}
use Rattle.je_ast.specs.Types.{TypeName, TypeNames, TypeParameter, class_type}
use Rattle.je_grammar.specs.Types.{SpellsMoreTypeParameters, SpellsRefs, SpellsTypeParameter, SpellsTypeParameters}
use Rattle.je_grammar.specs.Types.{bounded_parameter, last_parameter, last_ref, more_parameters, more_refs}
use Rattle.je_grammar.specs.Types.{no_parameters, plain_parameter, some_parameters}
use Rattle.je_grammar.specs.Grammar.{Spells, SpellsArguments, SpellsArrayInit, SpellsBlock, SpellsBlockStatement, SpellsBody}
use Rattle.je_grammar.specs.Grammar.{SpellsCatches, SpellsClass, SpellsCondition, SpellsConstructorInvocation}
use Rattle.je_grammar.specs.Grammar.{SpellsDeclaration, SpellsEnum, SpellsExtends, SpellsExtendsAll, SpellsForInitializer}
use Rattle.je_grammar.specs.Grammar.{SpellsGroups, SpellsImplements, SpellsInit, SpellsInits, SpellsInterface, SpellsLabels}
use Rattle.je_grammar.specs.Grammar.{SpellsLengths, SpellsList, SpellsMaybe, SpellsMaybeBlock, SpellsMaybeInit}
use Rattle.je_grammar.specs.Grammar.{SpellsMaybeSteps, SpellsMember, SpellsMembers, SpellsMoreInits, SpellsStatement}
use Rattle.je_grammar.specs.Grammar.{SpellsStatements, SpellsSteps, SpellsVariables}
use Rattle.je_grammar.specs.Grammar.{extends_all, extends_nothing, no_extends, no_implements, some_extends, some_implements}
use Rattle.je_grammar.specs.Grammar.{is_assign, is_binary, is_call, is_call_on, is_class_cast, is_conditional, is_index}
use Rattle.je_grammar.specs.Grammar.{is_instance_of, is_literal, is_new, is_new_anonymous, is_new_array, is_new_array_of}
use Rattle.je_grammar.specs.Grammar.{is_outer_this, is_parens, is_postfix, is_prefix, is_primitive_cast, is_select}
use Rattle.je_grammar.specs.Grammar.{is_simple_name, is_super_call, is_super_select, is_this}
use Rattle.je_grammar.specs.Grammar.{array_init, comma_alone, expression_init, is_array_init, last_expression, last_init}
use Rattle.je_grammar.specs.Grammar.{last_init_and_comma, last_length, last_variable, more_expressions, more_inits}
use Rattle.je_grammar.specs.Grammar.{more_lengths, more_variables, no_arguments, no_inits, nothing, some_arguments}
use Rattle.je_grammar.specs.Grammar.{some_inits, something, with_init, without_init}
use Rattle.je_grammar.specs.Grammar.{condition, for_locals, for_steps, is_block, is_break, is_continue, is_do, is_empty}
use Rattle.je_grammar.specs.Grammar.{is_expression_statement, is_for, is_for_each, is_if_else, is_if_only, is_labelled}
use Rattle.je_grammar.specs.Grammar.{is_return, is_switch, is_throw, is_try, is_try_finally, is_while, last_step}
use Rattle.je_grammar.specs.Grammar.{more_steps, no_steps, some_steps}
use Rattle.je_grammar.specs.Grammar.{empty_block, full_block, is_local, is_local_class, is_statement, last_case, last_default}
use Rattle.je_grammar.specs.Grammar.{last_labels, last_statement, more_cases, more_catches, more_defaults, more_groups}
use Rattle.je_grammar.specs.Grammar.{more_statements, no_catches, no_groups}
use Rattle.je_grammar.specs.Grammar.{class_declaration, enum_declaration, interface_declaration, is_body, is_class}
use Rattle.je_grammar.specs.Grammar.{is_constructor, is_enum, is_field, is_initializer, is_interface, is_method}
use Rattle.je_grammar.specs.Grammar.{is_static_initializer, is_type, lone_semicolon, more_members, no_call, no_members}
use Rattle.je_grammar.specs.Grammar.{super_call, this_call, with_body, without_body}
use Rattle.je_scopes.specs.Headers.{listed, with_superclass}
use Rattle.body_laws.specs.Written.{AllAreWritten, BlockIsWritten, BodyIsWritten, BoundIsMade, CallIsWritten}
use Rattle.body_laws.specs.Written.{CatchesAreWritten, DeclarationIsWritten, GroupsAreWritten, IsMade, IsWritten, IsWrittenIf}
use Rattle.body_laws.specs.Written.{LabelsAreWritten, MemberIsWritten, MembersAreWritten, StartIsWritten, StatementIsWritten}
use Rattle.body_laws.specs.Written.{VariablesAreWritten, count}
use Rattle.written_laws.specs.Laws.{DeclarationsAreWritten, ExpressionsAreWritten, SpelledMembersAreWritten}
use Rattle.written_laws.specs.Laws.{StatementsAreWritten}

-- ---- headers

refs : {us : TypeNames} {ts rest : List Token} → SpellsRefs us ts rest → All IsMade (listed us)
refs (last_ref {n = n} {args = args} {s = s} _) = All-cons IsMade (class_type n args 0 s) [] refl (All-nil IsMade)
refs (more_refs {n = n} {args = args} {us = us} {s = s} _ _ more) = All-cons IsMade (class_type n args 0 s) (listed us) refl (refs more)

implemented : {us : TypeNames} {ts rest : List Token} → SpellsImplements us ts rest → All IsMade (listed us)
implemented no_implements = All-nil IsMade
implemented (some_implements _ us) = refs us

extended : {us : TypeNames} {ts rest : List Token} → SpellsExtendsAll us ts rest → All IsMade (listed us)
extended extends_nothing = All-nil IsMade
extended (extends_all _ us) = refs us

above : {e : Option TypeName} {ts rest : List Token} (interfaces : List TypeName) → SpellsExtends e ts rest → All IsMade interfaces → All IsMade (with_superclass e interfaces)
above interfaces no_extends made = made
above interfaces (some_extends {n = n} {args = args} {s = s} _ _) made = All-cons IsMade (class_type n args 0 s) interfaces refl made

bound : {q : TypeParameter} {ts rest : List Token} → SpellsTypeParameter q ts rest → BoundIsMade q
bound (plain_parameter _) = tt
bound (bounded_parameter _ _ _) = refl

bounds : {qs : List TypeParameter} {ts rest : List Token} → SpellsMoreTypeParameters qs ts rest → All BoundIsMade qs
bounds (last_parameter {p = q} b _) = All-cons BoundIsMade q [] (bound b) (All-nil BoundIsMade)
bounds (more_parameters {p = q} {ps = qs} b _ more) = All-cons BoundIsMade q qs (bound b) (bounds more)

all-bounds : {qs : List TypeParameter} {ts rest : List Token} → SpellsTypeParameters qs ts rest → All BoundIsMade qs
all-bounds no_parameters = All-nil BoundIsMade
all-bounds (some_parameters _ qs) = bounds qs

enum : {ms : List Modifier} {s : Span} {d : Declaration} {ts rest : List Token} → SpellsEnum ms s d ts rest → DeclarationIsWritten d
enum (enum_declaration _ _ _ _ _ _ _) = tt

-- ---- trees

module _ (names texts : List (List ℕ)) where
  mutual
    expression : {e : Expression} {ts rest : List Token} → Spells names texts e ts rest → IsWritten e
    expression (is_literal _) = tt
    expression (is_simple_name _) = tt
    expression (is_this _) = tt
    expression (is_outer_this _ _ _) = tt
    expression (is_parens _ _ e _) = expression e
    expression (is_select _ e _ _) = expression e
    expression (is_super_select _ _ _) = tt
    expression (is_call _ es) = arguments es
    expression (is_call_on _ e _ _ es) = (expression e, arguments es)
    expression (is_super_call _ _ _ es) = arguments es
    expression (is_index _ _ a _ i _) = (expression a, expression i)
    expression (is_new _ _ es) = (refl, arguments es)
    expression (is_new_anonymous _ _ es ms) = (refl, arguments es, class_body ms)
    expression (is_new_array _ _ es _) = lengths es
    expression (is_new_array_of _ _ more _ e) = (more, array e)
    expression (is_primitive_cast _ _ _ _ _ e) = expression e
    expression (is_class_cast _ _ _ _ _ e) = expression e
    expression (is_prefix _ _ e) = expression e
    expression (is_postfix _ e _) = expression e
    expression (is_binary _ _ l _ r) = (expression l, expression r)
    expression (is_instance_of _ _ e _ _) = expression e
    expression (is_conditional _ _ c _ x _ y) = (expression c, expression x, expression y)
    expression (is_assign _ l _ _ r) = (expression l, expression r)

    arguments : {es : Expressions} {c : Span} {ts rest : List Token} → SpellsArguments names texts es c ts rest → AllAreWritten es
    arguments (no_arguments _ _) = tt
    arguments (some_arguments _ es _) = expressions es

    expressions : {es : Expressions} {ts rest : List Token} → SpellsList names texts es ts rest → AllAreWritten es
    expressions (last_expression e) = (expression e, tt)
    expressions (more_expressions e _ es) = (expression e, expressions es)

    lengths : {es : Expressions} {s : Span} {ts rest : List Token} → SpellsLengths names texts es s ts rest → (0 < count es) × AllAreWritten es
    lengths (last_length _ e _) = (omega arith, (expression e, tt))
    lengths (more_lengths _ e _ es) = (omega arith, (expression e, (lengths es).1))

    initial : {e : Expression} {ts rest : List Token} → SpellsInit names texts e ts rest → IsWritten e
    initial (expression_init e) = expression e
    initial (array_init e) = array e

    array : {e : Expression} {ts rest : List Token} → SpellsArrayInit names texts e ts rest → IsWritten e
    array (is_array_init _ es) = elements es

    elements : {es : Expressions} {c : Span} {ts rest : List Token} → SpellsInits names texts es c ts rest → AllAreWritten es
    elements (no_inits _) = tt
    elements (comma_alone _ _) = tt
    elements (some_inits es) = more_elements es

    more_elements : {es : Expressions} {c : Span} {ts rest : List Token} → SpellsMoreInits names texts es c ts rest → AllAreWritten es
    more_elements (last_init e _) = (initial e, tt)
    more_elements (last_init_and_comma e _ _) = (initial e, tt)
    more_elements (more_inits e _ es) = (initial e, more_elements es)

    variables : {vs : Variables} {ts rest : List Token} → SpellsVariables names texts vs ts rest → VariablesAreWritten vs
    variables (last_variable _ _ e) = (initial_if e, tt)
    variables (more_variables _ _ e _ vs) = (initial_if e, variables vs)

    initial_if : {e : MaybeExpression} {ts rest : List Token} → SpellsMaybeInit names texts e ts rest → IsWrittenIf e
    initial_if without_init = tt
    initial_if (with_init _ e) = initial e

    expression_if : {e : MaybeExpression} {ts rest : List Token} → SpellsMaybe names texts e ts rest → IsWrittenIf e
    expression_if nothing = tt
    expression_if (something e) = expression e

    steps : {es : Expressions} {ts rest : List Token} → SpellsSteps names texts es ts rest → AllAreWritten es
    steps (last_step _ e) = (expression e, tt)
    steps (more_steps _ e _ es) = (expression e, steps es)

    steps_if : {es : Expressions} {ts rest : List Token} → SpellsMaybeSteps names texts es ts rest → AllAreWritten es
    steps_if no_steps = tt
    steps_if (some_steps es) = steps es

    start : {i : ForInitializer} {ts rest : List Token} → SpellsForInitializer names texts i ts rest → StartIsWritten i
    start (for_locals _ _ vs) = variables vs
    start (for_steps es) = steps_if es

    statement : {b : Statement} {ts rest : List Token} → SpellsStatement names texts b ts rest → StatementIsWritten b
    statement (is_block _ b) = block b
    statement (is_empty _) = tt
    statement (is_labelled _ _ b) = statement b
    statement (is_if_only _ c b) = (test c, statement b)
    statement (is_if_else _ _ c x _ y) = (test c, statement x, statement y)
    statement (is_while _ c b) = (test c, statement b)
    statement (is_do _ b _ c _) = (statement b, test c)
    statement (is_for _ _ i _ c _ es _ b) = (start i, expression_if c, steps_if es, statement b)
    statement (is_for_each _ _ _ _ _ _ e _ b) = (expression e, statement b)
    statement (is_switch _ e _ gs) = (test e, groups gs)
    statement (is_break _ _ _) = tt
    statement (is_continue _ _ _) = tt
    statement (is_return _ e _) = expression_if e
    statement (is_throw _ e _) = expression e
    statement (is_try _ _ _ b cs) = (block b, catches cs)
    statement (is_try_finally _ _ b cs _ _ l) = (block b, catches cs, block l)
    statement (is_expression_statement _ e _) = expression e

    test : {e : Expression} {ts rest : List Token} → SpellsCondition names texts e ts rest → IsWritten e
    test (condition _ e _) = expression e

    catches : {cs : Catches} {s e : Span} {ts rest : List Token} → SpellsCatches names texts cs s e ts rest → CatchesAreWritten cs
    catches no_catches = tt
    catches (more_catches _ _ _ _ _ _ _ b cs) = (block b, catches cs)

    groups : {gs : Groups} {c : Span} {ts rest : List Token} → SpellsGroups names texts gs c ts rest → GroupsAreWritten gs
    groups (no_groups _) = tt
    groups (last_labels ls _) = (labels ls, tt, tt)
    groups (more_groups ls bs gs) = (labels ls, statements bs, groups gs)

    labels : {ls : Labels} {ts rest : List Token} → SpellsLabels names texts ls ts rest → LabelsAreWritten ls
    labels (last_case _ e _) = (expression e, tt)
    labels (last_default _ _) = tt
    labels (more_cases _ e _ ls) = (expression e, labels ls)
    labels (more_defaults _ _ ls) = labels ls

    statements : {bs : Statements} {ts rest : List Token} → SpellsStatements names texts bs ts rest → BodyIsWritten bs
    statements (last_statement b) = (block_statement b, tt)
    statements (more_statements b bs) = (block_statement b, statements bs)

    block : {bs : Statements} {c : Span} {ts rest : List Token} → SpellsBlock names texts bs c ts rest → BodyIsWritten bs
    block (empty_block _) = tt
    block (full_block bs _) = statements bs

    block_statement : {b : Statement} {ts rest : List Token} → SpellsBlockStatement names texts b ts rest → StatementIsWritten b
    block_statement (is_local _ _ vs _) = variables vs
    block_statement (is_local_class _ _ d) = class d
    block_statement (is_statement b) = statement b

    member : {m : Member} {ts rest : List Token} → SpellsMember names texts m ts rest → MemberIsWritten m
    member (is_type d) = declaration d
    member (is_field _ _ vs _) = variables vs
    member (is_method _ _ _ _ _ b) = block_if b
    member (is_constructor _ _ _ _ _ call b) = (invocation call, block b)
    member (is_initializer _ b) = block b
    member (is_static_initializer _ _ b) = block b

    block_if : {b : MaybeBlock} {c : Span} {ts rest : List Token} → SpellsMaybeBlock names texts b c ts rest → BlockIsWritten b
    block_if (without_body _) = tt
    block_if (with_body _ b) = block b

    invocation : {f : ConstructorInvocation} {ts rest : List Token} → SpellsConstructorInvocation names texts f ts rest → CallIsWritten f
    invocation no_call = tt
    invocation (this_call _ es _) = arguments es
    invocation (super_call _ es _) = arguments es

    class_body : {ms : Members} {c : Span} {ts rest : List Token} → SpellsBody names texts ms c ts rest → MembersAreWritten ms
    class_body (is_body _ ms) = members ms

    members : {ms : Members} {c : Span} {ts rest : List Token} → SpellsMembers names texts ms c ts rest → MembersAreWritten ms
    members (no_members _) = tt
    members (lone_semicolon _ ms) = members ms
    members (more_members m ms) = (member m, members ms)

    declaration : {d : Declaration} {ts rest : List Token} → SpellsDeclaration names texts d ts rest → DeclarationIsWritten d
    declaration (is_class _ d) = class d
    declaration (is_interface _ d) = interface d
    declaration (is_enum _ d) = enum d

    class : {ms : List Modifier} {s : Span} {d : Declaration} {ts rest : List Token} → SpellsClass names texts ms s d ts rest → DeclarationIsWritten d
    class (class_declaration _ _ qs e is ms) = ((above _ e (implemented is), all-bounds qs), class_body ms)

    interface : {ms : List Modifier} {s : Span} {d : Declaration} {ts rest : List Token} → SpellsInterface names texts ms s d ts rest → DeclarationIsWritten d
    interface (interface_declaration _ _ qs es ms) = ((extended es, all-bounds qs), class_body ms)

pub expressions_are_written : ExpressionsAreWritten
expressions_are_written names texts e ts rest h = expression names texts h

pub statements_are_written : StatementsAreWritten
statements_are_written names texts b ts rest h = block_statement names texts h

pub spelled_members_are_written : SpelledMembersAreWritten
spelled_members_are_written names texts m ts rest h = member names texts h

pub declarations_are_written : DeclarationsAreWritten
declarations_are_written names texts d ts rest h = declaration names texts h
