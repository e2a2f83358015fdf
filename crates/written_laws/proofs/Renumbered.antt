-- A tree with other numbers for its names is written as the tree is.
use Rattle.std.proofs.Common.{◌≡◌, ◌<◌, subst, refl, List, Option, Some, None}
use Rattle.std.specs.Prelude.{All, map, option_map}
use Rattle.std.proofs.lemmas.List.Elements.{All-cons, All-head, All-map, All-tail, All-weaker}
use Rattle.je_base.specs.declared.span.NameId.{NameId}
use Rattle.je_ast.specs.Renumbering.{renumbered, renumbered_block_if, renumbered_catches, renumbered_constructor_invocation}
use Rattle.je_ast.specs.Renumbering.{renumbered_declaration, renumbered_expression, renumbered_expression_if}
use Rattle.je_ast.specs.Renumbering.{renumbered_expressions, renumbered_for_initializer, renumbered_groups, renumbered_labels}
use Rattle.je_ast.specs.Renumbering.{renumbered_member, renumbered_members, renumbered_parameter, renumbered_statement}
use Rattle.je_ast.specs.Renumbering.{renumbered_statements, renumbered_type, renumbered_types, renumbered_variables}
use Rattle.je_ast.specs.Trees.{Catches, CompilationUnit, ConstructorInvocation, Declaration, Expression, Expressions}
use Rattle.je_ast.specs.Trees.{ForInitializer, Groups, Labels, MaybeBlock, MaybeExpression, Member, Members, Statement}
use Rattle.je_ast.specs.Trees.{Statements, Variables}
use Rattle.je_ast.specs.Trees as tree
use Rattle.je_ast.specs.Types.{TypeName, TypeNames, TypeParameter, class_type, more_types, no_types, primitive}
use Rattle.je_scopes.specs.Headers.{listed, with_superclass}
use Rattle.body_laws.specs.Written.{AllAreWritten, BlockIsWritten, BodyIsWritten, BoundIsMade, CallIsWritten}
use Rattle.body_laws.specs.Written.{CatchesAreWritten, DeclarationIsWritten, GroupsAreWritten, IsMade, IsWritten, IsWrittenIf}
use Rattle.body_laws.specs.Written.{LabelsAreWritten, MemberIsWritten, MembersAreWritten, StartIsWritten, StatementIsWritten}
use Rattle.body_laws.specs.Written.{VariablesAreWritten, count}
use Rattle.written_laws.specs.Laws.{UnitIsWritten}

module _ (to : List NameId) where
  made : (t : TypeName) → IsMade t → IsMade (renumbered_type to t)
  made (primitive p dims span) h = h
  made (class_type q args dims span) h = h

  all-made : (ts : TypeNames) → All IsMade (listed ts) → All IsMade (listed (renumbered_types to ts))
  all-made no_types h = h
  all-made (more_types t ts) h = All-cons IsMade _ _ (made t (All-head IsMade t (listed ts) h)) (all-made ts (All-tail IsMade t (listed ts) h))

  above : (e : Option TypeName) (ts : TypeNames) → All IsMade (with_superclass e (listed ts)) → All IsMade (with_superclass (option_map (renumbered_type to) e) (listed (renumbered_types to ts)))
  above None ts h = all-made ts h
  above (Some t) ts h = All-cons IsMade _ _ (made t (All-head IsMade t (listed ts) h)) (all-made ts (All-tail IsMade t (listed ts) h))

  bound-if : (o : Option TypeName) (q : TypeParameter) → q.bound ≡ o → BoundIsMade q → BoundIsMade (renumbered_parameter to q)
  bound-if None q e h = rw e tt
  bound-if (Some t) q e h = rw e (made t (rw e at h))

  bounds : (qs : List TypeParameter) → All BoundIsMade qs → All BoundIsMade (map (renumbered_parameter to) qs)
  bounds qs h = All-map BoundIsMade (renumbered_parameter to) qs (All-weaker BoundIsMade (λ q. BoundIsMade (renumbered_parameter to q)) (λ q. bound-if q.bound q refl) qs h)

  same-count : (es : Expressions) → count es ≡ count (renumbered_expressions to es)
  same-count tree.no_expressions = refl
  same-count (tree.more_expressions e es) = rw (same-count es) refl

  mutual
    expression : (e : Expression) → IsWritten e → IsWritten (renumbered_expression to e)
    expression (tree.literal l span) h = tt
    expression (tree.name id) h = tt
    expression (tree.this span) h = tt
    expression (tree.outer_this q word span) h = tt
    expression (tree.parens e span) h = expression e h
    expression (tree.select e id span) h = expression e h
    expression (tree.super_select word id span) h = tt
    expression (tree.call id es span) h = expressions es h
    expression (tree.call_on e id es span) h = (expression e h.0, expressions es h.1)
    expression (tree.super_call word id es span) h = expressions es h
    expression (tree.index e i span) h = (expression e h.0, expression i h.1)
    expression (tree.new_object word t es span) h = (made t h.0, expressions es h.1)
    expression (tree.new_anonymous word t es inner span) h = (made t h.0, expressions es h.1, members inner h.2)
    expression (tree.new_array t es dims span) h = (subst (λ n. 0 < n) (same-count es) h.0, expressions es h.1)
    expression (tree.new_array_of t dims e span) h = (h.0, expression e h.1)
    expression (tree.array_init es span) h = expressions es h
    expression (tree.cast t e span) h = expression e h
    expression (tree.prefix o at e span) h = expression e h
    expression (tree.postfix o at e span) h = expression e h
    expression (tree.binary o at e f span) h = (expression e h.0, expression f h.1)
    expression (tree.instance_of at e t span) h = expression e h
    expression (tree.conditional at c e f span) h = (expression c h.0, expression e h.1, expression f h.2)
    expression (tree.assign o at e f span) h = (expression e h.0, expression f h.1)

    expressions : (es : Expressions) → AllAreWritten es → AllAreWritten (renumbered_expressions to es)
    expressions tree.no_expressions h = tt
    expressions (tree.more_expressions e es) h = (expression e h.0, expressions es h.1)

    expression_if : (e : MaybeExpression) → IsWrittenIf e → IsWrittenIf (renumbered_expression_if to e)
    expression_if tree.no_expression h = tt
    expression_if (tree.an_expression e) h = expression e h

    variables : (vs : Variables) → VariablesAreWritten vs → VariablesAreWritten (renumbered_variables to vs)
    variables tree.no_variables h = tt
    variables (tree.more_variables id dims e vs) h = (expression_if e h.0, variables vs h.1)

    labels : (ls : Labels) → LabelsAreWritten ls → LabelsAreWritten (renumbered_labels to ls)
    labels tree.no_labels h = tt
    labels (tree.case_label e ls) h = (expression e h.0, labels ls h.1)
    labels (tree.default_label word ls) h = labels ls h

    start : (i : ForInitializer) → StartIsWritten i → StartIsWritten (renumbered_for_initializer to i)
    start (tree.locals is_final t vs) h = variables vs h
    start (tree.steps es) h = expressions es h

    statement : (b : Statement) → StatementIsWritten b → StatementIsWritten (renumbered_statement to b)
    statement (tree.block opening b closing) h = statements b h
    statement (tree.local word is_final t vs span) h = variables vs h
    statement (tree.local_class d) h = declaration d h
    statement (tree.empty span) h = tt
    statement (tree.labelled id b span) h = statement b h
    statement (tree.if_only word c b span) h = (expression c h.0, statement b h.1)
    statement (tree.if_else word c b b' span) h = (expression c h.0, statement b h.1, statement b' h.2)
    statement (tree.while word c b span) h = (expression c h.0, statement b h.1)
    statement (tree.do_while word b c span) h = (statement b h.0, expression c h.1)
    statement (tree.for word i c es b span) h = (start i h.0, expression_if c h.1, expressions es h.2, statement b h.3)
    statement (tree.for_each word is_final t id e b span) h = (expression e h.0, statement b h.1)
    statement (tree.switch word e gs span) h = (expression e h.0, groups gs h.1)
    statement (tree.break word to span) h = tt
    statement (tree.continue word to span) h = tt
    statement (tree.return word e span) h = expression_if e h
    statement (tree.throw word e span) h = expression e h
    statement (tree.try word opening b closing cs span) h = (statements b h.0, catches cs h.1)
    statement (tree.try_finally word opening b closing cs at opening' c closing' span) h = (statements b h.0, catches cs h.1, statements c h.2)
    statement (tree.expression_statement word e span) h = expression e h

    statements : (bs : Statements) → BodyIsWritten bs → BodyIsWritten (renumbered_statements to bs)
    statements tree.no_statements h = tt
    statements (tree.more_statements b bs) h = (statement b h.0, statements bs h.1)

    groups : (gs : Groups) → GroupsAreWritten gs → GroupsAreWritten (renumbered_groups to gs)
    groups tree.no_groups h = tt
    groups (tree.more_groups ls b gs) h = (labels ls h.0, statements b h.1, groups gs h.2)

    catches : (cs : Catches) → CatchesAreWritten cs → CatchesAreWritten (renumbered_catches to cs)
    catches tree.no_catches h = tt
    catches (tree.more_catches is_final q id opening b closing cs) h = (statements b h.0, catches cs h.1)

    member : (m : Member) → MemberIsWritten m → MemberIsWritten (renumbered_member to m)
    member (tree.member_type d) h = declaration d h
    member (tree.field ms t vs span) h = variables vs h
    member (tree.method ms t id fs ts block span) h = block_if block h
    member (tree.constructor ms id fs ts call opening b closing span) h = (invocation call h.0, statements b h.1)
    member (tree.initializer word opening b closing span) h = statements b h

    members : (ms : Members) → MembersAreWritten ms → MembersAreWritten (renumbered_members to ms)
    members tree.no_members h = tt
    members (tree.more_members m ms) h = (member m h.0, members ms h.1)

    block_if : (b : MaybeBlock) → BlockIsWritten b → BlockIsWritten (renumbered_block_if to b)
    block_if tree.no_block h = tt
    block_if (tree.a_block opening b closing) h = statements b h

    invocation : (f : ConstructorInvocation) → CallIsWritten f → CallIsWritten (renumbered_constructor_invocation to f)
    invocation tree.implicit h = tt
    invocation (tree.explicit is_super word es) h = expressions es h

    declaration : (d : Declaration) → DeclarationIsWritten d → DeclarationIsWritten (renumbered_declaration to d)
    declaration (tree.class_declaration ms id ps e interfaces body span) h = ((above e interfaces h.0.0, bounds ps h.0.1), members body h.1)
    declaration (tree.interface_declaration ms id ps interfaces body span) h = ((all-made interfaces h.0.0, bounds ps h.0.1), members body h.1)
    declaration (tree.enum_declaration ms id constants span) h = tt

  pub unit : (u : CompilationUnit) → UnitIsWritten u → UnitIsWritten (renumbered to u)
  unit u h = All-map DeclarationIsWritten (renumbered_declaration to) u.declarations (All-weaker DeclarationIsWritten (λ d. DeclarationIsWritten (renumbered_declaration to d)) declaration u.declarations h)
