-- Other numbers for its names leave the size of a tree as it is.
use Rattle.std.proofs.Common.{◌≡◌, ℕ, ◌≤◌, List, [], ◌∷◌, map, Option, Some, None, option_map, arith, ap}
use Rattle.std.proofs.lemmas.List.{length-map}
use Rattle.je_base.specs.declared.span.NameId.{NameId}
use Rattle.je_ast.specs.declared.name.Identifier.{Identifier}
use Rattle.je_ast.specs.Types.{TypeName, TypeNames, primitive, class_type, no_types, more_types, TypeParameter, FormalParameter}
use Rattle.je_ast.specs.Trees.{Expression, Expressions, MaybeExpression, Statement, Statements, ForInitializer, Variables, Groups, Labels, Catches, Member, Members, MaybeBlock, ConstructorInvocation, Declaration, CompilationUnit}
use Rattle.je_ast.specs.Trees as tree
use Rattle.je_ast.specs.Renumbering.{renumbered_identifier, renumbered_type, renumbered_types, renumbered_parameter, renumbered_formal, renumbered_expression, renumbered_expressions, renumbered_expression_if, renumbered_statement, renumbered_statements, renumbered_for_initializer, renumbered_variables, renumbered_groups, renumbered_labels, renumbered_catches, renumbered_member, renumbered_members, renumbered_block_if, renumbered_constructor_invocation, renumbered_declaration, renumbered}
use Rattle.je_ast.specs.Size.{type_size, types_size, type_size_if, parameters_size, formals_size, constants_size, size, sizes, size_if, statement_size, statements_size, for_initializer_size, variables_size, groups_size, labels_size, catches_size, member_size, members_size, block_size_if, constructor_invocation_size, declaration_size, unit_size}

module _ (to : List NameId) where
  mutual
    type_size-kept : (t : TypeName) → type_size (renumbered_type to t) ≡ type_size t
    type_size-kept (primitive p dims s) = omega arith
    type_size-kept (class_type n args dims s) = let a = types_size-kept args in omega arith

    types_size-kept : (ts : TypeNames) → types_size (renumbered_types to ts) ≡ types_size ts
    types_size-kept no_types = omega arith
    types_size-kept (more_types t ts) = let a = type_size-kept t in let b = types_size-kept ts in omega arith

  type_size_if-kept : (t : Option TypeName) → type_size_if (option_map (renumbered_type to) t) ≡ type_size_if t
  type_size_if-kept None = omega arith
  type_size_if-kept (Some t) = type_size-kept t

  parameters_size-kept : (ps : List TypeParameter) → parameters_size (map (renumbered_parameter to) ps) ≡ parameters_size ps
  parameters_size-kept [] = omega arith
  parameters_size-kept (p ∷ ps) = let a = type_size_if-kept p.bound in let b = parameters_size-kept ps in omega arith

  formals_size-kept : (fs : List FormalParameter) → formals_size (map (renumbered_formal to) fs) ≡ formals_size fs
  formals_size-kept [] = omega arith
  formals_size-kept (f ∷ fs) = let a = type_size-kept f.declared in let b = formals_size-kept fs in omega arith

  constants_size-kept : (cs : List Identifier) → constants_size (map (renumbered_identifier to) cs) ≡ constants_size cs
  constants_size-kept cs = length-map cs (renumbered_identifier to)

  mutual
    size-kept : (x : Expression) → size (renumbered_expression to x) ≡ size x
    size-kept (tree.literal l s) = omega arith
    size-kept (tree.name n) = omega arith
    size-kept (tree.this s) = omega arith
    size-kept (tree.outer_this n t s) = omega arith
    size-kept (tree.parens e s) = let h0 = size-kept e in omega arith
    size-kept (tree.select e n s) = let h0 = size-kept e in omega arith
    size-kept (tree.super_select w n s) = omega arith
    size-kept (tree.call n es s) = let h0 = sizes-kept es in omega arith
    size-kept (tree.call_on e n es s) = let h0 = size-kept e in let h1 = sizes-kept es in omega arith
    size-kept (tree.super_call w n es s) = let h0 = sizes-kept es in omega arith
    size-kept (tree.index a i s) = let h0 = size-kept a in let h1 = size-kept i in omega arith
    size-kept (tree.new_object w t es s) = let h0 = type_size-kept t in let h1 = sizes-kept es in omega arith
    size-kept (tree.new_anonymous w t es ms s) = let h0 = type_size-kept t in let h1 = sizes-kept es in let h2 = members_size-kept ms in omega arith
    size-kept (tree.new_array t es dims s) = let h0 = type_size-kept t in let h1 = sizes-kept es in omega arith
    size-kept (tree.new_array_of t dims e s) = let h0 = type_size-kept t in let h1 = size-kept e in omega arith
    size-kept (tree.array_init es s) = let h0 = sizes-kept es in omega arith
    size-kept (tree.cast t e s) = let h0 = type_size-kept t in let h1 = size-kept e in omega arith
    size-kept (tree.prefix op a e s) = let h0 = size-kept e in omega arith
    size-kept (tree.postfix op a e s) = let h0 = size-kept e in omega arith
    size-kept (tree.binary op a l r s) = let h0 = size-kept l in let h1 = size-kept r in omega arith
    size-kept (tree.instance_of a e t s) = let h0 = size-kept e in let h1 = type_size-kept t in omega arith
    size-kept (tree.conditional a c x y s) = let h0 = size-kept c in let h1 = size-kept x in let h2 = size-kept y in omega arith
    size-kept (tree.assign op a l r s) = let h0 = size-kept l in let h1 = size-kept r in omega arith

    sizes-kept : (x : Expressions) → sizes (renumbered_expressions to x) ≡ sizes x
    sizes-kept tree.no_expressions = omega arith
    sizes-kept (tree.more_expressions e es) = let h0 = size-kept e in let h1 = sizes-kept es in omega arith

    size_if-kept : (x : MaybeExpression) → size_if (renumbered_expression_if to x) ≡ size_if x
    size_if-kept tree.no_expression = omega arith
    size_if-kept (tree.an_expression e) = let h0 = size-kept e in omega arith

    statement_size-kept : (x : Statement) → statement_size (renumbered_statement to x) ≡ statement_size x
    statement_size-kept (tree.block o b c) = let h0 = statements_size-kept b in omega arith
    statement_size-kept (tree.local f b t vs s) = let h0 = type_size-kept t in let h1 = variables_size-kept vs in omega arith
    statement_size-kept (tree.local_class d) = let h0 = declaration_size-kept d in omega arith
    statement_size-kept (tree.empty s) = omega arith
    statement_size-kept (tree.labelled n b s) = let h0 = statement_size-kept b in omega arith
    statement_size-kept (tree.if_only f c x s) = let h0 = size-kept c in let h1 = statement_size-kept x in omega arith
    statement_size-kept (tree.if_else f c x y s) = let h0 = size-kept c in let h1 = statement_size-kept x in let h2 = statement_size-kept y in omega arith
    statement_size-kept (tree.while f c b s) = let h0 = size-kept c in let h1 = statement_size-kept b in omega arith
    statement_size-kept (tree.do_while f b c s) = let h0 = statement_size-kept b in let h1 = size-kept c in omega arith
    statement_size-kept (tree.for f i c es b s) = let h0 = for_initializer_size-kept i in let h1 = size_if-kept c in let h2 = sizes-kept es in let h3 = statement_size-kept b in omega arith
    statement_size-kept (tree.for_each f m t n e b s) = let h0 = type_size-kept t in let h1 = size-kept e in let h2 = statement_size-kept b in omega arith
    statement_size-kept (tree.switch f e gs s) = let h0 = size-kept e in let h1 = groups_size-kept gs in omega arith
    statement_size-kept (tree.break f n s) = omega arith
    statement_size-kept (tree.continue f n s) = omega arith
    statement_size-kept (tree.return f e s) = let h0 = size_if-kept e in omega arith
    statement_size-kept (tree.throw f e s) = let h0 = size-kept e in omega arith
    statement_size-kept (tree.try f o b c cs s) = let h0 = statements_size-kept b in let h1 = catches_size-kept cs in omega arith
    statement_size-kept (tree.try_finally f o b c cs w p l q s) = let h0 = statements_size-kept b in let h1 = catches_size-kept cs in let h2 = statements_size-kept l in omega arith
    statement_size-kept (tree.expression_statement f e s) = let h0 = size-kept e in omega arith

    statements_size-kept : (x : Statements) → statements_size (renumbered_statements to x) ≡ statements_size x
    statements_size-kept tree.no_statements = omega arith
    statements_size-kept (tree.more_statements b bs) = let h0 = statement_size-kept b in let h1 = statements_size-kept bs in omega arith

    for_initializer_size-kept : (x : ForInitializer) → for_initializer_size (renumbered_for_initializer to x) ≡ for_initializer_size x
    for_initializer_size-kept (tree.locals m t vs) = let h0 = type_size-kept t in let h1 = variables_size-kept vs in omega arith
    for_initializer_size-kept (tree.steps es) = let h0 = sizes-kept es in omega arith

    variables_size-kept : (x : Variables) → variables_size (renumbered_variables to x) ≡ variables_size x
    variables_size-kept tree.no_variables = omega arith
    variables_size-kept (tree.more_variables n dims e vs) = let h0 = size_if-kept e in let h1 = variables_size-kept vs in omega arith

    groups_size-kept : (x : Groups) → groups_size (renumbered_groups to x) ≡ groups_size x
    groups_size-kept tree.no_groups = omega arith
    groups_size-kept (tree.more_groups ls bs gs) = let h0 = labels_size-kept ls in let h1 = statements_size-kept bs in let h2 = groups_size-kept gs in omega arith

    labels_size-kept : (x : Labels) → labels_size (renumbered_labels to x) ≡ labels_size x
    labels_size-kept tree.no_labels = omega arith
    labels_size-kept (tree.case_label e ls) = let h0 = size-kept e in let h1 = labels_size-kept ls in omega arith
    labels_size-kept (tree.default_label s ls) = let h0 = labels_size-kept ls in omega arith

    catches_size-kept : (x : Catches) → catches_size (renumbered_catches to x) ≡ catches_size x
    catches_size-kept tree.no_catches = omega arith
    catches_size-kept (tree.more_catches m t n o b c cs) = let h0 = statements_size-kept b in let h1 = catches_size-kept cs in omega arith

    member_size-kept : (x : Member) → member_size (renumbered_member to x) ≡ member_size x
    member_size-kept (tree.member_type d) = let h0 = declaration_size-kept d in omega arith
    member_size-kept (tree.field ms t vs s) = let h0 = type_size-kept t in let h1 = variables_size-kept vs in omega arith
    member_size-kept (tree.method ms t n fs ts b s) = let h0 = type_size_if-kept t in let h1 = formals_size-kept fs in let h2 = block_size_if-kept b in omega arith
    member_size-kept (tree.constructor ms n fs ts f o b c s) = let h0 = formals_size-kept fs in let h1 = constructor_invocation_size-kept f in let h2 = statements_size-kept b in omega arith
    member_size-kept (tree.initializer m o b c s) = let h0 = statements_size-kept b in omega arith

    members_size-kept : (x : Members) → members_size (renumbered_members to x) ≡ members_size x
    members_size-kept tree.no_members = omega arith
    members_size-kept (tree.more_members m ms) = let h0 = member_size-kept m in let h1 = members_size-kept ms in omega arith

    block_size_if-kept : (x : MaybeBlock) → block_size_if (renumbered_block_if to x) ≡ block_size_if x
    block_size_if-kept tree.no_block = omega arith
    block_size_if-kept (tree.a_block o b c) = let h0 = statements_size-kept b in omega arith

    constructor_invocation_size-kept : (x : ConstructorInvocation) → constructor_invocation_size (renumbered_constructor_invocation to x) ≡ constructor_invocation_size x
    constructor_invocation_size-kept tree.implicit = omega arith
    constructor_invocation_size-kept (tree.explicit m w es) = let h0 = sizes-kept es in omega arith

    declaration_size-kept : (x : Declaration) → declaration_size (renumbered_declaration to x) ≡ declaration_size x
    declaration_size-kept (tree.class_declaration ms n ps e is body s) = let h0 = parameters_size-kept ps in let h1 = type_size_if-kept e in let h2 = types_size-kept is in let h3 = members_size-kept body in omega arith
    declaration_size-kept (tree.interface_declaration ms n ps es body s) = let h0 = parameters_size-kept ps in let h1 = types_size-kept es in let h2 = members_size-kept body in omega arith
    declaration_size-kept (tree.enum_declaration ms n cs s) = let h0 = constants_size-kept cs in omega arith

  unit_size-kept : (ds : List Declaration) → unit_size (map (renumbered_declaration to) ds) ≡ unit_size ds
  unit_size-kept [] = omega arith
  unit_size-kept (d ∷ ds) = let a = declaration_size-kept d in let b = unit_size-kept ds in omega arith

-- what bounds a unit bounds it with other numbers
pub small_kept : (to : List NameId) (own u : CompilationUnit) (most : ℕ) → u ≡ renumbered to own → unit_size own.declarations ≤ most → unit_size u.declarations ≤ most
small_kept to own u most is small =
    let same = unit_size-kept to own.declarations in
    let whole = ap (λ (v : CompilationUnit). unit_size v.declarations) is in
    omega arith
