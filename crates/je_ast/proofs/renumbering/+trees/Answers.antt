use Rattle.std.proofs.Common.{arith, rules, refl}
use Rattle.std.proofs.lemmas.List.{with_items_is}
use Rattle.je_ast.proofs.Went.{goes_on_below}
use Rattle.je_ast.proofs.ListsWent.{expressions_went, variables_went, statements_went, labels_went, groups_went, catches_went, members_went}
use Rattle.je_ast.proofs.VariantsRenumbered.{renumbered_expression-Name, renumbered_expression-OuterThis, renumbered_expression-Parens, renumbered_expression-Select, renumbered_expression-SuperSelect, renumbered_expression-Call, renumbered_expression-CallOn, renumbered_expression-SuperCall, renumbered_expression-Index, renumbered_expression-New, renumbered_expression-NewAnonymous, renumbered_expression-NewArray, renumbered_expression-NewArrayOf, renumbered_expression-ArrayInit, renumbered_expression-Cast, renumbered_expression-Prefix, renumbered_expression-Postfix, renumbered_expression-Binary, renumbered_expression-InstanceOf, renumbered_expression-Conditional, renumbered_expression-Assign, renumbered_for_initializer-Locals, renumbered_for_initializer-Steps, renumbered_statement-Block, renumbered_statement-Local, renumbered_statement-Class, renumbered_statement-Labelled, renumbered_statement-If, renumbered_statement-IfElse, renumbered_statement-While, renumbered_statement-Do, renumbered_statement-For, renumbered_statement-ForEach, renumbered_statement-Switch, renumbered_statement-Break, renumbered_statement-Continue, renumbered_statement-Return, renumbered_statement-Throw, renumbered_statement-Try, renumbered_statement-TryFinally, renumbered_statement-ExpressionStatement, renumbered_constructor_invocation-Explicit, renumbered_member-Type, renumbered_member-Field, renumbered_member-Method, renumbered_member-Constructor, renumbered_member-Initializer, renumbered_declaration-Class, renumbered_declaration-Interface, renumbered_declaration-Enum}
use Rattle.je_ast.specs.declared.expr.Expr.TheVariants as expr
use Rattle.je_ast.specs.declared.stmt.ForInit.TheVariants as for_init
use Rattle.je_ast.specs.declared.stmt.Stmt.TheVariants as stmt
use Rattle.je_ast.specs.declared.decl.ConstructorCall.TheVariants as call
use Rattle.je_ast.specs.declared.decl.Member.TheVariants as member
use Rattle.je_ast.specs.declared.decl.Decl.TheVariants as decl
use Rattle.je_ast.proofs.renumbering.+trees.Goals as goal

pub renumber_exprs-loop-expr-preserved : goal.renumber_exprs-loop-expr-preserved
renumber_exprs-loop-expr-preserved t c = goes_on_below _ _ _ _ _ (omega arith) c.renumber_expr.ensures c.loop-expr.invariant.1

pub renumber_exprs-returns : goal.renumber_exprs-returns
renumber_exprs-returns t c = expressions_went _ _ _ _ c.loop-expr.invariant.1 (omega arith)

pub renumber_vars-loop-var-preserved : goal.renumber_vars-loop-var-preserved
renumber_vars-loop-var-preserved t c = goes_on_below _ _ _ _ _ (omega arith) (c.renumber_identifier.ensures, refl, c.renumber_option_expr.ensures) c.loop-var.invariant.1

pub renumber_vars-returns : goal.renumber_vars-returns
renumber_vars-returns t c = variables_went _ _ _ _ c.loop-var.invariant.1 (omega arith)

pub renumber_stmts-loop-stmt-preserved : goal.renumber_stmts-loop-stmt-preserved
renumber_stmts-loop-stmt-preserved t c = goes_on_below _ _ _ _ _ (omega arith) c.renumber_stmt.ensures c.loop-stmt.invariant.1

pub renumber_stmts-returns : goal.renumber_stmts-returns
renumber_stmts-returns t c = statements_went _ _ _ _ c.loop-stmt.invariant.1 (omega arith)

pub renumber_members-loop-member-preserved : goal.renumber_members-loop-member-preserved
renumber_members-loop-member-preserved t c = goes_on_below _ _ _ _ _ (omega arith) c.renumber_member.ensures c.loop-member.invariant.1

pub renumber_members-returns : goal.renumber_members-returns
renumber_members-returns t c = members_went _ _ _ _ c.loop-member.invariant.1 (omega arith)

pub renumber_labels-returns : goal.renumber_labels-returns
renumber_labels-returns t c = labels_went _ _ _ _ c.loop-label.invariant.1 (omega arith)

pub renumber_groups-returns : goal.renumber_groups-returns
renumber_groups-returns t c = groups_went _ _ _ _ c.loop-group.invariant.1 (omega arith)

pub renumber_catches-returns : goal.renumber_catches-returns
renumber_catches-returns t c = catches_went _ _ _ _ c.loop-catch.invariant.1 (omega arith)

pub renumber_labels-loop-label-preserved : goal.renumber_labels-loop-label-preserved
renumber_labels-loop-label-preserved t c = goes_on_below _ _ _ _ _ (omega arith) c.renumber_label.ensures c.loop-label.invariant.1

pub renumber_groups-loop-group-preserved : goal.renumber_groups-loop-group-preserved
renumber_groups-loop-group-preserved t c =
    goes_on_below _ _ _ _ c.group-item.result (omega arith) (search (rules, with_items_is), search (rules, with_items_is)) c.loop-group.invariant.1

pub renumber_catches-loop-catch-preserved : goal.renumber_catches-loop-catch-preserved
renumber_catches-loop-catch-preserved t c =
    goes_on_below _ _ _ _ _ (omega arith) (refl, c.renumber_name.ensures, c.renumber_identifier.ensures, refl, search (rules, with_items_is), refl) c.loop-catch.invariant.1

pub renumber_expr-returns-in-Name : goal.renumber_expr-returns-in-Name
renumber_expr-returns-in-Name t c =
    rw (c.in-Name.is, expr.outs-Name c.in-Name.name)
    (renumbered_expression-Name c.args.to.now c.in-Name.name c.renumber_identifier.new.identifier
    (search rules))

pub renumber_expr-returns-in-OuterThis : goal.renumber_expr-returns-in-OuterThis
renumber_expr-returns-in-OuterThis t c =
    rw (c.in-OuterThis.is, expr.outs-OuterThis c.in-OuterThis.class c.in-OuterThis.this c.in-OuterThis.span)
    (renumbered_expression-OuterThis c.args.to.now c.in-OuterThis.class c.renumber_name.new.name c.in-OuterThis.this c.in-OuterThis.span
    (search rules))

pub renumber_expr-returns-in-Parens : goal.renumber_expr-returns-in-Parens
renumber_expr-returns-in-Parens t c =
    rw (c.in-Parens.is, expr.outs-Parens c.in-Parens.inner c.in-Parens.span)
    (renumbered_expression-Parens c.args.to.now c.in-Parens.inner c.renumber_expr.new.expr c.in-Parens.span
    (search rules))

pub renumber_expr-returns-in-Select : goal.renumber_expr-returns-in-Select
renumber_expr-returns-in-Select t c =
    rw (c.in-Select.is, expr.outs-Select c.in-Select.object c.in-Select.field c.in-Select.span)
    (renumbered_expression-Select c.args.to.now c.in-Select.object c.renumber_expr-in-Select.new.expr c.in-Select.field c.renumber_identifier-in-Select.new.identifier c.in-Select.span
    (search rules) (search rules))

pub renumber_expr-returns-in-SuperSelect : goal.renumber_expr-returns-in-SuperSelect
renumber_expr-returns-in-SuperSelect t c =
    rw (c.in-SuperSelect.is, expr.outs-SuperSelect c.in-SuperSelect.word c.in-SuperSelect.field c.in-SuperSelect.span)
    (renumbered_expression-SuperSelect c.args.to.now c.in-SuperSelect.word c.in-SuperSelect.field c.renumber_identifier-in-SuperSelect.new.identifier c.in-SuperSelect.span
    (search rules))

pub renumber_expr-returns-in-Call : goal.renumber_expr-returns-in-Call
renumber_expr-returns-in-Call t c =
    rw (c.in-Call.is, expr.outs-Call c.in-Call.method c.in-Call.args c.in-Call.span)
    (renumbered_expression-Call c.args.to.now c.in-Call.method c.renumber_identifier-in-Call.new.identifier c.in-Call.args c.renumber_exprs.new.list c.in-Call.span
    (search rules) (search rules) (search rules))

pub renumber_expr-returns-in-CallOn : goal.renumber_expr-returns-in-CallOn
renumber_expr-returns-in-CallOn t c =
    rw (c.in-CallOn.is, expr.outs-CallOn c.in-CallOn.object c.in-CallOn.method c.in-CallOn.args c.in-CallOn.span)
    (renumbered_expression-CallOn c.args.to.now c.in-CallOn.object c.renumber_expr-in-CallOn.new.expr c.in-CallOn.method c.renumber_identifier-in-CallOn.new.identifier c.in-CallOn.args c.renumber_exprs-in-CallOn.new.list c.in-CallOn.span
    (search rules) (search rules) (search rules) (search rules))

pub renumber_expr-returns-in-SuperCall : goal.renumber_expr-returns-in-SuperCall
renumber_expr-returns-in-SuperCall t c =
    rw (c.in-SuperCall.is, expr.outs-SuperCall c.in-SuperCall.word c.in-SuperCall.method c.in-SuperCall.args c.in-SuperCall.span)
    (renumbered_expression-SuperCall c.args.to.now c.in-SuperCall.word c.in-SuperCall.method c.renumber_identifier-in-SuperCall.new.identifier c.in-SuperCall.args c.renumber_exprs-in-SuperCall.new.list c.in-SuperCall.span
    (search rules) (search rules) (search rules))

pub renumber_expr-returns-in-Index : goal.renumber_expr-returns-in-Index
renumber_expr-returns-in-Index t c =
    rw (c.in-Index.is, expr.outs-Index c.in-Index.array c.in-Index.index c.in-Index.span)
    (renumbered_expression-Index c.args.to.now c.in-Index.array c.renumber_expr-in-Index.new.expr c.in-Index.index c.renumber_expr-in-Index-2.new.expr c.in-Index.span
    (search rules) (search rules))

pub renumber_expr-returns-in-New : goal.renumber_expr-returns-in-New
renumber_expr-returns-in-New t c =
    rw (c.in-New.is, expr.outs-New c.in-New.word c.in-New.class c.in-New.args c.in-New.span)
    (renumbered_expression-New c.args.to.now c.in-New.word c.in-New.class c.renumber_type.new.ty c.in-New.args c.renumber_exprs-in-New.new.list c.in-New.span
    (search rules) (search rules) (search rules))

pub renumber_expr-returns-in-NewAnonymous : goal.renumber_expr-returns-in-NewAnonymous
renumber_expr-returns-in-NewAnonymous t c =
    rw (c.in-NewAnonymous.is, expr.outs-NewAnonymous c.in-NewAnonymous.word c.in-NewAnonymous.class c.in-NewAnonymous.args c.in-NewAnonymous.body c.in-NewAnonymous.span)
    (renumbered_expression-NewAnonymous c.args.to.now c.in-NewAnonymous.word c.in-NewAnonymous.class c.renumber_type-in-NewAnonymous.new.ty c.in-NewAnonymous.args c.renumber_exprs-in-NewAnonymous.new.list c.in-NewAnonymous.body c.renumber_members.new.list c.in-NewAnonymous.span
    (search rules) (search rules) (search rules) (search rules) (search rules))

pub renumber_expr-returns-in-NewArray : goal.renumber_expr-returns-in-NewArray
renumber_expr-returns-in-NewArray t c =
    rw (c.in-NewArray.is, expr.outs-NewArray c.in-NewArray.element c.in-NewArray.lengths c.in-NewArray.dims c.in-NewArray.span)
    (renumbered_expression-NewArray c.args.to.now c.in-NewArray.element c.renumber_type-in-NewArray.new.ty c.in-NewArray.lengths c.renumber_exprs-in-NewArray.new.list c.in-NewArray.dims c.in-NewArray.span
    (search rules) (search rules) (search rules))

pub renumber_expr-returns-in-NewArrayOf : goal.renumber_expr-returns-in-NewArrayOf
renumber_expr-returns-in-NewArrayOf t c =
    rw (c.in-NewArrayOf.is, expr.outs-NewArrayOf c.in-NewArrayOf.element c.in-NewArrayOf.dims c.in-NewArrayOf.init c.in-NewArrayOf.span)
    (renumbered_expression-NewArrayOf c.args.to.now c.in-NewArrayOf.element c.renumber_type-in-NewArrayOf.new.ty c.in-NewArrayOf.dims c.in-NewArrayOf.init c.renumber_expr-in-NewArrayOf.new.expr c.in-NewArrayOf.span
    (search rules) (search rules))

pub renumber_expr-returns-in-ArrayInit : goal.renumber_expr-returns-in-ArrayInit
renumber_expr-returns-in-ArrayInit t c =
    rw (c.in-ArrayInit.is, expr.outs-ArrayInit c.in-ArrayInit.values c.in-ArrayInit.span)
    (renumbered_expression-ArrayInit c.args.to.now c.in-ArrayInit.values c.renumber_exprs-in-ArrayInit.new.list c.in-ArrayInit.span
    (search rules) (search rules))

pub renumber_expr-returns-in-Cast : goal.renumber_expr-returns-in-Cast
renumber_expr-returns-in-Cast t c =
    rw (c.in-Cast.is, expr.outs-Cast c.in-Cast.ty c.in-Cast.operand c.in-Cast.span)
    (renumbered_expression-Cast c.args.to.now c.in-Cast.ty c.renumber_type-in-Cast.new.ty c.in-Cast.operand c.renumber_expr-in-Cast.new.expr c.in-Cast.span
    (search rules) (search rules))

pub renumber_expr-returns-in-Prefix : goal.renumber_expr-returns-in-Prefix
renumber_expr-returns-in-Prefix t c =
    rw (c.in-Prefix.is, expr.outs-Prefix c.in-Prefix.op c.in-Prefix.at c.in-Prefix.operand c.in-Prefix.span)
    (renumbered_expression-Prefix c.args.to.now c.in-Prefix.op c.in-Prefix.at c.in-Prefix.operand c.renumber_expr-in-Prefix.new.expr c.in-Prefix.span
    (search rules))

pub renumber_expr-returns-in-Postfix : goal.renumber_expr-returns-in-Postfix
renumber_expr-returns-in-Postfix t c =
    rw (c.in-Postfix.is, expr.outs-Postfix c.in-Postfix.op c.in-Postfix.at c.in-Postfix.operand c.in-Postfix.span)
    (renumbered_expression-Postfix c.args.to.now c.in-Postfix.op c.in-Postfix.at c.in-Postfix.operand c.renumber_expr-in-Postfix.new.expr c.in-Postfix.span
    (search rules))

pub renumber_expr-returns-in-Binary : goal.renumber_expr-returns-in-Binary
renumber_expr-returns-in-Binary t c =
    rw (c.in-Binary.is, expr.outs-Binary c.in-Binary.op c.in-Binary.at c.in-Binary.left c.in-Binary.right c.in-Binary.span)
    (renumbered_expression-Binary c.args.to.now c.in-Binary.op c.in-Binary.at c.in-Binary.left c.renumber_expr-in-Binary.new.expr c.in-Binary.right c.renumber_expr-in-Binary-2.new.expr c.in-Binary.span
    (search rules) (search rules))

pub renumber_expr-returns-in-InstanceOf : goal.renumber_expr-returns-in-InstanceOf
renumber_expr-returns-in-InstanceOf t c =
    rw (c.in-InstanceOf.is, expr.outs-InstanceOf c.in-InstanceOf.at c.in-InstanceOf.operand c.in-InstanceOf.ty c.in-InstanceOf.span)
    (renumbered_expression-InstanceOf c.args.to.now c.in-InstanceOf.at c.in-InstanceOf.operand c.renumber_expr-in-InstanceOf.new.expr c.in-InstanceOf.ty c.renumber_type-in-InstanceOf.new.ty c.in-InstanceOf.span
    (search rules) (search rules))

pub renumber_expr-returns-in-Conditional : goal.renumber_expr-returns-in-Conditional
renumber_expr-returns-in-Conditional t c =
    rw (c.in-Conditional.is, expr.outs-Conditional c.in-Conditional.at c.in-Conditional.condition c.in-Conditional.yes c.in-Conditional.no c.in-Conditional.span)
    (renumbered_expression-Conditional c.args.to.now c.in-Conditional.at c.in-Conditional.condition c.renumber_expr-in-Conditional.new.expr c.in-Conditional.yes c.renumber_expr-in-Conditional-2.new.expr c.in-Conditional.no c.renumber_expr-in-Conditional-3.new.expr c.in-Conditional.span
    (search rules) (search rules) (search rules))

pub renumber_expr-returns-in-Assign : goal.renumber_expr-returns-in-Assign
renumber_expr-returns-in-Assign t c =
    rw (c.in-Assign.is, expr.outs-Assign c.in-Assign.op c.in-Assign.at c.in-Assign.place c.in-Assign.value c.in-Assign.span)
    (renumbered_expression-Assign c.args.to.now c.in-Assign.op c.in-Assign.at c.in-Assign.place c.renumber_expr-in-Assign.new.expr c.in-Assign.value c.renumber_expr-in-Assign-2.new.expr c.in-Assign.span
    (search rules) (search rules))

pub renumber_for_init-returns-in-Locals : goal.renumber_for_init-returns-in-Locals
renumber_for_init-returns-in-Locals t c =
    rw (c.in-Locals.is, for_init.outs-Locals c.in-Locals.is_final c.in-Locals.ty c.in-Locals.vars)
    (renumbered_for_initializer-Locals c.args.to.now c.in-Locals.is_final c.in-Locals.ty c.renumber_type.new.ty c.in-Locals.vars c.renumber_vars.new.list
    (search rules) (search rules) (search rules))

pub renumber_for_init-returns-in-Steps : goal.renumber_for_init-returns-in-Steps
renumber_for_init-returns-in-Steps t c =
    rw (c.in-Steps.is, for_init.outs-Steps c.in-Steps.steps)
    (renumbered_for_initializer-Steps c.args.to.now c.in-Steps.steps c.renumber_exprs.new.list
    (search rules) (search rules))

pub renumber_stmt-returns-in-Block : goal.renumber_stmt-returns-in-Block
renumber_stmt-returns-in-Block t c =
    rw (c.in-Block.is, stmt.outs-Block c.in-Block.block)
    (renumbered_statement-Block c.args.to.now c.in-Block.block c.renumber_stmts.new.list
    (search rules) (search rules))

pub renumber_stmt-returns-in-Local : goal.renumber_stmt-returns-in-Local
renumber_stmt-returns-in-Local t c =
    rw (c.in-Local.is, stmt.outs-Local c.in-Local.first c.in-Local.is_final c.in-Local.ty c.in-Local.vars c.in-Local.span)
    (renumbered_statement-Local c.args.to.now c.in-Local.first c.in-Local.is_final c.in-Local.ty c.renumber_type.new.ty c.in-Local.vars c.renumber_vars.new.list c.in-Local.span
    (search rules) (search rules) (search rules))

pub renumber_stmt-returns-in-Class : goal.renumber_stmt-returns-in-Class
renumber_stmt-returns-in-Class t c =
    rw (c.in-Class.is, stmt.outs-Class c.in-Class.decl)
    (renumbered_statement-Class c.args.to.now c.in-Class.decl c.renumber_decl.new.decl
    (search rules))

pub renumber_stmt-returns-in-Labelled : goal.renumber_stmt-returns-in-Labelled
renumber_stmt-returns-in-Labelled t c =
    rw (c.in-Labelled.is, stmt.outs-Labelled c.in-Labelled.label c.in-Labelled.body c.in-Labelled.span)
    (renumbered_statement-Labelled c.args.to.now c.in-Labelled.label c.renumber_identifier.new.identifier c.in-Labelled.body c.renumber_stmt.new.stmt c.in-Labelled.span
    (search rules) (search rules))

pub renumber_stmt-returns-in-If : goal.renumber_stmt-returns-in-If
renumber_stmt-returns-in-If t c =
    rw (c.in-If.is, stmt.outs-If c.in-If.first c.in-If.condition c.in-If.yes c.in-If.span)
    (renumbered_statement-If c.args.to.now c.in-If.first c.in-If.condition c.renumber_expr.new.expr c.in-If.yes c.renumber_stmt-in-If.new.stmt c.in-If.span
    (search rules) (search rules))

pub renumber_stmt-returns-in-IfElse : goal.renumber_stmt-returns-in-IfElse
renumber_stmt-returns-in-IfElse t c =
    rw (c.in-IfElse.is, stmt.outs-IfElse c.in-IfElse.first c.in-IfElse.condition c.in-IfElse.yes c.in-IfElse.no c.in-IfElse.span)
    (renumbered_statement-IfElse c.args.to.now c.in-IfElse.first c.in-IfElse.condition c.renumber_expr-in-IfElse.new.expr c.in-IfElse.yes c.renumber_stmt-in-IfElse.new.stmt c.in-IfElse.no c.renumber_stmt-in-IfElse-2.new.stmt c.in-IfElse.span
    (search rules) (search rules) (search rules))

pub renumber_stmt-returns-in-While : goal.renumber_stmt-returns-in-While
renumber_stmt-returns-in-While t c =
    rw (c.in-While.is, stmt.outs-While c.in-While.first c.in-While.condition c.in-While.body c.in-While.span)
    (renumbered_statement-While c.args.to.now c.in-While.first c.in-While.condition c.renumber_expr-in-While.new.expr c.in-While.body c.renumber_stmt-in-While.new.stmt c.in-While.span
    (search rules) (search rules))

pub renumber_stmt-returns-in-Do : goal.renumber_stmt-returns-in-Do
renumber_stmt-returns-in-Do t c =
    rw (c.in-Do.is, stmt.outs-Do c.in-Do.first c.in-Do.body c.in-Do.condition c.in-Do.span)
    (renumbered_statement-Do c.args.to.now c.in-Do.first c.in-Do.body c.renumber_stmt-in-Do.new.stmt c.in-Do.condition c.renumber_expr-in-Do.new.expr c.in-Do.span
    (search rules) (search rules))

pub renumber_stmt-returns-in-For : goal.renumber_stmt-returns-in-For
renumber_stmt-returns-in-For t c =
    rw (c.in-For.is, stmt.outs-For c.in-For.first c.in-For.init c.in-For.condition c.in-For.steps c.in-For.body c.in-For.span)
    (renumbered_statement-For c.args.to.now c.in-For.first c.in-For.init c.renumber_for_init.new.init c.in-For.condition c.renumber_option_expr.new.expr c.in-For.steps c.renumber_exprs.new.list c.in-For.body c.renumber_stmt-in-For.new.stmt c.in-For.span
    (search rules) (search rules) (search rules) (search rules) (search rules))

pub renumber_stmt-returns-in-ForEach : goal.renumber_stmt-returns-in-ForEach
renumber_stmt-returns-in-ForEach t c =
    rw (c.in-ForEach.is, stmt.outs-ForEach c.in-ForEach.first c.in-ForEach.is_final c.in-ForEach.ty c.in-ForEach.name c.in-ForEach.array c.in-ForEach.body c.in-ForEach.span)
    (renumbered_statement-ForEach c.args.to.now c.in-ForEach.first c.in-ForEach.is_final c.in-ForEach.ty c.renumber_type-in-ForEach.new.ty c.in-ForEach.name c.renumber_identifier-in-ForEach.new.identifier c.in-ForEach.array c.renumber_expr-in-ForEach.new.expr c.in-ForEach.body c.renumber_stmt-in-ForEach.new.stmt c.in-ForEach.span
    (search rules) (search rules) (search rules) (search rules))

pub renumber_stmt-returns-in-Switch : goal.renumber_stmt-returns-in-Switch
renumber_stmt-returns-in-Switch t c =
    rw (c.in-Switch.is, stmt.outs-Switch c.in-Switch.first c.in-Switch.selector c.in-Switch.groups c.in-Switch.span)
    (renumbered_statement-Switch c.args.to.now c.in-Switch.first c.in-Switch.selector c.renumber_expr-in-Switch.new.expr c.in-Switch.groups c.renumber_groups.new.list c.in-Switch.span
    (search rules) (search rules) (search rules))

pub renumber_stmt-returns-in-Break : goal.renumber_stmt-returns-in-Break
renumber_stmt-returns-in-Break t c =
    rw (c.in-Break.is, stmt.outs-Break c.in-Break.first c.in-Break.label c.in-Break.span)
    (renumbered_statement-Break c.args.to.now c.in-Break.first c.in-Break.label c.renumber_option_identifier.new.identifier c.in-Break.span
    (search rules))

pub renumber_stmt-returns-in-Continue : goal.renumber_stmt-returns-in-Continue
renumber_stmt-returns-in-Continue t c =
    rw (c.in-Continue.is, stmt.outs-Continue c.in-Continue.first c.in-Continue.label c.in-Continue.span)
    (renumbered_statement-Continue c.args.to.now c.in-Continue.first c.in-Continue.label c.renumber_option_identifier-in-Continue.new.identifier c.in-Continue.span
    (search rules))

pub renumber_stmt-returns-in-Return : goal.renumber_stmt-returns-in-Return
renumber_stmt-returns-in-Return t c =
    rw (c.in-Return.is, stmt.outs-Return c.in-Return.first c.in-Return.value c.in-Return.span)
    (renumbered_statement-Return c.args.to.now c.in-Return.first c.in-Return.value c.renumber_option_expr-in-Return.new.expr c.in-Return.span
    (search rules))

pub renumber_stmt-returns-in-Throw : goal.renumber_stmt-returns-in-Throw
renumber_stmt-returns-in-Throw t c =
    rw (c.in-Throw.is, stmt.outs-Throw c.in-Throw.first c.in-Throw.value c.in-Throw.span)
    (renumbered_statement-Throw c.args.to.now c.in-Throw.first c.in-Throw.value c.renumber_expr-in-Throw.new.expr c.in-Throw.span
    (search rules))

pub renumber_stmt-returns-in-Try : goal.renumber_stmt-returns-in-Try
renumber_stmt-returns-in-Try t c =
    rw (c.in-Try.is, stmt.outs-Try c.in-Try.first c.in-Try.block c.in-Try.catches c.in-Try.span)
    (renumbered_statement-Try c.args.to.now c.in-Try.first c.in-Try.block c.renumber_stmts-in-Try.new.list c.in-Try.catches c.renumber_catches.new.list c.in-Try.span
    (search rules) (search rules) (search rules) (search rules))

pub renumber_stmt-returns-in-TryFinally : goal.renumber_stmt-returns-in-TryFinally
renumber_stmt-returns-in-TryFinally t c =
    rw (c.in-TryFinally.is, stmt.outs-TryFinally c.in-TryFinally.first c.in-TryFinally.block c.in-TryFinally.catches c.in-TryFinally.word c.in-TryFinally.last c.in-TryFinally.span)
    (renumbered_statement-TryFinally c.args.to.now c.in-TryFinally.first c.in-TryFinally.block c.renumber_stmts-in-TryFinally.new.list c.in-TryFinally.catches c.renumber_catches-in-TryFinally.new.list c.in-TryFinally.word c.in-TryFinally.last c.renumber_stmts-in-TryFinally-2.new.list c.in-TryFinally.span
    (search rules) (search rules) (search rules) (search rules) (search rules) (search rules))

pub renumber_stmt-returns-in-ExpressionStatement : goal.renumber_stmt-returns-in-ExpressionStatement
renumber_stmt-returns-in-ExpressionStatement t c =
    rw (c.in-ExpressionStatement.is, stmt.outs-ExpressionStatement c.in-ExpressionStatement.first c.in-ExpressionStatement.expr c.in-ExpressionStatement.span)
    (renumbered_statement-ExpressionStatement c.args.to.now c.in-ExpressionStatement.first c.in-ExpressionStatement.expr c.renumber_expr-in-ExpressionStatement.new.expr c.in-ExpressionStatement.span
    (search rules))

pub renumber_call-returns-in-Explicit : goal.renumber_call-returns-in-Explicit
renumber_call-returns-in-Explicit t c =
    rw (c.in-Explicit.is, call.outs-Explicit c.in-Explicit.is_super c.in-Explicit.word c.in-Explicit.args)
    (renumbered_constructor_invocation-Explicit c.args.to.now c.in-Explicit.is_super c.in-Explicit.word c.in-Explicit.args c.renumber_exprs.new.list
    (search rules) (search rules))

pub renumber_member-returns-in-Type : goal.renumber_member-returns-in-Type
renumber_member-returns-in-Type t c =
    rw (c.in-Type.is, member.outs-Type c.in-Type.decl)
    (renumbered_member-Type c.args.to.now c.in-Type.decl c.renumber_decl.new.decl
    (search rules))

pub renumber_member-returns-in-Field : goal.renumber_member-returns-in-Field
renumber_member-returns-in-Field t c =
    rw (c.in-Field.is, member.outs-Field c.in-Field.modifiers c.in-Field.ty c.in-Field.vars c.in-Field.span)
    (renumbered_member-Field c.args.to.now c.in-Field.modifiers c.in-Field.ty c.renumber_type.new.ty c.in-Field.vars c.renumber_vars.new.list c.in-Field.span
    (search rules) (search rules) (search rules))

pub renumber_member-returns-in-Method : goal.renumber_member-returns-in-Method
renumber_member-returns-in-Method t c =
    rw (c.in-Method.is, member.outs-Method c.in-Method.modifiers c.in-Method.result c.in-Method.name c.in-Method.formals c.in-Method.throws c.in-Method.body c.in-Method.span)
    (renumbered_member-Method c.args.to.now c.in-Method.modifiers c.in-Method.result c.renumber_option_type.new.ty c.in-Method.name c.renumber_identifier.new.identifier c.in-Method.formals c.renumber_formals.new.list c.in-Method.throws c.renumber_names.new.list c.in-Method.body c.renumber_option_block.new.block c.in-Method.span
    (search rules) (search rules) (search rules) (search rules) (search rules) (search rules) (search rules))

pub renumber_member-returns-in-Constructor : goal.renumber_member-returns-in-Constructor
renumber_member-returns-in-Constructor t c =
    rw (c.in-Constructor.is, member.outs-Constructor c.in-Constructor.modifiers c.in-Constructor.name c.in-Constructor.formals c.in-Constructor.throws c.in-Constructor.call c.in-Constructor.body c.in-Constructor.span)
    (renumbered_member-Constructor c.args.to.now c.in-Constructor.modifiers c.in-Constructor.name c.renumber_identifier-in-Constructor.new.identifier c.in-Constructor.formals c.renumber_formals-in-Constructor.new.list c.in-Constructor.throws c.renumber_names-in-Constructor.new.list c.in-Constructor.call c.renumber_call.new.call c.in-Constructor.body c.renumber_stmts.new.list c.in-Constructor.span
    (search rules) (search rules) (search rules) (search rules) (search rules) (search rules) (search rules) (search rules))

pub renumber_member-returns-in-Initializer : goal.renumber_member-returns-in-Initializer
renumber_member-returns-in-Initializer t c =
    rw (c.in-Initializer.is, member.outs-Initializer c.in-Initializer.word c.in-Initializer.body c.in-Initializer.span)
    (renumbered_member-Initializer c.args.to.now c.in-Initializer.word c.in-Initializer.body c.renumber_stmts-in-Initializer.new.list c.in-Initializer.span
    (search rules) (search rules))

pub renumber_decl-returns-in-Class : goal.renumber_decl-returns-in-Class
renumber_decl-returns-in-Class t c =
    rw c.in-Class.is
    (rw (decl.outs-Class c.in-Class.modifiers c.in-Class.name c.in-Class.params c.in-Class.extends c.in-Class.implements c.in-Class.body c.in-Class.span)
    (renumbered_declaration-Class c.args.to.now c.in-Class.modifiers c.in-Class.name c.renumber_identifier.new.identifier c.in-Class.params c.renumber_params.new.list c.in-Class.extends c.renumber_option_type.new.ty c.in-Class.implements c.renumber_types.new.list c.in-Class.body c.renumber_members.new.list c.in-Class.span
    (search rules) (search rules) (search rules) (search rules) (search rules) (search rules) (search rules) (search rules)))

pub renumber_decl-returns-in-Interface : goal.renumber_decl-returns-in-Interface
renumber_decl-returns-in-Interface t c =
    rw c.in-Interface.is
    (rw (decl.outs-Interface c.in-Interface.modifiers c.in-Interface.name c.in-Interface.params c.in-Interface.extends c.in-Interface.body c.in-Interface.span)
    (renumbered_declaration-Interface c.args.to.now c.in-Interface.modifiers c.in-Interface.name c.renumber_identifier-in-Interface.new.identifier c.in-Interface.params c.renumber_params-in-Interface.new.list c.in-Interface.extends c.renumber_types-in-Interface.new.list c.in-Interface.body c.renumber_members-in-Interface.new.list c.in-Interface.span
    (search rules) (search rules) (search rules) (search rules) (search rules) (search rules) (search rules)))

pub renumber_decl-returns-in-Enum : goal.renumber_decl-returns-in-Enum
renumber_decl-returns-in-Enum t c =
    rw (c.in-Enum.is, decl.outs-Enum c.in-Enum.modifiers c.in-Enum.name c.in-Enum.constants c.in-Enum.span)
    (renumbered_declaration-Enum c.args.to.now c.in-Enum.modifiers c.in-Enum.name c.renumber_identifier-in-Enum.new.identifier c.in-Enum.constants c.renumber_identifiers.new.list c.in-Enum.span
    (search rules) (search rules) (search rules))
