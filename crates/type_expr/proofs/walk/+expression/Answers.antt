use Rattle.std.proofs.Common.{◌≡◌, IfOk, IfErr, None, map, refl, sym, ap, subst, ◌∙◌, arith}
use Rattle.std.proofs.lemmas.Result.{err_from_is_err_and}
use Rattle.je_ast.specs.declared.decl.ConstructorCall.TheViews.{size-Expr, sized-CallOn, sized-New, sized-NewAnonymous, sized-NewArray, sized-SuperCall}
use Rattle.je_ast.specs.declared.expr.Expr.TheVariants as node
use Rattle.je_ast.specs.Types.{type_view}
use Rattle.je_ast.specs.Trees.{call_on}
use Rattle.je_ast.specs.View.{node_view, view, views_of}
use Rattle.je_typing.specs.Answers.{IsFault}
use Rattle.je_typing.specs.Judged.{Judged, gives}
use Rattle.je_typing.specs.Typed.{TypedNode}
use Rattle.je_typing.proofs.Walks.{bind_faults, fault_later}
use Rattle.name_types.specs.View.{shown}
use Rattle.operator_steps.specs.Parts.{part_seen}
use Rattle.typed_nodes.specs.Seen.{seen}
use Rattle.call_typing.specs.Calls.{receiver}
use Rattle.body_typing.specs.Expressions.{named_before, read}
use Rattle.type_expr.proofs.Before.{value_faults, value_stands}
use Rattle.type_expr.specs.Seen.{purpose_seen}
use Rattle.body_scopes.specs.View.{scope_seen}
use Rattle.body_walks.specs.Walks.{known_in, program_in}
use Rattle.name_steps.specs.Qualifiers.{qualifier_seen}
use Rattle.type_expr.proofs.Forms.{assign_is, call_on_faulty, call_on_gives, conditional_is, elements_are_made, no_type_known, third_faults}
use Rattle.type_expr.proofs.Lists.{parts_begin, parts_end, parts_fault, parts_on, values_begin, values_end, values_fault, values_on}
use Rattle.type_expr.specs.Walk.{before_in, expression_in, values_in}
use Rattle.type_expr.specs.way.Calls.{called_on}
use Rattle.type_expr.proofs.walk.+expression.Goals as goal

pub assign-returns-clause-ok : goal.assign-returns-clause-ok
assign-returns-clause-ok t c =
    let whole = assign_is c.args.bodies.now c.args.scope.now c.args.op c.args.at c.args.span (view c.args.place.now) (view c.args.value.now)
    (purpose_seen c.target_purpose.result) (seen c.in_ok-target.target.value) (seen c.in_ok-value.value.value) c.in_ok-target.target.span c.in_ok-value.value.span c.is_variable-written.result
    c.target_purpose.ensures c.in_ok-target.ensures.ok c.in_ok-target.ensures.span c.in_ok-value.ensures.ok c.in_ok-value.ensures.span c.is_variable-written.ensures in
    subst (λ (j : Judged TypedNode). IfOk c.assigned_to.result (λ u. j ≡ gives (seen u))) (sym whole) c.assigned_to.ensures.ok

pub conditional-returns-in_err-no-clause-err : goal.conditional-returns-in_err-no-clause-err
conditional-returns-in_err-no-clause-err t c =
    let p = err_from_is_err_and c.from_residual-in_err-no.result c.from_residual-in_err-no.ensures.1 in
    rw (p.1, p.2) (third_faults c.args.bodies.now c.args.scope.now c.args.at c.args.span (view c.args.condition.now) (view c.args.yes.now) (view c.args.no.now)
    (seen c.in_ok-condition.condition.value) (seen c.in_ok-yes.yes) _ c.in_ok-condition.ensures.ok c.in_ok-yes.ensures.ok c.in_err-no.ensures.err)

-- no search finds that lists of parts are less deep in forms of four fields
pub elab_here-call_of-requires : goal.elab_here-call_of-requires
elab_here-call_of-requires t c =
    let size = ap size-Expr c.in-CallOn.is ∙ sized-CallOn c.in-CallOn.object c.in-CallOn.method c.in-CallOn.args c.in-CallOn.span in
    (rw (c.deref-in-CallOn.ensures, c.deref-in-CallOn-2.ensures.value) (omega (arith, size, c.decreases)), c.requires)

pub elab_here-call_of_super-requires : goal.elab_here-call_of_super-requires
elab_here-call_of_super-requires t c =
    let size = ap size-Expr c.in-SuperCall.is ∙ sized-SuperCall c.in-SuperCall.word c.in-SuperCall.method c.in-SuperCall.args c.in-SuperCall.span in
    (rw c.deref-in-SuperCall.ensures.value (omega (arith, size, c.decreases)), c.requires)

pub elab_here-new_object-requires : goal.elab_here-new_object-requires
elab_here-new_object-requires t c =
    let size = ap size-Expr c.in-New.is ∙ sized-New c.in-New.word c.in-New.class c.in-New.args c.in-New.span in
    (rw c.deref-in-New.ensures.value (omega (arith, size, c.decreases)), c.requires)

pub elab_here-new_with_body-requires : goal.elab_here-new_with_body-requires
elab_here-new_with_body-requires t c =
    let size = ap size-Expr c.in-NewAnonymous.is ∙ sized-NewAnonymous c.in-NewAnonymous.word c.in-NewAnonymous.class c.in-NewAnonymous.args c.in-NewAnonymous.body c.in-NewAnonymous.span in
    (rw c.deref-in-NewAnonymous.ensures.value (omega (arith, size, c.decreases)), c.requires)

pub elab_here-new_array-requires : goal.elab_here-new_array-requires
elab_here-new_array-requires t c =
    let size = ap size-Expr c.in-NewArray.is ∙ sized-NewArray c.in-NewArray.of c.in-NewArray.lengths c.in-NewArray.dims c.in-NewArray.span in
    (rw c.deref-in-NewArray.ensures.value (omega (arith, size, c.decreases)), c.requires)

pub elab_here-returns-in-OuterThis-clause-ok : goal.elab_here-returns-in-OuterThis-clause-ok
elab_here-returns-in-OuterThis-clause-ok t c =
    rw c.in-OuterThis.is (rw (node.outs-OuterThis c.in-OuterThis.class c.in-OuterThis.word c.in-OuterThis.span) c.outer_of.ensures.ok)

pub elab_here-returns-in-Select-clause-ok : goal.elab_here-returns-in-Select-clause-ok
elab_here-returns-in-Select-clause-ok t c =
    rw c.in-Select.is (rw (node.outs-Select c.in-Select.object c.in-Select.field c.in-Select.span)
    (rw c.deref-in-Select.ensures at c.select.ensures.ok))

pub elab_here-returns-in-SuperSelect-clause-ok : goal.elab_here-returns-in-SuperSelect-clause-ok
elab_here-returns-in-SuperSelect-clause-ok t c =
    rw c.in-SuperSelect.is (rw (node.outs-SuperSelect c.in-SuperSelect.word c.in-SuperSelect.field c.in-SuperSelect.span)
    c.super_selected.ensures.ok)

pub elab_here-returns-in-CallOn-clause-ok : goal.elab_here-returns-in-CallOn-clause-ok
elab_here-returns-in-CallOn-clause-ok t c =
    let is : node_view c.args.expr.now ≡ call_on (view c.in-CallOn.object.value) c.in-CallOn.method (views_of c.in-CallOn.args.items) c.in-CallOn.span =
    rw c.in-CallOn.is (rw (node.outs-CallOn c.in-CallOn.object c.in-CallOn.method c.in-CallOn.args c.in-CallOn.span) refl) in
    call_on_gives c.args.bodies.now c.args.scope.now (purpose_seen c.args.purpose) (node_view c.args.expr.now) (view c.in-CallOn.object.value) c.in-CallOn.method
    (views_of c.in-CallOn.args.items) c.in-CallOn.span c.call_of.result is
    (rw (c.deref-in-CallOn.ensures, c.deref-in-CallOn-2.ensures.value) at c.call_of.ensures.ok)

pub elab_here-returns-in-CallOn-clause-err : goal.elab_here-returns-in-CallOn-clause-err
elab_here-returns-in-CallOn-clause-err t c =
    let is : node_view c.args.expr.now ≡ call_on (view c.in-CallOn.object.value) c.in-CallOn.method (views_of c.in-CallOn.args.items) c.in-CallOn.span =
    rw c.in-CallOn.is (rw (node.outs-CallOn c.in-CallOn.object c.in-CallOn.method c.in-CallOn.args c.in-CallOn.span) refl) in
    call_on_faulty c.args.bodies.now c.args.scope.now (purpose_seen c.args.purpose) (node_view c.args.expr.now) (view c.in-CallOn.object.value) c.in-CallOn.method
    (views_of c.in-CallOn.args.items) c.in-CallOn.span c.call_of.result is
    (rw (c.deref-in-CallOn.ensures, c.deref-in-CallOn-2.ensures.value) at c.call_of.ensures.err)

pub elab_here-returns-in-Index-clause-ok : goal.elab_here-returns-in-Index-clause-ok
elab_here-returns-in-Index-clause-ok t c =
    rw c.in-Index.is (rw (node.outs-Index c.in-Index.array c.in-Index.at c.in-Index.span)
    (rw (c.deref-in-Index.ensures, c.deref-in-Index-2.ensures) at c.index.ensures.ok))

pub elab_here-returns-in-NewArrayOf-clause-ok : goal.elab_here-returns-in-NewArrayOf-clause-ok
elab_here-returns-in-NewArrayOf-clause-ok t c =
    rw c.in-NewArrayOf.is (rw (node.outs-NewArrayOf c.in-NewArrayOf.of c.in-NewArrayOf.dims c.in-NewArrayOf.init c.in-NewArrayOf.span)
    (rw c.deref-in-NewArrayOf.ensures at c.new_array_with.ensures.ok))

pub elab_here-returns-in-Prefix-clause-ok : goal.elab_here-returns-in-Prefix-clause-ok
elab_here-returns-in-Prefix-clause-ok t c =
    rw c.in-Prefix.is (rw (node.outs-Prefix c.in-Prefix.op c.in-Prefix.at c.in-Prefix.operand c.in-Prefix.span)
    (rw c.deref-in-Prefix.ensures at c.prefix.ensures.ok))

pub elab_here-returns-in-Prefix-clause-err : goal.elab_here-returns-in-Prefix-clause-err
elab_here-returns-in-Prefix-clause-err t c =
    rw c.in-Prefix.is (rw (node.outs-Prefix c.in-Prefix.op c.in-Prefix.at c.in-Prefix.operand c.in-Prefix.span)
    (rw c.deref-in-Prefix.ensures at c.prefix.ensures.err))

pub elab_here-returns-in-Cast-clause-ok : goal.elab_here-returns-in-Cast-clause-ok
elab_here-returns-in-Cast-clause-ok t c =
    rw c.in-Cast.is (rw (node.outs-Cast c.in-Cast.ty c.in-Cast.operand c.in-Cast.span)
    (rw c.deref-in-Cast.ensures at c.cast_to.ensures.ok))

pub elab_here-returns-in-Binary-clause-ok : goal.elab_here-returns-in-Binary-clause-ok
elab_here-returns-in-Binary-clause-ok t c =
    rw c.in-Binary.is (rw (node.outs-Binary c.in-Binary.op c.in-Binary.at c.in-Binary.left c.in-Binary.right c.in-Binary.span)
    (rw (c.deref-in-Binary.ensures, c.deref-in-Binary-2.ensures) at c.operation.ensures.ok))

pub elab_here-returns-in-Conditional-clause-ok : goal.elab_here-returns-in-Conditional-clause-ok
elab_here-returns-in-Conditional-clause-ok t c =
    rw c.in-Conditional.is (rw (node.outs-Conditional c.in-Conditional.at c.in-Conditional.condition c.in-Conditional.yes c.in-Conditional.no c.in-Conditional.span)
    (rw (c.deref-in-Conditional.ensures, c.deref-in-Conditional-2.ensures, c.deref-in-Conditional-3.ensures) at c.conditional.ensures.ok))

pub elab_here-returns-in-Conditional-clause-err : goal.elab_here-returns-in-Conditional-clause-err
elab_here-returns-in-Conditional-clause-err t c =
    rw c.in-Conditional.is (rw (node.outs-Conditional c.in-Conditional.at c.in-Conditional.condition c.in-Conditional.yes c.in-Conditional.no c.in-Conditional.span)
    (rw (c.deref-in-Conditional.ensures, c.deref-in-Conditional-2.ensures, c.deref-in-Conditional-3.ensures) at c.conditional.ensures.err))

pub elab_here-returns-in-Assign-clause-ok : goal.elab_here-returns-in-Assign-clause-ok
elab_here-returns-in-Assign-clause-ok t c =
    rw c.in-Assign.is (rw (node.outs-Assign c.in-Assign.op c.in-Assign.at c.in-Assign.place c.in-Assign.value c.in-Assign.span)
    (rw (c.deref-in-Assign.ensures, c.deref-in-Assign-2.ensures) at c.assign.ensures.ok))

pub initialized-returns-in-Read : goal.initialized-returns-in-Read
initialized-returns-in-Read t c =
    record { ok = tt; err = no_type_known c.args.bodies.now c.args.scope.now (views_of c.args.exprs.now) c.args.span c.args.purpose c.in-Read.is }

pub new_array_with-returns-clause-ok : goal.new_array_with-returns-clause-ok
new_array_with-returns-clause-ok t c =
    let whole = elements_are_made c.args.bodies.now c.args.scope.now (type_view c.args.of.now) c.args.dims (view c.args.init.now) c.args.span c.name_span-name.result
    (shown c.in_ok-of.of) (shown c.in_ok-ty.ty) (map part_seen c.in_ok-elements.elements.items)
    c.in_ok-of.ensures.ok c.in_ok-ty.ensures c.in_ok-elements.ensures.ok c.name_span-name.ensures in
    subst (λ (j : Judged TypedNode). IfOk c.made_with_elements.result (λ u. j ≡ gives (seen u))) (sym whole) c.made_with_elements.ensures.ok

pub new_array_with-returns-clause-err : goal.new_array_with-returns-clause-err
new_array_with-returns-clause-err t c =
    let whole = elements_are_made c.args.bodies.now c.args.scope.now (type_view c.args.of.now) c.args.dims (view c.args.init.now) c.args.span c.name_span-name.result
    (shown c.in_ok-of.of) (shown c.in_ok-ty.ty) (map part_seen c.in_ok-elements.elements.items)
    c.in_ok-of.ensures.ok c.in_ok-ty.ensures c.in_ok-elements.ensures.ok c.name_span-name.ensures in
    subst (λ (j : Judged TypedNode). IfErr c.made_with_elements.result (IsFault j)) (sym whole) c.made_with_elements.ensures.err

pub values-loop-expr-init : goal.values-loop-expr-init
values-loop-expr-init t c = values_begin c.args.bodies.now c.args.scope.now c.args.exprs.now _ c.new-values.ensures.items

pub values-returns-in_err-value-clause-err : goal.values-returns-in_err-value-clause-err
values-returns-in_err-value-clause-err t c =
    let p = err_from_is_err_and c.from_residual.result c.from_residual.ensures.1 in
    rw (p.1, p.2) (values_fault c.args.bodies.now c.args.scope.now c.args.exprs.now c.loop-expr.expr-index c.expr-item.result c.loop-expr.values.items _
    (omega arith) c.expr-item.is c.loop-expr.invariant c.in_err-value.ensures.err)

pub values-loop-expr-preserved : goal.values-loop-expr-preserved
values-loop-expr-preserved t c =
    values_on c.args.bodies.now c.args.scope.now c.args.exprs.now c.loop-expr.expr-index c.expr-item.result c.loop-expr.values.items c.push.new.self.items c.in_ok-value.value
    (omega arith) c.expr-item.is c.loop-expr.invariant c.in_ok-value.ensures.ok c.in_ok-push.ensures.items

pub values-returns-clause-ok : goal.values-returns-clause-ok
values-returns-clause-ok t c =
    values_end c.args.bodies.now c.args.scope.now c.args.exprs.now c.loop-expr.expr-index c.loop-expr.values.items (omega arith) c.loop-expr.invariant

pub parts-loop-expr-init : goal.parts-loop-expr-init
parts-loop-expr-init t c = parts_begin c.args.bodies.now c.args.scope.now (purpose_seen c.args.purpose) c.args.exprs.now _ c.new-parts.ensures.items

pub parts-returns-in_err-part-clause-err : goal.parts-returns-in_err-part-clause-err
parts-returns-in_err-part-clause-err t c =
    let p = err_from_is_err_and c.from_residual.result c.from_residual.ensures.1 in
    rw (p.1, p.2) (parts_fault c.args.bodies.now c.args.scope.now (purpose_seen c.args.purpose) c.args.exprs.now c.loop-expr.expr-index c.expr-item.result c.loop-expr.parts.items _
    (omega arith) c.expr-item.is c.loop-expr.invariant c.in_err-part.ensures.err)

pub parts-loop-expr-preserved : goal.parts-loop-expr-preserved
parts-loop-expr-preserved t c =
    parts_on c.args.bodies.now c.args.scope.now (purpose_seen c.args.purpose) c.args.exprs.now c.loop-expr.expr-index c.expr-item.result c.loop-expr.parts.items c.push.new.self.items c.in_ok-part.part
    (omega arith) c.expr-item.is c.loop-expr.invariant c.in_ok-part.ensures.ok c.in_ok-part.ensures.span c.in_ok-push.ensures.items

pub parts-returns-clause-ok : goal.parts-returns-clause-ok
parts-returns-clause-ok t c =
    parts_end c.args.bodies.now c.args.scope.now (purpose_seen c.args.purpose) c.args.exprs.now c.loop-expr.expr-index c.loop-expr.parts.items (omega arith) c.loop-expr.invariant

pub elab_here-returns-in-SuperSelect-clause-err : goal.elab_here-returns-in-SuperSelect-clause-err
elab_here-returns-in-SuperSelect-clause-err t c =
    rw c.in-SuperSelect.is (rw (node.outs-SuperSelect c.in-SuperSelect.word c.in-SuperSelect.field c.in-SuperSelect.span)
    c.super_selected.ensures.err)

pub conditional-returns-clause-err : goal.conditional-returns-clause-err
conditional-returns-clause-err t c =
    let whole = conditional_is c.args.bodies.now c.args.scope.now c.args.at c.args.span (view c.args.condition.now) (view c.args.yes.now) (view c.args.no.now)
    (seen c.in_ok-condition.condition.value) (seen c.in_ok-yes.yes) (seen c.in_ok-no.no) c.in_ok-condition.condition.span
    c.in_ok-condition.ensures.ok c.in_ok-condition.ensures.span c.in_ok-yes.ensures.ok c.in_ok-no.ensures.ok in
    subst (λ (j : Judged TypedNode). IfErr c.choice.result (IsFault j)) (sym whole) c.choice.ensures.err

pub call_of-returns-in_err-args-clause-err : goal.call_of-returns-in_err-args-clause-err
unfolding called_on
call_of-returns-in_err-args-clause-err t c =
    let p = err_from_is_err_and c.from_residual-in_err-args.result c.from_residual-in_err-args.ensures.1 in
    rw (p.1, p.2) (fault_later (before_in c.args.bodies.now c.args.scope.now (view c.args.object.now)) _ (qualifier_seen c.in_ok-on.on) _ c.in_ok-on.ensures.ok
    (fault_later (receiver (qualifier_seen c.in_ok-on.on)) _ _ _ c.in_ok-receiver.ensures.ok
    (bind_faults (values_in c.args.bodies.now c.args.scope.now (views_of c.args.args.now)) _ _ c.in_err-args.ensures.err)))

pub before-returns-in_err-on-in-None-clause-err : goal.before-returns-in_err-on-in-None-clause-err
before-returns-in_err-on-in-None-clause-err t c =
    let p = err_from_is_err_and c.from_residual-in_err-on-in-None.result c.from_residual-in_err-on-in-None.ensures.1 in
    let none : named_before (program_in c.args.bodies.now) (known_in c.args.bodies.now) (scope_seen c.args.scope.now) (view c.args.expr.now) ≡ None =
    rw c.in-None.is at c.in_ok-named.ensures.ok in
    rw (p.1, p.2) (value_faults (program_in c.args.bodies.now) (known_in c.args.bodies.now) (scope_seen c.args.scope.now) _ _
    (expression_in c.args.bodies.now c.args.scope.now read (view c.args.expr.now)) none c.in_err-on-in-None.ensures.err)

pub before-returns-in_ok-on-in-None-clause-ok : goal.before-returns-in_ok-on-in-None-clause-ok
before-returns-in_ok-on-in-None-clause-ok t c =
    let none : named_before (program_in c.args.bodies.now) (known_in c.args.bodies.now) (scope_seen c.args.scope.now) (view c.args.expr.now) ≡ None =
    rw c.in-None.is at c.in_ok-named.ensures.ok in
    value_stands (program_in c.args.bodies.now) (known_in c.args.bodies.now) (scope_seen c.args.scope.now) _ (seen c.in_ok-on-in-None.on)
    (expression_in c.args.bodies.now c.args.scope.now read (view c.args.expr.now)) none c.in_ok-on-in-None.ensures.ok
