use Rattle.std.proofs.Common.{◌≡◌, ◌-◌, ◌+◌, ◌<◌, min, sym, ap, subst, ◌∙◌, arith}
use Rattle.std.specs.Prelude.{IfOk, option_map}
use Rattle.je_scopes.specs.SourceTypes.{SourceType, of_variable}
use Rattle.name_types.specs.View.{shown}
use Rattle.source_types.specs.Heads.{bound_of, object_type, or_object, variable_count}
use Rattle.source_types.specs.Substitution.{array_over}
use Rattle.je_typing.specs.Castable.{bounded_within}
use Rattle.source_subtypes.specs.View.{heads_of}
use Rattle.reference_tests.proofs.Bounding.{bound-bounded, plain-last, made-last, object-last, variable-next}
use Rattle.reference_tests.proofs.bounds.bounded_variable.Goals as goal

pub returns-in-None : goal.returns-in-None
returns-in-None c =
    let hs = heads_of c.args.heads.now in
    let left = variable_count hs - c.loop.counter in
    let more : 0 < left = omega (arith, c.loop-test.true, c.variable_count-end.ensures) in
    let none : object_type ≡ bound_of hs c.loop.next.0.0 c.loop.next.1 = ap or_object (ap (option_map (λ t. shown t.now)) (sym c.in-None.is) ∙ c.bound.ensures) in
    c.object_array.ensures
    ∙ ap (λ (t : SourceType). array_over t c.loop.outer) (object-last hs (left - 1))
    ∙ ap (λ (u : SourceType). array_over (bounded_within hs (left - 1) u) c.loop.outer) none
    ∙ sym (bound-bounded hs left c.loop.next.0.0 c.loop.next.1 c.loop.outer more) ∙ c.loop.invariant

pub returns-in-Plain : goal.returns-in-Plain
returns-in-Plain c =
    let hs = heads_of c.args.heads.now in
    let left = variable_count hs - c.loop.counter in
    let more : 0 < left = omega (arith, c.loop-test.true, c.variable_count-end.ensures) in
    let some : shown c.in-Some.bound.now ≡ bound_of hs c.loop.next.0.0 c.loop.next.1 = ap or_object (ap (option_map (λ t. shown t.now)) (sym c.in-Some.is) ∙ c.bound.ensures) in
    subst (λ (u : SourceType). IfOk c.array_over_type.result (λ t. shown t ≡ u))
    (ap (λ (t : SourceType). array_over t c.loop.outer) (plain-last hs (left - 1) c.in-Some.bound.now c.in-Plain.field-0 c.in-Plain.is)
    ∙ ap (λ (u : SourceType). array_over (bounded_within hs (left - 1) u) c.loop.outer) some
    ∙ sym (bound-bounded hs left c.loop.next.0.0 c.loop.next.1 c.loop.outer more) ∙ c.loop.invariant)
    c.array_over_type.ensures

pub returns-in-Made : goal.returns-in-Made
returns-in-Made c =
    let hs = heads_of c.args.heads.now in
    let left = variable_count hs - c.loop.counter in
    let more : 0 < left = omega (arith, c.loop-test.true, c.variable_count-end.ensures) in
    let some : shown c.in-Some.bound.now ≡ bound_of hs c.loop.next.0.0 c.loop.next.1 = ap or_object (ap (option_map (λ t. shown t.now)) (sym c.in-Some.is) ∙ c.bound.ensures) in
    subst (λ (u : SourceType). IfOk c.array_over_type-in-Made.result (λ t. shown t ≡ u))
    (ap (λ (t : SourceType). array_over t c.loop.outer) (made-last hs (left - 1) c.in-Some.bound.now c.in-Made.field-0 c.in-Made.field-1 c.in-Made.is)
    ∙ ap (λ (u : SourceType). array_over (bounded_within hs (left - 1) u) c.loop.outer) some
    ∙ sym (bound-bounded hs left c.loop.next.0.0 c.loop.next.1 c.loop.outer more) ∙ c.loop.invariant)
    c.array_over_type-in-Made.ensures

pub loop-preserved : goal.loop-preserved
loop-preserved c =
    let hs = heads_of c.args.heads.now in
    let left = variable_count hs - c.loop.counter in
    let more : 0 < left = omega (arith, c.loop-test.true, c.variable_count-end.ensures) in
    let less : variable_count hs - (c.loop.counter + 1) ≡ left - 1 = omega arith in
    let sum : c.saturating_add-outer.result ≡ min 255 (c.in-Some.bound.now.dims + c.loop.outer) = omega (arith, c.saturating_add-outer.ensures) in
    let some : shown c.in-Some.bound.now ≡ bound_of hs c.loop.next.0.0 c.loop.next.1 = ap or_object (ap (option_map (λ t. shown t.now)) (sym c.in-Some.is) ∙ c.bound.ensures) in
    (λ i. bounded_within hs (less i) (of_variable c.in-Var.class.0 c.in-Var.at (sum i)))
    ∙ sym (variable-next hs (left - 1) c.in-Some.bound.now c.in-Var.class c.in-Var.at c.loop.outer c.in-Var.is)
    ∙ ap (λ (u : SourceType). array_over (bounded_within hs (left - 1) u) c.loop.outer) some
    ∙ sym (bound-bounded hs left c.loop.next.0.0 c.loop.next.1 c.loop.outer more) ∙ c.loop.invariant

pub returns : goal.returns
returns c =
    let hs = heads_of c.args.heads.now in
    let none : variable_count hs - c.loop.counter ≡ 0 = omega (arith, c.loop-test.false, c.variable_count-end.ensures) in
    c.object_array-2.ensures
    ∙ ap (λ n. bounded_within hs n (of_variable c.loop.next.0.0 c.loop.next.1 c.loop.outer)) (sym none) ∙ c.loop.invariant
