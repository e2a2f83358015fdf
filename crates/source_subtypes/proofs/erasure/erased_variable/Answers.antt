use Rattle.std.proofs.Common.{◌≡◌, ◌-◌, ◌+◌, ◌<◌, sym, ap, ◌∙◌, arith}
use Rattle.std.specs.Prelude.{option_map}
use Rattle.je_core.specs.declared.types.Base.TheVariants as base
use Rattle.je_core.specs.declared.types.ClassId.{ClassId}
use Rattle.je_core.specs.declared.types.Ty.{Ty}
use Rattle.je_scopes.specs.SourceTypes.{SourceType, of_variable}
use Rattle.name_types.specs.View.{shown}
use Rattle.source_types.specs.Erasure.{erased, erased_array, erased_within, type}
use Rattle.source_types.specs.Heads.{bound_of, object_type, or_object, variable_count}
use Rattle.source_subtypes.specs.View.{heads_of}
use Rattle.source_subtypes.proofs.Erasing.{bound-erased, plain-last, made-last, object-last, variable-next}
use Rattle.source_subtypes.proofs.erasure.erased_variable.Goals as goal

pub returns-in-None : goal.returns-in-None
unfolding erased
returns-in-None c =
    let hs = heads_of c.args.heads.now in
    let left = variable_count hs - c.loop.counter in
    let more : 0 < left = omega (arith, c.loop-test.true, c.variable_count-end.ensures) in
    let none : object_type ≡ bound_of hs c.loop.next.0.0 c.loop.next.1 = ap or_object (ap (option_map (λ t. shown t.now)) (sym c.in-None.is) ∙ c.bound.ensures) in
    c.erased_array.ensures
    ∙ ap (λ (k : ClassId). erased_array (type (base.Class k) 0) c.loop.outer) c.object_class.ensures
    ∙ ap (λ (t : Ty). erased_array t c.loop.outer) (object-last hs (left - 1))
    ∙ ap (λ (u : SourceType). erased_array (erased_within hs (left - 1) u) c.loop.outer) none
    ∙ sym (bound-erased hs left c.loop.next.0.0 c.loop.next.1 c.loop.outer more) ∙ c.loop.invariant

pub returns-in-Plain : goal.returns-in-Plain
unfolding erased
returns-in-Plain c =
    let hs = heads_of c.args.heads.now in
    let left = variable_count hs - c.loop.counter in
    let more : 0 < left = omega (arith, c.loop-test.true, c.variable_count-end.ensures) in
    let some : shown c.in-Some.bound.now ≡ bound_of hs c.loop.next.0.0 c.loop.next.1 = ap or_object (ap (option_map (λ t. shown t.now)) (sym c.in-Some.is) ∙ c.bound.ensures) in
    c.erased_array-in-Plain.ensures
    ∙ ap (λ (t : Ty). erased_array t c.loop.outer) (plain-last hs (left - 1) c.in-Some.bound.now c.in-Plain.base c.in-Plain.is)
    ∙ ap (λ (u : SourceType). erased_array (erased_within hs (left - 1) u) c.loop.outer) some
    ∙ sym (bound-erased hs left c.loop.next.0.0 c.loop.next.1 c.loop.outer more) ∙ c.loop.invariant

pub returns-in-Made : goal.returns-in-Made
unfolding erased
returns-in-Made c =
    let hs = heads_of c.args.heads.now in
    let left = variable_count hs - c.loop.counter in
    let more : 0 < left = omega (arith, c.loop-test.true, c.variable_count-end.ensures) in
    let some : shown c.in-Some.bound.now ≡ bound_of hs c.loop.next.0.0 c.loop.next.1 = ap or_object (ap (option_map (λ t. shown t.now)) (sym c.in-Some.is) ∙ c.bound.ensures) in
    c.erased_array-in-Made.ensures
    ∙ ap (λ (t : Ty). erased_array t c.loop.outer) (made-last hs (left - 1) c.in-Some.bound.now c.in-Made.class c.in-Made.field-1 c.in-Made.is)
    ∙ ap (λ (u : SourceType). erased_array (erased_within hs (left - 1) u) c.loop.outer) some
    ∙ sym (bound-erased hs left c.loop.next.0.0 c.loop.next.1 c.loop.outer more) ∙ c.loop.invariant

pub loop-preserved : goal.loop-preserved
loop-preserved c =
    let hs = heads_of c.args.heads.now in
    let left = variable_count hs - c.loop.counter in
    let more : 0 < left = omega (arith, c.loop-test.true, c.variable_count-end.ensures) in
    let less : variable_count hs - (c.loop.counter + 1) ≡ left - 1 = omega arith in
    let some : shown c.in-Some.bound.now ≡ bound_of hs c.loop.next.0.0 c.loop.next.1 = ap or_object (ap (option_map (λ t. shown t.now)) (sym c.in-Some.is) ∙ c.bound.ensures) in
    (λ i. erased_within hs (less i) (of_variable c.in-Var.class.0 c.in-Var.at (c.added_dims-outer.ensures i)))
    ∙ sym (variable-next hs (left - 1) c.in-Some.bound.now c.in-Var.class c.in-Var.at c.loop.outer c.in-Var.is)
    ∙ ap (λ (u : SourceType). erased_array (erased_within hs (left - 1) u) c.loop.outer) some
    ∙ sym (bound-erased hs left c.loop.next.0.0 c.loop.next.1 c.loop.outer more) ∙ c.loop.invariant

pub returns : goal.returns
unfolding erased
returns c =
    let hs = heads_of c.args.heads.now in
    let none : variable_count hs - c.loop.counter ≡ 0 = omega (arith, c.loop-test.false, c.variable_count-end.ensures) in
    ap (λ (k : ClassId). type (base.Class k) c.loop.outer) c.object_class-2.ensures
    ∙ ap (λ n. erased_within hs n (of_variable c.loop.next.0.0 c.loop.next.1 c.loop.outer)) (sym none) ∙ c.loop.invariant
