use Rattle.std.proofs.Common.{◌≡◌, ◌<◌, ◌+◌, length, drop, get_or, Some, sym, ap, subst, ◌∙◌, arith}
use Rattle.std.specs.Prelude.{Option, Bool as Truth}
use Rattle.je_core.specs.declared.types.Base.TheVariants.{Bool}
use Rattle.je_core.specs.declared.types.Ty.{Ty}
use Rattle.je_core.specs.View.{program_view}
use Rattle.je_java.specs.Steps.{admit, Computation, Nothing}
use Rattle.je_java.specs.Meaning.{admit_all}
use Rattle.machine_parts.specs.Ways.{state_of}
use Rattle.machine_forms.specs.way.Admitting.{admitted_ways}
use Rattle.machine_forms.proofs.Admitting.{passes_then, fails_then, none_then, admit_step, admit_past, none_of}
use Rattle.machine_forms.proofs.argument.admit_all.Goals as goal

pub returns-in_default : goal.returns-in_default
returns-in_default c = λ go exits units begun outside own.
    let p = program_view c.args.program.now in
    let s = state_of units begun c.args.heap.now outside own in
    let types = c.args.types.now in
    let values = c.args.values.now in
    let at = c.loop-at.at in
    let default : Ty = record { base = Bool; dims = 0 } in
    let below : at < length types = omega (arith, c.loop-at-test.true) in
    let none = sym c.get.ensures ∙ none_of c.get.result c.in_default.not-Some in
    sym (ap (λ (m : Computation Nothing). m go exits s) (admit_past p types values at default below none))
    ∙ c.loop-at.invariant go exits units begun outside own

pub returns-in-Some-false : goal.returns-in-Some-false
returns-in-Some-false c = λ go exits units begun outside own.
    let p = program_view c.args.program.now in
    let s = state_of units begun c.args.heap.now outside own in
    let types = c.args.types.now in
    let values = c.args.values.now in
    let at = c.loop-at.at in
    let default : Ty = record { base = Bool; dims = 0 } in
    let below : at < length types = omega (arith, c.loop-at-test.true) in
    let rest = admit_all p (drop (at + 1) types) (drop (at + 1) values) in
    let test = admit p (get_or types at default) c.in-Some.value in
    fails_then p test rest s (λ way out. subst (λ (found : Option Truth). admitted_ways p found way out s ≡ test way out s) (c.in-Some-false.is ∙ ap Some c.in-Some-false.field-0-test) (c.in_ok-admit.ensures way out units begun outside own)) go exits
    ∙ ap (λ (m : Computation Nothing). m go exits s) (sym (admit_step p types values at default c.in-Some.value below (sym c.in-Some.ensures)))
    ∙ c.loop-at.invariant go exits units begun outside own

pub returns-in-None : goal.returns-in-None
returns-in-None c = λ go exits units begun outside own.
    let p = program_view c.args.program.now in
    let s = state_of units begun c.args.heap.now outside own in
    let types = c.args.types.now in
    let values = c.args.values.now in
    let at = c.loop-at.at in
    let default : Ty = record { base = Bool; dims = 0 } in
    let below : at < length types = omega (arith, c.loop-at-test.true) in
    let rest = admit_all p (drop (at + 1) types) (drop (at + 1) values) in
    let test = admit p (get_or types at default) c.in-Some.value in
    none_then p test rest s (λ way out. subst (λ (found : Option Truth). admitted_ways p found way out s ≡ test way out s) c.in-None.is (c.in_ok-admit.ensures way out units begun outside own)) go exits
    ∙ ap (λ (m : Computation Nothing). m go exits s) (sym (admit_step p types values at default c.in-Some.value below (sym c.in-Some.ensures)))
    ∙ c.loop-at.invariant go exits units begun outside own

pub loop-at-preserved : goal.loop-at-preserved
loop-at-preserved c = λ go exits units begun outside own.
    let p = program_view c.args.program.now in
    let s = state_of units begun c.args.heap.now outside own in
    let types = c.args.types.now in
    let values = c.args.values.now in
    let at = c.loop-at.at in
    let default : Ty = record { base = Bool; dims = 0 } in
    let below : at < length types = omega (arith, c.loop-at-test.true) in
    let rest = admit_all p (drop (at + 1) types) (drop (at + 1) values) in
    let test = admit p (get_or types at default) c.in-Some.value in
    passes_then p test rest s (λ way out. subst (λ (found : Option Truth). admitted_ways p found way out s ≡ test way out s) (c.in-Some-true.is ∙ ap Some c.in-Some-true.field-0-test) (c.in_ok-admit.ensures way out units begun outside own)) go exits
    ∙ ap (λ (m : Computation Nothing). m go exits s) (sym (admit_step p types values at default c.in-Some.value below (sym c.in-Some.ensures)))
    ∙ c.loop-at.invariant go exits units begun outside own
