use Rattle.std.proofs.Common.{◌≡◌, IfOk, IfErr, List, map, sym, ◌∙◌, subst}
use Rattle.std.specs.List.{list_all}
use Rattle.std.proofs.lemmas.Result.{err_from_is_err_and}
use Rattle.class_heads.specs.View.{classes_of}
use Rattle.je_typing.specs.Answers.{IsFault}
use Rattle.je_typing.specs.Judged.{Judged, check, gives}
use Rattle.je_typing.specs.declared.fault.TypeRule.TheVariants.{BadOverride}
use Rattle.class_methods.specs.Above.{HasSame}
use Rattle.class_methods.specs.View.{method_seen}
use Rattle.class_methods.specs.declared.method.Method.{Method}
use Rattle.overriding.specs.Methods.{methods_above}
use Rattle.overriding.specs.Overrides.{overrides_well}
use Rattle.source_subtypes.specs.View.{heads_of}
use Rattle.override_steps.proofs.MethodsAbove.{fails, goes_on}
use Rattle.override_steps.proofs.above.good_method.Goals as goal

pub returns-in_err-good_override-clause-err : goal.returns-in_err-good_override-clause-err
returns-in_err-good_override-clause-err c =
    let p = err_from_is_err_and c.from_residual-in_err-good_override.result c.from_residual-in_err-good_override.ensures.1 in
    let same = subst (λ (ms : List Method). HasSame (map method_seen ms) (methods_above (heads_of c.args.heads.now) (classes_of c.args.classes) c.args.method.now.holder.0)) (sym c.deref.ensures.value) c.in_ok-above.ensures in
    rw (p.1, p.2) (fails (heads_of c.args.heads.now) (classes_of c.args.classes) (map method_seen c.args.earlier.now) (method_seen c.args.method.now) (map method_seen c.deref.result.now) same
    _ c.in_err-good_override.ensures.err)

pub returns-clause-ok : goal.returns-clause-ok
returns-clause-ok c =
    let same = subst (λ (ms : List Method). HasSame (map method_seen ms) (methods_above (heads_of c.args.heads.now) (classes_of c.args.classes) c.args.method.now.holder.0)) (sym c.deref-2.ensures.value) c.in_ok-above.ensures in
    let good = subst (λ (ms : List Method). check BadOverride c.args.method.now.declared.now.name.span (list_all (overrides_well (heads_of c.args.heads.now) (method_seen c.args.method.now)) (map method_seen ms)) ≡ gives tt)
    (c.deref.ensures.value ∙ sym c.deref-2.ensures.value) c.in_ok-good_override.ensures.ok in
    subst (λ (j : Judged (Unit {0})). IfOk c.no_clash.result (λ done. j ≡ gives done))
    (sym (goes_on (heads_of c.args.heads.now) (classes_of c.args.classes) (map method_seen c.args.earlier.now) (method_seen c.args.method.now) (map method_seen c.deref-2.result.now) same tt good)) c.no_clash.ensures.ok

pub returns-clause-err : goal.returns-clause-err
returns-clause-err c =
    let same = subst (λ (ms : List Method). HasSame (map method_seen ms) (methods_above (heads_of c.args.heads.now) (classes_of c.args.classes) c.args.method.now.holder.0)) (sym c.deref-2.ensures.value) c.in_ok-above.ensures in
    let good = subst (λ (ms : List Method). check BadOverride c.args.method.now.declared.now.name.span (list_all (overrides_well (heads_of c.args.heads.now) (method_seen c.args.method.now)) (map method_seen ms)) ≡ gives tt)
    (c.deref.ensures.value ∙ sym c.deref-2.ensures.value) c.in_ok-good_override.ensures.ok in
    subst (λ (j : Judged (Unit {0})). IfErr c.no_clash.result (IsFault j))
    (sym (goes_on (heads_of c.args.heads.now) (classes_of c.args.classes) (map method_seen c.args.earlier.now) (method_seen c.args.method.now) (map method_seen c.deref-2.result.now) same tt good)) c.no_clash.ensures.err
