use Rattle.std.proofs.Common.{List, map, sym, ◌∙◌, subst}
use Rattle.class_heads.specs.View.{classes_of}
use Rattle.class_methods.specs.Above.{HasSame}
use Rattle.class_methods.specs.View.{method_seen}
use Rattle.class_methods.specs.declared.method.Method.{Method}
use Rattle.overriding.specs.Methods.{methods_above}
use Rattle.source_subtypes.specs.View.{heads_of}
use Rattle.override_steps.proofs.MethodsAbove.{no_overload, same_overridden}
use Rattle.override_steps.proofs.inherited.clashes_with_one.Goals as goal

pub returns-then-not-has_overload : goal.returns-then-not-has_overload
returns-then-not-has_overload c =
    sym (no_overload (heads_of c.args.heads.now) (classes_of c.args.classes) (method_seen c.args.method.now) (map method_seen c.args.above.now) (sym c.has_overload.ensures ∙ c.if-not-has_overload.true))

pub returns : goal.returns
returns c =
    same_overridden (heads_of c.args.heads.now) (classes_of c.args.classes) (method_seen c.args.method.now) (method_seen c.in_ok-own.own) (map method_seen c.deref.result.now) (map method_seen c.args.above.now) c.in_ok-does.does
    c.in_ok-own.ensures
    (subst (λ (ms : List Method). HasSame (map method_seen ms) (methods_above (heads_of c.args.heads.now) (classes_of c.args.classes) c.args.method.now.holder.0)) (sym c.deref.ensures.value) c.in_ok-own_above.ensures)
    c.in_ok-does.ensures
