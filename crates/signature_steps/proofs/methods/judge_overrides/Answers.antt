use Rattle.std.proofs.Common.{◌≡◌, IfOk, IfErr, sym, subst}
use Rattle.declarations.specs.View.{method_shown}
use Rattle.je_typing.specs.Answers.{IsFault}
use Rattle.je_typing.specs.Judged.{Judged, gives}
use Rattle.class_methods.specs.View.{method_seen}
use Rattle.signature_steps.specs.View.{setting_of}
use Rattle.signature_steps.proofs.Placed.{declared_is, found_is, override_is}
use Rattle.signature_steps.proofs.methods.judge_overrides.Goals as goal

pub returns-in_ok-method-in-Some-clause-ok : goal.returns-in_ok-method-in-Some-clause-ok
returns-in_ok-method-in-Some-clause-ok c =
    let found = declared_is (setting_of c.args.setting) c.args.class.0 c.args.at c.own_methods.result.now c.in-Some.declared.now c.own_methods.ensures
    (found_is c.own_methods.result.now c.args.at c.in-Some.declared.now c.in-Some.ensures.lookup.3.0 c.in-Some.ensures.lookup.1) in
    subst (λ (j : Judged (Unit {0})). IfOk c.judge_override.result (λ done. j ≡ gives done))
    (sym (override_is (setting_of c.args.setting) c.args.class.0 c.args.at (method_shown c.in-Some.declared.now) (method_seen c.in_ok-method-in-Some.method) c.in_ok-method-in-Some.ensures found)) c.judge_override.ensures.ok

pub returns-in_ok-method-in-Some-clause-err : goal.returns-in_ok-method-in-Some-clause-err
returns-in_ok-method-in-Some-clause-err c =
    let found = declared_is (setting_of c.args.setting) c.args.class.0 c.args.at c.own_methods.result.now c.in-Some.declared.now c.own_methods.ensures
    (found_is c.own_methods.result.now c.args.at c.in-Some.declared.now c.in-Some.ensures.lookup.3.0 c.in-Some.ensures.lookup.1) in
    subst (λ (j : Judged (Unit {0})). IfErr c.judge_override.result (IsFault j))
    (sym (override_is (setting_of c.args.setting) c.args.class.0 c.args.at (method_shown c.in-Some.declared.now) (method_seen c.in_ok-method-in-Some.method) c.in_ok-method-in-Some.ensures found)) c.judge_override.ensures.err
