use Rattle.std.proofs.Common.{◌≡◌, IfOk, IfErr, sym, subst}
use Rattle.je_typing.specs.Answers.{IsFault}
use Rattle.je_typing.specs.Judged.{Judged, gives}
use Rattle.signature_steps.specs.View.{setting_of}
use Rattle.signature_steps.proofs.Placed.{constructor_is, found_is}
use Rattle.signature_steps.proofs.methods.judge_constructor.Goals as goal

pub returns-in-Some-clause-ok : goal.returns-in-Some-clause-ok
returns-in-Some-clause-ok c =
    let found = found_is c.own_methods-methods.result.now c.args.at c.in-Some.constructor.now c.in-Some.ensures.lookup.3.0 c.in-Some.ensures.lookup.1 in
    subst (λ (j : Judged (Unit {0})). IfOk c.no_constructor_clash.result (λ done. j ≡ gives done))
    (sym (constructor_is (setting_of c.args.setting) c.args.class.0 c.args.at c.own_methods-methods.result.now c.in-Some.constructor.now c.own_methods-methods.ensures found)) c.no_constructor_clash.ensures.ok

pub returns-in-Some-clause-err : goal.returns-in-Some-clause-err
returns-in-Some-clause-err c =
    let found = found_is c.own_methods-methods.result.now c.args.at c.in-Some.constructor.now c.in-Some.ensures.lookup.3.0 c.in-Some.ensures.lookup.1 in
    subst (λ (j : Judged (Unit {0})). IfErr c.no_constructor_clash.result (IsFault j))
    (sym (constructor_is (setting_of c.args.setting) c.args.class.0 c.args.at c.own_methods-methods.result.now c.in-Some.constructor.now c.own_methods-methods.ensures found)) c.no_constructor_clash.ensures.err
