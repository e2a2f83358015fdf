use Rattle.std.proofs.Common.{List, [], ◌++◌, map, append-nil, ap, sym, ◌∙◌}
use Rattle.class_methods.specs.View.{method_seen}
use Rattle.declarations.specs.View.{method_shown}
use Rattle.overriding.specs.Methods.{Method}
use Rattle.signature_typing.specs.Signatures.{own_methods}
use Rattle.signature_steps.specs.View.{setting_of}
use Rattle.signature_steps.proofs.Placed.{declared_is, found_is, one_more, one_of}
use Rattle.signature_steps.proofs.methods.with_next.Goals as goal

pub returns-in_ok-push_own-in-Some-clause-earlier : goal.returns-in_ok-push_own-in-Some-clause-earlier
returns-in_ok-push_own-in-Some-clause-earlier c =
    let found = declared_is (setting_of c.args.setting) c.args.class.0 c.args.at c.own_methods.result.now c.in-Some.declared.now c.own_methods.ensures
    (found_is c.own_methods.result.now c.args.at c.in-Some.declared.now c.in-Some.ensures.lookup.3.0 c.in-Some.ensures.lookup.1) in
    sym (append-nil (map method_seen c.push_own.new.own.items)) ∙ c.in_ok-push_own-in-Some.ensures []
    ∙ ap (λ (ms : List Method). ms ++ one_of c.args.class.0 c.args.at (method_shown c.in-Some.declared.now)) c.requires
    ∙ sym (one_more c.args.class.0 c.args.at (own_methods (setting_of c.args.setting) c.args.class.0) (method_shown c.in-Some.declared.now) found)
