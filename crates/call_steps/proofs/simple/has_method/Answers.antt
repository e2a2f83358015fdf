use Rattle.std.proofs.Common.{List, map, ap, ◌∙◌}
use Rattle.overloads.specs.declared.candidate.Candidate.{Candidate}
use Rattle.overloads.specs.View.{candidate_seen}
use Rattle.overriding.specs.Methods.{Method}
use Rattle.class_methods.specs.View.{arguments_seen}
use Rattle.call_steps.specs.TableView.{methods_at}
use Rattle.call_typing.specs.Calls.{has_some}
use Rattle.call_typing.specs.Methods.{named}
use Rattle.call_steps.specs.way.Found.{any}
use Rattle.call_steps.proofs.Found.{any_put}
use Rattle.call_steps.proofs.simple.has_method.Goals as goal

pub returns : goal.returns
returns c =
    c.is_any.ensures ∙ ap (λ (ms : List Candidate). any (map candidate_seen ms)) c.deref.ensures.value
    ∙ ap any c.in_ok-methods.ensures
    ∙ any_put _ (named c.args.name (methods_at c.args.calls.methods.now c.args.class.0))
    ∙ ap (λ (ms : List Method). has_some (named c.args.name ms)) (c.requires.each c.args.class.0)
