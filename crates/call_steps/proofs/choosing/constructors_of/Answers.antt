use Rattle.std.proofs.Common.{◌≡◌, List, IfOk, map, sym, ap, subst, ◌∙◌}
use Rattle.std.specs.Prelude.{Some, None, option_map}
use Rattle.name_sites.specs.View.{source_of}
use Rattle.name_types.specs.View.{shown}
use Rattle.class_heads.specs.View.{classes_of}
use Rattle.class_methods.specs.View.{arguments_seen}
use Rattle.class_methods.specs.way.Parts.{parts_of}
use Rattle.overloads.specs.View.{candidate_seen}
use Rattle.call_typing.specs.Overloads.{Candidate}
use Rattle.call_steps.specs.way.Parts.{constructors_if}
use Rattle.call_steps.proofs.Parts.{constructors_by_parts}
use Rattle.call_steps.proofs.choosing.constructors_of.Goals as goal

pub returns-in-Some : goal.returns-in-Some
returns-in-Some c =
    let sites = (source_of c.args.caller.sites.now).sites in
    let classes = classes_of c.args.caller.classes in
    let some : Some (arguments_seen c.in-Some.arguments) ≡ parts_of (shown c.args.ty.now) =
    ap (option_map arguments_seen) (sym c.in-Some.is) ∙ c.arguments_of.ensures in
    subst (λ (ms : List Candidate). IfOk c.constructors_in.result (λ cs. map candidate_seen cs.items ≡ ms))
    (ap (constructors_if sites classes) some ∙ constructors_by_parts sites classes (shown c.args.ty.now)) c.constructors_in.ensures

pub returns-in-None : goal.returns-in-None
returns-in-None c =
    let sites = (source_of c.args.caller.sites.now).sites in
    let classes = classes_of c.args.caller.classes in
    let none : None ≡ parts_of (shown c.args.ty.now) = ap (option_map arguments_seen) (sym c.in-None.is) ∙ c.arguments_of.ensures in
    ap (map candidate_seen) c.new.ensures.items ∙ ap (constructors_if sites classes) none ∙ constructors_by_parts sites classes (shown c.args.ty.now)
