use Rattle.std.proofs.Common.{◌≡◌, List, Some, None, ap, sym, ◌∙◌}
use Rattle.std.specs.Prelude.{Bool, ◌||◌}
use Rattle.je_ast.specs.declared.name.Identifier.{Identifier}
use Rattle.je_ast.specs.Types.{name_view}
use Rattle.je_scopes.specs.Scope.{last_part}
use Rattle.je_scopes.specs.Source.{library_class}
use Rattle.name_sites.proofs.ImportSteps.{last_is}
use Rattle.name_sites.specs.View.{source_of}
use Rattle.name_faults.specs.Met.{is_met}
use Rattle.name_judge.proofs.Imports.{by_last, known_so, no_class, no_parts, on_err}
use Rattle.name_judge.proofs.imported.meet_import.Goals as goal

pub returns : goal.returns
returns c =
    let last : last_part c.args.import.now.parts.items ≡ Some c.in-Some.last.now =
    ap last_part (sym c.deref.ensures.value) ∙ last_is c.deref.result.now ∙ sym c.in-Some.ensures.value in
    λ x. c.in_ok-meet.ensures.now x ∙ ap (λ (b : Bool). is_met c.args.met.now x || b) (by_last (source_of c.args.sites.now).texts (name_view c.args.import.now) c.in-Some.last.now x
    last (known_so c.in_ok-full_name.field-0 _ c.is_none.result (c.in_ok-full_name.ensures ∙ ap (λ (is : List Identifier). library_class (source_of c.args.sites.now).texts is) c.as_slice.ensures.value) c.is_none.ensures c.if-is_none.false))

pub returns-in_default : goal.returns-in_default
returns-in_default c =
    let last : last_part c.args.import.now.parts.items ≡ None =
    ap last_part (sym c.deref.ensures.value) ∙ last_is c.deref.result.now ∙ sym c.in_default.ensures.value in
    λ x. no_parts (source_of c.args.sites.now).texts (name_view c.args.import.now) x (is_met c.args.met.now x) last

pub returns-then-is_none : goal.returns-then-is_none
returns-then-is_none c = λ x. no_class (source_of c.args.sites.now).texts (name_view c.args.import.now) x (is_met c.args.met.now x) c.in_ok-full_name.field-0 c.is_none.result
    (c.in_ok-full_name.ensures ∙ ap (λ (is : List Identifier). library_class (source_of c.args.sites.now).texts is) c.as_slice.ensures.value) c.is_none.ensures c.if-is_none.true

pub returns-in_err-meet : goal.returns-in_err-meet
returns-in_err-meet c = on_err _ c.from_residual-in_err-meet.result c.from_residual-in_err-meet.ensures.0
