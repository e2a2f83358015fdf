use Rattle.std.proofs.Common.{◌≡◌, List, Option, Some, None, ap, sym, ◌∙◌, subst}
use Rattle.je_core.specs.declared.types.ClassId.{ClassId}
use Rattle.je_ast.specs.declared.name.Identifier.{Identifier}
use Rattle.je_ast.specs.Types.{name_view}
use Rattle.je_scopes.specs.Looks.{Look}
use Rattle.je_scopes.specs.Scope.{last_part}
use Rattle.je_scopes.specs.Source.{library_class}
use Rattle.je_scopes.specs.Faults.{Fault, is_other}
use Rattle.name_sites.proofs.ImportSteps.{last_is}
use Rattle.name_sites.specs.Number.{number_in}
use Rattle.name_sites.specs.View.{source_of}
use Rattle.name_faults.specs.View.{Adds}
use Rattle.name_faults.proofs.EarlierImports.{last_means, no_class, no_parts}
use Rattle.name_faults.proofs.Left.{adds_none}
use Rattle.name_faults.proofs.imports.judge_import.Goals as goal

pub returns : goal.returns
returns c =
    let class : library_class (source_of c.args.sites.now).texts c.args.import.now.parts.items ≡ Some c.in-Some.class.0 =
    ap (λ (ps : List Identifier). library_class (source_of c.args.sites.now).texts ps) (sym c.as_slice.ensures.value) ∙ sym c.in_ok-class.ensures ∙ ap number_in c.in-Some.is in
    let last : last_part c.args.import.now.parts.items ≡ Some c.in-Some-last.last.now =
    ap last_part (sym c.deref.ensures.value) ∙ last_is c.deref.result.now ∙ sym c.in-Some-last.ensures.value in
    subst (λ (fs : List Fault). Adds c.args.faults.now c.add_where-2.new.self fs)
    (last_means (source_of c.args.sites.now) c.args.unit (name_view c.args.import.now) c.in-Some.class.0 c.in-Some-last.last.now c.is_other-other.result class last
    (c.is_other-other.ensures ∙ ap (λ (k : Look). is_other (Some c.in-Some.class.0) k) c.at_top.ensures)) c.add_where-2.ensures

pub returns-in_default : goal.returns-in_default
returns-in_default c =
    let none : library_class (source_of c.args.sites.now).texts c.args.import.now.parts.items ≡ None =
    ap (λ (ps : List Identifier). library_class (source_of c.args.sites.now).texts ps) (sym c.as_slice.ensures.value) ∙ sym c.in_ok-class.ensures ∙ ap (λ (k : Option ClassId). number_in k) c.in_default.is in
    subst (λ (fs : List Fault). Adds c.args.faults.now c.add_where.new.self fs) (no_class (source_of c.args.sites.now) c.args.unit (name_view c.args.import.now) none) c.add_where.ensures

pub returns-in_default-last : goal.returns-in_default-last
returns-in_default-last c =
    let class : library_class (source_of c.args.sites.now).texts c.args.import.now.parts.items ≡ Some c.in-Some.class.0 =
    ap (λ (ps : List Identifier). library_class (source_of c.args.sites.now).texts ps) (sym c.as_slice.ensures.value) ∙ sym c.in_ok-class.ensures ∙ ap (λ (k : Option ClassId). number_in k) c.in-Some.is in
    let last : last_part c.args.import.now.parts.items ≡ None =
    ap last_part (sym c.deref.ensures.value) ∙ last_is c.deref.result.now ∙ sym c.in_default-last.ensures.value in
    subst (λ (fs : List Fault). Adds c.args.faults.now c.args.faults.now fs) (no_parts (source_of c.args.sites.now) c.args.unit (name_view c.args.import.now) c.in-Some.class.0 class last) (adds_none c.args.faults.now)
