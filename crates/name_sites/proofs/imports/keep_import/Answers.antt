use Rattle.std.proofs.Common.{◌≡◌, List, Some, ◌∙◌, sym, ap}
use Rattle.je_ast.specs.declared.name.Identifier.{Identifier}
use Rattle.je_ast.specs.Types.{name_view}
use Rattle.je_scopes.specs.Looks.{found}
use Rattle.je_scopes.specs.Scope.{last_part}
use Rattle.je_scopes.specs.Source.{library_class}
use Rattle.name_sites.specs.ByName.{kept}
use Rattle.name_sites.proofs.ImportSteps.{none_kept, on_ok, one_kept}
use Rattle.name_sites.proofs.imports.keep_import.Goals as goal

pub returns-in-Some-2 : goal.returns-in-Some-2
returns-in-Some-2 c =
    let last : last_part c.args.import.now.parts.items ≡ Some c.in-Some.last = ap last_part (sym c.deref.ensures.value) ∙ sym c.in-Some.ensures in
    let class : library_class c.args.names.now c.args.import.now.parts.items ≡ Some c.in-Some-2.class =
    ap (λ (ps : List Identifier). library_class c.args.names.now ps) (sym c.deref-2.ensures.value) ∙ sym c.in_ok-class.ensures ∙ c.in-Some-2.is in
    on_ok c.keep.result (λ k p x. ap found (k p x) ∙ one_kept (kept c.args.imported.now p x) c.args.unit p c.args.names.now x (name_view c.args.import.now) c.in-Some.last c.in-Some-2.class last class) c.keep.ensures

pub returns-in-None : goal.returns-in-None
returns-in-None c = λ p x. none_kept (kept c.args.imported.now p x) c.args.unit p c.args.names.now x (name_view c.args.import.now)
    (ap (λ (ps : List Identifier). library_class c.args.names.now ps) (sym c.deref-2.ensures.value) ∙ sym c.in_ok-class.ensures ∙ c.in-None.is)
