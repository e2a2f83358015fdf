use Rattle.std.proofs.Common.{List, Some, map, ap, sym, ◌∙◌, arith}
use Rattle.std.specs.Prelude.{Bool, ◌||◌}
use Rattle.std.specs.List.{list_any}
use Rattle.je_ast.specs.declared.decl.Unit.{Unit}
use Rattle.je_ast.specs.declared.name.Name.{Name}
use Rattle.je_ast.specs.Types.{QualifiedName, name_view}
use Rattle.je_scopes.specs.Faults.{imports_name}
use Rattle.name_sites.specs.View.{source_of}
use Rattle.name_faults.specs.Met.{is_met}
use Rattle.name_faults.proofs.EarlierImports.{imports_in, views}
use Rattle.name_judge.proofs.Any.{any_end, any_next}
use Rattle.name_judge.proofs.imported.imported_names.Goals as goal

pub loop-unit-init : goal.loop-unit-init
loop-unit-init c = λ x.
    ap (λ (b : Bool). b || list_any (λ (qs : List QualifiedName). list_any (imports_name (source_of c.args.sites.now).texts (Some x)) qs) (map imports_in c.args.units.now)) (c.none-met.ensures x)
    ∙ ap (λ (us : List (List QualifiedName)). list_any (λ (qs : List QualifiedName). list_any (imports_name (source_of c.args.sites.now).texts (Some x)) qs) us) (sym (c.requires ∙ views c.args.units.now))

pub loop-unit-preserved : goal.loop-unit-preserved
loop-unit-preserved c = λ x. any_next (λ (qs : List QualifiedName). list_any (imports_name (source_of c.args.sites.now).texts (Some x)) qs) imports_in c.args.units.now c.loop-unit.unit-index c.unit-item.result _ _ _ (omega arith) (c.loop-unit.invariant x)
    (c.in_ok-meet_imports.ensures x
    ∙ ap (λ (ns : List Name). is_met c.loop-unit.met x || list_any (imports_name (source_of c.args.sites.now).texts (Some x)) (map name_view ns)) c.deref.ensures.value
    ∙ ap (λ (u : Unit). is_met c.loop-unit.met x || list_any (imports_name (source_of c.args.sites.now).texts (Some x)) (imports_in u)) c.unit-item.is)

pub returns : goal.returns
returns c = λ x. any_end (λ (qs : List QualifiedName). list_any (imports_name (source_of c.args.sites.now).texts (Some x)) qs) imports_in c.args.units.now c.loop-unit.unit-index _ _ c.loop-unit-test.false (c.loop-unit.invariant x)
