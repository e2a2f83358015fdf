use Rattle.std.proofs.Common.{[], List, Some, length, map, refl, sym, ◌∙◌, ap, subst, arith}
use Rattle.std.specs.List.{flat_map}
use Rattle.std.proofs.lemmas.Option.{slice_get_read}
use Rattle.je_ast.specs.declared.name.Name.{Name}
use Rattle.je_ast.specs.declared.decl.Unit.{Unit}
use Rattle.je_ast.specs.Types.{QualifiedName, name_view}
use Rattle.je_scopes.specs.Faults.{of_imports}
use Rattle.name_sites.specs.View.{source_of}
use Rattle.name_faults.specs.View.{Adds}
use Rattle.name_faults.proofs.EarlierImports.{imports_in, unit_imports, views}
use Rattle.name_faults.proofs.Left.{Left, left_all, left_end, left_next}
use Rattle.name_faults.proofs.imports.judge_imports.Goals as goal

pub loop-at-init : goal.loop-at-init
loop-at-init c =
    subst (λ (k : List (List QualifiedName)). Left c.args.faults.now c.args.faults.now (flat_map (of_imports (source_of c.args.sites.now).texts []) k) (flat_map (of_imports (source_of c.args.sites.now).texts []) (source_of c.args.sites.now).imports))
    (c.requires ∙ views c.args.units.now) (left_all c.args.faults.now _)

pub loop-at-preserved : goal.loop-at-preserved
loop-at-preserved c = left_next (of_imports (source_of c.args.sites.now).texts []) imports_in c.args.units.now c.loop-at.at c.index-units-at.result _ (omega arith) c.loop-at.invariant
    (subst (λ (u : Unit). Adds c.loop-at.faults c.judge_unit.new.faults (of_imports (source_of c.args.sites.now).texts [] (imports_in u))) c.index-units-at.is
    (subst (λ (ns : List Name). Adds c.loop-at.faults c.judge_unit.new.faults (of_imports (source_of c.args.sites.now).texts [] (map name_view ns))) c.deref.ensures.value c.in_ok-judge_unit.ensures))

pub judge_unit-requires : goal.judge_unit-requires
judge_unit-requires c =
    unit_imports c.args.units.now (source_of c.args.sites.now).imports c.loop-at.at c.index-units-at.result c.requires
    (slice_get_read c.args.units.now (length c.args.units.now) c.loop-at.at c.index-units-at.result refl (omega arith) c.index-units-at.is)
    ∙ ap (λ (ns : List Name). Some (map name_view ns)) (sym c.deref.ensures.value)

pub returns : goal.returns
returns c = left_end (of_imports (source_of c.args.sites.now).texts []) imports_in c.args.units.now c.loop-at.at _ (omega arith) c.loop-at.invariant
