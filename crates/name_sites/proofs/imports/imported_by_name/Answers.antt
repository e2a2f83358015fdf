use Rattle.std.proofs.Common.{Some, arith, length, map, refl}
use Rattle.std.proofs.lemmas.Option.{slice_get_read}
use Rattle.je_ast.specs.Types.{name_view}
use Rattle.je_scopes.specs.Looks.{found}
use Rattle.je_scopes.specs.Scope.{first_import}
use Rattle.name_sites.specs.ByName.{kept}
use Rattle.name_sites.specs.Imports.{imports_among}
use Rattle.name_sites.proofs.ImportSteps.{imports_at, units_end, units_step}
use Rattle.name_sites.proofs.imports.imported_by_name.Goals as goal

pub loop-at-preserved : goal.loop-at-preserved
loop-at-preserved c =
    λ u x.
    units_step u c.loop-at.at (found (kept c.loop-at.imported (Some u) x)) (found (kept c.keep_imports.new.imported (Some u) x)) (first_import c.args.names.now x (map name_view c.deref.result.now)) (first_import c.args.names.now x (imports_among c.args.units.now u)) (c.loop-at.invariant u x) (c.in_ok-keep_imports.ensures (Some u) x)
    (λ e. rw (e, c.deref.ensures.value, imports_at c.args.units.now c.loop-at.at c.index-units-at.result (slice_get_read c.args.units.now (length c.args.units.now) c.loop-at.at c.index-units-at.result refl (omega arith) c.index-units-at.is)) refl)

pub returns : goal.returns
returns c = λ u x. units_end c.args.units.now u c.args.names.now x (found (kept c.loop-at.imported (Some u) x)) c.loop-at.at (omega arith) (c.loop-at.invariant u x)
