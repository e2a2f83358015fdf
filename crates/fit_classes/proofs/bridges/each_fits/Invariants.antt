use Rattle.std.proofs.Common.{◌≡◌, drop}
use Rattle.std.specs.List.{list_all}
use Rattle.je_core.specs.View.{program_view}
use Rattle.je_fitting.specs.way.DecidingClasses.{is_bridge_fit}
use Rattle.fit_classes.proofs.bridges.each_fits.Given as goal

abbrev pub invariant-loop-bridge : goal.invariant-loop-bridge
invariant-loop-bridge l = list_all (is_bridge_fit (program_view l.program) l.id) (drop l.bridge-index l.bridges) ≡ list_all (is_bridge_fit (program_view l.program) l.id) l.bridges
