use Rattle.std.proofs.Common.{◌≡◌, drop, map}
use Rattle.std.specs.List.{list_all}
use Rattle.je_core.specs.View.{capture_view, program_view}
use Rattle.je_fitting.specs.way.Deciding.{capture_fits}
use Rattle.fit_parts.proofs.captures.each_fits.Given as goal

abbrev pub invariant-loop-capture : goal.invariant-loop-capture
invariant-loop-capture l = list_all (capture_fits (program_view l.program) l.body) (map capture_view (drop l.capture-index l.captures)) ≡ list_all (capture_fits (program_view l.program) l.body) (map capture_view l.captures)
