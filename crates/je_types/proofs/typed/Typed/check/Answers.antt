use Rattle.std.proofs.Common.{◌≡◌, None, sym, ap, ◌∙◌}
use Rattle.std.specs.Prelude.{option_map}
use Rattle.je_core.specs.View.{program_view}
use Rattle.je_fitting.specs.way.Misfits.{first_misfit}
use Rattle.fit_program.specs.Parts.{misfit_seen}
use Rattle.je_types.proofs.Checking.{supers_there}
use Rattle.je_types.proofs.typed.Typed.check.Goals as goal

pub of-requires-in-None-clause-there : goal.of-requires-in-None-clause-there
of-requires-in-None-clause-there c =
    let none : first_misfit (program_view c.args.program) ≡ None = sym c.in_ok-first_misfit.ensures ∙ ap (option_map misfit_seen) c.in-None.is in
    supers_there (program_view c.args.program) none
