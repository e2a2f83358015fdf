use Rattle.std.proofs.Common.{ap}
use Rattle.je_core.specs.View.{program_view, stmt_view}
use Rattle.fit_members.proofs.Standing.{same_place}
use Rattle.fit_members.proofs.initializers.block_fits.Goals as goal

pub returns : goal.returns
returns c =
    same_place c.statement_fits.result (program_view c.args.program.now) _ _ _ _ _ _ c.initializer_body-body.ensures
    c.no_targets.ensures (ap stmt_view c.deref.ensures) c.statement_fits.ensures
