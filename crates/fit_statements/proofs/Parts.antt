-- A group more, and a catch more.
use Rattle.std.proofs.Common.{◌≡◌, refl}
use Rattle.std.specs.Prelude.{◌&&◌}
use Rattle.je_core.specs.Core.{CoreGroup, CoreGroups, CoreCatch, CoreCatches, CoreProgram, group, more_groups, catch, more_catches}
use Rattle.je_fitting.specs.Expressions.{Body}
use Rattle.je_fitting.specs.Statements.{Targets}
use Rattle.je_fitting.specs.way.DecidingStatements.{are_groups_fit, are_catches_fit}
use Rattle.fit_statements.specs.way.Parts.{is_group_fit, is_catch_fit}

pub groups_step : (p : CoreProgram) (b : Body) (j : Targets) (g : CoreGroup) (gs : CoreGroups) → are_groups_fit p b j (more_groups g gs) ≡ (is_group_fit p b j g && are_groups_fit p b j gs)
groups_step p b j (group labels parts) gs = refl

pub catches_step : (p : CoreProgram) (b : Body) (j : Targets) (c : CoreCatch) (cs : CoreCatches) → are_catches_fit p b j (more_catches c cs) ≡ (is_catch_fit p b j c && are_catches_fit p b j cs)
catches_step p b j (catch local class span inner) cs = refl
