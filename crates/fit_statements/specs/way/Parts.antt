-- Whether one group of a switch fits, and one catch of a try.
use Rattle.std.specs.Prelude.{Bool, ◌&&◌, slice_get}
use Rattle.je_core.specs.Core.{CoreGroup, CoreCatch, CoreProgram, group, catch}
use Rattle.je_classes.specs.Subtypes.{class_type, is_subtype}
use Rattle.je_fitting.specs.Types.{throwable, agrees}
use Rattle.je_fitting.specs.Expressions.{Body}
use Rattle.je_fitting.specs.Statements.{Targets}
use Rattle.je_fitting.specs.way.DecidingStatements.{if_some, labels_fit, is_statement_fit, are_statements_fit}

module _ (program : CoreProgram) (body : Body) where
  abbrev pub is_group_fit : Targets → CoreGroup → Bool
  is_group_fit j (group labels parts) = labels_fit program labels && are_statements_fit program body j parts

  abbrev pub is_catch_fit : Targets → CoreCatch → Bool
  is_catch_fit j (catch local class span inner) =
      if_some (agrees program (class_type class)) (slice_get body.locals local) && is_subtype program (class_type class) throwable && is_statement_fit program body j inner
