-- What contracts see of what a walk over the statements of a body goes by, of what it has so far, and of what statements
-- come to.
use Rattle.std.specs.Prelude.{map}
use Rattle.je_core.specs.View.{stmt_view}
use Rattle.name_typing.specs.Program.{Program}
use Rattle.body_typing.specs.Expressions.{Known}
use Rattle.body_typing.specs.FinalVariables as words
use Rattle.statement_steps.specs.Returns.{Returning}
use Rattle.statement_steps.specs.View.{returning_seen}
use Rattle.body_typing.specs.Bodies as bodies
use Rattle.body_typing.specs.Statements.{GroupsDone}
use Rattle.body_walks.specs.Scopes.{Scope, scope_seen}
use Rattle.body_walks.specs.Walks.{known_in, program_in}
use Rattle.body_walks.specs.Seen.{met_seen}
use Rattle.statement_forms.specs.View.{group_seen}
use Rattle.statement_forms.specs.declared.done.Done.{Done}
use Rattle.statement_forms.specs.declared.progress.Progress.{Progress}
use Rattle.statement_forms.specs.declared.switches.Groups.{Groups}
use Rattle.statement_forms.specs.declared.walk.Walk.{Walk}

abbrev pub program_of : Walk → Program
program_of w = program_in w.bodies.now

abbrev pub known_of : Walk → Known
known_of w = known_in w.bodies.now

abbrev pub returning_of : Walk → Returning
returning_of w = returning_seen w.returning

abbrev pub progress_seen : Progress → bodies.Progress
progress_seen pr = record { locals = pr.locals.items; met = map met_seen pr.met.items }

-- with the scope and the progress behind them
abbrev pub done_in : Done → words.Scope → bodies.Progress → bodies.Done
done_in d s pr = record { code = map stmt_view d.code.items; numbers = d.numbers.items; scope = s; progress = pr }

abbrev pub done_seen : Done → Scope → Progress → bodies.Done
done_seen d scope progress = done_in d (scope_seen scope) (progress_seen progress)

-- groups of a `switch`, with the progress behind them
abbrev pub groups_in : Groups → bodies.Progress → GroupsDone
groups_in gs pr = record { groups = map group_seen gs.groups.items; numbers = gs.numbers.items; progress = pr }
