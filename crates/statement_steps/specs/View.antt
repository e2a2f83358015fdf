-- What contracts see of what a body may return.
use Rattle.name_types.specs.View.{shown}
use Rattle.statement_steps.specs.Returns.{Returning, a_value, never, no_value}
use Rattle.statement_steps.specs.declared.returning.Returning.{Returning as Written}
use Rattle.statement_steps.specs.declared.returning.Returning.TheVariants as written

abbrev pub returning_seen : Written → Returning
returning_seen written.Never = never
returning_seen written.NoValue = no_value
returning_seen (written.Value t) = a_value (shown t.now)
