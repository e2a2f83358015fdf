-- What contracts see of parts of statements in memory.
use Rattle.std.specs.Prelude.{map}
use Rattle.je_core.specs.View.{stmt_view, stmt_views}
use Rattle.name_types.specs.View.{shown}
use Rattle.body_typing.specs.Catches as catches
use Rattle.body_typing.specs.Switches as switches
use Rattle.value_statements.specs.Labels.{label_seen}
use Rattle.statement_forms.specs.declared.catches.Clause.{Clause}
use Rattle.statement_forms.specs.declared.switching.WrittenGroup.{WrittenGroup}

abbrev pub group_seen : WrittenGroup → switches.WrittenGroup
group_seen g = record { labels = map label_seen g.labels.items; parts = stmt_views g.parts.items }

abbrev pub clause_seen : Clause → catches.Clause
clause_seen c = record {
  name = c.name;
  number = c.number;
  type = shown c.ty;
  name_span = c.name_span;
  body = stmt_view c.body;
}
