use Rattle.std.proofs.Common.{map}
use Rattle.declarations.specs.View.{class_shown}
use Rattle.core_making.specs.Known.{captured_seen}
use Rattle.type_faults.specs.Program.{source_in}
use Rattle.program_tables.proofs.HiddenFields.{hidden_behind}
use Rattle.program_tables.proofs.listing.add_hidden_fields.Goals as goal

pub returns-clause-all : goal.returns-clause-all
returns-clause-all c =
    λ library count. hidden_behind (source_in c.args.layout.source) (captured_seen c.args.layout.captured.now) library
    (map class_shown c.args.classes.now) _ c.args.layout.library_first count c.in_ok-add_to_each.ensures
