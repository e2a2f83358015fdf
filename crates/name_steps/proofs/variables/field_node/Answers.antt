use Rattle.declarations.specs.View.{field_shown}
use Rattle.typed_nodes.specs.Seen.{seen}
use Rattle.body_places.specs.Places.{place_seen}
use Rattle.body_places.specs.Selected.{selected_seen}
use Rattle.body_places.specs.View.{program_seen}
use Rattle.name_steps.proofs.Standing.{field_stands}
use Rattle.name_steps.proofs.variables.field_node.Goals as goal

pub returns-clause-ok : goal.returns-clause-ok
returns-clause-ok c = field_stands (program_seen c.args.program.now) (place_seen c.args.place) c.args.at c.args.outwards (record { class = c.args.class; at = c.args.field })
    (selected_seen c.in_ok-selected.selected).member (field_shown c.in_ok-selected.selected.declared.now) c.is_there-there.result (seen c.in_ok-read.read)
    c.in_ok-selected.ensures.ok c.in_ok-selected.ensures.member c.in_ok-check.ensures.ok c.is_there-there.ensures c.in_ok-read.ensures
