use Rattle.std.proofs.Common.{◌≡◌, drop}
use Rattle.je_core.specs.View.{program_view}
use Rattle.je_classes.specs.Members.{nothing}
use Rattle.member_lookup.specs.Founds.{found_seen}
use Rattle.member_lookup.specs.way.Fields.{field_in, joined_from}
use Rattle.member_lookup.proofs.fields.find_field.Given as goal

abbrev pub invariant-loop-owner : goal.invariant-loop-owner
invariant-loop-owner l =
    joined_from (field_in (program_view l.program) l.name l.class) (found_seen l.found) (drop l.owner-index l.owner-items) ≡
    joined_from (field_in (program_view l.program) l.name l.class) nothing l.owner-items
