use Rattle.std.proofs.Common.{◌≡◌, drop, map}
use Rattle.je_core.specs.View.{field_view}
use Rattle.je_classes.specs.Fields.{place_from}
use Rattle.member_lookup.proofs.fields.declared.Given as goal

abbrev pub invariant-loop-at : goal.invariant-loop-at
invariant-loop-at l = place_from l.at (map field_view (drop l.at l.fields)) l.name ≡ place_from 0 (map field_view l.fields) l.name
