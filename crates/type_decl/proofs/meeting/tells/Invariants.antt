use Rattle.std.proofs.Common.{◌≡◌, drop, map}
use Rattle.std.specs.List.{list_any}
use Rattle.member_forms.specs.Bodies.{met_seen}
use Rattle.type_decl.specs.way.Telling.{tells}
use Rattle.type_decl.proofs.meeting.tells.Given as goal

abbrev pub invariant-loop-one : goal.invariant-loop-one
invariant-loop-one l = list_any tells (map met_seen (drop l.one-index l.met)) ≡ list_any tells (map met_seen l.met)
