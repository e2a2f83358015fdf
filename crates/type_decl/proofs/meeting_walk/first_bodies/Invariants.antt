use Rattle.std.proofs.Common.{◌≡◌, ◌-◌, length, map}
use Rattle.name_sites.specs.View.{source_of}
use Rattle.body_places.specs.Tables.{constant_at}
use Rattle.class_typing.specs.Elaboration.{bodies_from, first_bodies}
use Rattle.member_forms.specs.Bodies.{met_seen}
use Rattle.type_decl.specs.way.Seen.{ArePlaced}
use Rattle.type_decl.proofs.meeting_walk.first_bodies.Given as goal

abbrev pub invariant-loop-at : goal.invariant-loop-at
invariant-loop-at l = record {
  placed : ArePlaced (source_of l.sites).sites l.done.all;
  left : first_bodies (source_of l.sites)
      ≡ bodies_from (source_of l.sites) (constant_at l.done.constants.items) (map met_seen l.done.all.met.items) l.at
      (length (source_of l.sites).sites - l.at);
}
