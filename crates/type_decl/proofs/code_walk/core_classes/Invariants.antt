use Rattle.std.proofs.Common.{◌≡◌, ◌-◌, length, map}
use Rattle.name_sites.specs.View.{source_of}
use Rattle.je_core.specs.View.{class_view}
use Rattle.class_typing.specs.Elaboration.{core_classes, guest_count}
use Rattle.member_forms.specs.Bodies.{met_seen}
use Rattle.type_decl.specs.way.Seen.{captured_of, world_of}
use Rattle.type_decl.proofs.Making.{behind}
use Rattle.type_decl.proofs.code_walk.core_classes.Given as goal

abbrev pub invariant-loop-at : goal.invariant-loop-at
invariant-loop-at l =
    core_classes (source_of l.sites) (world_of l.whole.walk) (captured_of l.whole.walk) (map met_seen l.all.met.items) l.library (guest_count (source_of l.sites))
    ≡ behind (source_of l.sites) (world_of l.whole.walk) (captured_of l.whole.walk) (map met_seen l.all.met.items) (map class_view l.classes.items)
    (core_classes (source_of l.sites) (world_of l.whole.walk) (captured_of l.whole.walk) (map met_seen l.all.met.items) l.at
    (length (source_of l.sites).sites - l.at))
