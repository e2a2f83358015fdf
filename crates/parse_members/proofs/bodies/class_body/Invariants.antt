use Rattle.std.proofs.Common.{◌≡◌, ◌-◌, ◌≤◌, map, length}
use Rattle.je_ast.specs.View.{member_view, member_views_of}
use Rattle.je_ast.specs.Height.{members_height}
use Rattle.parse_laws.specs.way.Members.{more_members_at}
use Rattle.parse_below.specs.way.Readings.{below_at}
use Rattle.parse_members.specs.way.Readings.{class_body_at}
use Rattle.parse_members.proofs.bodies.class_body.Given as goal

abbrev pub invariant-loop : goal.invariant-loop
invariant-loop g l = record {
  same : more_members_at l.setting.texts.now l.setting.names.now l.setting.below (below_at l.setting) (length l.initial.next - l.counter) (map member_view l.items.items) l.next ≡ class_body_at l.fn.setting l.fn.tokens;
  height : l.height ≡ members_height (member_views_of l.items.items);
  limit : l.height ≤ l.setting.below;
}
