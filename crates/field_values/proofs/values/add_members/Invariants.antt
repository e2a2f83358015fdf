use Rattle.std.proofs.Common.{◌≡◌, ◌++◌, drop, map}
use Rattle.je_ast.specs.View.{member_views_of}
use Rattle.class_typing.specs.ConstantFields.{member_values}
use Rattle.field_values.specs.Values.{value_seen}
use Rattle.field_values.proofs.values.add_members.Given as goal

abbrev pub invariant-loop-member : goal.invariant-loop-member
invariant-loop-member l = map value_seen l.values.items ++ member_values (member_views_of (drop l.member-index l.members))
    ≡ map value_seen l.initial.values.items ++ member_values (member_views_of l.members)
