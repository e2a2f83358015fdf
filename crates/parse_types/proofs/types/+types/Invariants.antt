use Rattle.std.proofs.Common.{◌≡◌, ◌+◌, ◌-◌, ◌*◌, ◌≤◌, [], map, length}
use Rattle.je_ast.specs.Types.{type_view, type_views_of, types_height}
use Rattle.parse_laws.specs.way.Types.{type_at, type_arguments_at}
use Rattle.parse_types.proofs.types.+types.Given as goal

abbrev pub decreases-type_name : goal.decreases-type_name
decreases-type_name l = l.most * 4

abbrev pub decreases-class_reference : goal.decreases-class_reference
decreases-class_reference l = l.below * 4 + 3

abbrev pub decreases-type_arguments : goal.decreases-type_arguments
decreases-type_arguments l = l.most * 4 + 2

abbrev pub decreases-type_argument : goal.decreases-type_argument
decreases-type_argument l = l.most * 4 + 1

abbrev pub invariant-type_arguments-loop : goal.invariant-type_arguments-loop
invariant-type_arguments-loop l = record {
  same : type_arguments_at (type_at l.most) (length l.fn.tokens - l.counter) (map type_view l.list.items) l.next ≡ type_arguments_at (type_at l.most) (length l.fn.tokens) [] l.fn.tokens;
  height : l.height ≡ types_height (type_views_of l.list.items);
  limit : l.height ≤ l.most;
}
