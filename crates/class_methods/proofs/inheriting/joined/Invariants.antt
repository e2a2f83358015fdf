use Rattle.std.proofs.Common.{◌≡◌, [], drop, map}
use Rattle.name_types.specs.View.{shown}
use Rattle.overriding.specs.Methods.{joined_over, seen_in}
use Rattle.class_methods.specs.View.{method_seen, table_seen}
use Rattle.class_methods.specs.way.Parts.{in_table}
use Rattle.class_methods.proofs.inheriting.joined.Given as goal

abbrev pub invariant-loop-at : goal.invariant-loop-at
invariant-loop-at l =
    joined_over (seen_in (in_table (table_seen l.table))) (map method_seen l.methods.items) (map shown (drop l.at l.types))
    ≡ joined_over (seen_in (in_table (table_seen l.table))) [] (map shown l.types)
