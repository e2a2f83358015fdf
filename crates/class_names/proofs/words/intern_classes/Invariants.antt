use Rattle.std.proofs.Common.{◌≡◌, ◌≤◌, ◌+◌, length, map, drop}
use Rattle.je_table.specs.declared.classes.ClassRow.{ClassRow}
use Rattle.class_names.specs.Words.{StayNumbered, all_interned}
use Rattle.class_names.proofs.words.intern_classes.Given as goal

abbrev pub invariant-loop-row : goal.invariant-loop-row
invariant-loop-row l =
    (all_interned l.names (map (λ (r : ClassRow). r.name.now) (drop l.row-index l.row-items)) ≡ all_interned l.initial.names (map (λ (r : ClassRow). r.name.now) l.row-items))
    × StayNumbered l.initial.names l.names
    × (length l.names ≤ length l.initial.names + l.row-index)
