use Rattle.std.proofs.Common.{◌≡◌, ◌+◌, ◌*◌, ◌≤◌, map, drop}
use Rattle.source_types.specs.Heads.{variable_count}
use Rattle.source_subtypes.specs.HeadView.{head_shown}
use Rattle.source_subtypes.proofs.heads.variables_in.Given as goal

abbrev pub invariant-loop-head : goal.invariant-loop-head
invariant-loop-head l = record {
  count : l.count + variable_count (map head_shown (drop l.head-index l.heads)) ≡ variable_count (map head_shown l.heads);
  few : l.count ≤ l.head-index * 9223372036854775808;
}
