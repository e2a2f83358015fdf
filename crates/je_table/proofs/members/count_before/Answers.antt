-- A sorted table is parted at each key, and `partition_point` says where.
use Rattle.std.proofs.Common.{rules, ℕ, List}
use Rattle.std.specs.Ordering.{is_lt}
use Rattle.std.proofs.lemmas.List.Sorted.{IsPartitionPoint-from_clause}
use Rattle.je_table.specs.Members.{key_cmp, key_of}
use Rattle.je_table.proofs.Keys.{key_cmp-total}
use Rattle.je_table.proofs.Search.{partitioned}
use Rattle.je_table.proofs.members.count_before.Goals as goal

pub returns : goal.returns
returns c =
    let sought : List ℕ × List ℕ = (c.args.class.now, c.args.signature.now) in
    let parted = partitioned key_of key_cmp-total sought c.args.rows.now c.requires in
    let point = IsPartitionPoint-from_clause (λ row. is_lt (key_cmp (key_of row) sought)) _ _ c.partition_point.ensures.partitioned parted (λ a r q k. search rules) in
    record { within = c.partition_point.ensures.bound; before = point.0; behind = point.1 }
