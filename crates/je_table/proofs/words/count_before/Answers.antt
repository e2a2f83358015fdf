-- A sorted table is parted at each word, and `partition_point` says where.
use Rattle.std.proofs.Common.{rules, ℕ, List, Bor}
use Rattle.std.specs.Ordering.{is_lt}
use Rattle.std.proofs.lemmas.Cmp.{nat_list_cmp_total}
use Rattle.std.proofs.lemmas.List.Sorted.{IsPartitionPoint-from_clause}
use Rattle.je_table.specs.Tables.{text_cmp}
use Rattle.je_table.proofs.Search.{partitioned}
use Rattle.je_table.proofs.words.count_before.Goals as goal

pub returns : goal.returns
returns c =
    let parted = partitioned (λ (row : Bor (List ℕ)). row.now) nat_list_cmp_total c.args.word.now c.args.rows.now c.requires in
    let point = IsPartitionPoint-from_clause (λ row. is_lt (text_cmp row.now c.args.word.now)) _ _ c.partition_point.ensures.partitioned parted (λ a r q k. search rules) in
    record { within = c.partition_point.ensures.bound; before = point.0; behind = point.1 }
