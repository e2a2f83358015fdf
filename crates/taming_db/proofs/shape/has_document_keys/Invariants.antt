use Rattle.std.proofs.Common.{◌≡◌, string_bytes}
use Rattle.std.specs.List.{list_all}
use Rattle.toml.specs.View.{table_view}
use Rattle.taming_db.specs.Shape.{has_only, is_document_key}
use Rattle.taming_db.proofs.shape.has_document_keys.Given as goal

-- all pass exactly where those that are left do
abbrev pub invariant-loop-key : goal.invariant-loop-key
invariant-loop-key l = list_all (λ k. is_document_key (string_bytes k)) l.key-iterator ≡ has_only is_document_key (table_view l.table)
