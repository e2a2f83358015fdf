use Rattle.std.proofs.Common.{◌≡◌, ◌++◌, length, map}
use Rattle.std.specs.Vec.Iter.{into_iter_items, into_iter_len}
use Rattle.je_core.specs.View.{stmt_view, stmt_views}
use Rattle.statement_forms.proofs.done.parts.Given as goal

abbrev pub invariant-loop-part : goal.invariant-loop-part
invariant-loop-part l =
    (stmt_views l.parts.items ++ map stmt_view (into_iter_items l.part-iterator) ≡ map stmt_view (into_iter_items l.initial.part-iterator))
    × (into_iter_len l.part-iterator ≡ length (into_iter_items l.part-iterator))
