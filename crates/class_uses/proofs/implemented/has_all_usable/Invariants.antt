use Rattle.std.proofs.Common.{◌≡◌, drop, map}
use Rattle.je_core.specs.View.{method_view}
use Rattle.je_classes.specs.Dispatch.{dispatched}
use Rattle.fit_members.specs.way.Each.{tested_from}
use Rattle.je_types.specs.Views.{program_of}
use Rattle.taming_db.specs.View.{rows}
use Rattle.class_uses.specs.Implemented.{may_use_if}
use Rattle.class_uses.proofs.implemented.has_all_usable.Given as goal

abbrev pub invariant-loop-at : goal.invariant-loop-at
invariant-loop-at l = tested_from (λ n k. may_use_if (rows l.taming) (dispatched (program_of l.typed) l.id (record { class = l.above; at = n }))) l.at (map method_view (drop l.at l.methods))
    ≡ tested_from (λ n k. may_use_if (rows l.taming) (dispatched (program_of l.typed) l.id (record { class = l.above; at = n }))) 0 (map method_view l.methods)
