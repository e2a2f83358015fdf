use Rattle.std.proofs.Common.{◌≡◌, drop, map}
use Rattle.std.specs.Prelude.{not}
use Rattle.je_core.specs.View.{method_view, program_view}
use Rattle.je_classes.specs.Dispatch.{dispatched}
use Rattle.fit_members.specs.way.Each.{tested_from}
use Rattle.plain_programs.specs.way.Deciding.{is_wild_if}
use Rattle.plain_programs.proofs.implementing.has_none_wild.Given as goal

abbrev pub invariant-loop-at : goal.invariant-loop-at
invariant-loop-at l = tested_from (λ n k. not (is_wild_if (dispatched (program_view l.program) l.id (record { class = l.above; at = n })))) l.at (map method_view (drop l.at l.methods))
    ≡ tested_from (λ n k. not (is_wild_if (dispatched (program_view l.program) l.id (record { class = l.above; at = n })))) 0 (map method_view l.methods)
