use Rattle.std.proofs.Common.{◌≡◌, drop, map}
use Rattle.je_core.specs.View.{program_view, method_view}
use Rattle.fit_members.specs.way.Each.{tested_from, override_fits}
use Rattle.fit_members.proofs.overriding.overrides_fit_among.Given as goal

abbrev pub invariant-loop-above : goal.invariant-loop-above
invariant-loop-above l =
    tested_from (λ n k. override_fits (program_view l.program) (method_view l.method) k) l.above-index (map method_view (drop l.above-index l.methods)) ≡
    tested_from (λ n k. override_fits (program_view l.program) (method_view l.method) k) 0 (map method_view l.methods)
