use Rattle.std.proofs.Common.{◌≡◌, drop}
use Rattle.je_core.specs.View.{program_view, method_view}
use Rattle.fit_members.specs.way.Each.{each_of, override_fits}
use Rattle.fit_members.proofs.overriding.overrides_fit_above.Given as goal

abbrev pub invariant-loop-class : goal.invariant-loop-class
invariant-loop-class l =
    each_of (program_view l.program) (λ d n k. override_fits (program_view l.program) (method_view l.method) k) (drop l.class-index l.above) ≡
    each_of (program_view l.program) (λ d n k. override_fits (program_view l.program) (method_view l.method) k) l.above
