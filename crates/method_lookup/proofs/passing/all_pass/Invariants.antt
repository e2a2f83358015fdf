use Rattle.std.proofs.Common.{◌≡◌, drop}
use Rattle.je_core.specs.View.{program_view}
use Rattle.je_classes.specs.Methods.{all_pass}
use Rattle.method_lookup.proofs.passing.all_pass.Given as goal

abbrev pub invariant-loop-ty : goal.invariant-loop-ty
invariant-loop-ty l = all_pass (program_view l.program) (drop l.ty-index l.from) l.left ≡ all_pass (program_view l.program) l.from l.fn.to
