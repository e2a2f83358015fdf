use Rattle.std.proofs.Common.{◌≡◌, ◌++◌, List, ℕ, drop}
use Rattle.je_core.specs.Core.{CoreProgram}
use Rattle.je_java.specs.Steps.{State, Run, Exits}
use Rattle.je_java.specs.Arrays.{counts_of}
use Rattle.machine_forms.proofs.array.counts.Given as goal

abbrev pub invariant-loop-at : goal.invariant-loop-at
invariant-loop-at l = (p : CoreProgram) (go : List ℕ → Run) (exits : Exits) (s : State) →
    counts_of p (drop l.at l.values) (λ ns. go (l.counts.items ++ ns)) exits s ≡ counts_of p l.values go exits s
