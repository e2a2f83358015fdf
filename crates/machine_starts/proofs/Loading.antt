-- One class more of a load.
use Rattle.std.proofs.Common.{◌≡◌, ◌<◌, ℕ, zero, suc, ◌+◌, ◌-◌, arith}
use Rattle.je_core.specs.Core.{CoreProgram}
use Rattle.je_java.specs.Meaning.{Meanings, start}
use Rattle.je_java.specs.Steps.{State}
use Rattle.je_load.specs.Loading.{no_exits}
use Rattle.machine_parts.specs.Starts.{load_from}

pub loads_more : (p : CoreProgram) (m : Meanings) (next count : ℕ) (s : State) → 0 < count →
    start p m (record { 0 = next }) (λ u. load_from p m (next + 1) (count - 1)) no_exits s ≡ load_from p m next count s
loads_more p m next zero s h = absurd (omega arith)
loads_more p m next (suc count) s h =
    let one : next + 1 ≡ suc next = omega arith in
    let less : suc count - 1 ≡ count = omega arith in
    λ i. start p m (record { 0 = next }) (λ u. load_from p m (one i) (less i)) no_exits s
