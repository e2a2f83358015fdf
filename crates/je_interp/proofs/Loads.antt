-- The classes of a program that start by their numbers are those that start one after another.
use Rattle.std.proofs.Common.{◌≡◌, ℕ, suc, List, [], ◌∷◌, length, None, refl}
use Rattle.je_core.specs.Core.{CoreClass, CoreProgram}
use Rattle.je_java.specs.Meaning.{Meanings, start}
use Rattle.je_java.specs.Steps.{Done, ret, seq}
use Rattle.je_load.specs.Loading.{start_from, no_exits}
use Rattle.machine_parts.specs.Starts.{load_from}

pub loads_by_number : (p : CoreProgram) (m : Meanings) (number : ℕ) (classes : List CoreClass) →
    load_from p m number (length classes) ≡ start_from p m number classes (λ u. Done None) no_exits
unfolding ret seq
loads_by_number p m number [] = refl
loads_by_number p m number (class ∷ classes) = λ i. start p m (record { 0 = number }) (λ u. loads_by_number p m (suc number) classes i) no_exits
