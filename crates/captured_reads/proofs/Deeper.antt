-- The reads in a class, by those along one class fewer.
use Rattle.std.proofs.Common.{◌≡◌, ℕ, zero, suc, ◌-◌, ◌<◌, List, [], ◌∷◌, length, refl, ap, arith}
use Rattle.je_core.specs.declared.types.ClassId.{ClassId}
use Rattle.je_core.specs.Core.{CoreProgram}
use Rattle.je_classes.specs.Hierarchy.{class_at}
use Rattle.captured_reads.specs.declared.scopes.LocalName.{LocalName}
use Rattle.captured_reads.specs.Standing.{reads_in, reads_within}

pub no_names : (p : CoreProgram) (n : ℕ) (class : ClassId) → reads_within p n [] class ≡ []
no_names p zero class = refl
no_names p (suc n) class = refl

pub one_deeper : (p : CoreProgram) (n : ℕ) (names : List LocalName) (class : ClassId) → 0 < n → 0 < length names →
    reads_within p n names class ≡ reads_in p (reads_within p (n - 1)) names class (class_at p class)
one_deeper p zero names class some named = absurd (omega (arith, some))
one_deeper p (suc n) [] class some named = absurd (omega (arith, named))
one_deeper p (suc n) (name ∷ names) class some named =
    let fewer : n ≡ suc n - 1 = omega arith in
    ap (λ k. reads_in p (reads_within p k) (name ∷ names) class (class_at p class)) fewer

pub ruleset deeper = (no_names, one_deeper)
