-- Locals that are compared with parameters, both from a place on.
use Rattle.std.proofs.Common.{◌≡◌, ℕ, zero, suc, ◌<◌, List, [], ◌∷◌, length, drop, take, refl, arith}
use Rattle.std.specs.Prelude.{false}
use Rattle.je_core.specs.declared.program.Local.{Local}
use Rattle.je_core.specs.declared.types.Ty.{Ty}
use Rattle.je_classes.specs.Subtypes.{same_types}
use Rattle.je_fitting.specs.Members.{local_types}
use Rattle.fit_members.specs.way.Begins.{begin_with}

pub first_locals : (ts us : List Ty) → same_types (take (length us) ts) us ≡ begin_with ts us
first_locals [] [] = refl
first_locals (t ∷ ts) [] = refl
first_locals [] (u ∷ us) = refl
first_locals (t ∷ ts) (u ∷ us) = rw (first_locals ts us) refl

pub none_begins : (ls : List Local) (us : List Ty) (i : ℕ) → i < length us → length ls ≡ 0 → begin_with (local_types ls) (drop i us) ≡ false
none_begins (l ∷ ls) us i h e = absurd (omega arith)
none_begins [] [] i h e = absurd (omega arith)
none_begins [] (u ∷ us) zero h e = refl
none_begins [] (u ∷ us) (suc i) h e = none_begins [] us i (omega arith) refl
