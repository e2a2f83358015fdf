-- What is met, one by one.
use Rattle.std.proofs.Common.{◌≡◌, ℕ, refl}
use Rattle.je_core.specs.declared.types.ClassId.{ClassId}
use Rattle.body_typing.specs.Bodies as bodies
use Rattle.body_walks.specs.declared.met.Met.{Met}
use Rattle.body_walks.specs.declared.met.Met.TheVariants as met
use Rattle.body_walks.specs.Seen.{met_seen}

pub names_nothing : (one : Met) → ((w o : ClassId) (l : ℕ) → one ≡ met.Captures w o l → ⊥) → (x y z : ℕ) → met_seen one ≡ bodies.captures x y z → ⊥
names_nothing (met.Captures w o l) never x y z e = never w o l refl
names_nothing (met.Makes w c) never x y z e = absurd (cc)
names_nothing (met.Stands c s) never x y z e = absurd (cc)
names_nothing (met.StandsBehindNew c s word t es) never x y z e = absurd (cc)

pub makes_nothing : (one : Met) → ((w c : ClassId) → one ≡ met.Makes w c → ⊥) → (x y : ℕ) → met_seen one ≡ bodies.makes x y → ⊥
makes_nothing (met.Captures w o l) never x y e = absurd (cc)
makes_nothing (met.Makes w c) never x y e = never w c refl
makes_nothing (met.Stands c s) never x y e = absurd (cc)
makes_nothing (met.StandsBehindNew c s word t es) never x y e = absurd (cc)
