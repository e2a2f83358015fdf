-- Subclasses are a partial order: the depth of a class falls with each step upwards.
use Rattle.std.proofs.Common.{◌≡◌, ◌<◌, refl, sym, subst, inl, inr, arith}
use Rattle.std.specs.Prelude.{◌⊎◌}
use Rattle.std.specs.List.{Contains}
use Rattle.je_core.specs.declared.types.ClassId.{ClassId}
use Rattle.je_core.specs.Core.{CoreProgram}
use Rattle.je_classes.specs.Hierarchy.{supers_of, Below, same, above, IsAcyclic}
use Rattle.class_laws.specs.Orders.{BelowIsReflexive, BelowIsTransitive, BelowIsAntisymmetric}

pub reflexive : BelowIsReflexive
reflexive p c = same

onwards : {p : CoreProgram} {c d e : ClassId} → Below p c d → Below p d e → Below p c e
onwards same r = r
onwards (above q s) r = above q (onwards s r)

pub transitive : BelowIsTransitive
transitive p c d e q r = onwards q r

higher : (p : CoreProgram) (a : IsAcyclic p) (c e d : ClassId) → Contains (supers_of p c) e → (e ≡ d) ⊎ (a.depth d < a.depth e) → a.depth d < a.depth c
higher p a c e d q (inl here) = subst (λ (k : ClassId). a.depth k < a.depth c) here (a.falls c e q)
higher p a c e d q (inr h) = let f : a.depth e < a.depth c = a.falls c e q in omega (arith, f, h)

depths : (p : CoreProgram) (a : IsAcyclic p) {c d : ClassId} → Below p c d → (c ≡ d) ⊎ (a.depth d < a.depth c)
depths p a same = inl refl
depths p a (above {c = c} {d = d} {e = e} q r) = inr (higher p a c e d q (depths p a r))

apart : (p : CoreProgram) (a : IsAcyclic p) (c d : ClassId) → (c ≡ d) ⊎ (a.depth d < a.depth c) → (d ≡ c) ⊎ (a.depth c < a.depth d) → c ≡ d
apart p a c d (inl e) r = e
apart p a c d (inr h) (inl e) = sym e
apart p a c d (inr h) (inr g) = absurd (omega (arith, h, g))

pub antisymmetric : BelowIsAntisymmetric
antisymmetric p a c d q r = apart p a c d (depths p a q) (depths p a r)
