-- In the example each class has its number as its depth.
use Rattle.std.proofs.Common.{◌≡◌, ℕ, zero, suc, ◌<◌, [], ◌∷◌, refl, subst, arith}
use Rattle.std.specs.List.{Contains}
use Rattle.je_core.specs.declared.types.ClassId.{ClassId}
use Rattle.je_classes.specs.Hierarchy.{supers_of, object_class, library_class, IsAcyclic}
use Rattle.je_classes.proofs.Lists.{contains-cases}
use Rattle.je_classes.proofs.Sets.{by_either}
use Rattle.class_laws.specs.Examples.{chain, numbered}

abbrev depth_at : ℕ → ℕ
depth_at zero = 0
depth_at (suc zero) = 1
depth_at (suc (suc zero)) = 2
depth_at (suc (suc (suc n))) = 0

only : (c d : ClassId) (n : ℕ) → depth_at c.0 < n → Contains (c ∷ []) d → depth_at d.0 < n
only c d n h q = by_either (λ e. subst (λ (k : ClassId). depth_at k.0 < n) e h) (λ r. let g : r.0 < 0 = r.1 in absurd (omega arith)) (contains-cases c d [] q)

falls_from : (n : ℕ) (d : ClassId) → Contains (supers_of chain (numbered n)) d → depth_at d.0 < depth_at n
falls_from zero d q = let g : q.0 < 0 = q.1 in absurd (omega arith)
falls_from (suc zero) d q = only (numbered 0) d 1 (let h : 0 < 1 = omega arith in h) q
falls_from (suc (suc zero)) d q = only (numbered 1) d 2 (let h : 1 < 2 = omega arith in h) q
falls_from (suc (suc (suc n))) d q = let g : q.0 < 0 = q.1 in absurd (omega arith)

within : (n : ℕ) → depth_at n < 3
within zero = let h : 0 < 3 = omega arith in h
within (suc zero) = let h : 1 < 3 = omega arith in h
within (suc (suc zero)) = let h : 2 < 3 = omega arith in h
within (suc (suc (suc n))) = let h : 0 < 3 = omega arith in h

pub chain_is_acyclic : IsAcyclic chain
chain_is_acyclic = record { depth = λ c. depth_at c.0; falls = λ c d q. falls_from c.0 d q; within = λ c. within c.0 }

pub object_is_first : supers_of chain object_class ≡ []
unfolding object_class library_class
object_is_first = refl
