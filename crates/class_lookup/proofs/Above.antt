-- The classes that are come by along supers are those above.
use Rattle.std.proofs.Common.{◌≡◌, ℕ, ◌<◌, List, length, refl, arith}
use Rattle.std.specs.Prelude.{Bool, true, false, ◌&&◌, nat_lt}
use Rattle.std.specs.List.{Contains}
use Rattle.std.proofs.lemmas.Bool.Decides.{nat_tests}
use Rattle.je_core.specs.declared.types.ClassId.{ClassId}
use Rattle.je_core.specs.Core.{CoreProgram}
use Rattle.je_classes.specs.Hierarchy.{class_at, supers_of, is_below, Below, same, above}
use Rattle.je_classes.specs.way.Reaching.{has}
use Rattle.je_classes.proofs.Below.{below-to, below-from}
use Rattle.je_classes.proofs.Lists.{bool_cases}
use Rattle.je_classes.proofs.Paths.{supers-within}
use Rattle.class_lookup.specs.Above.{AreAbove}
use Rattle.class_lookup.specs.way.Walk.{reached_by}
use Rattle.class_lookup.proofs.Walking.{Leads, stays, goes, sound, there, complete}

both : (a b : Bool) → a ≡ true → b ≡ true → (a && b) ≡ true
both true b e f = f
both false b e f = e

first : (a b : Bool) → (a && b) ≡ true → a ≡ true
first true b e = refl
first false b e = e

second : (a b : Bool) → (a && b) ≡ true → b ≡ true
second true b e = e
second false b e = absurd cc

pub same-test : (a b : Bool) → (a ≡ true → b ≡ true) → (b ≡ true → a ≡ true) → a ≡ b
same-test true true f g = refl
same-test true false f g = absurd (let e : false ≡ true = f refl in cc)
same-test false true f g = absurd (let e : false ≡ true = g refl in cc)
same-test false false f g = refl

module _ (p : CoreProgram) where
  below : {c d : ClassId} → Leads (supers_of p) c d → Below p c d
  below stays = same
  below (goes q r) = above q (below r)

  leads : {c d : ClassId} → Below p c d → Leads (supers_of p) c d
  leads same = stays
  leads (above q r) = goes q (leads r)

  inside : (c e : ClassId) → Contains (supers_of p c) e → nat_lt c.0 (length p.classes) ≡ true
  inside c e q = let s : c.0 < length p.classes = supers-within p c e (class_at p c) refl q in grind (arith, nat_tests)

  pub are_above : (own : ClassId) → AreAbove p own (reached_by (supers_of p) (length p.classes) own)
  are_above own = record {
    each = λ d. same-test (has (reached_by (supers_of p) (length p.classes) own) d) (nat_lt d.0 (length p.classes) && is_below p own d)
        (λ h. both (nat_lt d.0 (length p.classes)) (is_below p own d) (there (supers_of p) (length p.classes) own d h) (below-from p (below (sound (supers_of p) (length p.classes) own d h))))
        (λ h. complete (supers_of p) (length p.classes) own inside d (leads (below-to p own d (second (nat_lt d.0 (length p.classes)) (is_below p own d) h))) (first (nat_lt d.0 (length p.classes)) (is_below p own d) h));
  }
