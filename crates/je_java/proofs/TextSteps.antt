-- One lemma for each step on texts.
use Rattle.std.proofs.Common.{◌≡◌, ℕ, ◌≤◌, List, ◌++◌, refl, arith}
use Rattle.je_core.specs.declared.types.Ty.{Ty}
use Rattle.je_core.specs.declared.value.ObjId.{ObjId}
use Rattle.je_core.specs.declared.value.Value.{Value}
use Rattle.je_java.specs.Steps.{Computation}
use Rattle.je_java.specs.Texts.{units_told, text_of_object, text_of, concatenated}
use Rattle.je_java.proofs.Pairs.{Parts, Paired, ValueRel, bool, byte, short, char, int, long, null, ref, Rel, Laws, Equal}
use Rattle.je_java.proofs.Combinators.{paired-more, value-more, rel-ret, rel-need, equal-option, rel-if, bind_value, bind_pair, bind_equal}
use Rattle.je_java.proofs.StepsRelated.{rel-get_type, rel-get_units}
use Rattle.je_java.proofs.MadeSteps.{rel-make_text}

module _ {R : Parts} (L : Laws R) where
  -- what the `toString()` of two objects that go together gives goes together
  abbrev pub Tells : ℕ → (ObjId → Computation Value) → (ObjId → Computation Value) → Type 0
  Tells k f g = (i : ℕ) → k ≤ i → (o o' : ObjId) → Paired R i o o' → Rel R i (ValueRel R) (f o) (g o')

  rel-units_told : {k : ℕ} {v w : Value} → ValueRel R k v w → Rel R k Equal (units_told v) (units_told w)
  rel-units_told bool = rel-need L (equal-option _)
  rel-units_told byte = rel-need L (equal-option _)
  rel-units_told short = rel-need L (equal-option _)
  rel-units_told char = rel-need L (equal-option _)
  rel-units_told int = rel-need L (equal-option _)
  rel-units_told long = rel-need L (equal-option _)
  rel-units_told null = rel-need L (equal-option _)
  rel-units_told (ref p) = rel-get_units L p

  rel-text_of_object : {k : ℕ} {o o' : ObjId} {f g : ObjId → Computation Value} → Tells k f g → Paired R k o o' → (own : Ty) →
      Rel R k Equal (text_of_object f o own) (text_of_object g o' own)
  rel-text_of_object {k = k} h p own = rel-if _ (rel-get_units L p) (bind_value (h k (omega arith) _ _ p) λ i l v w q. rel-units_told q)

  pub rel-text_of : {k : ℕ} {v w : Value} {f g : ObjId → Computation Value} → Tells k f g → ValueRel R k v w → Rel R k Equal (text_of f v) (text_of g w)
  rel-text_of h bool = rel-need L (equal-option _)
  rel-text_of h byte = rel-need L (equal-option _)
  rel-text_of h short = rel-need L (equal-option _)
  rel-text_of h char = rel-need L (equal-option _)
  rel-text_of h int = rel-need L (equal-option _)
  rel-text_of h long = rel-need L (equal-option _)
  rel-text_of h null = rel-need L (equal-option _)
  rel-text_of h (ref p) = bind_equal (rel-get_type L p) λ i l own. rel-text_of_object (λ j l'. h j (omega arith)) (paired-more L l p) own

  pub rel-concatenated : {k : ℕ} {v w v' w' : Value} {f g : ObjId → Computation Value} → Tells k f g → ValueRel R k v w → ValueRel R k v' w' →
      Rel R k (ValueRel R) (concatenated f v v') (concatenated g w w')
  unfolding concatenated
  rel-concatenated h q q' = bind_equal (rel-text_of h q) λ i l front. bind_equal (rel-text_of (λ j l'. h j (omega arith)) (value-more L l q')) λ j l' back.
      bind_pair (rel-make_text L (front ++ back)) λ n l'' o o' p. rel-ret _ _ (ref p)
