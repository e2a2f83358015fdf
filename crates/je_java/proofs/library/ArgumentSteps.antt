-- Arguments of members that go together, and members under one signature.
use Rattle.std.proofs.Common.{◌≡◌, ℕ, zero, suc, List, [], ◌∷◌, Option, Some, None, refl, subst, arith}
use Rattle.std.specs.Prelude.{slice_get}
use Rattle.je_core.specs.declared.value.ObjId.{ObjId}
use Rattle.je_core.specs.declared.value.Value.{Value}
use Rattle.je_core.specs.declared.value.Value.TheVariants.{Ref}
use Rattle.je_core.specs.Core.{CoreProgram}
use Rattle.je_java.specs.Steps.{Computation, need}
use Rattle.je_java.specs.library.Arguments.{int_in, long_in, char_in, truth_in, int_argument, long_argument, char_argument, truth_argument, argument, text_argument, units_unless_null, text_or_null, slots_from, elements_argument, Entry, entry_of}
use Rattle.je_java.proofs.Pairs.{Parts, nil, cons, OptionRel, none, some, Paired, ValueRel, bool, byte, short, char, int, long, null, ref, Rel, Laws, Equal, Values, get-both}
use Rattle.je_java.proofs.Combinators.{paired-more, value-more, rel-ret, rel-bind, rel-wrong, rel-need, equal-option, rel-if, bind_value, bind_pair, bind_equal}
use Rattle.je_java.proofs.StepsRelated.{rel-get_extent, rel-get_slot, rel-get_units}
use Rattle.je_java.proofs.MadeSteps.{rel-deref}

-- what is read the same of every reference is read the same of values that go together
pub plain-both : {R : Parts} {A : Type 0} {k : ℕ} {v w : Option Value} (f : Option Value → A) → ((o o' : ObjId) → f (Some (Ref o)) ≡ f (Some (Ref o'))) →
    OptionRel (ValueRel R k) v w → f v ≡ f w
plain-both f h none = refl
plain-both f h (some bool) = refl
plain-both f h (some byte) = refl
plain-both f h (some short) = refl
plain-both f h (some char) = refl
plain-both f h (some int) = refl
plain-both f h (some long) = refl
plain-both f h (some null) = refl
plain-both f h (some (ref p)) = h _ _

module _ {R : Parts} (L : Laws R) where
  rel-read : {A : Type 0} {k : ℕ} {vs ws : List Value} (f : Option Value → Option A) → ((o o' : ObjId) → f (Some (Ref o)) ≡ f (Some (Ref o'))) → Values R k vs ws → (at : ℕ) →
      Rel R k Equal (need (f (slice_get vs at))) (need (f (slice_get ws at)))
  rel-read {vs = vs} f h qs at = rel-need L (subst (λ o. OptionRel (◌≡◌) (f (slice_get vs at)) o) (plain-both f h (get-both qs at)) (equal-option _))

  pub rel-int_argument : {k : ℕ} {vs ws : List Value} → Values R k vs ws → (at : ℕ) → Rel R k Equal (int_argument vs at) (int_argument ws at)
  rel-int_argument qs at = rel-read int_in (λ o o'. refl) qs at

  pub rel-long_argument : {k : ℕ} {vs ws : List Value} → Values R k vs ws → (at : ℕ) → Rel R k Equal (long_argument vs at) (long_argument ws at)
  rel-long_argument qs at = rel-read long_in (λ o o'. refl) qs at

  pub rel-char_argument : {k : ℕ} {vs ws : List Value} → Values R k vs ws → (at : ℕ) → Rel R k Equal (char_argument vs at) (char_argument ws at)
  rel-char_argument qs at = rel-read char_in (λ o o'. refl) qs at

  pub rel-truth_argument : {k : ℕ} {vs ws : List Value} → Values R k vs ws → (at : ℕ) → Rel R k Equal (truth_argument vs at) (truth_argument ws at)
  rel-truth_argument qs at = rel-read truth_in (λ o o'. refl) qs at

  pub rel-argument : {k : ℕ} {vs ws : List Value} → Values R k vs ws → (at : ℕ) → Rel R k (ValueRel R) (argument vs at) (argument ws at)
  rel-argument qs at = rel-need L (get-both qs at)

  pub rel-text_argument : {k : ℕ} {vs ws : List Value} (program : CoreProgram) → Values R k vs ws → (at : ℕ) → Rel R k Equal (text_argument program vs at) (text_argument program ws at)
  rel-text_argument program qs at = bind_value (rel-argument qs at) λ i l v w q. bind_pair (rel-deref L program q) λ j l' o o' p. rel-get_units L p

  rel-units_unless_null : {k : ℕ} {v w : Value} → ValueRel R k v w → Rel R k Equal (units_unless_null v) (units_unless_null w)
  rel-units_unless_null bool = rel-wrong L
  rel-units_unless_null byte = rel-wrong L
  rel-units_unless_null short = rel-wrong L
  rel-units_unless_null char = rel-wrong L
  rel-units_unless_null int = rel-wrong L
  rel-units_unless_null long = rel-wrong L
  rel-units_unless_null null = rel-ret _ _ refl
  rel-units_unless_null (ref p) = bind_equal (rel-get_units L p) λ i l units. rel-ret _ _ refl

  pub rel-text_or_null : {k : ℕ} {vs ws : List Value} → Values R k vs ws → (at : ℕ) → Rel R k Equal (text_or_null vs at) (text_or_null ws at)
  rel-text_or_null qs at = bind_value (rel-argument qs at) λ i l v w q. rel-units_unless_null q

  rel-slots_from : {k : ℕ} {o o' : ObjId} (count at : ℕ) → Paired R k o o' → Rel R k (Values R) (slots_from o count at) (slots_from o' count at)
  rel-slots_from zero at p = rel-ret _ _ nil
  rel-slots_from (suc count) at p = bind_value (rel-get_slot L at p) λ i l v w q. rel-bind {P = Values R} (rel-slots_from count (suc at) (paired-more L l p)) λ j l' vs ws qs.
      rel-ret _ _ (cons (value-more L l' q) qs)

  pub rel-elements_argument : {k : ℕ} {vs ws : List Value} (program : CoreProgram) → Values R k vs ws → (at : ℕ) →
      Rel R k (Values R) (elements_argument program vs at) (elements_argument program ws at)
  rel-elements_argument program qs at = bind_value (rel-argument qs at) λ i l v w q. bind_pair (rel-deref L program q) λ j l' o o' p.
      bind_equal (rel-get_extent L p) λ h l'' extent. rel-slots_from extent.count 0 (paired-more L l'' p)

module _ (R : Parts) where
  -- the same signatures in one order, whose members do what goes together
  pub data EntriesRel (k : ℕ) : List Entry → List Entry → Type 0 where
    last : EntriesRel k [] []
    entry : {signature : List ℕ} {m n : Computation Value} {es fs : List Entry} → Rel R k (ValueRel R) m n → EntriesRel k es fs → EntriesRel k ((signature, m) ∷ es) ((signature, n) ∷ fs)

pub rel-entry_of : {R : Parts} {k : ℕ} {es fs : List Entry} {m n : Computation Value} (signature : List ℕ) → EntriesRel R k es fs → Rel R k (ValueRel R) m n →
    Rel R k (ValueRel R) (entry_of signature es m) (entry_of signature fs n)
rel-entry_of signature last h = h
rel-entry_of signature (entry p ps) h = rel-if _ p (rel-entry_of signature ps h)
