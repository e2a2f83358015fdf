-- One lemma for each step on arrays.
use Rattle.std.proofs.Common.{ℕ, zero, suc, ◌≤◌, List, [], ◌∷◌, length, Option, Some, None, refl, subst, arith}
use Rattle.std.specs.Prelude.{pos, negsuc}
use Rattle.je_core.specs.declared.types.Ty.{Ty}
use Rattle.je_core.specs.declared.value.Value.{Value}
use Rattle.je_core.specs.Core.{CoreProgram}
use Rattle.je_java.specs.Steps.{Computation, charge}
use Rattle.je_java.specs.Arrays.{length_of, place_within, place_of, read_element, storable, write_element, count_of, counts_of, elements_of, element_of, repeated, filled, nested, make_arrays, array_from}
use Rattle.je_java.proofs.Pairs.{Parts, nil, cons, ValueRel, bool, byte, short, char, int, long, null, ref, array, Rel, Laws, Equal, Values, append-both, length-both}
use Rattle.je_java.proofs.Combinators.{paired-more, value-more, values-more, rel-ret, rel-wrong, rel-if, bind_value, bind_pair, bind_equal, seq_end}
use Rattle.je_java.proofs.Outcomes.{default-both}
use Rattle.je_java.proofs.StepsRelated.{rel-charge, rel-get_type, rel-get_extent, rel-get_slot, rel-put_slot, rel-new_object}
use Rattle.je_java.proofs.MadeSteps.{rel-raise, rel-or_raise, rel-deref}

module _ {R : Parts} (L : Laws R) where
  pub rel-length_of : {k : ℕ} {v w : Value} (program : CoreProgram) → ValueRel R k v w → Rel R k (ValueRel R) (length_of program v) (length_of program w)
  unfolding length_of
  rel-length_of program q = bind_pair (rel-deref L program q) λ i l o o' p. bind_equal (rel-get_extent L p) λ j l' extent. rel-ret _ _ int

  pub rel-place_of : {k : ℕ} {v w : Value} (program : CoreProgram) (count : ℕ) → ValueRel R k v w → Rel R k Equal (place_of program count v) (place_of program count w)
  rel-place_of program count bool = rel-wrong L
  rel-place_of program count byte = rel-wrong L
  rel-place_of program count short = rel-wrong L
  rel-place_of program count char = rel-wrong L
  rel-place_of program count (int {x = x}) = rel-or_raise L program _ (place_within count x)
  rel-place_of program count long = rel-wrong L
  rel-place_of program count null = rel-wrong L
  rel-place_of program count (ref p) = rel-wrong L

  pub rel-read_element : {k : ℕ} {v w v' w' : Value} (program : CoreProgram) → ValueRel R k v w → ValueRel R k v' w' → Rel R k (ValueRel R) (read_element program v v') (read_element program w w')
  unfolding read_element
  rel-read_element program q q' = bind_pair (rel-deref L program q) λ i l o o' p. bind_equal (rel-get_extent L p) λ j l' extent.
      bind_equal (rel-place_of program extent.count (value-more L (omega arith) q')) λ h l'' at. rel-get_slot L at (paired-more L (omega arith) p)

  rel-storable : {k : ℕ} {v w : Value} (program : CoreProgram) (element : Ty) → ValueRel R k v w → Rel R k Equal (storable program element v) (storable program element w)
  rel-storable program element bool = rel-ret _ _ refl
  rel-storable program element byte = rel-ret _ _ refl
  rel-storable program element short = rel-ret _ _ refl
  rel-storable program element char = rel-ret _ _ refl
  rel-storable program element int = rel-ret _ _ refl
  rel-storable program element long = rel-ret _ _ refl
  rel-storable program element null = rel-ret _ _ refl
  rel-storable program element (ref p) = bind_equal (rel-get_type L p) λ i l own. rel-if _ (rel-ret _ _ refl) (rel-raise L program _)

  pub rel-write_element : {k : ℕ} {v w v' w' a b : Value} (program : CoreProgram) → ValueRel R k v w → ValueRel R k v' w' → ValueRel R k a b →
      Rel R k (ValueRel R) (write_element program v v' a) (write_element program w w' b)
  unfolding write_element
  rel-write_element program q q' e = bind_pair (rel-deref L program q) λ i l o o' p. bind_equal (rel-get_extent L p) λ j l' extent.
      bind_equal (rel-place_of program extent.count (value-more L (omega arith) q')) λ h l'' at.
      seq_end (rel-storable program extent.element (value-more L (omega arith) e)) λ n m. rel-put_slot L at (paired-more L (omega arith) p) (value-more L (omega arith) e)

  rel-count_of : {k : ℕ} {v w : Value} (program : CoreProgram) → ValueRel R k v w → Rel R k Equal (count_of program v) (count_of program w)
  rel-count_of program bool = rel-wrong L
  rel-count_of program byte = rel-wrong L
  rel-count_of program short = rel-wrong L
  rel-count_of program char = rel-wrong L
  rel-count_of program (int {x = pos n}) = rel-ret _ _ refl
  rel-count_of program (int {x = negsuc n}) = rel-raise L program _
  rel-count_of program long = rel-wrong L
  rel-count_of program null = rel-wrong L
  rel-count_of program (ref p) = rel-wrong L

  rel-counts_of : {k i : ℕ} {vs ws : List Value} (program : CoreProgram) → k ≤ i → Values R k vs ws → Rel R i Equal (counts_of program vs) (counts_of program ws)
  rel-counts_of program l nil = rel-ret _ _ refl
  rel-counts_of program l (cons q qs) = bind_equal (rel-count_of program (value-more L l q)) λ j l' n. bind_equal (rel-counts_of program (omega arith) qs) λ h l'' ns. rel-ret _ _ refl

  rel-filled : {k : ℕ} {vs ws : List Value} (element : Ty) → Values R k vs ws → Rel R k (ValueRel R) (filled element vs) (filled element ws)
  rel-filled element qs = bind_pair (rel-new_object L (array qs)) λ i l o o' p. rel-ret _ _ (ref p)

  rel-repeated : {k : ℕ} {vs ws : List Value} {m m' : Computation Value} {f f' : List Value → Computation Value} (n : ℕ) → ((i : ℕ) → Rel R i (ValueRel R) m m') →
      ((i : ℕ) → k ≤ i → (xs ys : List Value) → Values R i xs ys → Rel R i (ValueRel R) (f xs) (f' ys)) → Values R k vs ws → Rel R k (ValueRel R) (repeated n m f vs) (repeated n m' f' ws)
  rel-repeated {k = k} zero p h qs = h k (omega arith) _ _ qs
  rel-repeated {k = k} (suc n) p h qs = bind_value (p k) λ i l v w q. rel-repeated n p (λ j l'. h j (omega arith)) (append-both (values-more L l qs) (cons q nil))

  rel-nested : (ty : Ty) (ns : List ℕ) (k : ℕ) → Rel R k (ValueRel R) (nested ty ns) (nested ty ns)
  rel-nested ty [] k = rel-ret _ _ (default-both ty)
  rel-nested ty (n ∷ ns) k = rel-repeated n (rel-nested (element_of ty) ns) (λ i l xs ys qs. rel-filled (element_of ty) qs) nil

  pub rel-make_arrays : {k : ℕ} {vs ws : List Value} (program : CoreProgram) (ty : Ty) → Values R k vs ws → Rel R k (ValueRel R) (make_arrays program ty vs) (make_arrays program ty ws)
  unfolding make_arrays
  rel-make_arrays program ty qs = bind_equal (rel-counts_of program (omega arith) qs) λ i l counts. seq_end (rel-charge L (elements_of counts)) λ j l'. rel-nested ty counts j

  pub rel-array_from : {k : ℕ} {vs ws : List Value} (ty : Ty) → Values R k vs ws → Rel R k (ValueRel R) (array_from ty vs) (array_from ty ws)
  unfolding array_from
  rel-array_from {k = k} {vs = vs} ty qs =
      seq_end (subst (λ n. Rel R k Equal (charge (length vs)) (charge n)) (length-both qs) (rel-charge L (length vs))) λ i l. rel-filled (element_of ty) (values-more L l qs)
