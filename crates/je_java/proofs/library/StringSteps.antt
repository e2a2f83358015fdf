-- One lemma for each member of String.
use Rattle.std.proofs.Common.{◌≡◌, ℕ, List, [], ◌∷◌, ◌++◌, map, Option, Some, None, Bool, refl, subst, arith}
use Rattle.je_core.specs.declared.types.Ty.{Ty}
use Rattle.je_core.specs.declared.value.ObjId.{ObjId}
use Rattle.je_core.specs.declared.value.Value.{Value}
use Rattle.je_core.specs.declared.value.Value.TheVariants.{Char}
use Rattle.je_core.specs.Core.{CoreProgram}
use Rattle.je_classes.specs.Subtypes.{array_of}
use Rattle.je_java.specs.Steps.{Computation, need}
use Rattle.je_java.specs.library.Arguments.{char_in}
use Rattle.je_java.specs.library.Strings.{new_text, new_part, with_unit_before, units_in_values, text_of_chars, text_of_truth, text_of_char, text_of_int, text_of_long, char_at, comparison, joined, tested_by, equals_object, equals_value, equality, place_of_text, place_of_unit, replacement, part_from, part_between, char_type, static_entries, entries, on_receiver, string_member}
use Rattle.je_java.proofs.Pairs.{Parts, nil, cons, some, OptionRel, Paired, ValueRel, bool, byte, short, char, int, long, null, ref, Rel, Laws, Equal, Values}
use Rattle.je_java.proofs.Combinators.{paired-more, value-more, values-more, rel-ret, rel-bind, rel-wrong, rel-need, equal-option, rel-if, bind_value, bind_pair, bind_equal}
use Rattle.je_java.proofs.StepsRelated.{rel-get_type, rel-get_units}
use Rattle.je_java.proofs.MadeSteps.{rel-deref, rel-make_text, rel-or_raise}
use Rattle.je_java.proofs.ArraySteps.{rel-array_from}
use Rattle.je_java.proofs.library.ArgumentSteps.{plain-both, rel-int_argument, rel-long_argument, rel-char_argument, rel-truth_argument, rel-argument, rel-text_argument, rel-elements_argument, EntriesRel, last, entry, rel-entry_of}

units-both : {R : Parts} {k : ℕ} {vs ws : List Value} → Values R k vs ws → units_in_values vs ≡ units_in_values ws
units-both nil = refl
units-both (cons q qs) = let first = plain-both char_in (λ o o'. refl) (some q) in let others = units-both qs in λ i. with_unit_before (first i) (others i)

chars-both : {R : Parts} {k : ℕ} (units : List ℕ) → Values R k (map Char units) (map Char units)
chars-both [] = nil
chars-both (unit ∷ units) = cons char (chars-both units)

module _ {R : Parts} (L : Laws R) where
  pub rel-new_text : {k : ℕ} (units : List ℕ) → Rel R k (ValueRel R) (new_text units) (new_text units)
  unfolding new_text
  rel-new_text units = bind_pair (rel-make_text L units) λ i l o o' p. rel-ret _ _ (ref p)

  rel-new_part : {k : ℕ} (program : CoreProgram) (part : Option (List ℕ)) → Rel R k (ValueRel R) (new_part program part) (new_part program part)
  unfolding new_part
  rel-new_part program part = bind_equal (rel-or_raise L program _ part) λ i l units. rel-new_text units

  rel-text_of_chars : {k : ℕ} {vs ws : List Value} (program : CoreProgram) → Values R k vs ws → Rel R k (ValueRel R) (text_of_chars program vs) (text_of_chars program ws)
  unfolding text_of_chars
  rel-text_of_chars program qs = rel-bind {P = Values R} (rel-elements_argument L program qs 0) λ i l vs ws q.
      bind_equal (rel-need L (subst (λ o. OptionRel (◌≡◌) (units_in_values vs) o) (units-both q) (equal-option _))) λ j l' units. rel-new_text units

  rel-text_of_truth : {k : ℕ} {vs ws : List Value} → Values R k vs ws → Rel R k (ValueRel R) (text_of_truth vs) (text_of_truth ws)
  unfolding text_of_truth
  rel-text_of_truth qs = bind_equal (rel-truth_argument L qs 0) λ i l holds. rel-new_text _

  rel-text_of_char : {k : ℕ} {vs ws : List Value} → Values R k vs ws → Rel R k (ValueRel R) (text_of_char vs) (text_of_char ws)
  unfolding text_of_char
  rel-text_of_char qs = bind_equal (rel-char_argument L qs 0) λ i l unit. rel-new_text _

  pub rel-text_of_int : {k : ℕ} {vs ws : List Value} → Values R k vs ws → Rel R k (ValueRel R) (text_of_int vs) (text_of_int ws)
  unfolding text_of_int
  rel-text_of_int qs = bind_equal (rel-int_argument L qs 0) λ i l number. rel-new_text _

  pub rel-text_of_long : {k : ℕ} {vs ws : List Value} → Values R k vs ws → Rel R k (ValueRel R) (text_of_long vs) (text_of_long ws)
  unfolding text_of_long
  rel-text_of_long qs = bind_equal (rel-long_argument L qs 0) λ i l number. rel-new_text _

  pub rel-char_at : {k : ℕ} {vs ws : List Value} (program : CoreProgram) (units : List ℕ) → Values R k vs ws → Rel R k (ValueRel R) (char_at program units vs) (char_at program units ws)
  unfolding char_at
  rel-char_at program units qs = bind_equal (rel-int_argument L qs 0) λ i l place. bind_equal (rel-or_raise L program _ _) λ j l' unit. rel-ret _ _ char

  rel-comparison : {k : ℕ} {vs ws : List Value} (program : CoreProgram) (units : List ℕ) → Values R k vs ws → Rel R k (ValueRel R) (comparison program units vs) (comparison program units ws)
  unfolding comparison
  rel-comparison program units qs = bind_equal (rel-text_argument L program qs 0) λ i l other. rel-ret _ _ int

  rel-joined : {k : ℕ} {vs ws : List Value} (program : CoreProgram) (units : List ℕ) → Values R k vs ws → Rel R k (ValueRel R) (joined program units vs) (joined program units ws)
  unfolding joined
  rel-joined program units qs = bind_equal (rel-text_argument L program qs 0) λ i l other. rel-new_text _

  rel-tested_by : {k : ℕ} {vs ws : List Value} (Holds : List ℕ → List ℕ → Bool) (program : CoreProgram) (units : List ℕ) → Values R k vs ws →
      Rel R k (ValueRel R) (tested_by Holds program units vs) (tested_by Holds program units ws)
  unfolding tested_by
  rel-tested_by Holds program units qs = bind_equal (rel-text_argument L program qs 0) λ i l part. rel-ret _ _ bool

  rel-equals_object : {k : ℕ} {o o' : ObjId} (units : List ℕ) → Paired R k o o' → (own : Ty) → Rel R k (ValueRel R) (equals_object units o own) (equals_object units o' own)
  rel-equals_object units p own = rel-if _ (bind_equal (rel-get_units L p) λ i l other. rel-ret _ _ bool) (rel-ret _ _ bool)

  rel-equals_value : {k : ℕ} {v w : Value} (units : List ℕ) → ValueRel R k v w → Rel R k (ValueRel R) (equals_value units v) (equals_value units w)
  rel-equals_value units bool = rel-wrong L
  rel-equals_value units byte = rel-wrong L
  rel-equals_value units short = rel-wrong L
  rel-equals_value units char = rel-wrong L
  rel-equals_value units int = rel-wrong L
  rel-equals_value units long = rel-wrong L
  rel-equals_value units null = rel-ret _ _ bool
  rel-equals_value units (ref p) = bind_equal (rel-get_type L p) λ i l own. rel-equals_object units (paired-more L l p) own

  rel-equality : {k : ℕ} {vs ws : List Value} (units : List ℕ) → Values R k vs ws → Rel R k (ValueRel R) (equality units vs) (equality units ws)
  unfolding equality
  rel-equality units qs = bind_value (rel-argument L qs 0) λ i l v w q. rel-equals_value units q

  rel-place_of_text : {k : ℕ} {vs ws : List Value} (program : CoreProgram) (units : List ℕ) → Values R k vs ws → Rel R k (ValueRel R) (place_of_text program units vs) (place_of_text program units ws)
  unfolding place_of_text
  rel-place_of_text program units qs = bind_equal (rel-text_argument L program qs 0) λ i l part. rel-ret _ _ int

  rel-place_of_unit : {k : ℕ} {vs ws : List Value} (units : List ℕ) → Values R k vs ws → Rel R k (ValueRel R) (place_of_unit units vs) (place_of_unit units ws)
  unfolding place_of_unit
  rel-place_of_unit units qs = bind_equal (rel-int_argument L qs 0) λ i l unit. rel-ret _ _ int

  rel-replacement : {k : ℕ} {vs ws : List Value} (units : List ℕ) → Values R k vs ws → Rel R k (ValueRel R) (replacement units vs) (replacement units ws)
  unfolding replacement
  rel-replacement units qs = bind_equal (rel-char_argument L qs 0) λ i l old. bind_equal (rel-char_argument L (values-more L l qs) 1) λ j l' new. rel-new_text _

  rel-part_from : {k : ℕ} {vs ws : List Value} (program : CoreProgram) (units : List ℕ) → Values R k vs ws → Rel R k (ValueRel R) (part_from program units vs) (part_from program units ws)
  unfolding part_from
  rel-part_from program units qs = bind_equal (rel-int_argument L qs 0) λ i l begin. rel-new_part program _

  rel-part_between : {k : ℕ} {vs ws : List Value} (program : CoreProgram) (units : List ℕ) → Values R k vs ws → Rel R k (ValueRel R) (part_between program units vs) (part_between program units ws)
  unfolding part_between
  rel-part_between program units qs = bind_equal (rel-int_argument L qs 0) λ i l begin. bind_equal (rel-int_argument L (values-more L l qs) 1) λ j l' end. rel-new_part program _

  static_entries-both : {k : ℕ} {vs ws : List Value} (program : CoreProgram) → Values R k vs ws → EntriesRel R k (static_entries program vs) (static_entries program ws)
  static_entries-both program qs =
      entry (rel-text_of_chars program qs) (entry (rel-text_of_truth qs) (entry (rel-text_of_char qs) (entry (rel-text_of_int qs) (entry (rel-text_of_long qs) last))))

  entries-both : {k : ℕ} {o o' : ObjId} {vs ws : List Value} (program : CoreProgram) (units : List ℕ) → Paired R k o o' → Values R k vs ws →
      EntriesRel R k (entries program o units vs) (entries program o' units ws)
  entries-both program units p qs =
      entry (rel-char_at program units qs) (entry (rel-comparison program units qs) (entry (rel-joined program units qs) (entry (rel-tested_by _ program units qs)
      (entry (rel-equality units qs) (entry (rel-ret _ _ int) (entry (rel-place_of_text program units qs) (entry (rel-place_of_unit units qs)
      (entry (rel-ret _ _ int) (entry (rel-replacement units qs) (entry (rel-tested_by _ program units qs) (entry (rel-part_from program units qs)
      (entry (rel-part_between program units qs) (entry (rel-array_from L (array_of char_type) (chars-both units)) (entry (rel-ret _ _ (ref p)) (entry (rel-new_text _) last)))))))))))))))

  rel-on_receiver : {k : ℕ} {v w : Value} {vs ws : List Value} (program : CoreProgram) (signature : List ℕ) → ValueRel R k v w → Values R k vs ws →
      Rel R k (ValueRel R) (on_receiver program signature v vs) (on_receiver program signature w ws)
  rel-on_receiver program signature q qs = bind_pair (rel-deref L program q) λ i l o o' p. bind_equal (rel-get_units L p) λ j l' units.
      rel-entry_of signature (entries-both program units (paired-more L l' p) (values-more L (omega arith) qs)) (rel-wrong L)

  pub rel-string_member : {k : ℕ} {v w : Value} {vs ws : List Value} (program : CoreProgram) (signature : List ℕ) → ValueRel R k v w → Values R k vs ws →
      Rel R k (ValueRel R) (string_member program signature v vs) (string_member program signature w ws)
  unfolding string_member
  rel-string_member program signature q qs = rel-entry_of signature (static_entries-both program qs) (rel-on_receiver program signature q qs)
