-- One lemma for each member of Object, Token, the throwable classes and the rows.
use Rattle.std.proofs.Common.{◌≡◌, ℕ, List, length, refl, subst, arith}
use Rattle.je_core.specs.declared.types.ClassId.{ClassId}
use Rattle.je_core.specs.declared.value.ObjId.{ObjId}
use Rattle.je_core.specs.declared.value.Value.{Value}
use Rattle.je_core.specs.Core.{CoreProgram}
use Rattle.je_java.specs.Equality.{same_reference}
use Rattle.je_java.specs.Steps.{charge}
use Rattle.je_java.specs.library.Objects.{identity, object_entries, object_member}
use Rattle.je_java.specs.library.RowObjects.{new_row, value_at, static_entries, entries, on_receiver, row_member}
use Rattle.je_java.specs.library.Throwables.{kept, with_message, throwable_entries, throwable_member}
use Rattle.je_java.proofs.Pairs.{Parts, OptionRel, Paired, ValueRel, bool, int, null, ref, row, Rel, Laws, Equal, Values, length-both}
use Rattle.je_java.proofs.Combinators.{paired-more, value-more, values-more, rel-ret, rel-bind, rel-wrong, rel-need, equal-option, bind_value, bind_pair, bind_equal, seq_end}
use Rattle.je_java.proofs.Outcomes.{references-both}
use Rattle.je_java.proofs.StepsRelated.{rel-charge, rel-get_count, rel-get_slot, rel-new_object}
use Rattle.je_java.proofs.MadeSteps.{rel-deref, rel-read_field, rel-write_field}
use Rattle.je_java.proofs.ArraySteps.{rel-place_of}
use Rattle.je_java.proofs.library.ArgumentSteps.{rel-argument, rel-elements_argument, EntriesRel, last, entry, rel-entry_of}

module _ {R : Parts} (L : Laws R) where
  rel-identity : {k : ℕ} {v w : Value} {vs ws : List Value} → ValueRel R k v w → Values R k vs ws → Rel R k (ValueRel R) (identity v vs) (identity w ws)
  unfolding identity
  rel-identity {v = v} q qs = bind_value (rel-argument L qs 0) λ i l a b e.
      bind_equal (rel-need L (subst (λ o. OptionRel (◌≡◌) (same_reference v a) o) (references-both L (value-more L l q) e) (equal-option _))) λ j l' same. rel-ret _ _ bool

  object_entries-both : {k : ℕ} {v w : Value} {vs ws : List Value} → ValueRel R k v w → Values R k vs ws → EntriesRel R k (object_entries v vs) (object_entries w ws)
  object_entries-both q qs = entry (rel-identity q qs) (entry (rel-ret _ _ null) last)

  pub rel-object_member : {k : ℕ} {v w : Value} {vs ws : List Value} (signature : List ℕ) → ValueRel R k v w → Values R k vs ws →
      Rel R k (ValueRel R) (object_member signature v vs) (object_member signature w ws)
  unfolding object_member
  rel-object_member signature q qs = rel-entry_of signature (object_entries-both q qs) (rel-wrong L)

  rel-with_message : {k : ℕ} {v w : Value} {vs ws : List Value} (program : CoreProgram) → ValueRel R k v w → Values R k vs ws →
      Rel R k (ValueRel R) (with_message program v vs) (with_message program w ws)
  unfolding with_message
  rel-with_message program q qs = bind_value (rel-argument L qs 0) λ i l a b e. rel-write_field L program _ kept (value-more L l q) e

  throwable_entries-both : {k : ℕ} {v w : Value} {vs ws : List Value} (program : CoreProgram) → ValueRel R k v w → Values R k vs ws →
      EntriesRel R k (throwable_entries program v vs) (throwable_entries program w ws)
  throwable_entries-both program q qs =
      entry (rel-read_field L program _ kept q) (entry (rel-read_field L program _ kept q) (entry (rel-ret _ _ null) (entry (rel-with_message program q qs) last)))

  pub rel-throwable_member : {k : ℕ} {v w : Value} {vs ws : List Value} (program : CoreProgram) (signature : List ℕ) → ValueRel R k v w → Values R k vs ws →
      Rel R k (ValueRel R) (throwable_member program signature v vs) (throwable_member program signature w ws)
  unfolding throwable_member
  rel-throwable_member program signature q qs = rel-entry_of signature (throwable_entries-both program q qs) (rel-wrong L)

  rel-new_row : {k : ℕ} {vs ws : List Value} (program : CoreProgram) (class : ClassId) → Values R k vs ws → Rel R k (ValueRel R) (new_row program class vs) (new_row program class ws)
  unfolding new_row
  rel-new_row program class qs = rel-bind {P = Values R} (rel-elements_argument L program qs 0) λ i l vs ws q.
      seq_end (subst (λ n. Rel R i Equal (charge (length vs)) (charge n)) (length-both q) (rel-charge L (length vs))) λ j l'.
      bind_pair (rel-new_object L (row (values-more L l' q))) λ h l'' o o' p. rel-ret _ _ (ref p)

  rel-value_at : {k : ℕ} {o o' : ObjId} {vs ws : List Value} (program : CoreProgram) → Paired R k o o' → (count : ℕ) → Values R k vs ws →
      Rel R k (ValueRel R) (value_at program o count vs) (value_at program o' count ws)
  unfolding value_at
  rel-value_at program p count qs = bind_value (rel-argument L qs 0) λ i l v w q. bind_equal (rel-place_of L program count q) λ j l' at. rel-get_slot L at (paired-more L (omega arith) p)

  static_entries-both : {k : ℕ} {vs ws : List Value} (program : CoreProgram) (class : ClassId) → Values R k vs ws → EntriesRel R k (static_entries program class vs) (static_entries program class ws)
  static_entries-both program class qs = entry (rel-new_row program class qs) (entry (rel-new_row program class qs) (entry (rel-new_row program class qs) last))

  entries-both : {k : ℕ} {o o' : ObjId} {vs ws : List Value} (program : CoreProgram) → Paired R k o o' → (count : ℕ) → Values R k vs ws →
      EntriesRel R k (entries program o count vs) (entries program o' count ws)
  entries-both program p count qs = entry (rel-value_at program p count qs) (entry (rel-ret _ _ int) last)

  rel-on_receiver : {k : ℕ} {v w : Value} {vs ws : List Value} (program : CoreProgram) (signature : List ℕ) → ValueRel R k v w → Values R k vs ws →
      Rel R k (ValueRel R) (on_receiver program signature v vs) (on_receiver program signature w ws)
  rel-on_receiver program signature q qs = bind_pair (rel-deref L program q) λ i l o o' p. bind_equal (rel-get_count L p) λ j l' count.
      rel-entry_of signature (entries-both program (paired-more L l' p) count (values-more L (omega arith) qs)) (rel-wrong L)

  pub rel-row_member : {k : ℕ} {v w : Value} {vs ws : List Value} (program : CoreProgram) (class : ClassId) (signature : List ℕ) → ValueRel R k v w → Values R k vs ws →
      Rel R k (ValueRel R) (row_member program class signature v vs) (row_member program class signature w ws)
  unfolding row_member
  rel-row_member program class signature q qs = rel-entry_of signature (static_entries-both program class qs) (rel-on_receiver program signature q qs)
