-- One lemma for each member of StringBuilder.
use Rattle.std.proofs.Common.{◌≡◌, ℕ, ◌≤◌, List, length, Option, refl, arith}
use Rattle.je_core.specs.declared.value.ObjId.{ObjId}
use Rattle.je_core.specs.declared.value.Value.{Value}
use Rattle.je_core.specs.Core.{CoreProgram}
use Rattle.je_java.specs.Steps.{Computation}
use Rattle.je_java.specs.library.Builders.{new_builder, builder_of_text, append, append_text, append_truth, append_char, append_int, append_long, rewritten, delete_char_at, set_char_at, static_entries, entries, on_receiver, builder_member}
use Rattle.je_java.proofs.Pairs.{Parts, Paired, ValueRel, null, int, ref, builder, Rel, Laws, Equal, Values}
use Rattle.je_java.proofs.Combinators.{paired-more, value-more, values-more, rel-ret, rel-wrong, bind_pair, bind_equal, seq_end}
use Rattle.je_java.proofs.StepsRelated.{rel-charge, rel-get_units, rel-put_units, rel-new_object}
use Rattle.je_java.proofs.MadeSteps.{rel-deref, rel-or_raise}
use Rattle.je_java.proofs.library.ArgumentSteps.{rel-int_argument, rel-long_argument, rel-char_argument, rel-truth_argument, rel-text_argument, rel-text_or_null, EntriesRel, last, entry, rel-entry_of}
use Rattle.je_java.proofs.library.StringSteps.{rel-new_text, rel-char_at}

module _ {R : Parts} (L : Laws R) where
  rel-new_builder : {k : ℕ} (units : List ℕ) → Rel R k (ValueRel R) (new_builder units) (new_builder units)
  unfolding new_builder
  rel-new_builder units = seq_end (rel-charge L (length units)) λ i l. bind_pair (rel-new_object L builder) λ j l' o o' p. rel-ret _ _ (ref p)

  rel-builder_of_text : {k : ℕ} {vs ws : List Value} (program : CoreProgram) → Values R k vs ws → Rel R k (ValueRel R) (builder_of_text program vs) (builder_of_text program ws)
  unfolding builder_of_text
  rel-builder_of_text program qs = bind_equal (rel-text_argument L program qs 0) λ i l units. rel-new_builder units

  rel-append : {k : ℕ} {o o' : ObjId} (program : CoreProgram) → Paired R k o o' → (units text : List ℕ) → Rel R k (ValueRel R) (append program o units text) (append program o' units text)
  unfolding append
  rel-append program p units text = bind_equal (rel-or_raise L program _ _) λ i l new. seq_end (rel-charge L (length text)) λ j l'.
      seq_end (rel-put_units L new (paired-more L (omega arith) p)) λ h l''. rel-ret _ _ (ref (paired-more L (omega arith) p))

  rel-append_text : {k : ℕ} {o o' : ObjId} {vs ws : List Value} (program : CoreProgram) → Paired R k o o' → (units : List ℕ) → Values R k vs ws →
      Rel R k (ValueRel R) (append_text program o units vs) (append_text program o' units ws)
  unfolding append_text
  rel-append_text program p units qs = bind_equal (rel-text_or_null L qs 0) λ i l text. rel-append program (paired-more L l p) units _

  rel-append_truth : {k : ℕ} {o o' : ObjId} {vs ws : List Value} (program : CoreProgram) → Paired R k o o' → (units : List ℕ) → Values R k vs ws →
      Rel R k (ValueRel R) (append_truth program o units vs) (append_truth program o' units ws)
  unfolding append_truth
  rel-append_truth program p units qs = bind_equal (rel-truth_argument L qs 0) λ i l holds. rel-append program (paired-more L l p) units _

  rel-append_char : {k : ℕ} {o o' : ObjId} {vs ws : List Value} (program : CoreProgram) → Paired R k o o' → (units : List ℕ) → Values R k vs ws →
      Rel R k (ValueRel R) (append_char program o units vs) (append_char program o' units ws)
  unfolding append_char
  rel-append_char program p units qs = bind_equal (rel-char_argument L qs 0) λ i l unit. rel-append program (paired-more L l p) units _

  rel-append_int : {k : ℕ} {o o' : ObjId} {vs ws : List Value} (program : CoreProgram) → Paired R k o o' → (units : List ℕ) → Values R k vs ws →
      Rel R k (ValueRel R) (append_int program o units vs) (append_int program o' units ws)
  unfolding append_int
  rel-append_int program p units qs = bind_equal (rel-int_argument L qs 0) λ i l number. rel-append program (paired-more L l p) units _

  rel-append_long : {k : ℕ} {o o' : ObjId} {vs ws : List Value} (program : CoreProgram) → Paired R k o o' → (units : List ℕ) → Values R k vs ws →
      Rel R k (ValueRel R) (append_long program o units vs) (append_long program o' units ws)
  unfolding append_long
  rel-append_long program p units qs = bind_equal (rel-long_argument L qs 0) λ i l number. rel-append program (paired-more L l p) units _

  rel-rewritten : {k : ℕ} {o o' : ObjId} {v w : Value} (program : CoreProgram) → Paired R k o o' → (changed : Option (List ℕ)) → ValueRel R k v w →
      Rel R k (ValueRel R) (rewritten program o changed v) (rewritten program o' changed w)
  rel-rewritten program p changed q = bind_equal (rel-or_raise L program _ changed) λ i l new. seq_end (rel-put_units L new (paired-more L l p)) λ j l'. rel-ret _ _ (value-more L (omega arith) q)

  rel-delete_char_at : {k : ℕ} {o o' : ObjId} {vs ws : List Value} (program : CoreProgram) → Paired R k o o' → (units : List ℕ) → Values R k vs ws →
      Rel R k (ValueRel R) (delete_char_at program o units vs) (delete_char_at program o' units ws)
  unfolding delete_char_at
  rel-delete_char_at program p units qs = bind_equal (rel-int_argument L qs 0) λ i l place. rel-rewritten program (paired-more L l p) _ (ref (paired-more L l p))

  rel-set_char_at : {k : ℕ} {o o' : ObjId} {vs ws : List Value} (program : CoreProgram) → Paired R k o o' → (units : List ℕ) → Values R k vs ws →
      Rel R k (ValueRel R) (set_char_at program o units vs) (set_char_at program o' units ws)
  unfolding set_char_at
  rel-set_char_at program p units qs = bind_equal (rel-int_argument L qs 0) λ i l place. bind_equal (rel-char_argument L (values-more L l qs) 1) λ j l' unit.
      rel-rewritten program (paired-more L (omega arith) p) _ null

  static_entries-both : {k : ℕ} {vs ws : List Value} (program : CoreProgram) → Values R k vs ws → EntriesRel R k (static_entries program vs) (static_entries program ws)
  static_entries-both program qs = entry (rel-new_builder _) (entry (rel-builder_of_text program qs) last)

  entries-both : {k : ℕ} {o o' : ObjId} {vs ws : List Value} (program : CoreProgram) (units : List ℕ) → Paired R k o o' → Values R k vs ws →
      EntriesRel R k (entries program o units vs) (entries program o' units ws)
  entries-both program units p qs =
      entry (rel-append_text program p units qs) (entry (rel-append_truth program p units qs) (entry (rel-append_char program p units qs)
      (entry (rel-append_int program p units qs) (entry (rel-append_long program p units qs) (entry (rel-char_at L program units qs)
      (entry (rel-delete_char_at program p units qs) (entry (rel-ret _ _ int) (entry (rel-set_char_at program p units qs) (entry (rel-new_text L units) last)))))))))

  rel-on_receiver : {k : ℕ} {v w : Value} {vs ws : List Value} (program : CoreProgram) (signature : List ℕ) → ValueRel R k v w → Values R k vs ws →
      Rel R k (ValueRel R) (on_receiver program signature v vs) (on_receiver program signature w ws)
  rel-on_receiver program signature q qs = bind_pair (rel-deref L program q) λ i l o o' p. bind_equal (rel-get_units L p) λ j l' units.
      rel-entry_of signature (entries-both program units (paired-more L l' p) (values-more L (omega arith) qs)) (rel-wrong L)

  pub rel-builder_member : {k : ℕ} {v w : Value} {vs ws : List Value} (program : CoreProgram) (signature : List ℕ) → ValueRel R k v w → Values R k vs ws →
      Rel R k (ValueRel R) (builder_member program signature v vs) (builder_member program signature w ws)
  unfolding builder_member
  rel-builder_member program signature q qs = rel-entry_of signature (static_entries-both program qs) (rel-on_receiver program signature q qs)
