-- What a member of the library does keeps what goes together.
use Rattle.std.proofs.Common.{◌≡◌, ℕ, List, [], length, refl, arith}
use Rattle.std.specs.Prelude.{unwrap_or, ◌*◌}
use Rattle.je_core.specs.declared.types.ClassId.{ClassId}
use Rattle.je_core.specs.declared.value.Value.{Value}
use Rattle.je_core.specs.Core.{CoreProgram}
use Rattle.je_table.specs.declared.classes.LibraryClass.{LibraryClass}
use Rattle.je_table.specs.declared.classes.LibraryClass.TheVariants as class
use Rattle.je_table.specs.declared.members.CostKind.{CostKind}
use Rattle.je_table.specs.declared.members.CostKind.TheVariants as cost
use Rattle.je_table.specs.Library.{signature_of}
use Rattle.je_java.specs.LibraryMembers.{receiver_length, pay, member_of_class, run_library}
use Rattle.je_java.proofs.Pairs.{Parts, ValueRel, Rel, Laws, Equal, Values}
use Rattle.je_java.proofs.Combinators.{value-more, values-more, rel-ret, rel-need, equal-option, bind_pair, bind_equal, seq_end}
use Rattle.je_java.proofs.StepsRelated.{rel-charge, rel-get_units}
use Rattle.je_java.proofs.MadeSteps.{rel-deref}
use Rattle.je_java.proofs.library.ArgumentSteps.{rel-text_or_null}
use Rattle.je_java.proofs.library.BuilderSteps.{rel-builder_member}
use Rattle.je_java.proofs.library.NumberSteps.{rel-integer_member, rel-long_member, rel-math_member}
use Rattle.je_java.proofs.library.ObjectSteps.{rel-object_member, rel-throwable_member, rel-row_member}
use Rattle.je_java.proofs.library.StringSteps.{rel-string_member}

module _ {R : Parts} (L : Laws R) where
  rel-receiver_length : {k : ℕ} {v w : Value} (program : CoreProgram) → ValueRel R k v w → Rel R k Equal (receiver_length program v) (receiver_length program w)
  rel-receiver_length program q = bind_pair (rel-deref L program q) λ i l o o' p. bind_equal (rel-get_units L p) λ j l' units. rel-ret _ _ refl

  rel-pay : {k : ℕ} {v w : Value} {vs ws : List Value} (kind : CostKind) (program : CoreProgram) → ValueRel R k v w → Values R k vs ws → Rel R k Equal (pay kind program v vs) (pay kind program w ws)
  rel-pay cost.Plain program q qs = rel-ret _ _ refl
  rel-pay cost.Result program q qs = rel-ret _ _ refl
  rel-pay cost.Receiver program q qs = bind_equal (rel-receiver_length program q) λ i l count. rel-charge L count
  rel-pay cost.Product program q qs = bind_equal (rel-receiver_length program q) λ i l count. bind_equal (rel-text_or_null L (values-more L l qs) 0) λ j l' part.
      rel-charge L (count * length (unwrap_or part []))

  rel-member_of_class : {k : ℕ} {v w : Value} {vs ws : List Value} (c : LibraryClass) (program : CoreProgram) (own : ClassId) (signature : List ℕ) → ValueRel R k v w → Values R k vs ws →
      Rel R k (ValueRel R) (member_of_class c program own signature v vs) (member_of_class c program own signature w ws)
  rel-member_of_class class.Object program own signature q qs = rel-object_member L signature q qs
  rel-member_of_class class.Token program own signature q qs = rel-object_member L signature q qs
  rel-member_of_class class.String program own signature q qs = rel-string_member L program signature q qs
  rel-member_of_class class.StringBuilder program own signature q qs = rel-builder_member L program signature q qs
  rel-member_of_class class.Integer program own signature q qs = rel-integer_member L program signature qs
  rel-member_of_class class.Long program own signature q qs = rel-long_member L program signature qs
  rel-member_of_class class.Math program own signature q qs = rel-math_member L signature qs
  rel-member_of_class class.ConstRow program own signature q qs = rel-row_member L program own signature q qs
  rel-member_of_class class.IntRow program own signature q qs = rel-row_member L program own signature q qs
  rel-member_of_class class.TextRow program own signature q qs = rel-row_member L program own signature q qs
  rel-member_of_class _ program own signature q qs = rel-throwable_member L program signature q qs

  pub rel-run_library : {k : ℕ} {v w : Value} {vs ws : List Value} (program : CoreProgram) (own : ClassId) (at : ℕ) → ValueRel R k v w → Values R k vs ws →
      Rel R k (ValueRel R) (run_library program own at v vs) (run_library program own at w ws)
  unfolding run_library
  rel-run_library program own at q qs = bind_equal (rel-need L (equal-option _)) λ i l row. seq_end (rel-pay row.cost program (value-more L l q) (values-more L l qs)) λ j l'.
      rel-member_of_class row.class program own (signature_of row) (value-more L (omega arith) q) (values-more L (omega arith) qs)
