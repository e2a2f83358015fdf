-- One lemma for each step that is made of others.
use Rattle.std.proofs.Common.{ℕ, List, length, Option, Some, None, refl, subst, arith}
use Rattle.je_core.specs.declared.types.ClassId.{ClassId}
use Rattle.je_core.specs.declared.types.Ty.{Ty}
use Rattle.je_core.specs.declared.value.ObjId.{ObjId}
use Rattle.je_core.specs.declared.value.Value.{Value}
use Rattle.je_core.specs.declared.value.Value.TheVariants as value
use Rattle.je_core.specs.declared.expr.BinOp.{BinOp}
use Rattle.je_core.specs.declared.expr.UnOp.{UnOp}
use Rattle.je_core.specs.Core.{CoreProgram}
use Rattle.je_java.specs.Equality.{operated}
use Rattle.je_java.specs.Compound.{placed_outcome, update_outcome}
use Rattle.je_classes.specs.Hierarchy.{class_at}
use Rattle.je_classes.specs.Slots.{slot_fields}
use Rattle.je_java.specs.Steps.{Computation, charge, constant, make, make_text, raise, or_raise, deref, throw_value, computed, binary, updated, unary, converted_in, convert, is_instance, cast, admit, get_receiving_class, branch, read_field, write_field, read_static, write_static, read_text}
use Rattle.je_arith.specs.declared.outcome.Outcome.{Outcome}
use Rattle.je_arith.specs.declared.outcome.Outcome.TheVariants.{Gives, ByZero, Unfit}
use Rattle.je_arith.specs.Operators as operators
use Rattle.je_java.proofs.Plain.{PlainOutcome, operated-plain, unary-plain, converted-plain, update-plain}
use Rattle.je_java.proofs.Pairs.{Parts, OptionRel, Paired, ValueRel, bool, byte, short, char, int, long, null, ref, instance, text, Rel, Laws, Equal, Values, length-both}
use Rattle.je_java.proofs.Combinators.{paired-more, value-more, values-more, rel-ret, rel-bind, rel-wrong, rel-throw, rel-need, equal-option, rel-if, bind_pair, bind_equal, seq_value, seq_end}
use Rattle.je_java.proofs.Outcomes.{fresh-both, plain-both, operated-both, compound-both, plain-option, unary-both, converted-both}
use Rattle.je_java.proofs.StepsRelated.{rel-charge, rel-get_type, rel-get_slot, rel-put_slot, rel-get_static, rel-put_static, rel-new_object}

module _ {R : Parts} (L : Laws R) where
  pub rel-constant : {k : ℕ} (v : Value) → Rel R k (ValueRel R) (constant v) (constant v)
  unfolding constant
  rel-constant (value.Bool b) = rel-ret _ _ bool
  rel-constant (value.Byte x) = rel-ret _ _ byte
  rel-constant (value.Short x) = rel-ret _ _ short
  rel-constant (value.Char n) = rel-ret _ _ char
  rel-constant (value.Int x) = rel-ret _ _ int
  rel-constant (value.Long x) = rel-ret _ _ long
  rel-constant value.Null = rel-ret _ _ null
  rel-constant (value.Ref o) = rel-wrong L

  pub rel-make : {k : ℕ} (program : CoreProgram) (class : ClassId) → Rel R k (Paired R) (make program class) (make program class)
  unfolding make
  rel-make program class = rel-bind {P = Values R} (rel-need L (fresh-both (slot_fields program (Some class)) (class_at program class))) λ i l vs ws q.
      seq_end (subst (λ n. Rel R i Equal (charge (length vs)) (charge n)) (length-both q) (rel-charge L (length vs))) λ j l'. rel-new_object L (instance (values-more L l' q))

  pub rel-make_text : {k : ℕ} (units : List ℕ) → Rel R k (Paired R) (make_text units) (make_text units)
  unfolding make_text
  rel-make_text units = seq_end (rel-charge L (length units)) λ i l. rel-new_object L text

  pub rel-raise : {A : Type 0} {Q : ℕ → A → A → Type 0} {k : ℕ} (program : CoreProgram) (class : ClassId) → Rel R k Q (raise program class) (raise program class)
  unfolding raise
  rel-raise program class = bind_pair (rel-make program class) λ i l o o' p. rel-throw p

  pub rel-or_raise : {A : Type 0} {k : ℕ} (program : CoreProgram) (class : ClassId) (o : Option A) → Rel R k Equal (or_raise program class o) (or_raise program class o)
  rel-or_raise program class None = rel-raise program class
  rel-or_raise program class (Some a) = rel-ret _ _ refl

  pub rel-deref : {k : ℕ} {v w : Value} (program : CoreProgram) → ValueRel R k v w → Rel R k (Paired R) (deref program v) (deref program w)
  unfolding deref
  rel-deref program bool = rel-wrong L
  rel-deref program byte = rel-wrong L
  rel-deref program short = rel-wrong L
  rel-deref program char = rel-wrong L
  rel-deref program int = rel-wrong L
  rel-deref program long = rel-wrong L
  rel-deref program null = rel-raise program _
  rel-deref program (ref p) = rel-ret _ _ p

  pub rel-throw_value : {k : ℕ} {v w : Value} (program : CoreProgram) → ValueRel R k v w → Rel R k Equal (throw_value program v) (throw_value program w)
  unfolding throw_value
  rel-throw_value program q = bind_pair (rel-deref program q) λ i l o o' p. rel-throw p

  rel-computed : {k : ℕ} (program : CoreProgram) (outcome : Outcome) → PlainOutcome outcome → Rel R k (ValueRel R) (computed program outcome) (computed program outcome)
  rel-computed program (Gives v) h = rel-ret v v (plain-both v h)
  rel-computed program ByZero h = rel-raise program _
  rel-computed program Unfit h = rel-wrong L

  pub rel-binary : {k : ℕ} {v v' w w' : Value} (program : CoreProgram) (op : BinOp) → ValueRel R k v v' → ValueRel R k w w' → Rel R k (ValueRel R) (binary program op v w) (binary program op v' w')
  unfolding binary
  rel-binary {k = k} {v = v} {w = w} program op q q' =
      subst (λ outcome. Rel R k (ValueRel R) (computed program (operated op v w)) (computed program outcome)) (operated-both L op q q')
      (rel-computed program (operated op v w) (operated-plain op v w))

  pub rel-unary : {k : ℕ} {v w : Value} (op : UnOp) → ValueRel R k v w → Rel R k (ValueRel R) (unary op v) (unary op w)
  unfolding unary
  rel-unary {k = k} {v = v} op q = rel-need L (subst (λ o. OptionRel (ValueRel R k) (operators.unary op v) o) (unary-both op q) (plain-option _ (unary-plain op v)))

  pub rel-convert : {k : ℕ} {v w : Value} (ty : Ty) → ValueRel R k v w → Rel R k (ValueRel R) (convert ty v) (convert ty w)
  unfolding convert
  rel-convert {k = k} {v = v} ty q = rel-need L (subst (λ o. OptionRel (ValueRel R k) (converted_in ty.dims ty.base v) o) (converted-both ty.dims ty.base q) (plain-option _ (converted-plain ty.dims ty.base v)))

  pub rel-updated : {k : ℕ} {v v' w w' : Value} (program : CoreProgram) (ty : Ty) (op : BinOp) → ValueRel R k v v' → ValueRel R k w w' →
      Rel R k (ValueRel R) (updated program ty op v w) (updated program ty op v' w')
  unfolding updated
  rel-updated {k = k} {v = v} {w = w} program ty op q q' =
      subst (λ outcome. Rel R k (ValueRel R) (computed program (update_outcome ty op v w)) (computed program (placed_outcome ty outcome))) (compound-both op q q')
      (rel-computed program (update_outcome ty op v w) (update-plain ty op v w))

  pub rel-is_instance : {k : ℕ} {v w : Value} (program : CoreProgram) (ty : Ty) → ValueRel R k v w → Rel R k (ValueRel R) (is_instance program ty v) (is_instance program ty w)
  unfolding is_instance
  rel-is_instance program ty bool = rel-wrong L
  rel-is_instance program ty byte = rel-wrong L
  rel-is_instance program ty short = rel-wrong L
  rel-is_instance program ty char = rel-wrong L
  rel-is_instance program ty int = rel-wrong L
  rel-is_instance program ty long = rel-wrong L
  rel-is_instance program ty null = rel-ret _ _ bool
  rel-is_instance program ty (ref p) = bind_equal (rel-get_type L p) λ i l own. rel-ret _ _ bool

  pub rel-cast : {k : ℕ} {v w : Value} (program : CoreProgram) (ty : Ty) → ValueRel R k v w → Rel R k (ValueRel R) (cast program ty v) (cast program ty w)
  unfolding cast
  rel-cast program ty bool = rel-wrong L
  rel-cast program ty byte = rel-wrong L
  rel-cast program ty short = rel-wrong L
  rel-cast program ty char = rel-wrong L
  rel-cast program ty int = rel-wrong L
  rel-cast program ty long = rel-wrong L
  rel-cast program ty null = rel-ret _ _ null
  rel-cast program ty (ref p) = bind_equal (rel-get_type L p) λ i l own. rel-if _ (rel-ret _ _ (ref (paired-more L l p))) (rel-raise program _)

  pub rel-admit : {k : ℕ} {v w : Value} (program : CoreProgram) (ty : Ty) → ValueRel R k v w → Rel R k Equal (admit program ty v) (admit program ty w)
  unfolding admit
  rel-admit program ty bool = rel-ret _ _ refl
  rel-admit program ty byte = rel-ret _ _ refl
  rel-admit program ty short = rel-ret _ _ refl
  rel-admit program ty char = rel-ret _ _ refl
  rel-admit program ty int = rel-ret _ _ refl
  rel-admit program ty long = rel-ret _ _ refl
  rel-admit program ty null = rel-ret _ _ refl
  rel-admit program ty (ref p) = seq_value (rel-cast program ty (ref p)) λ i l. rel-ret _ _ refl

  pub rel-get_receiving_class : {k : ℕ} {o o' : ObjId} → Paired R k o o' → Rel R k Equal (get_receiving_class o) (get_receiving_class o')
  unfolding get_receiving_class
  rel-get_receiving_class p = bind_equal (rel-get_type L p) λ i l own. rel-ret _ _ refl

  pub rel-branch : {A : Type 0} {Q : ℕ → A → A → Type 0} {k : ℕ} {v w : Value} {m n m' n' : Computation A} → ValueRel R k v w → Rel R k Q m n → Rel R k Q m' n' → Rel R k Q (branch v m m') (branch w n n')
  unfolding branch
  rel-branch (bool {b = b}) p q = rel-if b p q
  rel-branch byte p q = rel-wrong L
  rel-branch short p q = rel-wrong L
  rel-branch char p q = rel-wrong L
  rel-branch int p q = rel-wrong L
  rel-branch long p q = rel-wrong L
  rel-branch null p q = rel-wrong L
  rel-branch (ref r) p q = rel-wrong L

  pub rel-read_field : {k : ℕ} {v w : Value} (program : CoreProgram) (class : ClassId) (field : ℕ) → ValueRel R k v w → Rel R k (ValueRel R) (read_field program class field v) (read_field program class field w)
  unfolding read_field
  rel-read_field program class field q = bind_pair (rel-deref program q) λ i l o o' p. bind_equal (rel-need L (equal-option _)) λ j l' slot. rel-get_slot L slot (paired-more L l' p)

  pub rel-write_field : {k : ℕ} {v w v' w' : Value} (program : CoreProgram) (class : ClassId) (field : ℕ) → ValueRel R k v w → ValueRel R k v' w' →
      Rel R k (ValueRel R) (write_field program class field v v') (write_field program class field w w')
  unfolding write_field
  rel-write_field program class field q q' = bind_pair (rel-deref program q) λ i l o o' p. bind_equal (rel-need L (equal-option _)) λ j l' slot. rel-put_slot L slot (paired-more L l' p) (value-more L (omega arith) q')

  pub rel-read_static : {k : ℕ} (program : CoreProgram) (class : ClassId) (field : ℕ) → Rel R k (ValueRel R) (read_static program class field) (read_static program class field)
  unfolding read_static
  rel-read_static program class field = bind_equal (rel-need L (equal-option _)) λ i l at. rel-get_static L at

  pub rel-write_static : {k : ℕ} {v w : Value} (program : CoreProgram) (class : ClassId) (field : ℕ) → ValueRel R k v w →
      Rel R k (ValueRel R) (write_static program class field v) (write_static program class field w)
  unfolding write_static
  rel-write_static program class field q = bind_equal (rel-need L (equal-option _)) λ i l at. rel-put_static L at (value-more L l q)

  pub rel-read_text : {k : ℕ} (program : CoreProgram) (units : List ℕ) → Rel R k (ValueRel R) (read_text program units) (read_text program units)
  unfolding read_text
  rel-read_text program units = bind_equal (rel-need L (equal-option _)) λ i l at. rel-get_static L at
