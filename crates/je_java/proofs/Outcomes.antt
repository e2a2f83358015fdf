-- Operators, conversions and defaults on values that go together.
use Rattle.std.proofs.Common.{◌≡◌, ℕ, zero, suc, List, [], ◌∷◌, length, map, drop, Option, Some, None, refl, sym, ◌∙◌, subst, ap}
use Rattle.std.specs.Prelude.{Bool, true, false}
use Rattle.je_core.specs.Defaults.{default_of, default_in, default_of_base}
use Rattle.je_core.specs.declared.types.Base.{Base}
use Rattle.je_core.specs.declared.types.Base.TheVariants as base
use Rattle.je_core.specs.declared.types.Ty.{Ty}
use Rattle.je_core.specs.declared.value.ObjId.{ObjId}
use Rattle.je_core.specs.declared.value.Value.{Value}
use Rattle.je_core.specs.declared.value.Value.TheVariants as value
use Rattle.je_core.specs.declared.program.Local.{Local as LocalOf}
use Rattle.je_core.specs.declared.expr.BinOp.{BinOp}
use Rattle.je_core.specs.declared.expr.UnOp.{UnOp}
use Rattle.je_core.specs.declared.expr.UnOp.TheVariants.{Minus, Not, Tilde}
use Rattle.je_arith.specs.Conversion.{number_of, as_base_if}
use Rattle.je_core.specs.Core.{CoreField, CoreMethod, CoreClass}
use Rattle.je_java.specs.Equality.{same_reference, on_references, operated}
use Rattle.je_java.specs.Compound.{promoted, joined, compound}
use Rattle.je_classes.specs.Slots.{begin_as}
use Rattle.je_java.specs.Classes.{locals_for}
use Rattle.je_java.specs.Steps.{converted_in}
use Rattle.je_arith.specs.declared.outcome.Outcome.TheVariants.{Unfit}
use Rattle.je_arith.specs.Operators as operators
use Rattle.je_java.proofs.Plain.{IsPlain, PlainOption}
use Rattle.je_java.specs.Meaning.{given, reply_in}
use Rattle.je_java.proofs.Pairs.{Parts, nil, cons, OptionRel, none, some, ValueRel, bool, byte, short, char, int, long, null, ref, ReplyRel, Laws, Values, append-both, length-both}

-- the other operators see no reference
right-ref : (op : BinOp) (v : Value) (o : ObjId) → operators.binary op v (value.Ref o) ≡ Unfit
right-ref op (value.Bool b) o = refl
right-ref op (value.Int x) o = refl
right-ref op (value.Long x) o = refl
right-ref op _ o = refl

joined-binary : (op : BinOp) (v : Value) (o : ObjId) → joined op v (value.Ref o) ≡ Unfit
joined-binary op (value.Bool b) o = refl
joined-binary op (value.Int x) o = refl
joined-binary op (value.Long x) o = refl
joined-binary op _ o = refl

on-ref : (op : UnOp) (o : ObjId) → operators.unary op (value.Ref o) ≡ None
on-ref Minus o = refl
on-ref Not o = refl
on-ref Tilde o = refl

module _ {R : Parts} where
  default-base : {k : ℕ} (b : Base) → ValueRel R k (default_of_base b) (default_of_base b)
  default-base base.Bool = bool
  default-base base.Byte = byte
  default-base base.Short = short
  default-base base.Char = char
  default-base base.Int = int
  default-base base.Long = long
  default-base base.Null = null
  default-base base.Void = null
  default-base (base.Class c) = null

  default-in : {k : ℕ} (dims : ℕ) (b : Base) → ValueRel R k (default_in dims b) (default_in dims b)
  default-in zero b = default-base b
  default-in (suc dims) b = null

  pub default-both : {k : ℕ} (ty : Ty) → ValueRel R k (default_of ty) (default_of ty)
  default-both ty = default-in ty.dims ty.base

  pub reply-both : {k : ℕ} {v w : Value} (dims : ℕ) (b : Base) → ValueRel R k v w → ReplyRel R k (reply_in dims b v) (reply_in dims b w)
  reply-both zero base.Void q = none
  reply-both zero base.Bool q = some q
  reply-both zero base.Byte q = some q
  reply-both zero base.Short q = some q
  reply-both zero base.Char q = some q
  reply-both zero base.Int q = some q
  reply-both zero base.Long q = some q
  reply-both zero base.Null q = some q
  reply-both zero (base.Class c) q = some q
  reply-both (suc dims) b q = some q

  field-defaults : {k : ℕ} (fields : List CoreField) → Values R k (map (λ (field : CoreField). default_of field.ty) fields) (map (λ (field : CoreField). default_of field.ty) fields)
  field-defaults [] = nil
  field-defaults (field ∷ fields) = cons (default-both field.ty) (field-defaults fields)

  pub local-defaults : {k : ℕ} (locals : List LocalOf) → Values R k (map (λ (local : LocalOf). default_of local.ty) locals) (map (λ (local : LocalOf). default_of local.ty) locals)
  local-defaults [] = nil
  local-defaults (local ∷ locals) = cons (default-both local.ty) (local-defaults locals)

  pub fresh-both : {k : ℕ} (fields : List CoreField) (class : Option CoreClass) → OptionRel (Values R k) (begin_as fields class) (begin_as fields class)
  fresh-both fields None = none
  fresh-both fields (Some class) = some (field-defaults fields)

  pub plain-both : {k : ℕ} (v : Value) → IsPlain v → ValueRel R k v v
  plain-both (value.Bool b) h = bool
  plain-both (value.Byte x) h = byte
  plain-both (value.Short x) h = short
  plain-both (value.Char n) h = char
  plain-both (value.Int x) h = int
  plain-both (value.Long x) h = long
  plain-both value.Null h = null
  plain-both (value.Ref o) h = absurd h

  left-both : {k : ℕ} {v v' : Value} (op : BinOp) (w : Value) → ValueRel R k v v' → operators.binary op v w ≡ operators.binary op v' w
  left-both op w bool = refl
  left-both op w byte = refl
  left-both op w short = refl
  left-both op w char = refl
  left-both op w int = refl
  left-both op w long = refl
  left-both op w null = refl
  left-both op w (ref p) = refl

  right-both : {k : ℕ} {w w' : Value} (op : BinOp) (v : Value) → ValueRel R k w w' → operators.binary op v w ≡ operators.binary op v w'
  right-both op v bool = refl
  right-both op v byte = refl
  right-both op v short = refl
  right-both op v char = refl
  right-both op v int = refl
  right-both op v long = refl
  right-both op v null = refl
  right-both op v (ref {o = o} {o' = o'} p) = right-ref op v o ∙ sym (right-ref op v o')

  -- promotion sees no reference either
  promoted-both : {k : ℕ} {v w : Value} → ValueRel R k v w → ValueRel R k (promoted v) (promoted w)
  promoted-both bool = bool
  promoted-both byte = int
  promoted-both short = int
  promoted-both char = int
  promoted-both int = int
  promoted-both long = long
  promoted-both null = null
  promoted-both (ref p) = ref p

  joined-right : {k : ℕ} {w w' : Value} (op : BinOp) (v : Value) → ValueRel R k w w' → joined op v w ≡ joined op v w'
  joined-right op v bool = refl
  joined-right op v byte = refl
  joined-right op v short = refl
  joined-right op v char = refl
  joined-right op v int = refl
  joined-right op v long = refl
  joined-right op v null = refl
  joined-right op v (ref {o = o} {o' = o'} p) = joined-binary op v o ∙ sym (joined-binary op v o')

  joined-left : {k : ℕ} {v v' : Value} (op : BinOp) (w : Value) → ValueRel R k v v' → joined op v w ≡ joined op v' w
  joined-left op w bool = refl
  joined-left op w byte = refl
  joined-left op w short = refl
  joined-left op w char = refl
  joined-left op w int = refl
  joined-left op w long = refl
  joined-left op w null = refl
  joined-left op w (ref p) = refl

  pub compound-both : {k : ℕ} {v v' w w' : Value} (op : BinOp) → ValueRel R k v v' → ValueRel R k w w' → compound op v w ≡ compound op v' w'
  compound-both {v' = v'} {w = w} op q q' = joined-left op (promoted w) (promoted-both q) ∙ joined-right op (promoted v') (promoted-both q')

  pub plain-option : {k : ℕ} (o : Option Value) → PlainOption o → OptionRel (ValueRel R k) o o
  plain-option None h = none
  plain-option (Some v) h = some (plain-both v h)

  pub unary-both : {k : ℕ} {v w : Value} (op : UnOp) → ValueRel R k v w → operators.unary op v ≡ operators.unary op w
  unary-both op bool = refl
  unary-both op byte = refl
  unary-both op short = refl
  unary-both op char = refl
  unary-both op int = refl
  unary-both op long = refl
  unary-both op null = refl
  unary-both op (ref {o = o} {o' = o'} p) = on-ref op o ∙ sym (on-ref op o')

  pub number-both : {k : ℕ} {v w : Value} → ValueRel R k v w → number_of v ≡ number_of w
  number-both bool = refl
  number-both byte = refl
  number-both short = refl
  number-both char = refl
  number-both int = refl
  number-both long = refl
  number-both null = refl
  number-both (ref p) = refl

  pub converted-both : {k : ℕ} {v w : Value} (dims : ℕ) (b : Base) → ValueRel R k v w → converted_in dims b v ≡ converted_in dims b w
  converted-both zero b q = ap (as_base_if b) (number-both q)
  converted-both (suc dims) b q = refl

  pub given-both : {k : ℕ} {v w a b : Value} (gives_old : Bool) → ValueRel R k v w → ValueRel R k a b → ValueRel R k (given gives_old v a) (given gives_old w b)
  given-both true q e = q
  given-both false q e = e

  pub locals-both : {k : ℕ} {vs ws : List Value} (method : CoreMethod) → Values R k vs ws → Values R k (locals_for method vs) (locals_for method ws)
  locals-both {k = k} {vs = vs} {ws = ws} method q =
      append-both q (subst (λ n. Values R k (map (λ (local : LocalOf). default_of local.ty) (drop (length vs) method.locals)) (map (λ (local : LocalOf). default_of local.ty) (drop n method.locals))) (length-both q) (local-defaults _))

module _ {R : Parts} (L : Laws R) where
  pub references-both : {k : ℕ} {v v' w w' : Value} → ValueRel R k v v' → ValueRel R k w w' → same_reference v w ≡ same_reference v' w'
  references-both {k = k} (ref p) (ref q) = ap Some (L.references k _ _ _ _ p.is q.is)
  references-both (ref p) null = refl
  references-both (ref p) bool = refl
  references-both (ref p) byte = refl
  references-both (ref p) short = refl
  references-both (ref p) char = refl
  references-both (ref p) int = refl
  references-both (ref p) long = refl
  references-both null (ref q) = refl
  references-both null null = refl
  references-both null bool = refl
  references-both null byte = refl
  references-both null short = refl
  references-both null char = refl
  references-both null int = refl
  references-both null long = refl
  references-both bool q = refl
  references-both byte q = refl
  references-both short q = refl
  references-both char q = refl
  references-both int q = refl
  references-both long q = refl

  pub operated-both : {k : ℕ} {v v' w w' : Value} (op : BinOp) → ValueRel R k v v' → ValueRel R k w w' → operated op v w ≡ operated op v' w'
  operated-both {v' = v'} {w = w} op q q' =
      let same = references-both q q' in
      let outcome = left-both op w q ∙ right-both op v' q' in
      λ i. on_references op (same i) (outcome i)
