-- Two runs in which an object goes together with itself alone.
use Rattle.std.proofs.Common.{◌≡◌, ℕ, List, [], ◌∷◌, Option, Some, None, refl, ap}
use Rattle.je_core.specs.declared.object.Obj.{Obj}
use Rattle.je_core.specs.declared.object.Obj.TheVariants.{Instance, Array, Row}
use Rattle.je_core.specs.declared.value.ObjId.{ObjId}
use Rattle.je_core.specs.declared.value.Value.{Value}
use Rattle.je_core.specs.declared.value.Value.TheVariants as value
use Rattle.je_java.proofs.Pairs.{Parts, ListRel, nil, cons, OptionRel, none, some, Paired, ValueRel, bool, byte, short, char, int, long, null, ref, ObjectRel, instance, array, text, builder, row, cap}

-- what goes together is one
module _ {R : Parts} (alike : (k a b : ℕ) → R.Pair k a b → a ≡ b) where
  pub paired-alike : {k : ℕ} {o o' : ObjId} → Paired R k o o' → o ≡ o'
  paired-alike p = let e = alike _ _ _ p.is in λ i. record { 0 = e i }

  pub value-alike : {k : ℕ} {v w : Value} → ValueRel R k v w → v ≡ w
  value-alike bool = refl
  value-alike byte = refl
  value-alike short = refl
  value-alike char = refl
  value-alike int = refl
  value-alike long = refl
  value-alike null = refl
  value-alike (ref p) = ap value.Ref (paired-alike p)

  pub values-alike : {k : ℕ} {vs ws : List Value} → ListRel (ValueRel R k) vs ws → vs ≡ ws
  values-alike nil = refl
  values-alike (cons q qs) = let h = values-alike qs in let e = value-alike q in λ i. e i ∷ h i

  pub object-alike : {k : ℕ} {o o' : Obj} → ObjectRel R k o o' → o ≡ o'
  object-alike (instance {class = class} q) = ap (Instance class) (values-alike q)
  object-alike (array {element = element} q) = ap (Array element) (values-alike q)
  object-alike text = refl
  object-alike builder = refl
  object-alike (row {class = class} q) = ap (Row class) (values-alike q)
  object-alike cap = refl

-- what is one goes together
module _ {R : Parts} (itself : (k a : ℕ) → R.Pair k a a) where
  pub value-itself : {k : ℕ} (v : Value) → ValueRel R k v v
  value-itself (value.Bool b) = bool
  value-itself (value.Byte x) = byte
  value-itself (value.Short x) = short
  value-itself (value.Char n) = char
  value-itself (value.Int x) = int
  value-itself (value.Long x) = long
  value-itself value.Null = null
  value-itself (value.Ref o) = ref (record { is = itself _ o.0 })

  pub values-itself : {k : ℕ} (vs : List Value) → ListRel (ValueRel R k) vs vs
  values-itself [] = nil
  values-itself (v ∷ vs) = cons (value-itself v) (values-itself vs)

  pub option-itself : {k : ℕ} (o : Option Value) → OptionRel (ValueRel R k) o o
  option-itself None = none
  option-itself (Some v) = some (value-itself v)
