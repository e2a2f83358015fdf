-- Two runs side by side: which objects, values and states of theirs go together.
use Rattle.std.proofs.Common.{◌≡◌, ℕ, zero, suc, ◌≤◌, List, [], ◌∷◌, ◌++◌, length, Option, Some, None, refl, ap}
use Rattle.std.specs.Prelude.{ℤ, slice_get, slice_set, nat_eq, Bool}
use Rattle.je_base.specs.declared.span.NameId.{NameId}
use Rattle.je_core.specs.declared.object.Obj.{Obj}
use Rattle.je_core.specs.declared.object.Obj.TheVariants.{Instance, Array, Text, Builder, Row, Cap}
use Rattle.je_core.specs.declared.types.ClassId.{ClassId}
use Rattle.je_core.specs.declared.types.Ty.{Ty}
use Rattle.je_core.specs.declared.value.ObjId.{ObjId}
use Rattle.je_core.specs.declared.value.Value.{Value}
use Rattle.je_core.specs.declared.value.Value.TheVariants as value
use Rattle.je_java.specs.declared.call.Receiver.{Receiver}
use Rattle.je_java.specs.declared.call.Receiver.TheVariants as receiver
use Rattle.je_java.specs.World.{class_of, type_of, extent_of, count_of, slot_of, with_slot, units_of, held_by, with_units_at}
use Rattle.je_java.specs.Steps.{State, Own, Outside, Public, with_started, Answer, ThrownInStart, Spent, Wrong, Run, Exits, Computation}

-- two runs side by side: when which objects are paired, and which worlds, public parts, what stands outside, and answers
-- go together; time is a number, so far how many objects were made
pub record Parts : Type 1 where
  pub Pair : ℕ → ℕ → ℕ → Type 0
  pub Worlds : ℕ → List Obj → List Obj → Type 0
  pub Publics : Public → Public → Type 0
  pub Outsides : Outside → Outside → Type 0
  pub Answers : Answer → Answer → Type 0

pub data ListRel {A : Type 0} (Q : A → A → Type 0) : List A → List A → Type 0 where
  nil : ListRel Q [] []
  cons : {x y : A} {xs ys : List A} → Q x y → ListRel Q xs ys → ListRel Q (x ∷ xs) (y ∷ ys)

pub data OptionRel {A : Type 0} (Q : A → A → Type 0) : Option A → Option A → Type 0 where
  none : OptionRel Q None None
  some : {x y : A} → Q x y → OptionRel Q (Some x) (Some y)

module _ (R : Parts) where
  pub record Paired (k : ℕ) (o o' : ObjId) : Type 0 where
    pub is : R.Pair k o.0 o'.0

  pub data ValueRel (k : ℕ) : Value → Value → Type 0 where
    bool : {b : Bool} → ValueRel k (value.Bool b) (value.Bool b)
    byte : {x : ℤ} → ValueRel k (value.Byte x) (value.Byte x)
    short : {x : ℤ} → ValueRel k (value.Short x) (value.Short x)
    char : {n : ℕ} → ValueRel k (value.Char n) (value.Char n)
    int : {x : ℤ} → ValueRel k (value.Int x) (value.Int x)
    long : {x : ℤ} → ValueRel k (value.Long x) (value.Long x)
    null : ValueRel k value.Null value.Null
    ref : {o o' : ObjId} → Paired k o o' → ValueRel k (value.Ref o) (value.Ref o')

  -- two objects of one kind, whose parts go together
  pub data ObjectRel (k : ℕ) : Obj → Obj → Type 0 where
    instance : {class : ClassId} {vs ws : List Value} → ListRel (ValueRel k) vs ws → ObjectRel k (Instance class vs) (Instance class ws)
    array : {element : Ty} {vs ws : List Value} → ListRel (ValueRel k) vs ws → ObjectRel k (Array element vs) (Array element ws)
    text : {units : List ℕ} → ObjectRel k (Text units) (Text units)
    builder : {units : List ℕ} → ObjectRel k (Builder units) (Builder units)
    row : {class : ClassId} {vs ws : List Value} → ListRel (ValueRel k) vs ws → ObjectRel k (Row class vs) (Row class ws)
    cap : {device : ℕ} {class : ClassId} → ObjectRel k (Cap device class) (Cap device class)

  -- two calls on nothing, on two objects that go together, or on a new one each
  pub data ReceiverRel (k : ℕ) : Receiver → Receiver → Type 0 where
    nobody : ReceiverRel k receiver.None receiver.None
    an_object : {o o' : ObjId} → Paired k o o' → ReceiverRel k (receiver.Object o) (receiver.Object o')
    a_new_one : ReceiverRel k receiver.Fresh receiver.Fresh

  abbrev pub ReplyRel : ℕ → Option Value → Option Value → Type 0
  ReplyRel k = OptionRel (ValueRel k)

  pub record OwnRel (k : ℕ) (o o' : Own) : Type 0 where
    pub this : ValueRel k o.this o'.this
    pub locals : ListRel (ValueRel k) o.locals o'.locals

  pub record StateRel (k : ℕ) (s t : State) : Type 0 where
    pub objects : R.Worlds k s.world.objects t.world.objects
    pub statics : ListRel (ValueRel k) s.world.statics t.world.statics
    pub own : OwnRel k s.own t.own
    pub public : R.Publics s.public t.public
    pub outside : R.Outsides s.outside t.outside

  -- two runs from related states, at that time or later
  pub record Runs (k : ℕ) (g h : Run) : Type 0 where
    pub from : (i : ℕ) → k ≤ i → (s t : State) → StateRel i s t → R.Answers (g s) (h t)

  pub record ExitsRel (k : ℕ) (x y : Exits) : Type 0 where
    pub leave : (i : ℕ) → k ≤ i → (v w : Value) → ValueRel i v w → Runs i (x.leave v) (y.leave w)
    pub jump : (again : Bool) (label : Option NameId) → Runs k (x.jump again label) (y.jump again label)
    pub throw : (i : ℕ) → k ≤ i → (o o' : ObjId) → Paired i o o' → Runs i (x.throw o) (y.throw o')

  abbrev pub Goes : {A : Type 0} → ℕ → (ℕ → A → A → Type 0) → (A → Run) → (A → Run) → Type 0
  Goes k Q f g = (i : ℕ) → k ≤ i → (a b : _) → Q i a b → Runs i (f a) (g b)

  -- before ways on that are related, and ways out that are related, the two are related
  pub record Rel {A : Type 0} (k : ℕ) (Q : ℕ → A → A → Type 0) (m n : Computation A) : Type 0 where
    pub run : (f g : A → Run) (x y : Exits) → Goes k Q f g → ExitsRel k x y → Runs k (m f x) (n g y)

  -- what each step on objects and what is public keeps
  pub record Laws : Type 0 where
    pub pair-more : (k i a b : ℕ) → k ≤ i → R.Pair k a b → R.Pair i a b
    pub public : (p q : Public) → R.Publics p q → p ≡ q
    pub lowered : (p q : Public) (units : ℕ) → units ≤ p.units → R.Publics p q → R.Publics (record p { units = units }) (record q { units = units })
    pub outside : (p q : Outside) → R.Outsides p q → p ≡ q
    pub started : (class : ClassId) (p q : Outside) → R.Outsides p q → R.Outsides (with_started p class) (with_started q class)
    pub starting : (class : Option ClassId) (p q : Outside) → R.Outsides p q → R.Outsides (record p { starting = class }) (record q { starting = class })
    pub wrongs : R.Answers Wrong Wrong
    pub spents : (k : ℕ) (s t : State) → StateRel k s t → R.Answers (Spent s) (Spent t)
    pub thrown_in_starts : (k : ℕ) (class : ClassId) (o o' : ObjId) (s t : State) → Paired k o o' → StateRel k s t → R.Answers (ThrownInStart class o s) (ThrownInStart class o' t)
    pub references : (k a b c d : ℕ) → R.Pair k a c → R.Pair k b d → nat_eq a b ≡ nat_eq c d
    pub classes : (k : ℕ) (os ps : List Obj) (a b : ℕ) → R.Worlds k os ps → R.Pair k a b → class_of os a ≡ class_of ps b
    pub types : (k : ℕ) (os ps : List Obj) (a b : ℕ) → R.Worlds k os ps → R.Pair k a b → type_of os a ≡ type_of ps b
    pub extents : (k : ℕ) (os ps : List Obj) (a b : ℕ) → R.Worlds k os ps → R.Pair k a b → extent_of os a ≡ extent_of ps b
    pub counts : (k : ℕ) (os ps : List Obj) (a b : ℕ) → R.Worlds k os ps → R.Pair k a b → count_of os a ≡ count_of ps b
    pub reads : (k : ℕ) (os ps : List Obj) (a b at : ℕ) → R.Worlds k os ps → R.Pair k a b → OptionRel (ValueRel k) (slot_of os a at) (slot_of ps b at)
    pub writes : (k : ℕ) (os ps : List Obj) (a b at : ℕ) (v w : Value) → R.Worlds k os ps → R.Pair k a b → ValueRel k v w → R.Worlds k (with_slot os a at v) (with_slot ps b at w)
    pub texts : (k : ℕ) (os ps : List Obj) (a b : ℕ) → R.Worlds k os ps → R.Pair k a b → units_of os a ≡ units_of ps b
    pub builders : (k : ℕ) (os ps : List Obj) (a b : ℕ) → R.Worlds k os ps → R.Pair k a b → held_by os a ≡ held_by ps b
    pub puts : (k : ℕ) (os ps : List Obj) (a b : ℕ) (units : List ℕ) → R.Worlds k os ps → R.Pair k a b → R.Worlds k (with_units_at os a units) (with_units_at ps b units)
    pub makes : (k : ℕ) (os ps : List Obj) (o o' : Obj) → R.Worlds k os ps → ObjectRel k o o' →
        R.Worlds (suc k) (os ++ o ∷ []) (ps ++ o' ∷ []) × R.Pair (suc k) (length os) (length ps)

abbrev pub Equal : {A : Type 0} → ℕ → A → A → Type 0
Equal k a b = a ≡ b

abbrev pub Values : Parts → ℕ → List Value → List Value → Type 0
Values R k = ListRel (ValueRel R k)

-- lists that go together, place by place

pub get-both : {A : Type 0} {Q : A → A → Type 0} {xs ys : List A} → ListRel Q xs ys → (at : ℕ) → OptionRel Q (slice_get xs at) (slice_get ys at)
get-both nil at = none
get-both (cons q qs) zero = some q
get-both (cons q qs) (suc at) = get-both qs at

pub set-both : {A : Type 0} {Q : A → A → Type 0} {xs ys : List A} {x y : A} → ListRel Q xs ys → (at : ℕ) → Q x y → ListRel Q (slice_set xs at x) (slice_set ys at y)
set-both nil at e = nil
set-both (cons q qs) zero e = cons e qs
set-both (cons q qs) (suc at) e = cons q (set-both qs at e)

pub append-both : {A : Type 0} {Q : A → A → Type 0} {xs ys xs' ys' : List A} → ListRel Q xs ys → ListRel Q xs' ys' → ListRel Q (xs ++ xs') (ys ++ ys')
append-both nil e = e
append-both (cons q qs) e = cons q (append-both qs e)

pub length-both : {A : Type 0} {Q : A → A → Type 0} {xs ys : List A} → ListRel Q xs ys → length xs ≡ length ys
length-both nil = refl
length-both (cons q qs) = ap suc (length-both qs)
