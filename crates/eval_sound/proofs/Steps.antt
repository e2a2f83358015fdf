-- A lemma for each step: from a state that fits it is safe.
use Rattle.std.proofs.Common.{◌≡◌, ℕ, zero, suc, ◌-◌, List, [], ◌∷◌, ◌++◌, length, Option, Some, refl, sym, ap, subst, ◌∙◌}
use Rattle.std.specs.Prelude.{Bool, true, false, slice_get, slice_set, nat_le, if◌then◌else◌}
use Rattle.je_core.specs.declared.object.Obj.{Obj}
use Rattle.je_core.specs.declared.types.ClassId.{ClassId}
use Rattle.je_core.specs.declared.types.Ty.{Ty}
use Rattle.je_core.specs.declared.value.ObjId.{ObjId}
use Rattle.je_core.specs.declared.value.Value.{Value}
use Rattle.je_core.specs.declared.value.Value.TheVariants.{Ref}
use Rattle.je_classes.specs.Subtypes.{class_type}
use Rattle.je_fitting.specs.Expressions.{Body}
use Rattle.je_fitting.specs.Types.{agrees}
use Rattle.je_java.specs.World.{World, type_in, type_of, with_slot}
use Rattle.je_java.specs.Steps.{State, Outside, Spent, Run, Nothing, Public, is_started, with_started, with_units, with_begun, on_some, tick_at, tick, charge, get_this, get_local, put_local, get_type, get_slot, put_slot, get_static, put_static, get_started, put_started, new_object}
use Rattle.je_sound.specs.Objects.{ObjectFits, slot_type}
use Rattle.je_sound.specs.Values.{ValueFits}
use Rattle.je_sound.specs.Worlds.{Sound, static_types}
use Rattle.je_sound.proofs.Lists.{zip-at, zip-set}
use Rattle.je_sound.proofs.Worlds.{new_objects_keep, slots_hold, writes_keep, statics_hold, static_writes_keep}
use Rattle.eval_sound.specs.Safety.{Any, Setting, is_device, Grows, Fitting, Context, OwnFits, StateFits, EndFits, spent, GoesOn, Safe}
use Rattle.eval_sound.proofs.Growth.{grows-refl, grows-on, grows-made, grows-written}
use Rattle.eval_sound.proofs.Moves.{Quiet, any, fits-more, own-more}

-- an object has a slot of a type, now and later
pub record HasSlot (S : Setting) (objects : List Obj) (object : ObjId) (at : ℕ) (t : Ty) : Type 0 where
  pub there : (world : World) → Sound S.program world → Grows objects world.objects → slot_type S.program world.objects object.0 at ≡ Some t

-- what is true of a value now and later
abbrev pub Kept : List Obj → (List Obj → Value → Type 0) → Value → Type 0
Kept objects Q value = (later : List Obj) → Grows objects later → Q later value

-- a reference that fits a type
abbrev pub Referring : Setting → Ty → List Obj → ObjId → Type 0
Referring S t objects object = ValueFits S.program objects t (Ref object)

-- the type that an object has
pub record IsOf (S : Setting) (t : Ty) (object : ObjId) (objects : List Obj) (own : Ty) : Type 0 where
  pub has : type_of objects object.0 ≡ Some own
  pub agree : agrees S.program own t ≡ true

module _ {S : Setting} where
  pub slot-more : {objects later : List Obj} {object : ObjId} {at : ℕ} {t : Ty} → Grows objects later → HasSlot S objects object at t → HasSlot S later object at t
  slot-more x h = record { there = λ world s y. h.there world s (grows-on x y) }

  -- what is there goes on
  pub goes : {A : Type 0} {Q : List Obj → A → Type 0} {body : Body} {w : List Obj} {go : A → Run} {s : State} {o : Option A} (a : A) → o ≡ Some a → GoesOn S body w Q go →
      Grows w s.world.objects → StateFits S body s → Q s.world.objects a → EndFits S (on_some o (λ a. go a s))
  goes {go = go} {s = s} a e g l st q = subst (λ y. EndFits S (on_some y (λ a. go a s))) (sym e) ((g s.world.objects l a q).from s grows-refl st)

  -- the same state but for its public part, or for what stands outside

  same-public : {body : Body} {s : State} (public : Public) → StateFits S body s → StateFits S body (record s { public = public })
  same-public public st = record { world = record { sound = st.world.sound; grown = st.world.grown }; own = st.own }

  same-outside : {body : Body} {s : State} (outside : Outside) → StateFits S body s → StateFits S body (record s { outside = outside })
  same-outside outside st = record { world = record { sound = st.world.sound; grown = st.world.grown }; own = st.own }

  pub safe-tick : {c : Context} {w : List Obj} → Safe S c w Any tick
  unfolding tick
  safe-tick = record { run = λ go exits g x. record { from = λ s l st. by s l st g s.public.units } }
    where
      by : {body : Body} {w : List Obj} {go : Nothing → Run} (s : State) → Grows w s.world.objects → StateFits S body s → GoesOn S body w Any go → (n : ℕ) → EndFits S (tick_at n go s)
      by s l st g zero = spent st.world
      by s l st g (suc n) = (g s.world.objects l tt any).from (with_begun s n) grows-refl (same-public _ st)

  pub safe-charge : {c : Context} {w : List Obj} (cost : ℕ) → Safe S c w Any (charge cost)
  unfolding charge
  safe-charge cost = record { run = λ go exits g x. record { from = λ s l st. by s l st g (nat_le cost s.public.units) } }
    where
      by : {body : Body} {w : List Obj} {go : Nothing → Run} (s : State) → Grows w s.world.objects → StateFits S body s → GoesOn S body w Any go → (b : Bool) →
          EndFits S (if b then go tt (with_units s (s.public.units - cost)) else Spent s)
      by s l st g true = (g s.world.objects l tt any).from _ grows-refl (same-public _ st)
      by s l st g false = spent st.world

  pub safe-get_this : {c : Context} {w : List Obj} → c.body.is_static ≡ false → Safe S c w (Fitting S.program (class_type c.body.class)) get_this
  unfolding get_this
  safe-get_this e = record { run = λ go exits g x. record { from = λ s l st. (g s.world.objects l s.own.this (st.own.this e)).from s grows-refl st } }

  pub safe-get_local : {c : Context} {w : List Obj} {t : Ty} (at : ℕ) → slice_get c.body.locals at ≡ Some t → Safe S c w (Fitting S.program t) (get_local at)
  unfolding get_local
  safe-get_local {c = c} {t = t} at e = record {
    run = λ go exits g x. record {
      from = λ s l st. let found = zip-at (ValueFits S.program s.world.objects) c.body.locals s.own.locals st.own.locals.each at t e in goes found.0 found.1 g l st found.2;
    };
  }

  pub safe-put_local : {Q : List Obj → Value → Type 0} {c : Context} {w : List Obj} {t : Ty} {value : Value} (at : ℕ) → slice_get c.body.locals at ≡ Some t → ValueFits S.program w t value →
      Kept w Q value → Safe S c w Q (put_local at value)
  unfolding put_local
  safe-put_local {c = c} {t = t} {value = value} at e f k = record {
    run = λ go exits g x. record {
      from = λ s l st.
          let found = zip-at (ValueFits S.program s.world.objects) c.body.locals s.own.locals st.own.locals.each at t e in
          let now = fits-more l f in
          let own : OwnFits S.program c.body s.world.objects (record s.own { locals = slice_set s.own.locals at value }) =
          record { this = st.own.this; locals = record { each = zip-set (ValueFits S.program s.world.objects) c.body.locals s.own.locals st.own.locals.each at t value e now } } in
          subst (λ y. EndFits S (on_some y (λ old. go value (record s { own = record s.own { locals = slice_set s.own.locals at value } })))) (sym found.1)
          ((g s.world.objects l value (k s.world.objects l)).from _ grows-refl (record { world = record { sound = st.world.sound; grown = st.world.grown }; own = own }));
    };
  }

  pub safe-get_type : {c : Context} {w : List Obj} {t : Ty} {object : ObjId} → Referring S t w object → Safe S c w (IsOf S t object) (get_type object)
  unfolding get_type
  safe-get_type f = record { run = λ go exits g x. record { from = λ s l st. let now = fits-more l f in goes now.own now.has g l st (record { has = now.has; agree = now.agree }) } }

  pub safe-get_slot : {c : Context} {w : List Obj} {t : Ty} {object : ObjId} (at : ℕ) → HasSlot S w object at t → Safe S c w (Fitting S.program t) (get_slot object at)
  unfolding get_slot
  safe-get_slot {t = t} {object = object} at h = record {
    run = λ go exits g x. record {
      from = λ s l st. let found = slots_hold S.program s.world object.0 at t st.world.sound (h.there s.world st.world.sound l) in goes found.0 found.1 g l st found.2;
    };
  }

  pub safe-put_slot : {Q : List Obj → Value → Type 0} {c : Context} {w : List Obj} {t : Ty} {object : ObjId} {value : Value} (at : ℕ) → HasSlot S w object at t → ValueFits S.program w t value →
      Kept w Q value → Safe S c w Q (put_slot object at value)
  unfolding put_slot
  safe-put_slot {t = t} {object = object} {value = value} at h f k = record {
    run = λ go exits g x. record {
      from = λ s l st.
          let place = h.there s.world st.world.sound l in
          let found = slots_hold S.program s.world object.0 at t st.world.sound place in
          let now = fits-more l f in
          let on = grows-written s.world.objects object.0 at value in
          subst (λ y. EndFits S (on_some y (λ old. go value (record s { world = record s.world { objects = with_slot s.world.objects object.0 at value } })))) (sym found.1)
          ((g _ (grows-on l on) value (k _ (grows-on l on))).from _ grows-refl (record {
            world = record { sound = writes_keep S.program s.world object.0 at t value st.world.sound place now; grown = grows-on st.world.grown on };
            own = own-more on st.own;
          }));
    };
  }

  pub safe-get_static : {c : Context} {w : List Obj} {t : Ty} (at : ℕ) → slice_get (static_types S.program) at ≡ Some t → Safe S c w (Fitting S.program t) (get_static at)
  unfolding get_static
  safe-get_static {t = t} at e = record {
    run = λ go exits g x. record { from = λ s l st. let found = statics_hold S.program s.world at t st.world.sound e in goes found.0 found.1 g l st found.2 };
  }

  pub safe-put_static : {Q : List Obj → Value → Type 0} {c : Context} {w : List Obj} {t : Ty} {value : Value} (at : ℕ) → slice_get (static_types S.program) at ≡ Some t → ValueFits S.program w t value →
      Kept w Q value → Safe S c w Q (put_static at value)
  unfolding put_static
  safe-put_static {t = t} {value = value} at e f k = record {
    run = λ go exits g x. record {
      from = λ s l st.
          let found = statics_hold S.program s.world at t st.world.sound e in
          let now = fits-more l f in
          subst (λ y. EndFits S (on_some y (λ old. go value (record s { world = record s.world { statics = slice_set s.world.statics at value } })))) (sym found.1)
          ((g s.world.objects l value (k s.world.objects l)).from _ grows-refl (record {
            world = record { sound = static_writes_keep S.program s.world at t value st.world.sound e now; grown = st.world.grown };
            own = own-more grows-refl st.own;
          }));
    };
  }

  pub quiet-get_started : {c : Context} {w : List Obj} (class : ClassId) → Quiet S c w Any (get_started class)
  unfolding get_started
  quiet-get_started class = record { run = λ go exits g. record { from = λ s l st. (g s.world.objects l (is_started s.outside class) any).from s grows-refl st } }

  pub quiet-put_started : {c : Context} {w : List Obj} (class : ClassId) → Quiet S c w Any (put_started class)
  unfolding put_started
  quiet-put_started class = record { run = λ go exits g. record { from = λ s l st. (g s.world.objects l tt any).from _ grows-refl (same-outside (with_started s.outside class) st) } }

  pub safe-new_object : {c : Context} {w : List Obj} {t own : Ty} {object : Obj} → is_device object ≡ false → ((later : List Obj) → Grows w later → ObjectFits S.program later object) →
      type_in (Some object) ≡ Some own → agrees S.program own t ≡ true → Safe S c w (Referring S t) (new_object object)
  unfolding new_object
  safe-new_object {t = t} {own = own} {object = object} plain h e f = record {
    run = λ go exits g x. record {
      from = λ s l st.
          let on = grows-made s.world.objects object plain in
          let there : type_of (s.world.objects ++ object ∷ []) (length s.world.objects) ≡ Some own = ap type_in (last s.world.objects object) ∙ e in
          let it : ValueFits S.program (s.world.objects ++ object ∷ []) t (Ref (record { 0 = length s.world.objects })) = record { own = own; has = there; agree = f } in
          (g _ (grows-on l on) (record { 0 = length s.world.objects }) it).from _ grows-refl (record {
            world = record { sound = new_objects_keep S.program s.world object st.world.sound (h s.world.objects l); grown = grows-on st.world.grown on };
            own = own-more on st.own;
          });
    };
  }
    where
      last : (xs : List Obj) (x : Obj) → slice_get (xs ++ x ∷ []) (length xs) ≡ Some x
      last [] x = refl
      last (y ∷ xs) x = last xs x
