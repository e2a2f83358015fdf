-- What goes together before a step goes together after it, one lemma a step.
use Rattle.std.proofs.Common.{◌≡◌, ℕ, suc, ◌-◌, List, refl, ap, subst, arith}
use Rattle.std.specs.Prelude.{nat_le, if◌then◌else◌, Bool, true, false}
use Rattle.je_core.specs.declared.object.Obj.{Obj}
use Rattle.je_core.specs.declared.types.ClassId.{ClassId}
use Rattle.je_core.specs.declared.value.ObjId.{ObjId}
use Rattle.je_core.specs.declared.value.Value.{Value}
use Rattle.je_java.specs.World.{class_of, type_of, extent_of, count_of, units_of, held_by}
use Rattle.je_java.specs.Steps.{State, Outside, Public, Spent, Run, is_started, with_units, charge, get_this, get_local, put_local, get_class, get_type, get_extent, get_count, get_slot, put_slot, get_units, put_units, get_static, put_static, get_started, put_started, new_object}
use Rattle.je_java.proofs.Pairs.{Parts, OptionRel, Paired, ValueRel, ObjectRel, StateRel, Runs, Rel, Laws, Equal, get-both, set-both}
use Rattle.je_java.proofs.Combinators.{value-more, values-more, object-more, on_some-both, equal-option}

module _ {R : Parts} (L : Laws R) where
  charge-both : {k : ℕ} {g h : Run} (cost : ℕ) (b : Bool) (s t : State) → Runs R k g h → StateRel R k s t → nat_le cost s.public.units ≡ b →
      R.Answers (if b then g (with_units s (s.public.units - cost)) else Spent s) (if b then h (with_units t (s.public.units - cost)) else Spent t)
  charge-both {k = k} cost true s t r st e = r.from k (omega arith) _ _ (record { objects = st.objects; statics = st.statics; own = st.own; public = L.lowered _ _ _ (omega arith) st.public; outside = st.outside })
  charge-both cost false s t r st e = L.spents _ _ _ st

  pub rel-charge : {k : ℕ} (cost : ℕ) → Rel R k Equal (charge cost) (charge cost)
  unfolding charge
  rel-charge cost = record {
    run = λ f g x y go out. record {
      from = λ i l s t st.
          subst (λ (p : Public). R.Answers (charge cost f x s) (if nat_le cost p.units then g tt (with_units t (p.units - cost)) else Spent t)) (L.public _ _ st.public)
          (charge-both cost (nat_le cost s.public.units) s t (go i l tt tt refl) st refl);
    };
  }

  pub rel-get_this : {k : ℕ} → Rel R k (ValueRel R) get_this get_this
  unfolding get_this
  rel-get_this = record { run = λ f g x y go out. record { from = λ i l s t st. (go i l _ _ st.own.this).from i (omega arith) s t st } }

  pub rel-get_local : {k : ℕ} (at : ℕ) → Rel R k (ValueRel R) (get_local at) (get_local at)
  unfolding get_local
  rel-get_local at = record { run = λ f g x y go out. record { from = λ i l s t st. on_some-both L (get-both st.own.locals at) λ v w q. (go i l v w q).from i (omega arith) s t st } }

  pub rel-put_local : {k : ℕ} {v w : Value} (at : ℕ) → ValueRel R k v w → Rel R k (ValueRel R) (put_local at v) (put_local at w)
  unfolding put_local
  rel-put_local at q = record {
    run = λ f g x y go out. record {
      from = λ i l s t st. on_some-both L (get-both st.own.locals at) λ old old' e.
          (go i l _ _ (value-more L l q)).from i (omega arith) _ _ (record { objects = st.objects; own = record { this = st.own.this; locals = set-both st.own.locals at (value-more L l q) }; public = st.public; outside = st.outside; statics = st.statics });
    };
  }

  pub rel-get_class : {k : ℕ} {o o' : ObjId} → Paired R k o o' → Rel R k Equal (get_class o) (get_class o')
  unfolding get_class
  rel-get_class {o = o} p = record {
    run = λ f g x y go out. record {
      from = λ i l s t st.
          on_some-both L (subst (λ c. OptionRel (◌≡◌) (class_of s.world.objects o.0) c) (L.classes i _ _ _ _ st.objects (L.pair-more _ i _ _ l p.is)) (equal-option _)) λ c d q. (go i l c d q).from i (omega arith) s t st;
    };
  }

  pub rel-get_type : {k : ℕ} {o o' : ObjId} → Paired R k o o' → Rel R k Equal (get_type o) (get_type o')
  unfolding get_type
  rel-get_type {o = o} p = record {
    run = λ f g x y go out. record {
      from = λ i l s t st.
          on_some-both L (subst (λ c. OptionRel (◌≡◌) (type_of s.world.objects o.0) c) (L.types i _ _ _ _ st.objects (L.pair-more _ i _ _ l p.is)) (equal-option _)) λ c d q. (go i l c d q).from i (omega arith) s t st;
    };
  }

  pub rel-get_extent : {k : ℕ} {o o' : ObjId} → Paired R k o o' → Rel R k Equal (get_extent o) (get_extent o')
  unfolding get_extent
  rel-get_extent {o = o} p = record {
    run = λ f g x y go out. record {
      from = λ i l s t st.
          on_some-both L (subst (λ c. OptionRel (◌≡◌) (extent_of s.world.objects o.0) c) (L.extents i _ _ _ _ st.objects (L.pair-more _ i _ _ l p.is)) (equal-option _)) λ c d q. (go i l c d q).from i (omega arith) s t st;
    };
  }

  pub rel-get_count : {k : ℕ} {o o' : ObjId} → Paired R k o o' → Rel R k Equal (get_count o) (get_count o')
  unfolding get_count
  rel-get_count {o = o} p = record {
    run = λ f g x y go out. record {
      from = λ i l s t st.
          on_some-both L (subst (λ c. OptionRel (◌≡◌) (count_of s.world.objects o.0) c) (L.counts i _ _ _ _ st.objects (L.pair-more _ i _ _ l p.is)) (equal-option _)) λ c d q. (go i l c d q).from i (omega arith) s t st;
    };
  }

  pub rel-get_slot : {k : ℕ} {o o' : ObjId} (at : ℕ) → Paired R k o o' → Rel R k (ValueRel R) (get_slot o at) (get_slot o' at)
  unfolding get_slot
  rel-get_slot at p = record { run = λ f g x y go out. record { from = λ i l s t st. on_some-both L (L.reads i _ _ _ _ at st.objects (L.pair-more _ i _ _ l p.is)) λ v w q. (go i l v w q).from i (omega arith) s t st } }

  pub rel-put_slot : {k : ℕ} {o o' : ObjId} {v w : Value} (at : ℕ) → Paired R k o o' → ValueRel R k v w → Rel R k (ValueRel R) (put_slot o at v) (put_slot o' at w)
  unfolding put_slot
  rel-put_slot at p q = record {
    run = λ f g x y go out. record {
      from = λ i l s t st. on_some-both L (L.reads i _ _ _ _ at st.objects (L.pair-more _ i _ _ l p.is)) λ old old' e.
          (go i l _ _ (value-more L l q)).from i (omega arith) _ _ (record { objects = L.writes i _ _ _ _ at _ _ st.objects (L.pair-more _ i _ _ l p.is) (value-more L l q); statics = st.statics; own = st.own; public = st.public; outside = st.outside });
    };
  }

  pub rel-get_units : {k : ℕ} {o o' : ObjId} → Paired R k o o' → Rel R k Equal (get_units o) (get_units o')
  unfolding get_units
  rel-get_units {o = o} p = record {
    run = λ f g x y go out. record {
      from = λ i l s t st.
          on_some-both L (subst (λ c. OptionRel (◌≡◌) (units_of s.world.objects o.0) c) (L.texts i _ _ _ _ st.objects (L.pair-more _ i _ _ l p.is)) (equal-option _)) λ c d q. (go i l c d q).from i (omega arith) s t st;
    };
  }

  pub rel-put_units : {k : ℕ} {o o' : ObjId} (units : List ℕ) → Paired R k o o' → Rel R k Equal (put_units o units) (put_units o' units)
  unfolding put_units
  rel-put_units {o = o} units p = record {
    run = λ f g x y go out. record {
      from = λ i l s t st.
          on_some-both L (subst (λ c. OptionRel (◌≡◌) (held_by s.world.objects o.0) c) (L.builders i _ _ _ _ st.objects (L.pair-more _ i _ _ l p.is)) (equal-option _)) λ c d q.
          (go i l tt tt refl).from i (omega arith) _ _ (record { objects = L.puts i _ _ _ _ units st.objects (L.pair-more _ i _ _ l p.is); statics = st.statics; own = st.own; public = st.public; outside = st.outside });
    };
  }

  pub rel-get_static : {k : ℕ} (at : ℕ) → Rel R k (ValueRel R) (get_static at) (get_static at)
  unfolding get_static
  rel-get_static at = record { run = λ f g x y go out. record { from = λ i l s t st. on_some-both L (get-both st.statics at) λ v w q. (go i l v w q).from i (omega arith) s t st } }

  pub rel-put_static : {k : ℕ} {v w : Value} (at : ℕ) → ValueRel R k v w → Rel R k (ValueRel R) (put_static at v) (put_static at w)
  unfolding put_static
  rel-put_static at q = record {
    run = λ f g x y go out. record {
      from = λ i l s t st. on_some-both L (get-both st.statics at) λ old old' e.
          (go i l _ _ (value-more L l q)).from i (omega arith) _ _ (record { objects = st.objects; statics = set-both st.statics at (value-more L l q); own = st.own; public = st.public; outside = st.outside });
    };
  }

  pub rel-get_started : {k : ℕ} (class : ClassId) → Rel R k Equal (get_started class) (get_started class)
  unfolding get_started
  rel-get_started class = record { run = λ f g x y go out. record { from = λ i l s t st. (go i l _ _ (ap (λ (o : Outside). is_started o class) (L.outside _ _ st.outside))).from i (omega arith) s t st } }

  pub rel-put_started : {k : ℕ} (class : ClassId) → Rel R k Equal (put_started class) (put_started class)
  unfolding put_started
  rel-put_started class = record {
    run = λ f g x y go out. record {
      from = λ i l s t st. (go i l tt tt refl).from i (omega arith) _ _ (record { objects = st.objects; statics = st.statics; own = st.own; public = st.public; outside = L.started class _ _ st.outside });
    };
  }

  pub rel-new_object : {k : ℕ} {o o' : Obj} → ObjectRel R k o o' → Rel R k (Paired R) (new_object o) (new_object o')
  unfolding new_object
  rel-new_object q = record {
    run = λ f g x y go out. record {
      from = λ i l s t st.
          let made = L.makes i _ _ _ _ st.objects (object-more L l q) in
          (go (suc i) (omega arith) _ _ (record { is = made.1 })).from (suc i) (omega arith) _ _ (record { objects = made.0; own = record { this = value-more L (omega arith) st.own.this; locals = values-more L (omega arith) st.own.locals }; public = st.public; statics = values-more L (omega arith) st.statics; outside = st.outside });
    };
  }
