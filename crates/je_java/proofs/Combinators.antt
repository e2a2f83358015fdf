-- What goes together goes together later too, and how combinators keep it: for two runs of one program side by side.
use Rattle.std.proofs.Common.{◌≡◌, ℕ, ◌≤◌, List, Option, Some, None, refl, ap, subst, arith}
use Rattle.std.specs.Prelude.{if◌then◌else◌, Bool, true, false}
use Rattle.je_base.specs.declared.span.NameId.{NameId}
use Rattle.je_core.specs.declared.object.Obj.{Obj}
use Rattle.je_core.specs.declared.types.ClassId.{ClassId}
use Rattle.je_core.specs.declared.value.ObjId.{ObjId}
use Rattle.je_core.specs.declared.value.Value.{Value}
use Rattle.je_java.specs.Steps.{State, Own, Outside, Answer, Run, Exits, Computation, Nothing, ret, bind, seq, yields, wrong, spent, throw, leave, catching, finally, jump, landing, is_break, broken_by, looped, labelled, need, framed, initializing, with_own, with_starting, on_some}
use Rattle.je_java.proofs.Pairs.{Parts, nil, cons, OptionRel, none, some, Paired, ValueRel, bool, byte, short, char, int, long, null, ref, ObjectRel, instance, array, text, builder, row, cap, OwnRel, StateRel, Runs, ExitsRel, Rel, Laws, Equal, Values}

pub equal-option : {A : Type 0} (o : Option A) → OptionRel (◌≡◌) o o
equal-option None = none
equal-option (Some a) = some refl

-- combinators that ask nothing of the relation
module _ {R : Parts} where
  pub runs-more : {k i : ℕ} {g h : Run} → k ≤ i → Runs R k g h → Runs R i g h
  runs-more l r = record { from = λ j m s t st. r.from j (omega arith) s t st }

  pub exits-more : {k i : ℕ} {x y : Exits} → k ≤ i → ExitsRel R k x y → ExitsRel R i x y
  exits-more l e = record { leave = λ j m. e.leave j (omega arith); jump = λ again label. runs-more l (e.jump again label); throw = λ j m. e.throw j (omega arith) }

  pub rel-ret : {A : Type 0} {Q : ℕ → A → A → Type 0} {k : ℕ} (a b : A) → Q k a b → Rel R k Q (ret a) (ret b)
  unfolding ret
  rel-ret {k = k} a b q = record { run = λ f g x y go out. go k (omega arith) a b q }

  pub rel-bind : {A B : Type 0} {P : ℕ → A → A → Type 0} {Q : ℕ → B → B → Type 0} {k : ℕ} {m n : Computation A} {f g : A → Computation B} →
      Rel R k P m n → ((i : ℕ) → k ≤ i → (a b : A) → P i a b → Rel R i Q (f a) (g b)) → Rel R k Q (bind m f) (bind n g)
  unfolding bind
  rel-bind p h = record { run = λ f g x y go out. p.run _ _ x y (λ i l a b q. (h i l a b q).run f g x y (λ j l'. go j (omega arith)) (exits-more l out)) out }

  pub rel-seq : {A B : Type 0} {P : ℕ → A → A → Type 0} {Q : ℕ → B → B → Type 0} {k : ℕ} {m n : Computation A} {f g : Computation B} →
      Rel R k P m n → ((i : ℕ) → k ≤ i → Rel R i Q f g) → Rel R k Q (seq m f) (seq n g)
  unfolding seq
  rel-seq p h = record { run = λ f g x y go out. p.run _ _ x y (λ i l a b q. (h i l).run f g x y (λ j l'. go j (omega arith)) (exits-more l out)) out }

  pub rel-throw : {A : Type 0} {Q : ℕ → A → A → Type 0} {k : ℕ} {o o' : ObjId} → Paired R k o o' → Rel R k Q (throw o) (throw o')
  unfolding throw
  rel-throw {k = k} q = record { run = λ f g x y go out. out.throw k (omega arith) _ _ q }

  pub rel-leave : {A : Type 0} {Q : ℕ → A → A → Type 0} {k : ℕ} {v w : Value} → ValueRel R k v w → Rel R k Q (leave v) (leave w)
  unfolding leave
  rel-leave {k = k} q = record { run = λ f g x y go out. out.leave k (omega arith) _ _ q }

  pub rel-jump : {A : Type 0} {Q : ℕ → A → A → Type 0} {k : ℕ} (again : Bool) (label : Option NameId) → Rel R k Q (jump again label) (jump again label)
  unfolding jump
  rel-jump again label = record { run = λ f g x y go out. out.jump again label }

  runs-if : {k : ℕ} {g h g' h' : Run} (b : Bool) → Runs R k g h → Runs R k g' h' → Runs R k (if b then g else g') (if b then h else h')
  runs-if true p q = p
  runs-if false p q = q

  landing-both : {k : ℕ} {g h g' h' : Run} {x y : Exits} (Lands : Option NameId → Bool) → Runs R k g h → Runs R k g' h' → ExitsRel R k x y →
      ExitsRel R k (landing Lands g g' x) (landing Lands h h' y)
  landing-both Lands p q out = record { leave = out.leave; jump = λ again label. runs-if (Lands label) (runs-if again p q) (out.jump again label); throw = out.throw }

  pub rel-broken_by : {k : ℕ} {m n : Computation Nothing} → Rel R k Equal m n → Rel R k Equal (broken_by m) (broken_by n)
  unfolding broken_by
  rel-broken_by {k = k} p = record {
    run = λ f g x y go out. p.run f g _ _ go (record { leave = out.leave; jump = λ again label. runs-if (is_break again label) (go k (omega arith) tt tt refl) (out.jump again label); throw = out.throw });
  }

  pub rel-looped : {k : ℕ} {m n m' n' : Computation Nothing} (Lands : Option NameId → Bool) → ((i : ℕ) → Rel R i Equal m n) → Rel R k Equal m' n' →
      Rel R k Equal (looped Lands m m') (looped Lands n n')
  unfolding looped
  rel-looped {k = k} Lands h p = record {
    run = λ f g x y go out. p.run _ _ _ _ (λ i l a b q. (h i).run f g x y (λ j l'. go j (omega arith)) (exits-more l out))
        (landing-both Lands ((h k).run f g x y go out) (go k (omega arith) tt tt refl) out);
  }

  pub rel-labelled : {k : ℕ} {m n m' n' : Computation Nothing} (Lands : Option NameId → Bool) → ((i : ℕ) → Rel R i Equal m n) → Rel R k Equal m' n' →
      Rel R k Equal (labelled Lands m m') (labelled Lands n n')
  unfolding labelled
  rel-labelled {k = k} Lands h p = record {
    run = λ f g x y go out. p.run f g _ _ go (landing-both Lands ((h k).run f g x y go out) (go k (omega arith) tt tt refl) out);
  }

  pub rel-catching : {k : ℕ} {m n : Computation Nothing} {h h' : ObjId → Computation Nothing} → Rel R k Equal m n →
      ((i : ℕ) → k ≤ i → (o o' : ObjId) → Paired R i o o' → Rel R i Equal (h o) (h' o')) → Rel R k Equal (catching m h) (catching n h')
  unfolding catching
  rel-catching p h = record {
    run = λ f g x y go out. p.run f g _ _ go (record { leave = out.leave; jump = out.jump; throw = λ i l o o' q. (h i l o o' q).run f g x y (λ j l'. go j (omega arith)) (exits-more l out) });
  }

  pub rel-if : {A : Type 0} {Q : ℕ → A → A → Type 0} {k : ℕ} {m n m' n' : Computation A} (b : Bool) → Rel R k Q m n → Rel R k Q m' n' → Rel R k Q (if b then m else m') (if b then n else n')
  rel-if true p q = p
  rel-if false p q = q

  -- `rel-bind` and `rel-seq` at each relation

  pub bind_value : {B : Type 0} {Q : ℕ → B → B → Type 0} {k : ℕ} {m n : Computation Value} {f g : Value → Computation B} → Rel R k (ValueRel R) m n →
      ((i : ℕ) → k ≤ i → (v w : Value) → ValueRel R i v w → Rel R i Q (f v) (g w)) → Rel R k Q (bind m f) (bind n g)
  bind_value p h = rel-bind p h

  pub bind_pair : {B : Type 0} {Q : ℕ → B → B → Type 0} {k : ℕ} {m n : Computation ObjId} {f g : ObjId → Computation B} → Rel R k (Paired R) m n →
      ((i : ℕ) → k ≤ i → (o o' : ObjId) → Paired R i o o' → Rel R i Q (f o) (g o')) → Rel R k Q (bind m f) (bind n g)
  bind_pair p h = rel-bind p h

  pub bind_equal : {A B : Type 0} {Q : ℕ → B → B → Type 0} {k : ℕ} {m n : Computation A} {f g : A → Computation B} → Rel R k Equal m n →
      ((i : ℕ) → k ≤ i → (a : A) → Rel R i Q (f a) (g a)) → Rel R k Q (bind m f) (bind n g)
  bind_equal {Q = Q} {f = f} {g = g} p h = rel-bind p λ i l a b e. subst (λ x. Rel R i Q (f a) (g x)) e (h i l a)

  pub seq_value : {B : Type 0} {Q : ℕ → B → B → Type 0} {k : ℕ} {m n : Computation Value} {f g : Computation B} → Rel R k (ValueRel R) m n →
      ((i : ℕ) → k ≤ i → Rel R i Q f g) → Rel R k Q (seq m f) (seq n g)
  seq_value p h = rel-seq p h

  pub seq_end : {B : Type 0} {Q : ℕ → B → B → Type 0} {k : ℕ} {m n : Computation Nothing} {f g : Computation B} → Rel R k Equal m n →
      ((i : ℕ) → k ≤ i → Rel R i Q f g) → Rel R k Q (seq m f) (seq n g)
  seq_end p h = rel-seq p h

-- what goes together later, and the combinators that need it
module _ {R : Parts} (L : Laws R) where
  pub paired-more : {k i : ℕ} {o o' : ObjId} → k ≤ i → Paired R k o o' → Paired R i o o'
  paired-more l p = record { is = L.pair-more _ _ _ _ l p.is }

  pub value-more : {k i : ℕ} {v w : Value} → k ≤ i → ValueRel R k v w → ValueRel R i v w
  value-more l bool = bool
  value-more l byte = byte
  value-more l short = short
  value-more l char = char
  value-more l int = int
  value-more l long = long
  value-more l null = null
  value-more l (ref p) = ref (paired-more l p)

  pub values-more : {k i : ℕ} {vs ws : List Value} → k ≤ i → Values R k vs ws → Values R i vs ws
  values-more l nil = nil
  values-more l (cons p ps) = cons (value-more l p) (values-more l ps)

  pub object-more : {k i : ℕ} {o o' : Obj} → k ≤ i → ObjectRel R k o o' → ObjectRel R i o o'
  object-more l (instance q) = instance (values-more l q)
  object-more l (array q) = array (values-more l q)
  object-more l text = text
  object-more l builder = builder
  object-more l (row q) = row (values-more l q)
  object-more l cap = cap

  pub rel-yields : {k : ℕ} {v w : Value} {m n : Computation Value} → ValueRel R k v w → Rel R k (ValueRel R) m n → Rel R k (ValueRel R) (yields v m) (yields w n)
  unfolding yields
  rel-yields q p = record { run = λ f g x y go out. p.run _ _ x y (λ i l a b e. go i l _ _ (value-more l q)) out }

  pub rel-wrong : {A : Type 0} {Q : ℕ → A → A → Type 0} {k : ℕ} → Rel R k Q wrong wrong
  unfolding wrong
  rel-wrong = record { run = λ f g x y go out. record { from = λ i l s t st. L.wrongs } }

  pub rel-spent : {A : Type 0} {Q : ℕ → A → A → Type 0} {k : ℕ} → Rel R k Q spent spent
  unfolding spent
  rel-spent = record { run = λ f g x y go out. record { from = λ i l s t st. L.spents i s t st } }

  pub rel-finally : {k : ℕ} {m n m' n' : Computation Nothing} → Rel R k Equal m n → ((i : ℕ) → Rel R i Equal m' n') → Rel R k Equal (finally m m') (finally n n')
  unfolding finally
  rel-finally {k = k} p h = record {
    run = λ f g x y go out. p.run _ _ _ _ (λ i l a b q. (h i).run f g x y (λ j l'. go j (omega arith)) (exits-more l out)) (record {
      leave = λ i l v w q. (h i).run _ _ x y (λ j l' a b e. out.leave j (omega arith) v w (value-more l' q)) (exits-more l out);
      jump = λ again label. (h k).run _ _ x y (λ j l' a b e. runs-more l' (out.jump again label)) out;
      throw = λ i l o o' q. (h i).run _ _ x y (λ j l' a b e. out.throw j (omega arith) o o' (paired-more l' q)) (exits-more l out);
    });
  }

  -- what is there in both or in none
  pub on_some-both : {A : Type 0} {Q : A → A → Type 0} {a b : Option A} {g h : A → Answer} → OptionRel Q a b → ((x y : A) → Q x y → R.Answers (g x) (h y)) → R.Answers (on_some a g) (on_some b h)
  on_some-both none h = L.wrongs
  on_some-both (some q) h = h _ _ q

  pub rel-need : {A : Type 0} {Q : ℕ → A → A → Type 0} {k : ℕ} {a b : Option A} → OptionRel (Q k) a b → Rel R k Q (need a) (need b)
  unfolding need
  rel-need {k = k} q = record { run = λ f g x y go out. record { from = λ i l s t st. on_some-both q λ a b q'. (go k (omega arith) a b q').from i l s t st } }

  own-back : {k i : ℕ} {s t : State} {o o' : Own} → k ≤ i → OwnRel R k o o' → StateRel R i s t → StateRel R i (with_own s o) (with_own t o')
  own-back l q st = record { objects = st.objects; statics = st.statics; own = record { this = value-more l q.this; locals = values-more l q.locals }; public = st.public; outside = st.outside }

  pub rel-framed : {k : ℕ} {o o' : Own} {v w : Value} {m n : Computation Nothing} → OwnRel R k o o' → ValueRel R k v w → ((i : ℕ) → k ≤ i → Rel R i Equal m n) → Rel R k (ValueRel R) (framed o v m) (framed o' w n)
  unfolding framed
  rel-framed q e p = record {
    run = λ f g x y go out. record {
      from = λ i l s t st.
          ((p i l).run _ _ _ _
          (λ j l' a b u. record { from = λ n l'' s' t' st'. (go n (omega arith) _ _ (value-more (omega arith) e)).from n (omega arith) _ _ (own-back (omega arith) st.own st') })
          (record {
            leave = λ j l' v w u. record { from = λ n l'' s' t' st'. (go n (omega arith) v w (value-more l'' u)).from n (omega arith) _ _ (own-back (omega arith) st.own st') };
            jump = λ again label. record { from = λ n l'' s' t' st'. L.wrongs };
            throw = λ j l' o o' u. record { from = λ n l'' s' t' st'. (out.throw n (omega arith) o o' (paired-more l'' u)).from n (omega arith) _ _ (own-back (omega arith) st.own st') };
          })).from i (omega arith) _ _ (own-back l q st);
    };
  }

  starting-both : {k : ℕ} {s t : State} (c d : Option ClassId) → c ≡ d → StateRel R k s t → StateRel R k (with_starting s c) (with_starting t d)
  starting-both {s = s} {t = t} c d e st = record { objects = st.objects; statics = st.statics; own = st.own; public = st.public; outside = subst (λ (z : Option ClassId). R.Outsides (record s.outside { starting = c }) (record t.outside { starting = z })) e (L.starting c _ _ st.outside) }

  pub rel-initializing : {k : ℕ} {m n : Computation Nothing} (class : ClassId) → Rel R k Equal m n → Rel R k Equal (initializing class m) (initializing class n)
  unfolding initializing
  rel-initializing class p = record {
    run = λ f g x y go out. record {
      from = λ i l s t st.
          let before : s.outside.starting ≡ t.outside.starting = ap (λ (o : Outside). o.starting) (L.outside _ _ st.outside) in
          (p.run _ _ _ _
          (λ j l' a b u. record { from = λ n l'' s' t' st'. (go n (omega arith) tt tt refl).from n (omega arith) _ _ (starting-both _ _ before st') })
          (record {
            leave = λ j l' v w u. record { from = λ n l'' s' t' st'. L.wrongs };
            jump = λ again label. record { from = λ n l'' s' t' st'. L.wrongs };
            throw = λ j l' o o' u. record { from = λ n l'' s' t' st'. L.thrown_in_starts n class o o' s' t' (paired-more l'' u) st' };
          })).from i l _ _ (starting-both (Some class) (Some class) refl st);
    };
  }
