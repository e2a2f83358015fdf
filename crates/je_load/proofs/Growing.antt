-- Classes that have been started stay so, whatever a run does; so a load that comes to its end has started every class.
use Rattle.std.proofs.Common.{◌≡◌, ◌≢◌, ◌<◌, ◌≤◌, ℕ, zero, suc, ◌+◌, ◌⊎◌, inl, inr, List, [], ◌∷◌, ◌++◌, length, Option, Some, None, refl, sym, ap, ◌∙◌, subst, arith}
use Rattle.std.proofs.lemmas.Bool.{cases_eq, cases_lt}
use Rattle.std.proofs.lemmas.List.{length-replicate, length-set}
use Rattle.std.proofs.lemmas.Option.{slice_get_past}
use Rattle.std.specs.Prelude.{Bool, true, false, slice_get, slice_set, unwrap_or, nat_eq, if◌then◌else◌}
use Rattle.je_core.specs.Core.{CoreClass, CoreProgram}
use Rattle.je_core.specs.declared.types.ClassId.{ClassId}
use Rattle.je_core.specs.declared.value.ObjId.{ObjId}
use Rattle.je_core.specs.declared.value.Value.{Value}
use Rattle.je_core.specs.declared.value.Value.TheVariants.{Null}
use Rattle.je_classes.specs.Hierarchy.{class_at}
use Rattle.je_java.specs.Meaning.{java, state_at, start, start_first, run_initializers, static_initializers}
use Rattle.je_java.specs.Steps.{State, Outside, Public, Answer, Done, ThrownInStart, Spent, Wrong, Run, Computation, Nothing, is_started, AllStarted, with_started, with_outside, ret, bind, seq, get_started, put_started, initializing}
use Rattle.je_java.specs.Subclasses.{superclass_of, upwards_within}
use Rattle.je_java.specs.World.{class_of, type_of, extent_of, count_of, slot_of, with_slot, units_of, held_by, with_units_at}
use Rattle.je_java.proofs.Alike.{value-alike, object-alike, value-itself, values-itself, option-itself}
use Rattle.je_java.proofs.Pairs.{Parts, Laws, OptionRel, ValueRel, null, StateRel, ExitsRel, Rel, Equal}
use Rattle.je_java.proofs.Related.{first-related, initializers-related}
use Rattle.je_java.proofs.Combinators.{rel-seq, rel-initializing}
use Rattle.je_worlds.proofs.Calls.{Begins, java-good}
use Rattle.je_load.specs.Loading.{world_before, none_started, start_from, no_exits, load_within}

-- a class that has been started stays so when another one is
started-still : (started : List Bool) (n m : ℕ) → unwrap_or (slice_get started n) true ≡ true → unwrap_or (slice_get (slice_set started m true) n) true ≡ true
started-still [] n m h = refl
started-still (b ∷ bs) zero zero h = refl
started-still (b ∷ bs) zero (suc m) h = h
started-still (b ∷ bs) (suc n) zero h = h
started-still (b ∷ bs) (suc n) (suc m) h = started-still bs n m h

started-now : (started : List Bool) (n : ℕ) → unwrap_or (slice_get (slice_set started n true) n) true ≡ true
started-now [] n = refl
started-now (b ∷ bs) zero = refl
started-now (b ∷ bs) (suc n) = started-now bs n

-- of so many classes these have been started at least
record Among (count : ℕ) (These : ClassId → Type 0) (outside : Outside) : Type 0 where
  these : (class : ClassId) → These class → is_started outside class ≡ true
  length_is : length outside.started ≡ count

-- these, and one more
abbrev More : (ClassId → Type 0) → ClassId → ClassId → Type 0
More These class other = These other ⊎ (other.0 ≡ class.0)

module _ {count : ℕ} {These : ClassId → Type 0} (class : ClassId) (outside : Outside) (h : Among count These outside) where
  among-still : Among count These (with_started outside class)
  among-still = record {
    these = λ other this. started-still outside.started other.0 class.0 (h.these other this);
    length_is = length-set outside.started class.0 true ∙ h.length_is;
  }

  more-now : Among count (More These class) (with_started outside class)
  more-now = record { these = by; length_is = among-still.length_is }
    where
      by : (other : ClassId) → More These class other → is_started (with_started outside class) other ≡ true
      by other (inl this) = among-still.these other this
      by other (inr e) = subst (λ n. unwrap_or (slice_get (slice_set outside.started class.0 true) n) true ≡ true) (sym e) (started-now outside.started class.0)

  more-before : is_started outside class ≡ true → Among count (More These class) outside
  more-before e = record { these = by; length_is = h.length_is }
    where
      by : (other : ClassId) → More These class other → is_started outside other ≡ true
      by other (inl this) = h.these other this
      by other (inr is) = subst (λ n. unwrap_or (slice_get outside.started n) true ≡ true) (sym is) e

-- ends of which something is known wherever a run is done
module _ (Fine : Answer → Type 0) (fine-wrong : Fine Wrong) (fine-spent : (s : State) → Fine (Spent s))
    (fine-thrown : (class : ClassId) (e : ObjId) (s : State) → Fine (ThrownInStart class e s)) (count : ℕ) where
  -- a run beside itself, before which these classes have been started
  module _ (These : ClassId → Type 0) where
    abbrev Alone : Parts
    Alone = record { Pair = λ k a b. a ≡ b; Worlds = λ k os ps. os ≡ ps; Publics = λ p q. p ≡ q; Outsides = λ p q. (p ≡ q) × Among count These p; Answers = λ a b. Fine a }

    alone-laws : Laws Alone
    alone-laws = record {
      pair-more = λ k i a b l e. e;
      public = λ p q e. e;
      lowered = λ p q u l e. ap (λ (z : Public). record z { units = u }) e;
      outside = λ p q e. e.0;
      started = λ class p q e. (ap (λ (o : Outside). with_started o class) e.0, among-still class p e.1);
      starting = λ class p q e. (ap (λ (o : Outside). record o { starting = class }) e.0, record { these = e.1.these; length_is = e.1.length_is });
      wrongs = fine-wrong;
      spents = λ k s t st. fine-spent s;
      thrown_in_starts = λ k class o o' s t p st. fine-thrown class o s;
      references = λ k a b c d e f. λ i. nat_eq (e i) (f i);
      classes = λ k os ps a b w e. λ i. class_of (w i) (e i);
      types = λ k os ps a b w e. λ i. type_of (w i) (e i);
      extents = λ k os ps a b w e. λ i. extent_of (w i) (e i);
      counts = λ k os ps a b w e. λ i. count_of (w i) (e i);
      reads = λ k os ps a b at w e. subst (λ o. OptionRel (ValueRel Alone k) (slot_of os a at) o) (let h : slot_of os a at ≡ slot_of ps b at = λ i. slot_of (w i) (e i) at in h) (option-itself {R = Alone} (λ k a. refl) (slot_of os a at));
      writes = λ k os ps a b at v w o e q. let h = value-alike {R = Alone} (λ k a b e. e) q in λ i. with_slot (o i) (e i) at (h i);
      texts = λ k os ps a b w e. λ i. units_of (w i) (e i);
      builders = λ k os ps a b w e. λ i. held_by (w i) (e i);
      puts = λ k os ps a b units w e. λ i. with_units_at (w i) (e i) units;
      makes = λ k os ps o o' w q. let h = object-alike {R = Alone} (λ k a b e. e) q in (λ i. w i ++ h i ∷ [], λ i. length (w i));
    }

    alone-begins : Begins Alone
    alone-begins = record { begins = λ p q units e. ap (λ (z : Public). record { units = units; begun = z.begun + 1 }) e }

    state-itself : (s : State) → Among count These s.outside → StateRel Alone 0 s s
    state-itself s h = record {
      objects = refl;
      statics = values-itself {R = Alone} (λ k a. refl) s.world.statics;
      own = record { this = value-itself {R = Alone} (λ k a. refl) s.own.this; locals = values-itself {R = Alone} (λ k a. refl) s.own.locals };
      public = refl;
      outside = (refl, h);
    }

    no-exits : ExitsRel Alone 0 no_exits no_exits
    no-exits = record {
      leave = λ i l v w q. record { from = λ j m s t st. fine-wrong };
      jump = λ again label. record { from = λ j m s t st. fine-wrong };
      throw = λ i l o o' q. record { from = λ j m s t st. fine-wrong };
    }

    -- a computation that goes with itself, where what follows it is fine from each state in which these have been started
    goes-on : {m : Computation Nothing} → Rel Alone 0 Equal m m → (go : Nothing → Run) → ((s : State) → Among count These s.outside → Fine (go tt s)) →
        (s : State) → Among count These s.outside → Fine (m go no_exits s)
    goes-on r go h s among = (r.run go go no_exits no_exits (λ i l a b q. record { from = λ j m t u st. h t st.outside.1 }) no-exits).from 0 (omega arith) s s (state-itself s among)

  -- from the start of a class on it has been started, beside those that had been before
  module _ (p : CoreProgram) (These : ClassId → Type 0) (class : ClassId) where
    first-starts : (above : List ClassId) (go : Nothing → Run) → ((s : State) → Among count (More These class) s.outside → Fine (go tt s)) →
        (s : State) → Among count These s.outside → Fine (start_first p (java p) (class ∷ above) go no_exits s)
    unfolding ret bind seq get_started put_started
    first-starts above go h s among = by (is_started s.outside class) refl
      where
        rest : Computation Nothing
        rest = seq (start_first p (java p) above) (initializing class (run_initializers (java p) Null (static_initializers (class_at p class))))

        by : (b : Bool) → is_started s.outside class ≡ b → Fine ((if b then ret tt else seq (put_started class) rest) go no_exits s)
        by true e = h s (more-before class s.outside among e)
        by false e =
            let laws = alone-laws (More These class) in
            let g = java-good laws (alone-begins (More These class)) p in
            goes-on (More These class) (rel-seq (first-related laws p g 0 above) λ i l. rel-initializing laws class (initializers-related laws p g (static_initializers (class_at p class)) null)) go h
            (with_outside s (with_started s.outside class)) (more-now class s.outside among)

    upwards-starts : (n : ℕ) (go : Nothing → Run) → 0 < n → ((s : State) → Among count (More These class) s.outside → Fine (go tt s)) →
        (s : State) → Among count These s.outside → Fine (start_first p (java p) (upwards_within p n (Some class)) go no_exits s)
    upwards-starts zero go l = absurd (omega arith)
    upwards-starts (suc n) go l = first-starts (upwards_within p n (superclass_of p class)) go

-- what a load leaves where it is done
abbrev AllAfter : Answer → Type 0
AllAfter (Done reply state) = AllStarted state.outside
AllAfter _ = Unit {0}

module _ (p : CoreProgram) where
  abbrev total : ℕ
  total = length p.classes

  -- the classes before a number
  abbrev Before : ℕ → ClassId → Type 0
  Before n class = class.0 < n

  all-after : (outside : Outside) → Among total (Before total) outside → AllStarted outside
  all-after outside h class = by (cases_lt class.0 total)
    where
      by : (class.0 < total) ⊎ (total ≤ class.0) → is_started outside class ≡ true
      by (inl l) = h.these class l
      by (inr l) = ap (λ o. unwrap_or o true) (slice_get_past outside.started class.0 (subst (λ n. n ≤ class.0) (sym h.length_is) l))

  up : (n : ℕ) (class : ClassId) → Before (suc n) class → More (Before n) (record { 0 = n }) class
  up n class l = by (cases_eq class.0 n)
    where
      by : (class.0 ≡ n) ⊎ (class.0 ≢ n) → More (Before n) (record { 0 = n }) class
      by (inl e) = inr e
      by (inr d) = inl (omega arith)

  from-starts : (n : ℕ) (classes : List CoreClass) → n + length classes ≡ total → (s : State) → Among total (Before n) s.outside →
      AllAfter (start_from p (java p) n classes (λ u. Done None) no_exits s)
  unfolding ret seq start
  from-starts n [] e s h = all-after s.outside (record { these = λ class l. h.these class (omega arith); length_is = h.length_is })
  from-starts n (c ∷ cs) e s h = upwards-starts AllAfter tt (λ s. tt) (λ class e s. tt) total p (Before n) (record { 0 = n }) total
      (λ u. start_from p (java p) (suc n) cs (λ u. Done None) no_exits) (omega arith)
      (λ t g. from-starts (suc n) cs (omega arith) t (record { these = λ class l. g.these class (up n class l); length_is = g.length_is })) s h

  all-started : (units : ℕ) (interfaces : List ClassId) → AllAfter (load_within units p interfaces)
  all-started units interfaces = from-starts 0 p.classes (omega arith) (state_at units (world_before p interfaces) (none_started p))
      (record { these = λ class l. absurd (omega arith); length_is = length-replicate total false })

  -- a load that comes to its end has started every class
  pub done_all_started : (interfaces : List ClassId) (units : ℕ) (reply : Option Value) (state : State) → load_within units p interfaces ≡ Done reply state → AllStarted state.outside
  done_all_started interfaces units reply state e = subst AllAfter e (all-started units interfaces)
