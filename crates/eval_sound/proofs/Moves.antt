-- What fits fits on, and how the combinators keep a run safe.
use Rattle.std.proofs.Common.{◌≡◌, List, Option, Some, sym, subst}
use Rattle.std.specs.Prelude.{Bool, true, false, if◌then◌else◌}
use Rattle.je_base.specs.declared.span.NameId.{NameId}
use Rattle.je_core.specs.declared.object.Obj.{Obj}
use Rattle.je_core.specs.declared.types.ClassId.{ClassId}
use Rattle.je_core.specs.declared.types.Ty.{Ty}
use Rattle.je_core.specs.declared.value.ObjId.{ObjId}
use Rattle.je_core.specs.declared.value.Value.{Value}
use Rattle.je_core.specs.Core.{CoreProgram}
use Rattle.je_fitting.specs.Expressions.{Body}
use Rattle.je_fitting.specs.Statements.{no_targets}
use Rattle.je_java.specs.Steps.{State, Own, Run, Exits, Computation, Nothing, ret, bind, seq, yields, spent as stop_spent, throw, leave, jump, catching, finally, need, framed, initializing, with_own, with_starting}
use Rattle.je_sound.specs.Values.{ValueFits}
use Rattle.je_sound.proofs.Values.{value-stays, values-stay}
use Rattle.eval_sound.proofs.Growth.{grows-refl, grows-on, types-stay}
use Rattle.eval_sound.specs.Safety.{Any, Setting, Grows, ResultFits, Context, AllFitting, in_body, starting_in, OwnFits, CanJump, break, break_to, continue, continue_to, StateFits, CanBeThrown, thrown_in_start, spent, RunFits, ExitsFit, Safe, GoesOn}

-- ---- what fits fits on

pub fits-more : {p : CoreProgram} {objects later : List Obj} {t : Ty} {value : Value} → Grows objects later → ValueFits p objects t value → ValueFits p later t value
fits-more {p = p} {objects = objects} {later = later} {t = t} {value = value} x f = value-stays p objects later (types-stay x) t value f

pub all-more : {p : CoreProgram} {objects later : List Obj} {ts : List Ty} {values : List Value} → Grows objects later → AllFitting p ts objects values → AllFitting p ts later values
all-more {p = p} {objects = objects} {later = later} {ts = ts} {values = values} x f = record { each = values-stay p objects later (types-stay x) ts values f.each }

pub result-more : {p : CoreProgram} {objects later : List Obj} {t : Ty} {value : Value} → Grows objects later → ResultFits p t objects value → ResultFits p t later value
result-more x f = record { fits = λ e. fits-more x (f.fits e) }

pub own-more : {p : CoreProgram} {body : Body} {objects later : List Obj} {own : Own} → Grows objects later → OwnFits p body objects own → OwnFits p body later own
own-more x f = record { this = λ e. fits-more x (f.this e); locals = all-more x f.locals }

pub any : {A : Type 0} {objects : List Obj} {a : A} → Any objects a
any = record {}

pub no-jump : {again : Bool} {label : Option NameId} → CanJump no_targets again label → ⊥
no-jump (break e) = absurd cc
no-jump (break_to e) = absurd cc
no-jump (continue e) = absurd cc
no-jump (continue_to e) = absurd cc

-- a run that is safe whatever the ways out are: it takes none
pub record Quiet (S : Setting) {A : Type 0} (c : Context) (objects : List Obj) (Q : List Obj → A → Type 0) (m : Computation A) : Type 0 where
  pub run : (go : A → Run) (exits : Exits) → GoesOn S c.body objects Q go → RunFits S c.body objects (m go exits)

module _ {S : Setting} where
  pub run-more : {body : Body} {objects later : List Obj} {run : Run} → Grows objects later → RunFits S body objects run → RunFits S body later run
  run-more x r = record { from = λ s y st. r.from s (grows-on x y) st }

  pub exits-more : {c : Context} {objects later : List Obj} {exits : Exits} → Grows objects later → ExitsFit S c objects exits → ExitsFit S c later exits
  exits-more x e = record {
    leave = λ t q last y. e.leave t q last (grows-on x y);
    jump = λ again label j. run-more x (e.jump again label j);
    throw = λ last y. e.throw last (grows-on x y);
  }

  -- ---- combinators

  pub safe-ret : {A : Type 0} {Q : List Obj → A → Type 0} {c : Context} {w : List Obj} (a : A) → Q w a → Safe S c w Q (ret a)
  unfolding ret
  safe-ret {w = w} a q = record { run = λ go exits g x. g w grows-refl a q }

  pub safe-bind : {A B : Type 0} {P : List Obj → A → Type 0} {Q : List Obj → B → Type 0} {c : Context} {w : List Obj} {m : Computation A} {f : A → Computation B} →
      Safe S c w P m → ((later : List Obj) → Grows w later → (a : A) → P later a → Safe S c later Q (f a)) → Safe S c w Q (bind m f)
  unfolding bind
  safe-bind p k = record { run = λ go exits g x. p.run _ exits (λ later l a q. (k later l a q).run go exits (λ last l'. g last (grows-on l l')) (exits-more l x)) x }

  pub safe-seq : {A B : Type 0} {P : List Obj → A → Type 0} {Q : List Obj → B → Type 0} {c : Context} {w : List Obj} {m : Computation A} {n : Computation B} →
      Safe S c w P m → ((later : List Obj) → Grows w later → Safe S c later Q n) → Safe S c w Q (seq m n)
  unfolding seq
  safe-seq p k = record { run = λ go exits g x. p.run _ exits (λ later l a q. (k later l).run go exits (λ last l'. g last (grows-on l l')) (exits-more l x)) x }

  -- the same, where something is known of what the first gives
  pub safe-seq-with : {A B : Type 0} {P : List Obj → A → Type 0} {Q : List Obj → B → Type 0} {c : Context} {w : List Obj} {m : Computation A} {n : Computation B} →
      Safe S c w P m → ((later : List Obj) → Grows w later → (a : A) → P later a → Safe S c later Q n) → Safe S c w Q (seq m n)
  unfolding seq
  safe-seq-with p k = record { run = λ go exits g x. p.run _ exits (λ later l a q. (k later l a q).run go exits (λ last l'. g last (grows-on l l')) (exits-more l x)) x }

  pub safe-yields : {P : List Obj → Value → Type 0} {Q : List Obj → Value → Type 0} {c : Context} {w : List Obj} (value : Value) {m : Computation Value} →
      ((later : List Obj) → Grows w later → Q later value) → Safe S c w P m → Safe S c w Q (yields value m)
  unfolding yields
  safe-yields value q p = record { run = λ go exits g x. p.run _ exits (λ later l a r. g later l value (q later l)) x }

  pub safe-throw : {A : Type 0} {Q : List Obj → A → Type 0} {c : Context} {w : List Obj} {exception : ObjId} → CanBeThrown S w exception → Safe S c w Q (throw exception)
  unfolding throw
  safe-throw {w = w} q = record { run = λ go exits g x. x.throw w grows-refl _ q }

  pub safe-leave : {A : Type 0} {Q : List Obj → A → Type 0} {c : Context} {w : List Obj} {t : Ty} {value : Value} → c.body.returns ≡ Some t → ResultFits S.program t w value → Safe S c w Q (leave value)
  unfolding leave
  safe-leave {w = w} {t = t} e q = record { run = λ go exits g x. x.leave t e w grows-refl _ q }

  pub safe-jump : {A : Type 0} {Q : List Obj → A → Type 0} {c : Context} {w : List Obj} (again : Bool) (label : Option NameId) → CanJump c.targets again label → Safe S c w Q (jump again label)
  unfolding jump
  safe-jump again label j = record { run = λ go exits g x. x.jump again label j }

  pub safe-spent : {A : Type 0} {Q : List Obj → A → Type 0} {c : Context} {w : List Obj} → Safe S c w Q stop_spent
  unfolding stop_spent
  safe-spent = record { run = λ go exits g x. record { from = λ s y st. spent st.world } }

  -- `need` of what is there
  pub safe-need : {A : Type 0} {Q : List Obj → A → Type 0} {c : Context} {w : List Obj} {o : Option A} (a : A) → o ≡ Some a → Q w a → Safe S c w Q (need o)
  unfolding need
  safe-need {Q = Q} {c = c} {w = w} a e q = subst (λ y. Safe S c w Q (need y)) (sym e) (record { run = λ go exits g x. g w grows-refl a q })

  pub bind_need : {A B : Type 0} {Q : List Obj → B → Type 0} {c : Context} {w : List Obj} {o : Option A} (f : A → Computation B) (a : A) → o ≡ Some a →
      Safe S c w Q (f a) → Safe S c w Q (bind (need o) f)
  unfolding need bind
  bind_need {Q = Q} {c = c} {w = w} f a e p = subst (λ y. Safe S c w Q (bind (need y) f)) (sym e) (record { run = p.run })

  pub safe-if : {A : Type 0} {Q : List Obj → A → Type 0} {c : Context} {w : List Obj} {m n : Computation A} (b : Bool) → Safe S c w Q m → Safe S c w Q n → Safe S c w Q (if b then m else n)
  safe-if true p q = p
  safe-if false p q = q

  -- what is known of a value may be put more weakly
  pub safe-weaker : {A : Type 0} {P Q : List Obj → A → Type 0} {c : Context} {w : List Obj} {m : Computation A} →
      ((later : List Obj) → Grows w later → (a : A) → P later a → Q later a) → Safe S c w P m → Safe S c w Q m
  safe-weaker h p = record { run = λ go exits g x. p.run go exits (λ later l a q. g later l a (h later l a q)) x }

  -- ---- runs that take no way out

  pub quiet-safe : {A : Type 0} {Q : List Obj → A → Type 0} {c : Context} {w : List Obj} {m : Computation A} → Quiet S c w Q m → Safe S c w Q m
  quiet-safe p = record { run = λ go exits g x. p.run go exits g }

  pub quiet-ret : {A : Type 0} {Q : List Obj → A → Type 0} {c : Context} {w : List Obj} (a : A) → Q w a → Quiet S c w Q (ret a)
  unfolding ret
  quiet-ret {w = w} a q = record { run = λ go exits g. g w grows-refl a q }

  pub quiet-bind : {A B : Type 0} {P : List Obj → A → Type 0} {Q : List Obj → B → Type 0} {c : Context} {w : List Obj} {m : Computation A} {f : A → Computation B} →
      Quiet S c w P m → ((later : List Obj) → Grows w later → (a : A) → P later a → Quiet S c later Q (f a)) → Quiet S c w Q (bind m f)
  unfolding bind
  quiet-bind p k = record { run = λ go exits g. p.run _ exits (λ later l a q. (k later l a q).run go exits (λ last l'. g last (grows-on l l'))) }

  pub quiet-seq : {A B : Type 0} {P : List Obj → A → Type 0} {Q : List Obj → B → Type 0} {c : Context} {w : List Obj} {m : Computation A} {n : Computation B} →
      Quiet S c w P m → ((later : List Obj) → Grows w later → Quiet S c later Q n) → Quiet S c w Q (seq m n)
  unfolding seq
  quiet-seq p k = record { run = λ go exits g. p.run _ exits (λ later l a q. (k later l).run go exits (λ last l'. g last (grows-on l l'))) }

  pub quiet-if : {A : Type 0} {Q : List Obj → A → Type 0} {c : Context} {w : List Obj} {m n : Computation A} (b : Bool) → Quiet S c w Q m → Quiet S c w Q n → Quiet S c w Q (if b then m else n)
  quiet-if true p q = p
  quiet-if false p q = q

  -- ---- ways out

  pub safe-catching : {c : Context} {w : List Obj} {m : Computation Nothing} {h : ObjId → Computation Nothing} → Safe S c w Any m →
      ((later : List Obj) → Grows w later → (exception : ObjId) → CanBeThrown S later exception → Safe S c later Any (h exception)) → Safe S c w Any (catching m h)
  unfolding catching
  safe-catching p k = record {
    run = λ go exits g x. p.run go _ g (record {
      leave = x.leave;
      jump = x.jump;
      throw = λ later l exception q. (k later l exception q).run go exits (λ last l'. g last (grows-on l l')) (exits-more l x);
    });
  }

  pub safe-finally : {c : Context} {w : List Obj} {m n : Computation Nothing} → Safe S c w Any m → ((later : List Obj) → Safe S c later Any n) → Safe S c w Any (finally m n)
  unfolding finally
  safe-finally {w = w} p k = record {
    run = λ go exits g x. p.run _ _ (λ later l a q. (k later).run go exits (λ last l'. g last (grows-on l l')) (exits-more l x)) (record {
      leave = λ t e later l value q. (k later).run _ exits (λ last l' a r. x.leave t e last (grows-on l l') value (result-more l' q)) (exits-more l x);
      jump = λ again label j. (k w).run _ exits (λ last l' a r. run-more l' (x.jump again label j)) x;
      throw = λ later l exception q. (k later).run _ exits (λ last l' a r. x.throw last (grows-on l l') exception (fits-more l' q)) (exits-more l x);
    });
  }

  -- ---- bodies

  own-back : {body inner : Body} {s t : State} → StateFits S body s → Grows s.world.objects t.world.objects → StateFits S inner t → StateFits S body (with_own t s.own)
  own-back st l st' = record { world = record { sound = st'.world.sound; grown = st'.world.grown }; own = own-more l st.own }

  -- a body with its own values: what it returns fits, and so does what it ends with
  pub safe-framed : {Q : List Obj → Value → Type 0} {c : Context} {w : List Obj} (inner : Body) {own : Own} (ends : Value) {m : Computation Nothing} →
      OwnFits S.program inner w own → ((later : List Obj) → Grows w later → Q later ends) →
      ((t : Ty) → inner.returns ≡ Some t → (later : List Obj) → Grows w later → (value : Value) → ResultFits S.program t later value → Q later value) →
      ((later : List Obj) → Grows w later → Safe S (in_body inner) later Any m) → Safe S c w Q (framed own ends m)
  unfolding framed
  safe-framed inner ends o e r p = record {
    run = λ go exits g x. record {
      from = λ s l st.
          ((p s.world.objects l).run _ _
          (λ later l' a q. record { from = λ t l'' st'. let on = grows-on l' l'' in (g t.world.objects (grows-on l on) ends (e _ (grows-on l on))).from _ grows-refl (own-back st on st') })
          (record {
            leave = λ ty q later l' value f. record {
              from = λ t l'' st'. let on = grows-on l' l'' in
                  (g t.world.objects (grows-on l on) value (r ty q _ (grows-on l on) value (result-more l'' f))).from _ grows-refl (own-back st on st');
            };
            jump = λ again label j. absurd (no-jump j);
            throw = λ later l' exception f. record {
              from = λ t l'' st'. let on = grows-on l' l'' in
                  (x.throw t.world.objects (grows-on l on) exception (fits-more l'' f)).from _ grows-refl (own-back st on st');
            };
          })).from _ grows-refl (record { world = record { sound = st.world.sound; grown = st.world.grown }; own = own-more l o });
    };
  }

  started : (c : Context) {s : State} (class : Option ClassId) → StateFits S c.body s → StateFits S (starting_in c).body (with_starting s class)
  started c class st = record { world = record { sound = st.world.sound; grown = st.world.grown }; own = record { this = st.own.this; locals = st.own.locals } }

  ended : (c : Context) {s : State} (class : Option ClassId) → StateFits S (starting_in c).body s → StateFits S c.body (with_starting s class)
  ended c class st = record { world = record { sound = st.world.sound; grown = st.world.grown }; own = record { this = st.own.this; locals = st.own.locals } }

  -- the initializers of a class: what is thrown there ends the run
  pub quiet-initializing : {c : Context} {w : List Obj} (class : ClassId) {m : Computation Nothing} → Safe S (starting_in c) w Any m → Quiet S c w Any (initializing class m)
  unfolding initializing
  quiet-initializing {c = c} class p = record {
    run = λ go exits g. record {
      from = λ s l st.
          (p.run _ _
          (λ later l' a q. record { from = λ t l'' st'. (g later l' tt any).from _ l'' (ended c _ st') })
          (record {
            leave = λ ty q later l' value f. absurd cc;
            jump = λ again label j. absurd (no-jump j);
            throw = λ later l' exception f. record { from = λ t l'' st'. thrown_in_start st'.world (fits-more l'' f) };
          })).from _ l (started c (Some class) st);
    };
  }
