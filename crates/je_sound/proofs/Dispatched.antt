-- The method that an instance has for one.
use Rattle.std.proofs.Common.{◌≡◌, ℕ, zero, suc, ◌+◌, List, [], ◌∷◌, Option, Some, None, refl, sym, ap, subst, ◌∙◌, arith}
use Rattle.std.specs.Prelude.{Bool, true, false, not, ◌&&◌, ◌||◌, is_some, slice_get, nat_eq, if◌then◌else◌}
use Rattle.std.specs.List.{All}
use Rattle.std.proofs.lemmas.Bool.Decides.{nat_tests}
use Rattle.std.proofs.lemmas.List.Elements.{All-head, All-tail}
use Rattle.std.proofs.lemmas.Option.{same_Some}
use Rattle.je_core.specs.declared.program.Bridge.{Bridge}
use Rattle.je_core.specs.declared.types.Base.{Base}
use Rattle.je_core.specs.declared.types.Base.TheVariants as base
use Rattle.je_core.specs.declared.types.ClassId.{ClassId}
use Rattle.je_core.specs.declared.types.Ty.{Ty}
use Rattle.je_core.specs.Core.{CoreMethod, CoreClass, CoreProgram}
use Rattle.je_classes.specs.Dispatch.{same_signature, is_own, own_from, unless_abstract, placed, next_above, own_or_above, implemented_upwards, implemented, bridged_in, bridged, implemented_or_private, bridged_or, dispatched}
use Rattle.je_classes.specs.Hierarchy.{class_at, same_class, is_below, object_class}
use Rattle.je_classes.specs.Members.{Member, same_member, same_name, methods_in, method_of, is_private}
use Rattle.je_classes.specs.Subtypes.{is_subtype, same_type, same_types}
use Rattle.je_classes.proofs.Below.{same_class-equal, or_true, below-itself}
use Rattle.je_classes.proofs.Dimensions.{alike}
use Rattle.je_classes.proofs.Lists.{bool_cases}
use Rattle.je_classes.proofs.Same.{same_base-refl, same_type-equal}
use Rattle.je_java.specs.Meaning.{member_at}
use Rattle.je_fitting.specs.Classes.{same_place, same_places, BridgeFits, ClassFits}
use Rattle.je_fitting.specs.Expressions.{method_at, is_constructor, can_be_made}
use Rattle.je_fitting.specs.Members.{AreVariables, results_agree, StandsFor, MethodFits}
use Rattle.je_fitting.specs.Program.{itself, a_method, is_itself, is_method, method_fits, PartFits, FitsProgram}
use Rattle.je_fitting.specs.Types.{is_primitive, agrees, is_void, is_there, holds_something, is_variable_type}
use Rattle.je_fitting.proofs.Booleans.{two, both}
use Rattle.je_fitting.proofs.ClassesDecided.{itself_of}
use Rattle.je_sound.specs.Calls.{RunsFor}
use Rattle.je_sound.specs.Laws.{CallsAreDispatched}

-- ---- a type agrees with itself

abbrev type : Base → ℕ → Ty
type b n = record { base = b; dims = n }

place-itself : (b : Base) (n : ℕ) → holds_something b ≡ true → same_place (type b n) (type b n) ≡ true
place-itself b (suc n) h = or_true (is_primitive (type b (suc n)) && same_type (type b (suc n)) (type b (suc n))) true refl
place-itself base.Bool zero h = refl
place-itself base.Byte zero h = refl
place-itself base.Short zero h = refl
place-itself base.Char zero h = refl
place-itself base.Int zero h = refl
place-itself base.Long zero h = refl
place-itself (base.Class c) zero h = or_true (is_primitive (type (base.Class c) 0) && same_type (type (base.Class c) 0) (type (base.Class c) 0)) true refl
place-itself base.Null zero h = absurd cc
place-itself base.Void zero h = absurd cc

module _ (p : CoreProgram) where
  places-themselves : (ts : List Ty) → AreVariables p ts → same_places ts ts ≡ true
  places-themselves [] a = refl
  places-themselves (t ∷ ts) a =
      let v = All-head (λ t. is_variable_type p t ≡ true) t ts a in
      both (place-itself t.base t.dims (two {a = is_there p t} {b = holds_something t.base} v).1) (places-themselves ts (All-tail (λ t. is_variable_type p t ≡ true) t ts a))

  places-alike : (ts us : List Ty) → same_types us ts ≡ true → AreVariables p ts → same_places ts us ≡ true
  places-alike [] [] e a = refl
  places-alike [] (u ∷ us) e a = absurd cc
  places-alike (t ∷ ts) [] e a = absurd cc
  places-alike (t ∷ ts) (u ∷ us) e a =
      let q = two {a = same_type u t} {b = same_types us ts} e in
      let v = All-head (λ t. is_variable_type p t ≡ true) t ts a in
      let place = place-itself t.base t.dims (two {a = is_there p t} {b = holds_something t.base} v).1 in
      both (subst (λ (x : Ty). same_place t x ≡ true) (sym (same_type-equal u t q.0)) place) (places-alike ts us q.1 (All-tail (λ t. is_variable_type p t ≡ true) t ts a))

  agrees-itself : (b : Base) (n : ℕ) → holds_something b ≡ true → agrees p (type b n) (type b n) ≡ true
  unfolding is_subtype
  agrees-itself b (suc n) h = or_true (is_primitive (type b (suc n)) && same_type (type b (suc n)) (type b (suc n))) (is_subtype p (type b (suc n)) (type b (suc n)))
      (sym (alike p (type b (suc n)) (type b (suc n)) refl (omega arith) (same_base-refl b)))
  agrees-itself base.Bool zero h = refl
  agrees-itself base.Byte zero h = refl
  agrees-itself base.Short zero h = refl
  agrees-itself base.Char zero h = refl
  agrees-itself base.Int zero h = refl
  agrees-itself base.Long zero h = refl
  agrees-itself (base.Class c) zero h = or_true (is_primitive (type (base.Class c) 0) && same_type (type (base.Class c) 0) (type (base.Class c) 0)) (same_class c object_class || is_below p c c)
      (or_true (same_class c object_class) (is_below p c c) (below-itself p c))
  agrees-itself base.Null zero h = absurd cc
  agrees-itself base.Void zero h = absurd cc

  result-itself : (t : Ty) → (is_void t || is_variable_type p t) ≡ true → results_agree p t t ≡ true
  result-itself t e = bool_cases (λ b. (b || is_variable_type p t) ≡ true → results_agree p t t ≡ true) (is_void t)
      (λ v h. or_true (agrees p t t) (is_void t && is_void t) (both v v))
      (λ v h. left (agrees p t t) (is_void t && is_void t) (agrees-itself t.base t.dims (two {a = is_there p t} {b = holds_something t.base} h).1)) e
    where
      left : (a b : Bool) → a ≡ true → (a || b) ≡ true
      left true b h = refl
      left false b h = absurd cc

-- ---- the method that implements one

-- the first that can override a method, from a place on
pub record IsOwnAt (m : CoreMethod) (n : ℕ) (ks : List CoreMethod) (i : ℕ) (k : CoreMethod) : Type 0 where
  pub at : ℕ
  pub place : i ≡ n + at
  pub there : slice_get ks at ≡ Some k
  pub passes : (is_own k && same_signature k m) ≡ true

pub own-at : (m : CoreMethod) (n : ℕ) (ks : List CoreMethod) (i : ℕ) (k : CoreMethod) → own_from m n ks ≡ Some (i, k) → IsOwnAt m n ks i k
own-at m n [] i k e = absurd cc
own-at m n (j ∷ ks) i k e = by (is_own j && same_signature j m) refl e (own-at m (suc n) ks i k)
  where
    by : (b : Bool) → (is_own j && same_signature j m) ≡ b → (if b then Some (n, j) else own_from m (suc n) ks) ≡ Some (i, k) → (own_from m (suc n) ks ≡ Some (i, k) → IsOwnAt m (suc n) ks i k) →
        IsOwnAt m n (j ∷ ks) i k
    by true q h more =
        let none : n ≡ n + 0 = omega arith in
        let same : (n, j) ≡ (i, k) = same_Some (n, j) (i, k) h in
        let number : n ≡ i = ap (λ (x : ℕ × CoreMethod). x.0) same in
        let method : j ≡ k = ap (λ (x : ℕ × CoreMethod). x.1) same in
        record {
          at = 0;
          place = sym number ∙ none;
          there = ap (λ (x : CoreMethod). Some x) method;
          passes = subst (λ (x : CoreMethod). (is_own x && same_signature x m) ≡ true) method q;
        }
    by false q h more =
        let r = more h in
        let s : i ≡ suc n + r.at = r.place in
        record { at = suc r.at; place = omega (arith, s); there = r.there; passes = r.passes }

module _ (p : CoreProgram) (m : CoreMethod) where
  pub record Implements (r : Member) : Type 0 where
    pub by : CoreMethod
    pub there : method_of p r ≡ Some by
    pub passes : (is_own by && same_signature by m) ≡ true
    pub concrete : by.flags.is_abstract ≡ false

  placed-here : (class : ClassId) (c : CoreClass) (i : ℕ) (k : CoreMethod) (r : Member) → class_at p class ≡ Some c → own_from m 0 c.methods ≡ Some (i, k) →
      unless_abstract k (record { class = class; at = i }) ≡ Some r → Implements r
  placed-here class c i k r there e h = by k.flags.is_abstract refl h
    where
      by : (b : Bool) → k.flags.is_abstract ≡ b → (if b then None else Some (let x : Member = record { class = class; at = i } in x)) ≡ Some r → Implements r
      by true q g = absurd cc
      by false q g =
          let o = own-at m 0 c.methods i k e in
          let place : i ≡ 0 + o.at = o.place in
          let at : o.at ≡ i = omega (arith, place) in
          let same : (let x : Member = record { class = class; at = i } in x) ≡ r = same_Some _ _ g in
          record {
            by = k;
            there = subst (λ (x : Member). method_of p x ≡ Some k) same (ap (λ ks. slice_get (methods_in ks) i) there ∙ ap (slice_get c.methods) (sym at) ∙ o.there);
            passes = o.passes;
            concrete = q;
          }

  upwards : (n : ℕ) (o : Option ClassId) (r : Member) → implemented_upwards p n m o ≡ Some r → Implements r
  upwards zero None r e = absurd cc
  upwards (suc n) None r e = absurd cc
  upwards zero (Some class) r e = absurd cc
  upwards (suc n) (Some class) r e = by (class_at p class) refl e (λ o h. upwards n o r h)
    where
      at-class : (c : CoreClass) → class_at p class ≡ Some c → (o : Option (ℕ × CoreMethod)) → own_from m 0 c.methods ≡ o → placed class o (implemented_upwards p n m (next_above c)) ≡ Some r →
          ((o : Option ClassId) → implemented_upwards p n m o ≡ Some r → Implements r) → Implements r
      at-class c q None g h more = more (next_above c) h
      at-class c q (Some k) g h more = placed-here class c k.0 k.1 r q g h

      by : (o : Option CoreClass) → class_at p class ≡ o → own_or_above (implemented_upwards p n m) m class o ≡ Some r →
          ((o : Option ClassId) → implemented_upwards p n m o ≡ Some r → Implements r) → Implements r
      by None q h more = absurd cc
      by (Some c) q h more = at-class c q (own_from m 0 c.methods) refl h more

  pub is-implemented : (class : ClassId) (r : Member) → implemented p class m ≡ Some r → Implements r
  unfolding implemented
  is-implemented class r e = upwards _ (Some class) r e

-- ---- a bridge

pub record IsBridge (P : Bridge → Type 0) (m r : Member) : Type 0 where
  pub bridge : Bridge
  pub fits : P bridge
  pub from : (let x : Member = record { class = bridge.method.0; at = bridge.method.1 } in x) ≡ m
  pub to : (let x : Member = record { class = bridge.by.0; at = bridge.by.1 } in x) ≡ r

pub is-bridge : (P : Bridge → Type 0) (bs : List Bridge) (m r : Member) → All P bs → bridged_in bs m ≡ Some r → IsBridge P m r
is-bridge P [] m r a e = absurd cc
is-bridge P (b ∷ bs) m r a e = by (same_member (record { class = b.method.0; at = b.method.1 }) m) refl e (is-bridge P bs m r (All-tail P b bs a))
  where
    same : same_member (record { class = b.method.0; at = b.method.1 }) m ≡ true → (let x : Member = record { class = b.method.0; at = b.method.1 } in x) ≡ m
    same q =
        let h = two {a = same_class b.method.0 m.class} {b = nat_eq b.method.1 m.at} q in
        let class : b.method.0 ≡ m.class = same_class-equal b.method.0 m.class h.0 in
        let t : nat_eq b.method.1 m.at ≡ true = h.1 in
        let at : b.method.1 ≡ m.at = grind (arith, nat_tests) in
        ap (λ (c : ClassId). let x : Member = record { class = c; at = b.method.1 } in x) class ∙ ap (λ (n : ℕ). let x : Member = record { class = m.class; at = n } in x) at

    by : (t : Bool) → same_member (record { class = b.method.0; at = b.method.1 }) m ≡ t →
        (if t then Some (let x : Member = record { class = b.by.0; at = b.by.1 } in x) else bridged_in bs m) ≡ Some r → (bridged_in bs m ≡ Some r → IsBridge P m r) → IsBridge P m r
    by true q h more = record { bridge = b; fits = All-head P b bs a; from = same q; to = same_Some _ _ h }
    by false q h more = more h

-- ---- the method that runs

pub some-of : {A : Type 0} (o : Option A) → is_some o ≡ true → (x : A) × (o ≡ Some x)
some-of None e = absurd cc
some-of (Some x) e = (x, refl)

module _ (p : CoreProgram) (f : FitsProgram p) where
  pub class-fits : (c : ClassId) (k : CoreClass) → class_at p c ≡ Some k → ClassFits p c k
  class-fits c k there = itself_of p c k ((f c k there).parts itself is_itself)

  of-part : (class : ClassId) (c : CoreClass) (at : ℕ) (m : CoreMethod) → slice_get c.methods at ≡ Some m → PartFits p class c (a_method at) → MethodFits p class c m
  of-part class c at m e (method_fits {m = k} q fits) = subst (MethodFits p class c) (same_Some k m (sym q ∙ e)) fits

  pub record FitsThere (class : ClassId) (m : CoreMethod) : Type 0 where
    pub c : CoreClass
    pub fits : MethodFits p class c m

  pub method-fits : (class : ClassId) (at : ℕ) (m : CoreMethod) → method_at p class at ≡ Some m → FitsThere class m
  method-fits class at m e = by (class_at p class) refl e
    where
      by : (o : Option CoreClass) → class_at p class ≡ o → slice_get (methods_in o) at ≡ Some m → FitsThere class m
      by None q h = absurd cc
      by (Some c) q h = record { c = c; fits = of-part class c at m h ((f class c q).parts (a_method at) (is_method h)) }

  module _ (own class : ClassId) (o : CoreClass) (at : ℕ) (named : CoreMethod) (there : class_at p own ≡ Some o) (above : is_below p own class ≡ true)
      (is : method_at p class at ≡ Some named) (instance : named.flags.is_static ≡ false) (method : is_constructor p named ≡ false) where
    abbrev member : Member
    member = record { class = class; at = at }

    record Runs (r : Member) : Type 0 where
      by : CoreMethod
      is_there : method_of p r ≡ Some by
      runs : RunsFor p by named

    named-fits : FitsThere class named
    named-fits = method-fits class at named is

    -- over a bridge
    bridge-runs : (r : Member) → IsBridge (BridgeFits p own) member r → Runs r
    bridge-runs r b =
        let from : b.fits.from ≡ named = same_Some _ _ (sym b.fits.from_there ∙ ap (method_of p) b.from ∙ is) in
        record {
          by = b.fits.to;
          is_there = ap (method_of p) (sym b.to) ∙ b.fits.to_there;
          runs = record {
            own = b.fits.to_own;
            concrete = b.fits.to_concrete;
            params = subst (λ (x : CoreMethod). same_places x.params b.fits.to.params ≡ true) from b.fits.params;
            result = subst (λ (x : CoreMethod). results_agree p b.fits.to.returns x.returns ≡ true) from b.fits.result;
          };
        }

    -- a private one is the named one
    private-runs : (r : Member) → unless_abstract named member ≡ Some r → Runs r
    private-runs r e = by named.flags.is_abstract refl e
      where
        by : (b : Bool) → named.flags.is_abstract ≡ b → (if b then None else Some member) ≡ Some r → Runs r
        by true q h = absurd cc
        by false q h =
            let same : member ≡ r = same_Some _ _ h in
            let fits = named-fits.fits in
            record {
              by = named;
              is_there = subst (λ (x : Member). method_of p x ≡ Some named) same is;
              runs = record { own = instance; concrete = q; params = places-themselves p named.params fits.params; result = result-itself p named.returns fits.result };
            }

    -- any other one is implemented
    stands : is_private named ≡ false → bridged (class_at p own) member ≡ None → (r : Member) → implemented p own named ≡ Some r → (i : Implements p named r) → StandsFor p i.by named
    stands public none r e i =
        let q = two {a = is_own i.by} {b = same_signature i.by named} i.passes in
        by q.1 (own-flag i.by q.0) (same_class r.class own) refl
      where
        own-flag : (k : CoreMethod) → is_own k ≡ true → k.flags.is_static ≡ false
        own-flag k h = left k.flags.is_static (is_private k) h
          where
            left : (a b : Bool) → not (a || b) ≡ true → a ≡ false
            left true b g = absurd cc
            left false b g = refl

        hiding : (a b : Bool) → a ≡ false → (a && b) ≡ false
        hiding true b h = absurd cc
        hiding false b h = refl

        by : same_signature i.by named ≡ true → i.by.flags.is_static ≡ false → (b : Bool) → same_class r.class own ≡ b → StandsFor p i.by named
        by alike static true s =
            let here : method_at p own r.at ≡ Some i.by = subst (λ (c : ClassId). method_at p c r.at ≡ Some i.by) (same_class-equal r.class own s) i.there in
            (method-fits own r.at i.by here).fits.overrides class at named (record {
              there = is;
              is_above = above;
              no_hiding = hiding i.by.flags.is_static named.flags.is_static static;
              alike = alike;
              not_private = public;
              no_constructor = method;
            })
        by alike static false s = (class-fits own o there).inherited class at named (record { there = is; is_above = above; own = instance; no_constructor = method }) public none r i.by e s i.there

    implemented-runs : is_private named ≡ false → bridged (class_at p own) member ≡ None → (r : Member) → implemented p own named ≡ Some r → Runs r
    implemented-runs public none r e =
        let i = is-implemented p named own r e in
        let s = stands public none r e i in
        let alike = (two {a = is_own i.by} {b = same_signature i.by named} i.passes).1 in
        let params = (two {a = same_name i.by.name named.name} {b = same_types i.by.params named.params} alike).1 in
        record {
          by = i.by;
          is_there = i.there;
          runs = record {
            own = s.own;
            concrete = i.concrete;
            params = places-alike p named.params i.by.params params named-fits.fits.params;
            result = s.result;
          };
        }

    without-bridge : bridged (class_at p own) member ≡ None → (r : Member) → (b : Bool) → is_private named ≡ b → (if b then unless_abstract named member else implemented p own named) ≡ Some r → Runs r
    without-bridge none r true q e = private-runs r e
    without-bridge none r false q e = implemented-runs q none r e

    dispatched-runs : (r : Member) → (x : Option Member) → bridged (class_at p own) member ≡ x → bridged_or x (implemented_or_private p own member (method_of p member)) ≡ Some r → Runs r
    dispatched-runs r None q e = without-bridge q r (is_private named) refl (ap (implemented_or_private p own member) (sym is) ∙ e)
    dispatched-runs r (Some y) q e = bridge-runs r (is-bridge (BridgeFits p own) o.bridges member r (class-fits own o there).bridges (sym (ap (λ k. bridged k member) there) ∙ q ∙ e))

    runs-for : can_be_made o ≡ true → (to : Member) × (by : CoreMethod) × (dispatched p own (member_at class at) ≡ Some to) × (method_of p to ≡ Some by) × RunsFor p by named
    unfolding dispatched
    runs-for made =
        let found = some-of (dispatched p own member) ((class-fits own o there).implements made class at named (record { there = is; is_above = above; own = instance; no_constructor = method })) in
        let r = dispatched-runs found.0 (bridged (class_at p own) member) refl found.1 in
        (found.0, r.by, found.1, r.is_there, r.runs)

pub calls_are_dispatched : CallsAreDispatched
calls_are_dispatched p own class o at named f there made above is instance method = runs-for p f own class o at named there above is instance method made
