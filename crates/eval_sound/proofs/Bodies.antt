-- Methods and constructors on a receiver and arguments that fit them.
use Rattle.eval_sound.proofs.Members.{MethodClass, method-class}
use Rattle.std.proofs.Common.{◌≡◌, ℕ, List, [], ◌∷◌, ◌++◌, length, take, drop, Option, Some, None, refl, sym, ap, subst, ◌∙◌}
use Rattle.std.specs.Prelude.{Bool, true, false, ◌&&◌, slice_get, is_none, is_some, if◌then◌else◌}
use Rattle.std.proofs.lemmas.List.Elements.{All-head, All-tail}
use Rattle.std.proofs.lemmas.Option.{same_Some}
use Rattle.je_core.specs.Defaults.{default_of}
use Rattle.je_core.specs.declared.object.Obj.{Obj}
use Rattle.je_core.specs.declared.program.Local.{Local}
use Rattle.je_core.specs.declared.types.ClassId.{ClassId}
use Rattle.je_core.specs.declared.types.Ty.{Ty}
use Rattle.je_core.specs.declared.value.ObjId.{ObjId}
use Rattle.je_core.specs.declared.value.Value.{Value}
use Rattle.je_core.specs.declared.value.Value.TheVariants as value
use Rattle.je_core.specs.Core.{CoreStmt, CoreMethod, CoreClass, CoreProgram}
use Rattle.je_classes.specs.Hierarchy.{class_at}
use Rattle.je_classes.specs.Members.{Member, methods_in, method_of}
use Rattle.je_classes.specs.Subtypes.{class_type, is_reference, same_type, same_types, is_subtype}
use Rattle.je_classes.proofs.Same.{same_type-equal}
use Rattle.je_fitting.specs.Classes.{same_place, same_places}
use Rattle.je_fitting.specs.Expressions.{constructor, method, method_at, is_constructor}
use Rattle.je_fitting.specs.Members.{AreVariables, BodyFits, a_block, behind_a_call, body_of, code_of, local_types}
use Rattle.je_fitting.specs.Statements.{StatementFits, no_targets}
use Rattle.je_fitting.specs.Types.{agrees, is_primitive, is_void, is_variable_type}
use Rattle.je_fitting.proofs.Booleans.{two}
use Rattle.je_java.specs.Classes as java
use Rattle.je_java.specs.Classes.{defaults_of, locals_for}
use Rattle.je_java.specs.Meaning.{Meanings, run_method, run_member, admit_all, hand_on, member_at, run_virtual, run_instance, run_exact, build_with, run_constructor}
use Rattle.je_java.specs.LibraryMembers.{run_library}
use Rattle.je_java.specs.Raised.{class_cast}
use Rattle.je_java.specs.Steps.{receiving_class, Nothing, ret, raise, admit, cast}
use Rattle.je_sound.specs.Values.{ValueFits, ValuesFit}
use Rattle.je_sound.proofs.Values.{defaults_fit}
use Rattle.eval_sound.specs.Premises.{MemberIsSafe, ComesTo, Premises, has_objects}
use Rattle.eval_sound.specs.Safety.{Any, Setting, ResultFits, AllFitting, Context, OwnFits, Safe}
use Rattle.eval_sound.proofs.Growth.{grows-on}
use Rattle.eval_sound.proofs.Made.{bind_object, safe-deref, safe-raise}
use Rattle.eval_sound.proofs.Moves.{any, fits-more, all-more, safe-ret, safe-bind, safe-seq-with, bind_need, safe-framed, safe-weaker}
use Rattle.eval_sound.proofs.Operators.{either-way}
use Rattle.eval_sound.specs.Laws.{MeaningsAreSafe}
use Rattle.eval_sound.proofs.Receivers.{safe-get_receiving_class, dispatches}
use Rattle.eval_sound.proofs.Results.{result-by}
use Rattle.eval_sound.proofs.Standing.{raises-cast}
use Rattle.eval_sound.proofs.Steps.{IsOf, safe-get_type}
use Rattle.eval_sound.proofs.Types.{Known, agree-below, fits-above, null-fits}
use Rattle.eval_sound.proofs.Values.{Formed, bool, byte, short, char, int, long, null, reference, formed}

-- ---- the locals of a body

module _ (p : CoreProgram) (objects : List Obj) where
  abbrev types : List Local → List Ty
  types ls = local_types ls

  pub defaults-fit : (ls : List Local) → AreVariables p (types ls) → ValuesFit p objects (types ls) (defaults_of ls)
  defaults-fit [] a = tt
  defaults-fit (l ∷ ls) a =
      (defaults_fit p objects l.ty (All-head (λ t. is_variable_type p t ≡ true) l.ty (types ls) a), defaults-fit ls (All-tail (λ t. is_variable_type p t ≡ true) l.ty (types ls) a))

  locals-by : (ts : List Ty) (vs : List Value) (ls : List Local) → ValuesFit p objects ts vs → take (length ts) (types ls) ≡ ts → AreVariables p (types ls) →
      ValuesFit p objects (types ls) (vs ++ defaults_of (drop (length vs) ls))
  locals-by [] [] ls f e a = defaults-fit ls a
  locals-by [] (v ∷ vs) ls f e a = absurd f
  locals-by (t ∷ ts) [] ls f e a = absurd f
  locals-by (t ∷ ts) (v ∷ vs) [] f e a = absurd cc
  locals-by (t ∷ ts) (v ∷ vs) (l ∷ ls) f e a =
      let first : l.ty ≡ t = same_Some l.ty t (ap (λ xs. slice_get xs 0) e) in
      let rest : take (length ts) (types ls) ≡ ts = ap (drop 1) e in
      (subst (λ (u : Ty). ValueFits p objects u v) (sym first) f.0, locals-by ts vs ls f.1 rest (All-tail (λ t. is_variable_type p t ≡ true) l.ty (types ls) a))

-- evaluation looks for it in the same way
pub looked-up : (p : CoreProgram) (class : ClassId) (at : ℕ) (m : CoreMethod) → method_at p class at ≡ Some m → java.method_at p class at ≡ Some m
looked-up p class at m e = by (class_at p class) e
  where
    by : (o : Option CoreClass) → slice_get (methods_in o) at ≡ Some m → java.method_in o at ≡ Some m
    by None h = absurd cc
    by (Some c) h = h

-- a method that is no constructor has a plain body
plain-body : (p : CoreProgram) (class : ClassId) (super : Option ClassId) (m : CoreMethod) (s : CoreStmt) → is_constructor p m ≡ false → BodyFits p (body_of p class m) super s → StatementFits p (body_of p class m) no_targets s
plain-body p class super m _ e (a_block f) = f
plain-body p class super m _ e (behind_a_call code there head parts) = absurd (let z : method ≡ constructor = sym (ap code_of e) ∙ code in apart z)
  where
    apart : method ≡ constructor → ⊥
    apart q = absurd cc

module _ (p : CoreProgram) where
  -- the values with which a body begins
  own-fits : {w : List Obj} {this : Value} {given : List Value} (class : ClassId) (at : ℕ) (m : CoreMethod) (b : CoreStmt) (k : MethodClass p class at m) → m.body ≡ Some b →
      (m.flags.is_static ≡ false → ValueFits p w (class_type class) this) → AllFitting p m.params w given →
      OwnFits p (body_of p class m) w (record { this = this; locals = locals_for m given })
  own-fits {w = w} {given = given} class at m b k e t a = record {
    this = t;
    locals = record { each = locals-by p w m.params given m.locals a.each (k.fits.first_locals (ap is_some e)) k.fits.locals };
  }

  -- a body that comes to its end
  end-fits : (class : ClassId) (at : ℕ) (m : CoreMethod) → MethodClass p class at m → (w : List Obj) → ResultFits p m.returns w (default_of m.returns)
  end-fits class at m k w = record {
    fits = λ e. either-way (is_void m.returns) (is_variable_type p m.returns) k.fits.result (λ q. let z = sym e ∙ q in absurd cc) (λ q. defaults_fit p w m.returns q);
  }

  returned : {w : List Obj} {v : Value} (class : ClassId) (m : CoreMethod) (t : Ty) → (body_of p class m).returns ≡ Some t → ResultFits p t w v → ResultFits p m.returns w v
  returned {w = w} {v = v} class m t e f = subst (λ (u : Ty). ResultFits p u w v) (sym (same_Some m.returns t e)) f

module _ {S : Setting} (fit : Known S.program) where
  module _ (premises : Premises S) {m : Meanings} (g : MeaningsAreSafe S m) where
    pub safe-run_method : {c : Context} {w : List Obj} {this : Value} {given : List Value} (class : ClassId) (at : ℕ) (k : CoreMethod) (b : CoreStmt) → method_at S.program class at ≡ Some k →
        is_constructor S.program k ≡ false → k.body ≡ Some b → (k.flags.is_static ≡ false → ValueFits S.program w (class_type class) this) → AllFitting S.program k.params w given →
        Safe S c w (ResultFits S.program k.returns) (run_method m k this given)
    safe-run_method class at k b is plain e t a =
        let h = method-class S.program fit.whole class at k is in
        bind_need _ b e (safe-framed (body_of S.program class k) (default_of k.returns) (own-fits S.program class at k b h e t a) (λ later l. end-fits S.program class at k h later)
        (λ u q later l v r. returned S.program class k u q r)
        (λ later l. g.exec (plain-body S.program class h.the_class.superclass k b plain (h.fits.body b e)) (premises.allowed.methods class h.the_class at k b h.there h.its e) later))

    pub safe-run_member : {c : Context} {w : List Obj} {this : Value} {given : List Value} (member : Member) (k : CoreMethod) → method_of S.program member ≡ Some k →
        is_constructor S.program k ≡ false → (k.body ≡ None → MemberIsSafe S member.class member.at k) → (k.flags.is_static ≡ false → ValueFits S.program w (class_type member.class) this) →
        AllFitting S.program k.params w given → Safe S c w (ResultFits S.program k.returns) (run_member S.program m member k this given)
    safe-run_member {c = c} {w = w} {this = this} {given = given} member k is plain library t a = by k.body refl
      where
        by : (o : Option CoreStmt) → k.body ≡ o → Safe S c w (ResultFits S.program k.returns) (if is_none o then run_library S.program member.class member.at this given else run_method m k this given)
        by None q = (library q).runs c w this given t a
        by (Some b) q = safe-run_method member.class member.at k b is plain q t a

    -- a constructor on an object
    pub safe-build_with : {c : Context} {w : List Obj} {this : Value} {given : List Value} (class : ClassId) (at : ℕ) (k : CoreMethod) (b : CoreStmt) → method_at S.program class at ≡ Some k →
        is_constructor S.program k ≡ true → k.body ≡ Some b → ValueFits S.program w (class_type class) this → AllFitting S.program k.params w given → Safe S c w Any (build_with m class k this given)
    safe-build_with class at k b is con e t a =
        let h = method-class S.program fit.whole class at k is in
        bind_need _ b e (safe-framed (body_of S.program class k) (default_of k.returns) (own-fits S.program class at k b h e (λ q. t) a) (λ later l. any) (λ u q later l v r. any)
        (λ later l. g.build class h.the_class at k b h.there h.its con e later))

    pub safe-run_constructor : {c : Context} {w : List Obj} {this : Value} {given : List Value} (member : Member) (k : CoreMethod) → method_of S.program member ≡ Some k →
        is_constructor S.program k ≡ true → (k.body ≡ None → MemberIsSafe S member.class member.at k) → ValueFits S.program w (class_type member.class) this →
        AllFitting S.program k.params w given → Safe S c w Any (run_constructor S.program m member k this given)
    safe-run_constructor {c = c} {w = w} {this = this} {given = given} member k is con library t a = by k.body refl
      where
        by : (o : Option CoreStmt) → k.body ≡ o → Safe S c w Any (if is_none o then run_library S.program member.class member.at this given else build_with m member.class k this given)
        by None q = safe-weaker (λ later l v r. any) ((library q).runs c w this given (λ z. t) a)
        by (Some b) q = safe-build_with member.class member.at k b is con q t a

    -- ---- arguments that are tested

    safe-admit : {c : Context} {w : List Obj} {s : Ty} {v : Value} (t : Ty) → same_place s t ≡ true → ValueFits S.program w s v → Safe S c w (λ objects u. ValueFits S.program objects t v) (admit S.program t v)
    unfolding admit cast
    safe-admit {c = c} {w = w} {s = s} {v = v} t e f = by (formed f) e f
      where
        kept : {s : Ty} {v : Value} → is_reference s ≡ false → same_place s t ≡ true → ValueFits S.program w s v → ValueFits S.program w t v
        kept {s = s} {v = v} r q h = either-way (is_primitive s && same_type s t) (is_reference s && is_reference t) q
            (λ z. subst (λ (u : Ty). ValueFits S.program w u v) (same_type-equal s t (two {a = is_primitive s} {b = same_type s t} z).1) h)
            (λ z. let y = sym r ∙ (two {a = is_reference s} {b = is_reference t} z).0 in absurd cc)

        refers : (s : Ty) → is_reference s ≡ true → same_place s t ≡ true → is_reference t ≡ true
        refers s r q = either-way (is_primitive s && same_type s t) (is_reference s && is_reference t) q
            (λ z. subst (λ (u : Ty). is_reference u ≡ true) (same_type-equal s t (two {a = is_primitive s} {b = same_type s t} z).1) r)
            (λ z. (two {a = is_reference s} {b = is_reference t} z).1)

        tested : {later : List Obj} {s : Ty} (o : ObjId) (own : Ty) → IsOf S s o later own → (b : Bool) → is_subtype S.program own t ≡ b →
            Safe S c later (λ objects r. ValueFits S.program objects t (value.Ref o)) (if b then ret (value.Ref o) else raise S.program class_cast)
        tested o own i true q = safe-ret _ (record { own = own; has = i.has; agree = agree-below S.program own t q })
        tested o own i false q = safe-raise fit class_cast (raises-cast S.program fit.library)

        by : {s : Ty} {v : Value} → Formed s v → same_place s t ≡ true → ValueFits S.program w s v → Safe S c w (λ objects u. ValueFits S.program objects t v) (admit S.program t v)
        by bool q h = safe-ret _ (kept refl q h)
        by byte q h = safe-ret _ (kept refl q h)
        by short q h = safe-ret _ (kept refl q h)
        by char q h = safe-ret _ (kept refl q h)
        by int q h = safe-ret _ (kept refl q h)
        by long q h = safe-ret _ (kept refl q h)
        by (null r) q h = safe-ret _ (null-fits S.program fit (refers _ r q))
        by (reference {o = o} r) q h = safe-seq-with (safe-bind (safe-get_type h) λ later l own i. tested o own i (is_subtype S.program own t) refl) λ last l' r z. safe-ret _ z

    safe-admit_all : {c : Context} {w : List Obj} (ss ts : List Ty) (values : List Value) → same_places ss ts ≡ true → AllFitting S.program ss w values →
        Safe S c w (λ objects u. AllFitting S.program ts objects values) (admit_all S.program ts values)
    safe-admit_all [] [] values e f = safe-ret _ (record { each = f.each })
    safe-admit_all [] (t ∷ ts) values e f = absurd cc
    safe-admit_all (s ∷ ss) [] values e f = absurd cc
    safe-admit_all (s ∷ ss) (t ∷ ts) [] e f = absurd f.each
    safe-admit_all (s ∷ ss) (t ∷ ts) (v ∷ values) e f =
        let q = two {a = same_place s t} {b = same_places ss ts} e in
        safe-seq-with (safe-admit t q.0 f.each.0) λ later l u r.
        safe-weaker (λ last l' z x. record { each = (fits-more l' r, x.each) }) (safe-admit_all ss ts values q.1 (all-more l (record { each = f.each.1 })))

    alike : (ss ts : List Ty) → same_types ss ts ≡ true → ss ≡ ts
    alike [] [] e = refl
    alike [] (t ∷ ts) e = absurd cc
    alike (s ∷ ss) [] e = absurd cc
    alike (s ∷ ss) (t ∷ ts) e =
        let q = two {a = same_type s t} {b = same_types ss ts} e in
        ap (λ u. u ∷ ss) (same_type-equal s t q.0) ∙ ap (λ us. t ∷ us) (alike ss ts q.1)

    pub safe-hand_on : {c : Context} {w : List Obj} {given : List Value} (named k : CoreMethod) → same_places named.params k.params ≡ true → AllFitting S.program named.params w given →
        Safe S c w (λ objects u. AllFitting S.program k.params objects given) (hand_on S.program named k given)
    safe-hand_on {c = c} {w = w} {given = given} named k e f = by (same_types named.params k.params) refl
      where
        by : (b : Bool) → same_types named.params k.params ≡ b → Safe S c w (λ objects u. AllFitting S.program k.params objects given) (if b then ret {A = Nothing} tt else admit_all S.program k.params given)
        by true q = safe-ret _ (subst (λ us. AllFitting S.program us w given) (alike named.params k.params q) f)
        by false q = safe-admit_all named.params k.params given e f

    -- ---- calls

    pub safe-run_virtual : {c : Context} {w : List Obj} {this : Value} {given : List Value} (t : Ty) (class : ClassId) (at : ℕ) (named : CoreMethod) →
        ((own : Ty) → has_objects own ≡ true → agrees S.program own t ≡ true → ComesTo S (receiving_class own.dims own.base) class at) → method_at S.program class at ≡ Some named → named.flags.is_static ≡ false →
        is_constructor S.program named ≡ false → is_reference t ≡ true → agrees S.program t (class_type class) ≡ true → ValueFits S.program w t this → AllFitting S.program named.params w given →
        Safe S c w (ResultFits S.program named.returns) (run_virtual S.program m class at this given)
    safe-run_virtual t class at named comes is instance plain r up f a =
        bind_object (safe-deref fit r f) λ w1 l1 o q.
        safe-bind (safe-get_receiving_class fit class up q) λ w2 l2 own r.
        let from = subst (λ (k : ClassId). ComesTo S k class at) r.is (comes r.type r.real r.of_type) in
        let d = dispatches fit premises own class at named from is instance plain r.agree r.kind in
        bind_need _ named (looked-up S.program class at named is) (bind_need _ d.member d.found (bind_need _ d.method d.there
        (safe-seq-with (safe-hand_on named d.method d.params (all-more (grows-on l1 l2) a)) λ w3 l3 u b.
        safe-weaker (λ w4 l4 v x. result-by S.program fit d.result x)
        (safe-run_member d.member d.method d.there d.plain d.library (λ z. fits-above S.program fit (fits-more l3 r.fits) d.above) b))))

    pub safe-run_exact : {c : Context} {w : List Obj} {this : Value} {given : List Value} (class : ClassId) (at : ℕ) (k : CoreMethod) → method_at S.program class at ≡ Some k →
        is_constructor S.program k ≡ false → (k.body ≡ None → MemberIsSafe S class at k) → (k.flags.is_static ≡ false → ValueFits S.program w (class_type class) this) →
        AllFitting S.program k.params w given → Safe S c w (ResultFits S.program k.returns) (run_exact S.program m class at this given)
    safe-run_exact {c = c} {w = w} {this = this} {given = given} class at k is plain library t a = bind_need _ k (looked-up S.program class at k is) (by k.flags.is_static refl)
      where
        by : (b : Bool) → k.flags.is_static ≡ b →
            Safe S c w (ResultFits S.program k.returns) (if b then run_member S.program m (member_at class at) k value.Null given else run_instance S.program m (member_at class at) k this given)
        by true q = safe-run_member (member_at class at) k is plain library (λ z. let y = sym q ∙ z in absurd cc) a
        by false q = bind_object (safe-deref fit refl (t q)) λ later l o r. safe-run_member (member_at class at) k is plain library (λ z. r) (all-more l a)
