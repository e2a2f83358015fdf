-- A call from outside.
use Rattle.std.proofs.Common.{◌≡◌, ℕ, zero, suc, List, [], Option, Some, None, refl, sym, subst, inl, inr, ap, ◌∷◌}
use Rattle.std.specs.Prelude.{true, false, ◌&&◌, ◌⊎◌}
use Rattle.je_core.specs.declared.object.Obj.{Obj}
use Rattle.je_core.specs.declared.types.Base.{Base}
use Rattle.je_core.specs.declared.types.Base.TheVariants as base
use Rattle.je_core.specs.declared.types.ClassId.{ClassId}
use Rattle.je_core.specs.declared.types.Ty.{Ty}
use Rattle.je_core.specs.declared.value.ObjId.{ObjId}
use Rattle.je_core.specs.declared.value.Value.{Value}
use Rattle.je_core.specs.declared.value.Value.TheVariants as value
use Rattle.je_core.specs.Core.{CoreMethod, CoreClass, CoreProgram}
use Rattle.je_classes.specs.Hierarchy.{class_at}
use Rattle.je_classes.specs.Laws.{SubtypesAreDecided}
use Rattle.je_classes.specs.Subtypes.{class_type, is_subtype}
use Rattle.je_classes.proofs.Lists.{bool_cases}
use Rattle.je_classes.proofs.Same.{same_type-equal}
use Rattle.je_fitting.specs.Expressions.{Body, method as of_method, method_at, is_constructor, can_be_made}
use Rattle.je_fitting.specs.Members.{is_guest, results_agree}
use Rattle.je_fitting.specs.Types.{void, is_void, agrees}
use Rattle.je_fitting.proofs.Booleans.{two}
use Rattle.je_java.specs.declared.call.Receiver.{Receiver}
use Rattle.je_java.specs.Meaning.{Meanings, member_at, ends, reply_in, reply, replied_exact, replied_virtual, replied_fresh, call_by, state_at}
use Rattle.je_java.specs.Steps.{Done}
use Rattle.je_java.specs.World.{World}
use Rattle.je_sound.specs.Calls.{CallFits, ReceiverFits, on_nothing, on_object, on_new}
use Rattle.je_sound.specs.Values.{ValueFits}
use Rattle.je_sound.proofs.Values.{agree-cases}
use Rattle.eval_sound.specs.Laws.{MeaningsAreSafe, reply_type, CallsAreSafe, EndsAreNotWrong, LoadsAreSafe}
use Rattle.eval_sound.specs.Premises.{from_outside, Premises}
use Rattle.eval_sound.specs.Safety.{Setting, Grows, ResultFits, ReplyFits, no_reply, a_reply, AllFitting, Context, in_body, done, thrown, thrown_in_start, spent, Safe, Any}
use Rattle.eval_sound.proofs.Bodies.{looked-up, safe-run_member, safe-run_constructor, safe-hand_on}
use Rattle.eval_sound.proofs.Members.{method-class, bodiless}
use Rattle.eval_sound.proofs.Evaluation.{known, java-safe}
use Rattle.eval_sound.proofs.Growth.{grows-refl}
use Rattle.eval_sound.proofs.Made.{bind_object, safe-make}
use Rattle.eval_sound.proofs.Moves.{any, Quiet, quiet-ret, quiet-seq, fits-more, all-more, safe-ret, safe-bind, safe-seq, safe-seq-with, bind_need, no-jump}
use Rattle.eval_sound.proofs.Starts.{quiet-start}
use Rattle.je_load.specs.Loading.{world_before, none_started, start_from, no_exits}
use Rattle.load_sound.proofs.Beginnings.{first_worlds_are_sound}
use Rattle.eval_sound.proofs.News.{guest-instances}
use Rattle.eval_sound.proofs.Operators.{either-way}
use Rattle.eval_sound.proofs.Receivers.{safe-get_receiving_class, dispatches}
use Rattle.eval_sound.proofs.Results.{void-agrees, real-agrees}
use Rattle.library_fits.proofs.Table.{apart}
use Rattle.eval_sound.proofs.Types.{Known, agree-itself, fits-above}
use Rattle.eval_sound.proofs.Values.{reference-above}

-- ---- replies

replies-value : (t : Ty) (v : Value) → is_void t ≡ false → reply t v ≡ Some v
replies-value t v e = by t.base t.dims e
  where
    by : (b : Base) (n : ℕ) → is_void (record { base = b; dims = n }) ≡ false → reply_in n b v ≡ Some v
    by b (suc n) q = refl
    by base.Void zero q = absurd cc
    by base.Bool zero q = refl
    by base.Byte zero q = refl
    by base.Short zero q = refl
    by base.Char zero q = refl
    by base.Int zero q = refl
    by base.Long zero q = refl
    by base.Null zero q = refl
    by (base.Class c) zero q = refl

replies-none : (t : Ty) (v : Value) → is_void t ≡ true → reply t v ≡ None
replies-none t v e = subst (λ (u : Ty). reply u v ≡ None) (sym (same_type-equal t void e)) refl

-- what goes to a place is of no void type on both sides
place-real : (p : CoreProgram) (s t : Ty) → agrees p s t ≡ true → is_void t ≡ false
place-real p s t e = bool_cases (λ b. b ≡ false) (is_void t) (λ q. absurd (no (subst (λ (u : Ty). agrees p s u ≡ true) (same_type-equal t void q) e))) (λ q. refl)
  where
    no : agrees p s void ≡ true → ⊥
    no h = by (agree-cases p s void h)
      where
        by : (s ≡ void) ⊎ (is_subtype p s void ≡ true) → ⊥
        by (inl q) = apart (subst (λ (u : Ty). agrees p u void ≡ true) q h) (void-agrees p void)
        by (inr q) = apart (reference-above p s void q) refl

reply-more : {p : CoreProgram} {t : Ty} {w later : List Obj} {v : Option Value} → Grows w later → ReplyFits p t w v → ReplyFits p t later v
reply-more l (no_reply e) = no_reply e
reply-more l (a_reply e f) = a_reply e (fits-more l f)

reply-by : (p : CoreProgram) (fit : Known p) (s t : Ty) (w : List Obj) (v : Value) → results_agree p s t ≡ true → ResultFits p s w v → ReplyFits p t w (reply s v)
reply-by p fit s t w v e f = either-way (agrees p s t) (is_void s && is_void t) e
    (λ q. subst (λ o. ReplyFits p t w o) (sym (replies-value s v (real-agrees p s t q))) (a_reply (place-real p s t q) (fits-above p fit (f.fits (real-agrees p s t q)) q)))
    (λ q. let h = two {a = is_void s} {b = is_void t} q in subst (λ o. ReplyFits p t w o) (sym (replies-none s v h.0)) (no_reply h.1))

reply-itself : (p : CoreProgram) (t : Ty) (w : List Obj) (v : Value) → ResultFits p t w v → ReplyFits p t w (reply t v)
reply-itself p t w v f = bool_cases (λ b. is_void t ≡ b → ReplyFits p t w (reply t v)) (is_void t)
    (λ q z. subst (λ o. ReplyFits p t w o) (sym (replies-none t v q)) (no_reply q))
    (λ q z. subst (λ o. ReplyFits p t w o) (sym (replies-value t v q)) (a_reply q (f.fits q))) refl

module _ {S : Setting} (fit : Known S.program) (premises : Premises S) {m : Meanings} (g : MeaningsAreSafe S m) where
  -- a static method is no constructor
  static-plain : (k : CoreMethod) → method_at S.program S.called.class S.called.at ≡ Some k → k.flags.is_static ≡ true → is_constructor S.program k ≡ false
  static-plain k is e = bool_cases (λ b. is_constructor S.program k ≡ b → is_constructor S.program k ≡ false) (is_constructor S.program k)
      (λ q z. apart e ((method-class S.program fit.whole S.called.class S.called.at k is).fits.constructor q).own) (λ q z. q) refl

  -- a guest's concrete method has a body
  called-has-body : (k : CoreMethod) → method_at S.program S.called.class S.called.at ≡ Some k → is_guest S.called.class ≡ true → k.flags.is_abstract ≡ false → k.body ≡ None → ⊥
  called-has-body k is guest concrete e = apart guest (bodiless S.program fit.whole premises.no_native S.called.class S.called.at k is concrete e).of_library

  on-none : {c : Context} {w : List Obj} {given : List Value} (k : CoreMethod) → method_at S.program S.called.class S.called.at ≡ Some k → k.flags.is_static ≡ true →
      k.flags.is_abstract ≡ false → is_guest S.called.class ≡ true → AllFitting S.program k.params w given →
      Safe S c w (ReplyFits S.program k.returns) (replied_exact S.program m S.called.class S.called.at given)
  on-none k is e concrete guest a =
      bind_need _ k (looked-up S.program S.called.class S.called.at k is)
      (safe-bind (safe-run_member fit premises g (member_at S.called.class S.called.at) k is (static-plain k is e) (λ z. absurd (called-has-body k is guest concrete z)) (λ z. apart e z) a) λ later l v f.
      safe-ret _ (reply-itself S.program k.returns later v f))

  on-instance : {c : Context} {w : List Obj} {o : ObjId} {given : List Value} (k : CoreMethod) → method_at S.program S.called.class S.called.at ≡ Some k → k.flags.is_static ≡ false →
      is_constructor S.program k ≡ false → ValueFits S.program w (class_type S.called.class) (value.Ref o) → AllFitting S.program k.params w given →
      Safe S c w (ReplyFits S.program k.returns) (replied_virtual S.program m S.called.class S.called.at o given)
  on-instance k is instance plain f a =
      safe-bind (safe-get_receiving_class fit S.called.class (agree-itself S.program fit (class_type S.called.class) refl) f) λ w1 l1 own r.
      let d = dispatches fit premises own S.called.class S.called.at k (from_outside r.agree) is instance plain r.agree r.kind in
      bind_need _ k (looked-up S.program S.called.class S.called.at k is) (bind_need _ d.member d.found (bind_need _ d.method d.there
      (safe-seq-with (safe-hand_on fit premises g k d.method d.params (all-more l1 a)) λ w2 l2 u b.
      safe-bind (safe-run_member fit premises g d.member d.method d.there d.plain d.library (λ z. fits-above S.program fit (fits-more l2 r.fits) d.above) b) λ w3 l3 v x.
      safe-ret _ (reply-by S.program fit d.method.returns k.returns w3 v d.result x))))

  on-fresh : {c : Context} {w : List Obj} {given : List Value} (the_class : CoreClass) (k : CoreMethod) → class_at S.program S.called.class ≡ Some the_class → can_be_made the_class ≡ true →
      is_guest S.called.class ≡ true → method_at S.program S.called.class S.called.at ≡ Some k → is_constructor S.program k ≡ true → AllFitting S.program k.params w given →
      Safe S c w (ReplyFits S.program (class_type S.called.class)) (replied_fresh S.program m S.called.class S.called.at given)
  on-fresh the_class k there made guest is con a =
      bind_object (safe-make fit S.called.class the_class there made (guest-instances S.program fit S.called.class guest)) λ w1 l1 o q.
      bind_need _ k (looked-up S.program S.called.class S.called.at k is)
      (safe-seq (safe-run_constructor fit premises g (member_at S.called.class S.called.at) k is con (λ z. absurd (called-has-body k is guest ((method-class S.program fit.whole S.called.class S.called.at k is).fits.constructor con).concrete z)) q (all-more l1 a)) λ w2 l2.
      safe-ret _ (a_reply refl (fits-more l2 q)))

  safe-call : {c : Context} {world : World} {given : List Value} (receiver : Receiver) (fits : CallFits S.program world receiver S.called.class S.called.at given) →
      Safe S c world.objects (ReplyFits S.program (reply_type receiver S.called.class fits.method)) (call_by S.program m receiver S.called.class S.called.at given)
  unfolding call_by
  safe-call {c = c} {world = world} {given = given} receiver fits = by receiver fits.on
    where
      args : AllFitting S.program fits.method.params world.objects given
      args = record { each = fits.with_args }

      by : (receiver : Receiver) → ReceiverFits S.program world S.called.class fits.the_class fits.method receiver →
          Safe S c world.objects (ReplyFits S.program (reply_type receiver S.called.class fits.method)) (call_by S.program m receiver S.called.class S.called.at given)
      by _ (on_nothing static concrete) = on-none fits.method fits.is_method static concrete fits.guest args
      by _ (on_object instance plain f) = on-instance fits.method fits.is_method instance plain f args
      by _ (on_new con made outer local) = on-fresh fits.the_class fits.method fits.there made fits.guest fits.is_method con args

-- who calls from outside has nothing
nobody_body : ClassId → Body
nobody_body class = record { class = class; code = of_method; is_static = true; locals = []; returns = None }

pub calls_are_safe : SubtypesAreDecided → CallsAreSafe
unfolding nobody_body
calls_are_safe decided S world receiver given units outside f premises sound first fits returns =
    let fit = known decided f in
    let body = nobody_body S.called.class in
    let safe = safe-call fit premises (java-safe fit premises) {c = in_body body} receiver fits in
    (safe.run Done ends
    (λ later l v q. record { from = λ s l' st. done st.world (reply-more l' (subst (λ (t : Ty). ReplyFits S.program t later v) (sym returns) q)) })
    (record {
      leave = λ t e later l v q. absurd cc;
      jump = λ again label j. absurd (no-jump j);
      throw = λ later l e q. record { from = λ s l' st. thrown st.world (fits-more l' q) };
    })).from (state_at units world outside) grows-refl
    (record {
      world = record { sound = sound; grown = subst (λ objects. Grows objects world.objects) (sym first) grows-refl };
      own = record { this = λ e. absurd cc; locals = record { each = tt } };
    })

pub ends_are_not_wrong : EndsAreNotWrong
ends_are_not_wrong S _ (done w r) e = absurd cc
ends_are_not_wrong S _ (thrown w r) e = absurd cc
ends_are_not_wrong S _ (thrown_in_start w r) e = absurd cc
ends_are_not_wrong S _ (spent w) e = absurd cc

-- ---- loads

module _ {S : Setting} (fit : Known S.program) (premises : Premises S) {m : Meanings} (g : MeaningsAreSafe S m) where
  quiet-start_from : {c : Context} (number : ℕ) (classes : List CoreClass) (w : List Obj) → Quiet S c w Any (start_from S.program m number classes)
  quiet-start_from number [] w = quiet-ret _ any
  quiet-start_from number (class ∷ classes) w = quiet-seq (quiet-start fit premises g (record { 0 = number }) w) λ later l. quiet-start_from (suc number) classes later

pub loads_are_safe : SubtypesAreDecided → LoadsAreSafe
unfolding nobody_body
loads_are_safe decided S units interfaces f premises devices first returns =
    let fit = known decided f in
    let before = world_before S.program interfaces in
    let body = nobody_body S.called.class in
    let quiet = quiet-start_from fit premises (java-safe fit premises) {c = in_body body} 0 S.program.classes before.objects in
    (quiet.run (λ u. Done None) no_exits (λ later l u q. record { from = λ s l' st. done st.world (no_reply (ap is_void returns)) })).from (state_at units before (none_started S.program)) grows-refl
    (record {
      world = record { sound = first_worlds_are_sound S.program interfaces f.whole devices; grown = subst (λ objects. Grows objects before.objects) (sym first) grows-refl };
      own = record { this = λ e. absurd cc; locals = record { each = tt } };
    })
