-- New instances: what is handed over to their hidden fields, and their constructors.
use Rattle.je_sound.proofs.Library.{there-too}
use Rattle.std.proofs.Common.{◌≡◌, ℕ, zero, suc, ◌+◌, ◌<◌, List, [], ◌∷◌, length, map, take, Option, Some, None, refl, sym, ap, subst, ◌∙◌, arith}
use Rattle.std.specs.Prelude.{Bool, true, false, not, ◌&&◌, cond, filter, slice_get, nat_lt, is_none, if◌then◌else◌}
use Rattle.std.specs.List.{All, Contains}
use Rattle.std.proofs.lemmas.Bool.Decides.{nat_tests}
use Rattle.std.proofs.lemmas.List.Elements.{All-nil, All-cons, All-head, All-tail, All-append}
use Rattle.std.proofs.lemmas.Option.{same_Some, slice_get-get_or}
use Rattle.je_base.specs.declared.span.NameId.{NameId}
use Rattle.je_core.specs.declared.object.Obj.{Obj}
use Rattle.je_core.specs.declared.types.ClassId.{ClassId}
use Rattle.je_core.specs.declared.types.Ty.{Ty}
use Rattle.je_core.specs.declared.value.ObjId.{ObjId}
use Rattle.je_core.specs.declared.value.Value.{Value}
use Rattle.je_core.specs.declared.value.Value.TheVariants as value
use Rattle.je_core.specs.Core.{CoreCapture, CoreField, CoreStmt, CoreMethod, CoreClass, CoreProgram}
use Rattle.je_table.specs.Library.{Class, classes}
use Rattle.je_classes.specs.Hierarchy.{class_at, with_superclass, supers_in, Below, same, above}
use Rattle.je_classes.specs.Subtypes.{class_type}
use Rattle.je_classes.proofs.Below.{below-from}
use Rattle.je_classes.proofs.Lists.{contains-here, bool_cases}
use Rattle.je_fitting.specs.Classes.{is_hidden, handed_count}
use Rattle.je_fitting.specs.Expressions.{Begins, at_local, at_this, Leads, here, through, CaptureFits, CapturesFit, outer_count, places_up_to, handed_to, handed_upwards, handed_over, field_at, method_at, is_constructor, can_be_made}
use Rattle.je_fitting.specs.Members.{is_guest}
use Rattle.je_java.specs.LibraryMembers.{run_library, has_own_makers}
use Rattle.je_java.specs.Meaning.{Meanings, led_to, handed_from, hand, hand_over, new_instance, has_no_body, is_maker, run_new, member_at}
use Rattle.je_java.specs.Steps.{Computation}
use Rattle.je_sound.specs.Objects.{has_instances}
use Rattle.je_sound.specs.Values.{ValueFits}
use Rattle.je_sound.proofs.Dispatched.{class-fits}
use Rattle.library_classes.specs.Library.{LibraryStands, all_due, classes_due, class_due}
use Rattle.eval_sound.specs.Premises.{MemberIsSafe, MakerIsSafe, Premises}
use Rattle.eval_sound.specs.Safety.{Any, Setting, Grows, Fitting, AllFitting, Context, Safe}
use Rattle.eval_sound.proofs.Bodies.{looked-up, safe-run_constructor}
use Rattle.eval_sound.proofs.Members.{guest-of-body}
use Rattle.eval_sound.proofs.Growth.{grows-refl, grows-on}
use Rattle.eval_sound.proofs.Made.{bind_value, bind_object, safe-make, safe-read_field, safe-fill_field}
use Rattle.eval_sound.proofs.Moves.{any, fits-more, all-more, safe-ret, safe-seq, bind_need, safe-yields}
use Rattle.eval_sound.specs.Laws.{MeaningsAreSafe}
use Rattle.eval_sound.proofs.Places.{class-of-field}
use Rattle.eval_sound.proofs.Steps.{safe-get_this, safe-get_local}
use Rattle.eval_sound.proofs.Types.{Known, agree-below, below-agrees, fits-above}

-- ---- classes of the library have no hidden fields

count-due : (number : List ℕ → NameId) (at : ℕ) (cs : List Class) → length (classes_due number at cs) ≡ length cs
count-due number at [] = refl
count-due number at (c ∷ cs) = ap suc (count-due number (suc at) cs)

record HasNone (c : CoreClass) : Type 0 where
  outer : c.enclosing ≡ None
  captured : c.captured ≡ 0

due-has-none : (number : List ℕ → NameId) (at : ℕ) (cs : List Class) (n : ℕ) (c : CoreClass) → slice_get (classes_due number at cs) n ≡ Some c → HasNone c
due-has-none number at [] n c e = absurd cc
due-has-none number at (k ∷ cs) zero c e = subst HasNone (same_Some (class_due number at k) c e) (record { outer = refl; captured = refl })
due-has-none number at (k ∷ cs) (suc n) c e = due-has-none number (suc at) cs n c e

library-has-none : (p : CoreProgram) → LibraryStands p → (k : ClassId) (c : CoreClass) → class_at p k ≡ Some c → is_guest k ≡ false → HasNone c
unfolding all_due
library-has-none p s k c e g =
    let l : k.0 < length classes = below (nat_lt k.0 (length classes)) refl g in
    let l' : k.0 < length (classes_due s.number 0 classes) = subst (λ n. k.0 < n) (sym (count-due s.number 0 classes)) l in
    let there = slice_get-get_or (classes_due s.number 0 classes) k.0 c l' in
    subst HasNone (same_Some _ c (sym (there-too p s k _ there) ∙ e)) (due-has-none s.number 0 classes k.0 _ there)
  where
    below : (b : Bool) → nat_lt k.0 (length classes) ≡ b → not b ≡ false → k.0 < length classes
    below true q h = grind (arith, nat_tests)
    below false q h = absurd cc

-- ---- hidden fields that take something are instance fields

hidden-own : (fs : List CoreField) (at n : ℕ) (f : CoreField) → All (λ f. is_hidden f ≡ true) (take n fs) → All (λ f. f.is_static ≡ false) (filter is_hidden fs) → at < n → slice_get fs at ≡ Some f → f.is_static ≡ false
hidden-own [] at n f a b l e = absurd cc
hidden-own (g ∷ fs) at zero f a b l e = absurd (omega (arith, l))
hidden-own (g ∷ fs) zero (suc n) f a b l e =
    let h = All-head (λ f. is_hidden f ≡ true) g (take n fs) a in
    let kept : filter is_hidden (g ∷ fs) ≡ g ∷ filter is_hidden fs = ap (λ x. cond x (g ∷ filter is_hidden fs) (filter is_hidden fs)) h in
    subst (λ (x : CoreField). x.is_static ≡ false) (same_Some g f e) (All-head (λ f. f.is_static ≡ false) g (filter is_hidden fs) (subst (λ xs. All (λ f. f.is_static ≡ false) xs) kept b))
hidden-own (g ∷ fs) (suc at) (suc n) f a b l e =
    let h = All-head (λ f. is_hidden f ≡ true) g (take n fs) a in
    let kept : filter is_hidden (g ∷ fs) ≡ g ∷ filter is_hidden fs = ap (λ x. cond x (g ∷ filter is_hidden fs) (filter is_hidden fs)) h in
    hidden-own fs at n f (All-tail (λ f. is_hidden f ≡ true) g (take n fs) a) (All-tail (λ f. f.is_static ≡ false) g (filter is_hidden fs) (subst (λ xs. All (λ f. f.is_static ≡ false) xs) kept b)) (omega (arith, l)) e

places-below : (n : ℕ) → All (λ at. at < n) (places_up_to n)
places-below zero = All-nil (λ at. at < 0)
places-below (suc n) = All-append (λ at. at < suc n) (places_up_to n) (n ∷ []) (weaker (places_up_to n) (places-below n)) (All-cons (λ at. at < suc n) n [] (omega arith) (All-nil (λ at. at < suc n)))
  where
    weaker : (xs : List ℕ) → All (λ at. at < n) xs → All (λ at. at < suc n) xs
    weaker [] a = All-nil (λ at. at < suc n)
    weaker (x ∷ xs) a = let h = All-head (λ at. at < n) x xs a in All-cons (λ at. at < suc n) x xs (omega (arith, h)) (weaker xs (All-tail (λ at. at < n) x xs a))

below-on : {p : CoreProgram} {c d e : ClassId} → Below p c d → Below p d e → Below p c e
below-on same q = q
below-on (above i r) q = above i (below-on r q)

-- a field of a class above, which is an instance field
record IsHanded (p : CoreProgram) (class : ClassId) (f : ClassId × ℕ) : Type 0 where
  above : Below p class f.0
  instance : (field : CoreField) → field_at p f.0 f.1 ≡ Some field → field.is_static ≡ false

module _ (p : CoreProgram) (fit : Known p) where
  of-class : (class k : ClassId) (c : CoreClass) → class_at p k ≡ Some c → Below p class k → (ats : List ℕ) → All (λ at. at < outer_count c.enclosing + c.captured) ats →
      All (IsHanded p class) (map (λ at. (k, at)) ats)
  of-class class k c there b [] a = All-nil (IsHanded p class)
  of-class class k c there b (at ∷ ats) a =
      All-cons (IsHanded p class) (k, at) (map (λ at. (k, at)) ats) (record { above = b; instance = λ field e. own field e (All-head (λ at. at < outer_count c.enclosing + c.captured) at ats a) })
      (of-class class k c there b ats (All-tail (λ at. at < outer_count c.enclosing + c.captured) at ats a))
    where
      own : (field : CoreField) → field_at p k at ≡ Some field → at < outer_count c.enclosing + c.captured → field.is_static ≡ false
      own field e l = bool_cases (λ b. is_guest k ≡ b → field.is_static ≡ false) (is_guest k) (λ q z. of-guest q) (λ q z. of-library q) refl
        where
          its : slice_get c.fields at ≡ Some field
          its = let h = class-of-field p k at field e in let one : h.the_class ≡ c = same_Some h.the_class c (sym h.there ∙ there) in subst (λ (x : CoreClass). slice_get x.fields at ≡ Some field) one h.its

          of-guest : is_guest k ≡ true → field.is_static ≡ false
          of-guest q = let h = (class-fits p fit.whole k c there).hidden q in hidden-own c.fields at (handed_count c) field h.first h.own l its

          of-library : is_guest k ≡ false → field.is_static ≡ false
          of-library q =
              let h = library-has-none p fit.library k c there q in
              let none : outer_count c.enclosing + c.captured ≡ 0 = ap (λ o. outer_count o + c.captured) h.outer ∙ ap (λ n. 0 + n) h.captured in
              absurd (omega (arith, none, l))

  all-handed : (class : ClassId) (n : ℕ) (o : Option ClassId) → ((k : ClassId) → o ≡ Some k → Below p class k) → All (IsHanded p class) (handed_upwards p n o)
  all-handed class n None b = none n
    where
      none : (n : ℕ) → All (IsHanded p class) (handed_upwards p n None)
      none zero = All-nil (IsHanded p class)
      none (suc n) = All-nil (IsHanded p class)
  all-handed class zero (Some k) b = All-nil (IsHanded p class)
  all-handed class (suc n) (Some k) b = by (class_at p k) refl (all-handed class n)
    where
      by : (o : Option CoreClass) → class_at p k ≡ o → ((o : Option ClassId) → ((k : ClassId) → o ≡ Some k → Below p class k) → All (IsHanded p class) (handed_upwards p n o)) →
          All (IsHanded p class) (handed_to (handed_upwards p n) k o)
      by None q more = All-nil (IsHanded p class)
      by (Some c) q more = All-append (IsHanded p class) (handed_upwards p n c.superclass) (map (λ at. (k, at)) (places_up_to (outer_count c.enclosing + c.captured)))
          (more c.superclass (λ d e. below-on (b k refl) (up d e)))
          (of-class class k c q (b k refl) (places_up_to (outer_count c.enclosing + c.captured)) (places-below (outer_count c.enclosing + c.captured)))
        where
          up : (d : ClassId) → c.superclass ≡ Some d → Below p k d
          up d e = above (subst (λ o. Contains (supers_in o) d) (sym q) (subst (λ o. Contains (with_superclass o c.interfaces) d) (sym e) (contains-here d c.interfaces))) same

  -- each capture goes to an instance field of a class above
  handed-fields : (class : ClassId) (captures : List CoreCapture) → map (λ (c : CoreCapture). (c.class, c.field)) captures ≡ handed_over p class → All (λ (c : CoreCapture). IsHanded p class (c.class, c.field)) captures
  handed-fields class captures e = by captures (subst (λ xs. All (IsHanded p class) xs) (sym e) (all-handed class _ (Some class) (λ k q. subst (λ (d : ClassId). Below p class d) (same_Some class k q) same)))
    where
      by : (cs : List CoreCapture) → All (IsHanded p class) (map (λ (c : CoreCapture). (c.class, c.field)) cs) → All (λ (c : CoreCapture). IsHanded p class (c.class, c.field)) cs
      by [] a = All-nil (λ (c : CoreCapture). IsHanded p class (c.class, c.field))
      by (c ∷ cs) a = All-cons (λ (c : CoreCapture). IsHanded p class (c.class, c.field)) c cs (All-head (IsHanded p class) (c.class, c.field) (map (λ (c : CoreCapture). (c.class, c.field)) cs) a)
          (by cs (All-tail (IsHanded p class) (c.class, c.field) (map (λ (c : CoreCapture). (c.class, c.field)) cs) a))

  -- a guest's class has instances
  pub guest-instances : (class : ClassId) → is_guest class ≡ true → has_instances p class ≡ true
  guest-instances class e = rw e refl

  with-body : (class : ClassId) (at : ℕ) (k : CoreMethod) (b : CoreStmt) → method_at p class at ≡ Some k → k.body ≡ Some b → has_instances p class ≡ true
  with-body class at k b is e = guest-instances class (guest-of-body p fit.whole class at k b is e)

-- what is known where a constructor has no body
pub record Bodiless (S : Setting) (class : ClassId) (at : ℕ) (k : CoreMethod) : Type 0 where
  pub library : has_own_makers class ≡ false → MemberIsSafe S class at k
  pub instances : has_own_makers class ≡ false → has_instances S.program class ≡ true
  pub maker : has_own_makers class ≡ true → MakerIsSafe S class at k

module _ {S : Setting} (fit : Known S.program) where
  safe-led_to : {c : Context} {w : List Obj} {s t : Ty} {path : List (ClassId × ℕ)} {v : Value} → Leads S.program c.body s path t → ValueFits S.program w s v →
      Safe S c w (Fitting S.program t) (led_to S.program path v)
  safe-led_to here f = safe-ret _ f
  safe-led_to (through {t = s} {c = k} {at = at} {f = field} b there instance hidden more) f =
      bind_value (safe-read_field fit k at field there instance (fits-above S.program fit f (agree-below S.program s (class_type k) b))) λ later l v q. safe-led_to more q

  safe-handed_from : {c : Context} {w : List Obj} {local : Option ℕ} {t : Ty} → Begins S.program c.body local t → Safe S c w (Fitting S.program t) (handed_from local)
  safe-handed_from (at_local {n = n} e) = safe-get_local n e
  safe-handed_from (at_this e) = safe-get_this e

  safe-hand : {c : Context} {w : List Obj} {class : ClassId} {o : ObjId} (capture : CoreCapture) → CaptureFits S.program c.body capture → IsHanded S.program class (capture.class, capture.field) →
      ValueFits S.program w (class_type class) (value.Ref o) → Safe S c w Any (hand S.program capture o)
  safe-hand {class = class} {o = o} capture f h q =
      bind_value (bind_value (safe-handed_from f.begins) λ w1 l1 v r. safe-led_to f.leads r) λ w2 l2 v r.
      safe-fill_field fit capture.class capture.field f.field o f.there (h.instance f.field f.there)
      (fits-above S.program fit (fits-more l2 q) (below-agrees S.program class capture.class (below-from S.program h.above))) (fits-above S.program fit r f.agree) λ w3 l3. any

  safe-hand_over : {Q : List Obj → Value → Type 0} {c : Context} {w : List Obj} {class : ClassId} {o : ObjId} {after : Computation Value} (captures : List CoreCapture) →
      All (CaptureFits S.program c.body) captures → All (λ (c : CoreCapture). IsHanded S.program class (c.class, c.field)) captures → ValueFits S.program w (class_type class) (value.Ref o) →
      ((later : List Obj) → Grows w later → Safe S c later Q after) → Safe S c w Q (hand_over S.program captures o after)
  safe-hand_over {w = w} [] fs hs q k = k w grows-refl
  safe-hand_over {c = c} {class = class} (capture ∷ captures) fs hs q k =
      safe-seq (safe-hand capture (All-head (CaptureFits S.program c.body) capture captures fs) (All-head (λ (c : CoreCapture). IsHanded S.program class (c.class, c.field)) capture captures hs) q) λ later l.
      safe-hand_over captures (All-tail (CaptureFits S.program c.body) capture captures fs) (All-tail (λ (c : CoreCapture). IsHanded S.program class (c.class, c.field)) capture captures hs) (fits-more l q)
      λ last l'. k last (grows-on l l')

  module _ (premises : Premises S) {m : Meanings} (g : MeaningsAreSafe S m) where
    safe-new_instance : {c : Context} {w : List Obj} {given : List Value} (class : ClassId) (at : ℕ) (captures : List CoreCapture) (the_class : CoreClass) (k : CoreMethod) → class_at S.program class ≡ Some the_class →
        can_be_made the_class ≡ true → has_instances S.program class ≡ true → method_at S.program class at ≡ Some k → is_constructor S.program k ≡ true → (k.body ≡ None → MemberIsSafe S class at k) →
        CapturesFit S.program c.body class captures → AllFitting S.program k.params w given → Safe S c w (Fitting S.program (class_type class)) (new_instance S.program m class at captures given)
    safe-new_instance class at captures the_class k there made has is con library f a =
        bind_object (safe-make fit class the_class there made has) λ w1 l1 o q.
        safe-hand_over captures f.each (handed-fields S.program fit class captures f.fields) q λ w2 l2.
        bind_need _ k (looked-up S.program class at k is)
        (safe-yields (value.Ref o) (λ w3 l3. fits-more (grows-on l2 l3) q) (safe-run_constructor fit premises g (member_at class at) k is con library (fits-more l2 q) (all-more (grows-on l1 l2) a)))

    pub safe-run_new : {c : Context} {w : List Obj} {given : List Value} (class : ClassId) (at : ℕ) (captures : List CoreCapture) (the_class : CoreClass) (k : CoreMethod) → class_at S.program class ≡ Some the_class →
        can_be_made the_class ≡ true → method_at S.program class at ≡ Some k → is_constructor S.program k ≡ true → (k.body ≡ None → Bodiless S class at k) →
        CapturesFit S.program c.body class captures → AllFitting S.program k.params w given → Safe S c w (Fitting S.program (class_type class)) (run_new S.program m class at captures given)
    safe-run_new {c = c} {w = w} {given = given} class at captures the_class k there made is con bodiless f a =
        subst (λ b. Safe S c w (Fitting S.program (class_type class)) (if b then run_library S.program class at value.Null given else new_instance S.program m class at captures given)) (sym maker) (by k.body refl (has_own_makers class) refl)
      where
        maker : is_maker S.program class at ≡ (is_none k.body && has_own_makers class)
        maker = ap (λ o. has_no_body o && has_own_makers class) (looked-up S.program class at k is)

        by : (o : Option CoreStmt) → k.body ≡ o → (b : Bool) → has_own_makers class ≡ b →
            Safe S c w (Fitting S.program (class_type class)) (if is_none o && b then run_library S.program class at value.Null given else new_instance S.program m class at captures given)
        by None q true h = ((bodiless q).maker h).runs c w given a
        by None q false h = safe-new_instance class at captures the_class k there made ((bodiless q).instances h) is con (λ z. (bodiless q).library h) f a
        by (Some b) q own h = safe-new_instance class at captures the_class k there made (with-body S.program fit class at k b is q) is con (λ z. absurd (let y = sym q ∙ z in no y)) f a
          where
            no : {x : CoreStmt} → Some x ≡ None → ⊥
            no e = absurd cc
