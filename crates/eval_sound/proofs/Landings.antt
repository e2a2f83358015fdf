-- Where jumps come to, and exceptions.
use Rattle.std.proofs.Common.{◌≡◌, ℕ, zero, suc, List, length, Option, Some, None, refl, sym, ap, subst, ◌∙◌, inl, inr}
use Rattle.std.specs.Prelude.{Bool, true, false, ◌⊎◌, nat_lt, slice_get, codes, if◌then◌else◌}
use Rattle.std.specs.List.{Contains}
use Rattle.std.proofs.lemmas.Option.{same_Some}
use Rattle.je_base.specs.declared.span.NameId.{NameId}
use Rattle.je_core.specs.declared.object.Obj.{Obj}
use Rattle.je_core.specs.declared.object.Obj.TheVariants.{Instance, Array, Text, Builder, Row, Cap}
use Rattle.je_core.specs.declared.types.ClassId.{ClassId}
use Rattle.je_core.specs.declared.types.Ty.{Ty}
use Rattle.je_core.specs.declared.value.ObjId.{ObjId}
use Rattle.je_core.specs.declared.value.Value.TheVariants.{Ref}
use Rattle.je_core.specs.Core.{CoreClass, CoreProgram}
use Rattle.je_classes.specs.Hierarchy.{class_at, supers_in, supers_of, with_superclass, same_class, Below, same, above, library_class, object_class}
use Rattle.je_classes.specs.Subtypes.{class_type, array_of}
use Rattle.je_classes.proofs.Below.{same_class-equal}
use Rattle.je_classes.proofs.Lists.{contains-here}
use Rattle.je_fitting.specs.Expressions.{Body}
use Rattle.je_fitting.specs.Statements.{Targets, in_switch}
use Rattle.je_fitting.specs.Types.{agrees, throwable}
use Rattle.je_java.specs.Subclasses.{superclass_in, superclass_of, is_among, is_subclass}
use Rattle.je_java.specs.Steps.{Computation, Nothing, Run, Exits, landing, looped, labelled, is_break, broken_by, get_class}
use Rattle.je_java.specs.World.{class_in, type_in}
use Rattle.je_sound.specs.Values.{ValueFits}
use Rattle.je_sound.proofs.Members.{array-agrees}
use Rattle.eval_sound.specs.Safety.{Any, Setting, Context, CanJump, break, break_to, continue, continue_to, RunFits, ExitsFit, GoesOn, CanBeThrown, Safe}
use Rattle.eval_sound.proofs.Growth.{grows-refl, grows-on}
use Rattle.eval_sound.proofs.Moves.{any, fits-more, exits-more}
use Rattle.eval_sound.proofs.Steps.{goes}
use Rattle.library_fits.proofs.Table.{apart}
use Rattle.eval_sound.proofs.Types.{Known, agree-itself}

-- A jump comes to a statement, which is a loop if it goes on, or goes out.
pub record Lands (inner outer : Targets) (lands : Option NameId → Bool) (is_loop : Bool) : Type 0 where
  pub comes : (again : Bool) (label : Option NameId) → CanJump inner again label → ((lands label ≡ true) × (again ≡ true → is_loop ≡ true)) ⊎ ((lands label ≡ false) × CanJump outer again label)

abbrev pub at_targets : Context → Targets → Context
at_targets c j = record { body = c.body; targets = j }

abbrev pub stands : Body → Targets → Context
stands body j = record { body = body; targets = j }

module _ {S : Setting} where
  landed : {c : Context} {w : List Obj} {inner : Targets} {lands : Option NameId → Bool} {is_loop : Bool} {m : Computation Nothing} {go : Nothing → Run} {exits : Exits} → Lands inner c.targets lands is_loop →
      (is_loop ≡ true → (w : List Obj) → Safe S c w Any m) → GoesOn S c.body w Any go → ExitsFit S c w exits → ExitsFit S (at_targets c inner) w (landing lands (m go exits) (go tt) exits)
  landed {c = c} {w = w} {lands = lands} {is_loop = is_loop} {m = m} {go = go} {exits = exits} h k g x = record {
    leave = x.leave;
    jump = λ again label j. by again label (h.comes again label j);
    throw = x.throw;
  }
    where
      by : (again : Bool) (label : Option NameId) → ((lands label ≡ true) × (again ≡ true → is_loop ≡ true)) ⊎ ((lands label ≡ false) × CanJump c.targets again label) →
          RunFits S c.body w (if lands label then (if again then m go exits else go tt) else exits.jump again label)
      by true label (inl q) = subst (λ b. RunFits S c.body w (if b then m go exits else exits.jump true label)) (sym q.0) ((k (q.1 refl) w).run go exits g x)
      by false label (inl q) = subst (λ b. RunFits S c.body w (if b then go tt else exits.jump false label)) (sym q.0) (g w grows-refl tt any)
      by again label (inr q) = subst (λ b. RunFits S c.body w (if b then (if again then m go exits else go tt) else exits.jump again label)) (sym q.0) (x.jump again label q.1)

  pub safe-looped : {c : Context} {w : List Obj} {m n : Computation Nothing} (inner : Targets) (lands : Option NameId → Bool) → Lands inner c.targets lands true → ((w : List Obj) → Safe S c w Any m) →
      Safe S (at_targets c inner) w Any n → Safe S c w Any (looped lands m n)
  unfolding looped
  safe-looped {c = c} inner lands h k p = record { run = λ go exits g x. p.run _ _ (λ later l a q. (k later).run go exits (λ last l'. g last (grows-on l l')) (exits-more l x)) (landed h (λ e. k) g x) }

  pub safe-labelled : {c : Context} {w : List Obj} {m n : Computation Nothing} (inner : Targets) (lands : Option NameId → Bool) (is_loop : Bool) → Lands inner c.targets lands is_loop →
      (is_loop ≡ true → (w : List Obj) → Safe S c w Any m) → Safe S (at_targets c inner) w Any n → Safe S c w Any (labelled lands m n)
  unfolding labelled
  safe-labelled inner lands is_loop h k p = record { run = λ go exits g x. p.run go _ g (landed h k g x) }

  pub safe-broken_by : {c : Context} {w : List Obj} {n : Computation Nothing} → Safe S (at_targets c (in_switch c.targets)) w Any n → Safe S c w Any (broken_by n)
  unfolding broken_by
  safe-broken_by {c = c} {w = w} p = record { run = λ go exits g x. p.run go _ g (record { leave = x.leave; jump = λ again label j. by go exits g x j; throw = x.throw }) }
    where
      by : (go : Nothing → Run) (exits : Exits) → GoesOn S c.body w Any go → ExitsFit S c w exits → {again : Bool} {label : Option NameId} → CanJump (in_switch c.targets) again label →
          RunFits S c.body w (if is_break again label then go tt else exits.jump again label)
      by go exits g x (break e) = g w grows-refl tt any
      by go exits g x (break_to e) = x.jump false _ (break_to e)
      by go exits g x (continue e) = x.jump true None (continue e)
      by go exits g x (continue_to e) = x.jump true _ (continue_to e)

-- ---- exceptions

-- a class that is the second or a subclass of it
among-below : (p : CoreProgram) (n : ℕ) (own class : ClassId) → is_among p n (Some own) class ≡ true → Below p own class
among-below p zero own class e = absurd cc
among-below p (suc n) own class e = by (same_class own class) refl (superclass_of p own) refl e (among-below p n)
  where
    by : (b : Bool) → same_class own class ≡ b → (o : Option ClassId) → superclass_of p own ≡ o → (if b then true else is_among p n o class) ≡ true →
        ((d k : ClassId) → is_among p n (Some d) k ≡ true → Below p d k) → Below p own class
    by true q o r h more = subst (λ (x : ClassId). Below p own x) (same_class-equal own class q) same
    by false q None r h more = absurd (none n h)
      where
        none : (n : ℕ) → is_among p n None class ≡ true → ⊥
        none zero z = absurd cc
        none (suc k) z = absurd cc
    by false q (Some d) r h more = above (up (class_at p own) refl r) (more d class h)
      where
        up : (o : Option CoreClass) → class_at p own ≡ o → superclass_in o ≡ Some d → Contains (supers_of p own) d
        up None z y = absurd cc
        up (Some c) z y = subst (λ o. Contains (supers_in o) d) (sym z) (subst (λ o. Contains (with_superclass o c.interfaces) d) (sym y) (contains-here d c.interfaces))

pub subclass-below : (p : CoreProgram) (own class : ClassId) → is_subclass p own class ≡ true → Below p own class
subclass-below p own class e = among-below p (length p.classes) own class e

throwable-no-object : same_class (library_class (codes "java.lang.Throwable")) object_class ≡ false
unfolding library_class object_class
throwable-no-object = refl

module _ (p : CoreProgram) (fit : Known p) where
  class-there : (objects : List Obj) (e : ObjId) → ValueFits p objects throwable (Ref e) → (k : ClassId) × (class_in (slice_get objects e.0) ≡ Some k) × ValueFits p objects (class_type k) (Ref e)
  class-there objects e f = by (slice_get objects e.0) refl f.has
    where
      of-class : (k : ClassId) (x : Obj) → slice_get objects e.0 ≡ Some x → type_in (Some x) ≡ Some (class_type k) → ValueFits p objects (class_type k) (Ref e)
      of-class k x q h = record { own = class_type k; has = ap type_in q ∙ h; agree = agree-itself p fit (class_type k) refl }

      of-array : {A : Type 0} (element : Ty) (b : Bool) → (if b then Some (array_of element) else None) ≡ Some f.own → A
      of-array element true h = apart (array-agrees p element _ (subst (λ (u : Ty). agrees p u throwable ≡ true) (sym (same_Some (array_of element) f.own h)) f.agree)) throwable-no-object
      of-array element false h = absurd cc

      by : (x : Option Obj) → slice_get objects e.0 ≡ x → type_in x ≡ Some f.own → (k : ClassId) × (class_in x ≡ Some k) × ValueFits p objects (class_type k) (Ref e)
      by None q h = absurd cc
      by (Some (Instance k slots)) q h = (k, refl, of-class k _ q refl)
      by (Some (Array element slots)) q h = of-array element (nat_lt element.dims 255) h
      by (Some (Text units)) q h = (_, refl, of-class _ _ q refl)
      by (Some (Builder units)) q h = (_, refl, of-class _ _ q refl)
      by (Some (Row k slots)) q h = (k, refl, of-class k _ q refl)
      by (Some (Cap device k)) q h = (k, refl, of-class k _ q refl)

module _ {S : Setting} (fit : Known S.program) where
  pub safe-get_class : {c : Context} {w : List Obj} {e : ObjId} → CanBeThrown S w e → Safe S c w (λ objects k. ValueFits S.program objects (class_type k) (Ref e)) (get_class e)
  unfolding get_class
  safe-get_class {e = e} f = record { run = λ go exits g x. record { from = λ s l st. let k = class-there S.program fit s.world.objects e (fits-more l f) in goes k.0 k.1 g l st k.2 } }
