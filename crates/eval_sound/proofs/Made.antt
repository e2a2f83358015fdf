-- A lemma for each step that is made of others.
use Rattle.std.proofs.Common.{◌≡◌, ℕ, List, length, map, Some, refl, ap}
use Rattle.std.specs.Prelude.{Bool, true, false, if◌then◌else◌}
use Rattle.je_core.specs.Defaults.{default_of}
use Rattle.je_core.specs.declared.object.Obj.{Obj}
use Rattle.je_core.specs.declared.types.Base.TheVariants as base
use Rattle.je_core.specs.declared.types.ClassId.{ClassId}
use Rattle.je_core.specs.declared.types.Ty.{Ty}
use Rattle.je_core.specs.declared.value.ObjId.{ObjId}
use Rattle.je_core.specs.declared.value.Value.{Value}
use Rattle.je_core.specs.declared.value.Value.TheVariants as value
use Rattle.je_core.specs.Core.{CoreField, CoreClass}
use Rattle.je_classes.specs.Hierarchy.{class_at}
use Rattle.je_classes.specs.Slots.{slot_fields, begin_as, fresh_slots, field_slot}
use Rattle.je_classes.specs.Subtypes.{class_type, is_reference, is_subtype}
use Rattle.je_fitting.specs.Expressions.{field_at, StandOnce, can_be_made}
use Rattle.je_fitting.specs.Types.{of, agrees, type_of_value, string, throwable}
use Rattle.je_java.specs.Classes.{text_place}
use Rattle.je_java.specs.Raised.{null_pointer, class_cast}
use Rattle.je_java.specs.Steps.{Computation, Nothing, ret, bind, need, put_slot, constant, make, make_text, raise, deref, throw_value, is_instance, cast, branch, read_field, write_field, read_static, write_static, read_text, get_static}
use Rattle.je_sound.specs.Objects.{has_instances, a_text}
use Rattle.je_sound.specs.Values.{ValueFits}
use Rattle.je_sound.proofs.Fresh.{fresh_instances_fit}
use Rattle.je_sound.proofs.Members.{fields_are_there}
use Rattle.je_sound.proofs.Statics.{statics_are_typed, texts_are_there}
use Rattle.eval_sound.specs.Safety.{Setting, Grows, Fitting, Context, Safe}
use Rattle.eval_sound.proofs.Growth.{grows-on}
use Rattle.eval_sound.proofs.Moves.{fits-more, safe-ret, safe-bind, safe-seq, safe-throw, bind_need, safe-if}
use Rattle.eval_sound.proofs.Places.{class-of-field, slot-there, static-there, text-there}
use Rattle.eval_sound.proofs.Standing.{CanRaise, raises-null, raises-cast}
use Rattle.eval_sound.proofs.Steps.{HasSlot, Kept, Referring, IsOf, goes, safe-charge, safe-get_type, safe-get_slot, safe-put_slot, safe-get_static, safe-put_static, safe-new_object}
use Rattle.eval_sound.proofs.Types.{Known, can-be-instance, string-itself, text-fits, agree-below, agree-itself, below-throwable, fits-above, null-fits}
use Rattle.eval_sound.proofs.Values.{Formed, bool, byte, short, char, int, long, null, reference, formed}

module _ {S : Setting} where
  pub bind_value : {B : Type 0} {Q : List Obj → B → Type 0} {c : Context} {w : List Obj} {t : Ty} {m : Computation Value} {f : Value → Computation B} → Safe S c w (Fitting S.program t) m →
      ((later : List Obj) → Grows w later → (v : Value) → ValueFits S.program later t v → Safe S c later Q (f v)) → Safe S c w Q (bind m f)
  bind_value p k = safe-bind p k

  pub bind_object : {B : Type 0} {Q : List Obj → B → Type 0} {c : Context} {w : List Obj} {t : Ty} {m : Computation ObjId} {f : ObjId → Computation B} → Safe S c w (Referring S t) m →
      ((later : List Obj) → Grows w later → (o : ObjId) → ValueFits S.program later t (value.Ref o) → Safe S c later Q (f o)) → Safe S c w Q (bind m f)
  bind_object p k = safe-bind p k

  pub safe-constant : {c : Context} {w : List Obj} {t : Ty} (v : Value) → type_of_value v ≡ Some t → ((objects : List Obj) → ValueFits S.program objects t v) → Safe S c w (Fitting S.program t) (constant v)
  unfolding constant
  safe-constant (value.Bool b) e f = safe-ret _ (f _)
  safe-constant (value.Byte x) e f = safe-ret _ (f _)
  safe-constant (value.Short x) e f = safe-ret _ (f _)
  safe-constant (value.Char n) e f = safe-ret _ (f _)
  safe-constant (value.Int x) e f = safe-ret _ (f _)
  safe-constant (value.Long x) e f = safe-ret _ (f _)
  safe-constant value.Null e f = safe-ret _ (f _)
  safe-constant (value.Ref o) e f = absurd cc

  pub safe-branch : {A : Type 0} {Q : List Obj → A → Type 0} {c : Context} {w : List Obj} {v : Value} {m n : Computation A} → Formed (of base.Bool) v → Safe S c w Q m → Safe S c w Q n → Safe S c w Q (branch v m n)
  unfolding branch
  safe-branch (bool {b = b}) p q = safe-if b p q
  safe-branch (null r) p q = absurd cc
  safe-branch (reference r) p q = absurd cc

module _ {S : Setting} (fit : Known S.program) where
  -- a new instance, of a class that has instances
  pub safe-make : {c : Context} {w : List Obj} (class : ClassId) (k : CoreClass) → class_at S.program class ≡ Some k → can_be_made k ≡ true → has_instances S.program class ≡ true →
      Safe S c w (Referring S (class_type class)) (make S.program class)
  unfolding make
  safe-make class k there made has =
      let slots = map (λ (field : CoreField). default_of field.ty) (slot_fields S.program (Some class)) in
      let fresh : fresh_slots S.program class ≡ Some slots = ap (begin_as (slot_fields S.program (Some class))) there in
      bind_need _ slots fresh (safe-seq (safe-charge (length slots)) λ later l.
      safe-new_object refl (λ last l'. fresh_instances_fit S.program last class k slots fit.whole there made has fresh) refl (agree-itself S.program fit (class_type class) refl))

  pub safe-make_text : {c : Context} {w : List Obj} (units : List ℕ) → Safe S c w (Referring S string) (make_text units)
  unfolding make_text
  safe-make_text units = safe-seq (safe-charge (length units)) λ later l. safe-new_object refl (λ last l'. record { kind = a_text; slots = tt }) refl (string-itself S.program fit)

  pub safe-raise : {A : Type 0} {Q : List Obj → A → Type 0} {c : Context} {w : List Obj} (class : ClassId) → CanRaise S.program class → Safe S c w Q (raise S.program class)
  unfolding raise
  safe-raise class r = bind_object (safe-make class r.class r.there r.made (can-be-instance S.program class r.below)) λ later l o f.
      safe-throw (fits-above S.program fit f (below-throwable S.program class r.below))

  pub safe-deref : {c : Context} {w : List Obj} {t : Ty} {v : Value} → is_reference t ≡ true → ValueFits S.program w t v → Safe S c w (Referring S t) (deref S.program v)
  unfolding deref
  safe-deref {c = c} {w = w} {t = t} {v = v} r f = by (formed f) r f
    where
      by : {t : Ty} {v : Value} → Formed t v → is_reference t ≡ true → ValueFits S.program w t v → Safe S c w (Referring S t) (deref S.program v)
      by bool e h = absurd cc
      by byte e h = absurd cc
      by short e h = absurd cc
      by char e h = absurd cc
      by int e h = absurd cc
      by long e h = absurd cc
      by (null q) e h = safe-raise null_pointer (raises-null S.program fit.library)
      by (reference q) e h = safe-ret _ h

  pub safe-throw_value : {Q : List Obj → Nothing → Type 0} {c : Context} {w : List Obj} {t : Ty} {v : Value} → is_reference t ≡ true → agrees S.program t throwable ≡ true →
      ValueFits S.program w t v → Safe S c w Q (throw_value S.program v)
  unfolding throw_value
  safe-throw_value r e f = bind_object (safe-deref r f) λ later l o h. safe-throw (fits-above S.program fit h e)

  -- whether a value is of a type, and a value of one

  pub safe-is_instance : {c : Context} {w : List Obj} {t : Ty} {v : Value} (to : Ty) → is_reference t ≡ true → ValueFits S.program w t v →
      Safe S c w (Fitting S.program (of base.Bool)) (is_instance S.program to v)
  unfolding is_instance
  safe-is_instance {c = c} {w = w} to r f = by (formed f) r f
    where
      truth : {w : List Obj} (b : Bool) → ValueFits S.program w (of base.Bool) (value.Bool b)
      truth b = record { own = of base.Bool; has = refl; agree = refl }

      by : {t : Ty} {v : Value} → Formed t v → is_reference t ≡ true → ValueFits S.program w t v → Safe S c w (Fitting S.program (of base.Bool)) (is_instance S.program to v)
      by bool e h = absurd cc
      by byte e h = absurd cc
      by short e h = absurd cc
      by char e h = absurd cc
      by int e h = absurd cc
      by long e h = absurd cc
      by (null q) e h = safe-ret _ (truth false)
      by (reference q) e h = safe-bind (safe-get_type h) λ later l own i. safe-ret _ (truth _)

  pub safe-cast : {c : Context} {w : List Obj} {t : Ty} {v : Value} (to : Ty) → is_reference t ≡ true → is_reference to ≡ true → ValueFits S.program w t v →
      Safe S c w (Fitting S.program to) (cast S.program to v)
  unfolding cast
  safe-cast {c = c} {w = w} to r r' f = by (formed f) r f
    where
      tested : {later : List Obj} {t : Ty} (o : ObjId) (own : Ty) → IsOf S t o later own → (b : Bool) → is_subtype S.program own to ≡ b →
          Safe S c later (Fitting S.program to) (if b then ret (value.Ref o) else raise S.program class_cast)
      tested o own i true q = safe-ret _ (record { own = own; has = i.has; agree = agree-below S.program own to q })
      tested o own i false q = safe-raise class_cast (raises-cast S.program fit.library)

      by : {t : Ty} {v : Value} → Formed t v → is_reference t ≡ true → ValueFits S.program w t v → Safe S c w (Fitting S.program to) (cast S.program to v)
      by bool e h = absurd cc
      by byte e h = absurd cc
      by short e h = absurd cc
      by char e h = absurd cc
      by int e h = absurd cc
      by long e h = absurd cc
      by (null q) e h = safe-ret _ (null-fits S.program fit r')
      by (reference {o = o} q) e h = safe-bind (safe-get_type h) λ later l own i. tested o own i (is_subtype S.program own to) refl

  -- ---- fields

  field-slot : {w : List Obj} (class : ClassId) (at : ℕ) (field : CoreField) (slot : ℕ) (o : ObjId) → field_at S.program class at ≡ Some field → field_slot S.program class at ≡ Some slot →
      ValueFits S.program w (class_type class) (value.Ref o) → HasSlot S w o slot field.ty
  field-slot class at field slot o e q f = record {
    there = λ world s l.
        let c = class-of-field S.program class at field e in
        fields_are_there S.program world o class c.the_class at slot field fit.whole fit.library s c.there (fits-more l f) e q;
  }

  pub safe-read_field : {c : Context} {w : List Obj} {v : Value} (class : ClassId) (at : ℕ) (field : CoreField) → field_at S.program class at ≡ Some field → field.is_static ≡ false →
      ValueFits S.program w (class_type class) v → Safe S c w (Fitting S.program field.ty) (read_field S.program class at v)
  unfolding read_field
  safe-read_field class at field e s f =
      let slot = slot-there S.program class at field e s in
      bind_object (safe-deref refl f) λ later l o h. bind_need _ slot.0 slot.1 (safe-get_slot slot.0 (field-slot class at field slot.0 o e slot.1 h))

  pub safe-write_field : {Q : List Obj → Value → Type 0} {c : Context} {w : List Obj} {v x : Value} (class : ClassId) (at : ℕ) (field : CoreField) → field_at S.program class at ≡ Some field → field.is_static ≡ false →
      ValueFits S.program w (class_type class) v → ValueFits S.program w field.ty x → Kept w Q x → Safe S c w Q (write_field S.program class at v x)
  unfolding write_field
  safe-write_field class at field e s f x k =
      let slot = slot-there S.program class at field e s in
      bind_object (safe-deref refl f) λ later l o h. bind_need _ slot.0 slot.1 (safe-put_slot slot.0 (field-slot class at field slot.0 o e slot.1 h) (fits-more l x) λ last l'. k last (grows-on l l'))

  -- a slot of an object that was made
  pub safe-fill_field : {Q : List Obj → Value → Type 0} {c : Context} {w : List Obj} {x : Value} (class : ClassId) (at : ℕ) (field : CoreField) (o : ObjId) → field_at S.program class at ≡ Some field → field.is_static ≡ false →
      ValueFits S.program w (class_type class) (value.Ref o) → ValueFits S.program w field.ty x →
      Kept w Q x → Safe S c w Q (bind (need (field_slot S.program class at)) λ slot. put_slot o slot x)
  safe-fill_field class at field o e s f x k =
      let slot = slot-there S.program class at field e s in
      bind_need _ slot.0 slot.1 (safe-put_slot slot.0 (field-slot class at field slot.0 o e slot.1 f) x k)

  pub safe-read_static : {c : Context} {w : List Obj} (class : ClassId) (at : ℕ) (field : CoreField) → field_at S.program class at ≡ Some field → field.is_static ≡ true →
      Safe S c w (Fitting S.program field.ty) (read_static S.program class at)
  unfolding read_static
  safe-read_static class at field e s =
      let place = static-there S.program class at field e s in
      bind_need _ place.0 place.1 (safe-get_static place.0 (statics_are_typed S.program class at place.0 field e place.1))

  pub safe-write_static : {Q : List Obj → Value → Type 0} {c : Context} {w : List Obj} {x : Value} (class : ClassId) (at : ℕ) (field : CoreField) → field_at S.program class at ≡ Some field → field.is_static ≡ true →
      ValueFits S.program w field.ty x → Kept w Q x → Safe S c w Q (write_static S.program class at x)
  unfolding write_static
  safe-write_static class at field e s x k =
      let place = static-there S.program class at field e s in
      bind_need _ place.0 place.1 (safe-put_static place.0 (statics_are_typed S.program class at place.0 field e place.1) x k)

  -- ---- constant strings

  safe-get_text : {c : Context} {w : List Obj} (units : List ℕ) (at : ℕ) → text_place S.program units ≡ Some at → Safe S c w (Fitting S.program string) (get_static at)
  unfolding get_static
  safe-get_text units at e = record {
    run = λ go exits g x. record { from = λ s l st. let found = texts_are_there S.program s.world units at st.world.sound e in goes found.0 found.1 g l st (text-fits S.program fit found.2) };
  }

  pub safe-read_text : {c : Context} {w : List Obj} (units : List ℕ) → StandOnce units S.program.texts → Safe S c w (Fitting S.program string) (read_text S.program units)
  unfolding read_text
  safe-read_text units once = let place = text-there S.program units once in bind_need _ place.0 place.1 (safe-get_text units place.0 place.1)
