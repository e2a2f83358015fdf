-- What goes to a place of a type, in a program that has the library's classes.
use Rattle.std.proofs.Common.{◌≡◌, ℕ, zero, suc, List, Option, Some, None, refl, sym, ap, subst, inl, inr}
use Rattle.std.specs.Prelude.{Bool, true, false, ◌&&◌, ◌||◌, ◌⊎◌, slice_get, nat_lt, if◌then◌else◌}
use Rattle.std.proofs.lemmas.Option.{same_Some}
use Rattle.je_core.specs.declared.object.Obj.{Obj}
use Rattle.je_core.specs.declared.object.Obj.TheVariants.{Instance, Array, Text, Builder, Row, Cap}
use Rattle.je_core.specs.declared.types.Base.{Base}
use Rattle.je_core.specs.declared.types.Base.TheVariants as base
use Rattle.je_core.specs.declared.types.ClassId.{ClassId}
use Rattle.je_core.specs.declared.types.Ty.{Ty}
use Rattle.je_core.specs.declared.value.ObjId.{ObjId}
use Rattle.je_core.specs.declared.value.Value.{Value}
use Rattle.je_core.specs.declared.value.Value.TheVariants.{Null, Ref}
use Rattle.je_core.specs.Core.{CoreProgram}
use Rattle.je_classes.specs.Hierarchy.{same_class, is_below, object_class}
use Rattle.je_classes.specs.Subtypes.{itself, through, to_object, array_of, null_type, class_type, is_reference, same_base, same_type, is_base_below, are_components_below, are_below, is_subtype}
use Rattle.je_classes.proofs.Below.{or_true}
use Rattle.je_classes.proofs.Lists.{bool_cases}
use Rattle.je_classes.proofs.Same.{same_base-equal}
use Rattle.je_classes.specs.Laws.{SubtypesAreDecided}
use Rattle.je_fitting.specs.Members.{is_guest}
use Rattle.je_fitting.specs.Program.{FitsProgram}
use Rattle.je_fitting.specs.Types.{is_primitive, agrees, is_there, holds_something, string, throwable}
use Rattle.je_fitting.proofs.Booleans.{two}
use Rattle.je_fitting.proofs.ClassesDecided.{at-place}
use Rattle.je_java.specs.LibraryClasses.{string_class}
use Rattle.je_java.specs.World.{World, type_in, type_of}
use Rattle.je_sound.specs.Objects.{has_instances, token_class, IsObject, an_array, ObjectFits, throwable_class}
use Rattle.je_sound.specs.Values.{ValueFits}
use Rattle.je_sound.specs.Worlds.{Sound, IsText, a_text as text_at}
use Rattle.je_sound.proofs.Library.{alone}
use Rattle.je_sound.proofs.Values.{agree-cases, fits_above}
use Rattle.library_classes.specs.Library.{LibraryStands}

pub agree-below : (p : CoreProgram) (s t : Ty) → is_subtype p s t ≡ true → agrees p s t ≡ true
agree-below p s t e = or_true (is_primitive s && same_type s t) (is_subtype p s t) e

pub can-be-instance : (p : CoreProgram) (k : ClassId) → is_below p k throwable_class ≡ true → has_instances p k ≡ true
can-be-instance p k e = or_true (is_guest k || same_class k object_class || same_class k token_class) (is_below p k throwable_class) e

pub below-throwable : (p : CoreProgram) (k : ClassId) → is_below p k throwable_class ≡ true → agrees p (class_type k) throwable ≡ true
unfolding is_subtype throwable_class
below-throwable p k e = agree-below p (class_type k) throwable (or_true (same_class throwable_class object_class) (is_below p k throwable_class) e)

-- what an object is that fits an array type
pub record IsArray (p : CoreProgram) (t : Ty) (objects : List Obj) (object : ObjId) : Type 0 where
  pub element : Ty
  pub slots : List Value
  pub there : slice_get objects object.0 ≡ Some (Array element slots)
  pub own : type_in (Some (Array element slots)) ≡ Some (array_of element)
  pub agree : agrees p element t ≡ true

-- what is known of a program that fits
pub record Known (p : CoreProgram) : Type 0 where
  pub whole : FitsProgram p
  pub library : LibraryStands p
  pub decided : SubtypesAreDecided

module _ (p : CoreProgram) (known : Known p) where
  pub agree-itself : (t : Ty) → is_reference t ≡ true → agrees p t t ≡ true
  agree-itself t r = agree-below p t t ((known.decided p t t (alone p known.library)).1 (itself r))

  -- a reference goes to a place of Object
  pub object-up : (t : Ty) → is_reference t ≡ true → agrees p t (class_type object_class) ≡ true
  object-up t r = agree-below p t (class_type object_class) ((known.decided p t (class_type object_class) (alone p known.library)).1 (through (to_object r) (itself refl)))

  pub fits-above : {objects : List Obj} {s t : Ty} {v : Value} → ValueFits p objects s v → agrees p s t ≡ true → ValueFits p objects t v
  fits-above {objects = objects} {s = s} {t = t} {v = v} f e = fits_above known.decided p objects s t v known.library f e

  pub object-fits : (objects : List Obj) (o : ObjId) (t : Ty) → type_of objects o.0 ≡ Some t → is_reference t ≡ true → ValueFits p objects t (Ref o)
  object-fits objects o t e r = record { own = t; has = e; agree = agree-itself t r }

  pub null-fits : {objects : List Obj} {t : Ty} → is_reference t ≡ true → ValueFits p objects t Null
  unfolding is_subtype
  null-fits {t = t} r = record { own = null_type; has = refl; agree = agree-below p null_type t (by t.base t.dims r) }
    where
      by : (b : Base) (n : ℕ) → is_reference (record { base = b; dims = n }) ≡ true → is_subtype p null_type (record { base = b; dims = n }) ≡ true
      by (base.Class c) zero q = refl
      by base.Null zero q = refl
      by _ zero q = absurd cc
      by b (suc n) q = refl

  pub string-itself : agrees p (class_type string_class) string ≡ true
  unfolding string_class
  string-itself = agree-itself string refl

  pub text-fits : {objects : List Obj} {v : Value} → IsText objects v → ValueFits p objects string v
  text-fits (text_at e) = record { own = class_type string_class; has = ap type_in e; agree = string-itself }

  -- the elements of two arrays

  bases-agree : (a b : Base) (m n : ℕ) → holds_something a ≡ true → are_components_below p a m b n ≡ true → agrees p (record { base = a; dims = m }) (record { base = b; dims = n }) ≡ true
  unfolding is_subtype
  bases-agree a b zero zero h e = bool_cases (λ k. (k || same_base a b) ≡ true → agrees p (record { base = a; dims = 0 }) (record { base = b; dims = 0 }) ≡ true) (is_base_below p a b)
      (λ q g. or_true _ (is_base_below p a b) q)
      (λ q g. subst (λ (k : Base). agrees p (record { base = a; dims = 0 }) (record { base = k; dims = 0 }) ≡ true) (same_base-equal a b g) (alike a h)) e
    where
      alike : (k : Base) → holds_something k ≡ true → agrees p (record { base = k; dims = 0 }) (record { base = k; dims = 0 }) ≡ true
      alike (base.Class c) q = agree-itself (class_type c) refl
      alike base.Bool q = refl
      alike base.Byte q = refl
      alike base.Short q = refl
      alike base.Char q = refl
      alike base.Int q = refl
      alike base.Long q = refl
      alike base.Null q = absurd cc
      alike base.Void q = absurd cc
  bases-agree a b zero (suc n) h e = or_true _ (are_below p a 0 b (suc n)) e
  bases-agree a b (suc m) zero h e = or_true _ (are_below p a (suc m) b 0) e
  bases-agree a b (suc m) (suc n) h e = or_true _ (are_below p a (suc m) b (suc n)) e

  pub elements-agree : (s t : Ty) → holds_something s.base ≡ true → agrees p (array_of s) (array_of t) ≡ true → agrees p s t ≡ true
  unfolding is_subtype
  elements-agree s t h e = by (agree-cases p (array_of s) (array_of t) e)
    where
      by : (array_of s ≡ array_of t) ⊎ (is_subtype p (array_of s) (array_of t) ≡ true) → agrees p s t ≡ true
      by (inl q) = bases-agree s.base t.base s.dims t.dims h (subst (λ (u : Ty). is_subtype p (array_of s) u ≡ true) q ((known.decided p (array_of s) (array_of s) (alone p known.library)).1 (itself refl)))
      by (inr q) = bases-agree s.base t.base s.dims t.dims h q

  -- no class type is below an array type
  no-array : (k : ClassId) (t own : Ty) → Some (class_type k) ≡ Some own → agrees p own (array_of t) ≡ true → ⊥
  unfolding is_subtype
  no-array k t own q e = by (agree-cases p (class_type k) (array_of t) (subst (λ (u : Ty). agrees p u (array_of t) ≡ true) (sym (same_Some (class_type k) own q)) e))
    where
      by : (class_type k ≡ array_of t) ⊎ (is_subtype p (class_type k) (array_of t) ≡ true) → ⊥
      by (inl i) = let n : 0 ≡ suc t.dims = ap (λ (u : Ty). u.dims) i in absurd cc
      by (inr i) = absurd cc

  pub array-there : (world : World) (t : Ty) (o : ObjId) → Sound p world → ValueFits p world.objects (array_of t) (Ref o) → IsArray p t world.objects o
  array-there world t o s f = by (slice_get world.objects o.0) refl f.has
    where
      of-array : (element : Ty) (slots : List Value) → slice_get world.objects o.0 ≡ Some (Array element slots) → IsObject p (Array element slots) → (b : Bool) → nat_lt element.dims 255 ≡ b →
          (if b then Some (array_of element) else None) ≡ Some f.own → IsArray p t world.objects o
      of-array element slots q (an_array variable few) true w h = record {
        element = element;
        slots = slots;
        there = q;
        own = ap (λ b. if b then Some (array_of element) else None) w;
        agree = elements-agree element t (two {a = is_there p element} {b = holds_something element.base} variable).1
            (subst (λ (u : Ty). agrees p u (array_of t) ≡ true) (sym (same_Some (array_of element) f.own h)) f.agree);
      }
      of-array element slots q k false w h = absurd cc

      by : (x : Option Obj) → slice_get world.objects o.0 ≡ x → type_in x ≡ Some f.own → IsArray p t world.objects o
      by None q h = absurd cc
      by (Some (Instance class slots)) q h = absurd (no-array class t f.own h f.agree)
      by (Some (Text units)) q h = absurd (no-array _ t f.own h f.agree)
      by (Some (Builder units)) q h = absurd (no-array _ t f.own h f.agree)
      by (Some (Row class slots)) q h = absurd (no-array class t f.own h f.agree)
      by (Some (Cap device class)) q h = absurd (no-array class t f.own h f.agree)
      by (Some (Array element slots)) q h =
          of-array element slots q (at-place (ObjectFits p world.objects) world.objects o.0 (Array element slots) s.objects q).kind (nat_lt element.dims 255) refl h

pub below-agrees : (p : CoreProgram) (c d : ClassId) → is_below p c d ≡ true → agrees p (class_type c) (class_type d) ≡ true
unfolding is_subtype
below-agrees p c d e = agree-below p (class_type c) (class_type d) (or_true (same_class d object_class) (is_below p c d) e)
