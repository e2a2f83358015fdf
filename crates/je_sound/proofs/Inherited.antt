-- The fields that an instance has from the classes above its own.
use Rattle.std.proofs.Common.{◌≡◌, ℕ, ◌+◌, ◌<◌, List, length, take, Option, Some, None, refl, sym, ap, subst, ◌∙◌, inl, inr, arith}
use Rattle.std.specs.Prelude.{Bool, true, false, ◌⊎◌, count_by, slice_get, if◌then◌else◌}
use Rattle.std.specs.List.{Contains}
use Rattle.std.proofs.lemmas.List.Elements.{All-contains}
use Rattle.std.proofs.lemmas.Option.{same_Some, slice_get_within}
use Rattle.je_core.specs.declared.types.ClassId.{ClassId}
use Rattle.je_core.specs.Core.{CoreField, CoreClass, CoreProgram}
use Rattle.je_classes.specs.Fields.{fields_in}
use Rattle.je_classes.specs.Hierarchy.{class_at, with_superclass, supers_in, same_class, Below, same, above, object_class, IsAcyclic}
use Rattle.je_classes.specs.Slots.{is_instance, own_slots, slot_fields, slot_after, slots_above, field_slot_in}
use Rattle.je_classes.proofs.Below.{or_true, below-to}
use Rattle.je_classes.proofs.Lists.{contains-cases}
use Rattle.class_tables.proofs.Totals.{slots-are}
use Rattle.je_fitting.specs.Classes.{is_interface, SuperclassFits, none_above, one_above, ClassFits}
use Rattle.je_fitting.specs.Expressions.{is_interface_sort}
use Rattle.je_fitting.specs.Program.{itself, a_field, is_itself, is_field, FitsProgram}
use Rattle.je_fitting.proofs.Acyclic.{acyclic}
use Rattle.je_fitting.proofs.ClassesDecided.{itself_of, field_of}
use Rattle.je_sound.specs.Laws.{FieldsAreInherited}
use Rattle.je_sound.proofs.Kept.{kept-at}
use Rattle.je_sound.proofs.Lists.{in-front, behind}

-- a super is the superclass, or one of the interfaces
super-cases : (s : Option ClassId) (is : List ClassId) (d : ClassId) → Contains (with_superclass s is) d → (s ≡ Some d) ⊎ Contains is d
super-cases None is d q = inr q
super-cases (Some e) is d q = by (contains-cases e d is q)
  where
    by : (e ≡ d) ⊎ Contains is d → (Some e ≡ Some d) ⊎ Contains is d
    by (inl h) = inl (ap (λ (c : ClassId). Some c) h)
    by (inr h) = inr h

module _ (p : CoreProgram) (f : FitsProgram p) where
  fits-at : (c : ClassId) (k : CoreClass) → class_at p c ≡ Some k → ClassFits p c k
  fits-at c k there = itself_of p c k ((f c k there).parts itself is_itself)

  -- above an interface there are interfaces alone

  no-superclass : (c : ClassId) (k : CoreClass) (s : Option ClassId) → is_interface_sort k.kind.sort ≡ true → SuperclassFits p c k s → s ≡ None
  no-superclass c k _ i (none_above e) = refl
  no-superclass c k _ i (one_above e g) = absurd (let t = or_true (same_class c object_class) (is_interface_sort k.kind.sort) i in cc)

  super-interface : (c d : ClassId) (o : Option CoreClass) → class_at p c ≡ o → is_interface o ≡ true → Contains (supers_in o) d → is_interface (class_at p d) ≡ true
  super-interface c d None e i q = absurd cc
  super-interface c d (Some k) e i q = by (super-cases k.superclass k.interfaces d q)
    where
      by : (k.superclass ≡ Some d) ⊎ Contains k.interfaces d → is_interface (class_at p d) ≡ true
      by (inl h) = absurd (let n = no-superclass c k k.superclass i (fits-at c k e).superclass in cc)
      by (inr h) = All-contains (λ j. is_interface (class_at p j) ≡ true) k.interfaces d (fits-at c k e).interfaces h

  above-interface : {c d : ClassId} → Below p c d → is_interface (class_at p c) ≡ true → is_interface (class_at p d) ≡ true
  above-interface same i = i
  above-interface {c = c} (above {e = e} q r) i = above-interface r (super-interface c e (class_at p c) refl i q)

  -- a slot of a class is one of each class below it
  module _ (a : IsAcyclic p) (class : ClassId) (plain : is_interface (class_at p class) ≡ false) (slot : ℕ) (g : CoreField) where
    slot-below : {own : ClassId} → Below p own class → slice_get (slot_fields p (Some class)) slot ≡ Some g → slice_get (slot_fields p (Some own)) slot ≡ Some g
    slot-below same e = e
    slot-below {own = own} (above {e = d} q r) e = by (class_at p own) refl q (slot-below r e)
      where
        of-super : (k : CoreClass) → class_at p own ≡ Some k → slice_get (slot_fields p (Some d)) slot ≡ Some g → (k.superclass ≡ Some d) ⊎ Contains k.interfaces d →
            slice_get (slot_fields p (Some own)) slot ≡ Some g
        of-super k there h (inl s) = ap (λ fs. slice_get fs slot) (slots-are p a own k there)
            ∙ in-front (slot_fields p k.superclass) (own_slots k) slot g (ap (λ o. slice_get (slot_fields p o) slot) s ∙ h)
        of-super k there h (inr s) = absurd (let i : is_interface (class_at p d) ≡ true = All-contains (λ j. is_interface (class_at p j) ≡ true) k.interfaces d (fits-at own k there).interfaces s in
            let j : is_interface (class_at p class) ≡ true = above-interface r i in cc)

        by : (o : Option CoreClass) → class_at p own ≡ o → Contains (supers_in o) d → slice_get (slot_fields p (Some d)) slot ≡ Some g → slice_get (slot_fields p (Some own)) slot ≡ Some g
        by None there c h = absurd (let l : c.0 < 0 = c.1 in omega (arith, l))
        by (Some k) there c h = of-super k there h (super-cases k.superclass k.interfaces d c)

  -- the slot that a field has in its own class
  slot-own : IsAcyclic p → (class : ClassId) (c : CoreClass) (at slot : ℕ) (g : CoreField) → class_at p class ≡ Some c → slice_get c.fields at ≡ Some g →
      slot_after (slice_get c.fields at) (slots_above p c + count_by is_instance (take at c.fields)) ≡ Some slot → slice_get (slot_fields p (Some class)) slot ≡ Some g
  slot-own a class c at slot g there e s = by g.is_static refl (ap (λ o. slot_after o (slots_above p c + count_by is_instance (take at c.fields))) (sym e) ∙ s)
    where
      by : (b : Bool) → g.is_static ≡ b → (if b then None else Some (slots_above p c + count_by is_instance (take at c.fields))) ≡ Some slot → slice_get (slot_fields p (Some class)) slot ≡ Some g
      by true q h = absurd cc
      by false q h = subst (λ n. slice_get (slot_fields p (Some class)) n ≡ Some g) (same_Some _ _ h)
          (ap (λ fs. slice_get fs (slots_above p c + count_by is_instance (take at c.fields))) (slots-are p a class c there)
          ∙ behind (slot_fields p c.superclass) (own_slots c) (count_by is_instance (take at c.fields))
          ∙ kept-at is_instance c.fields at g e (ap (λ b. if b then false else true) q))

  -- a class with such a field is no interface
  no-interface : (class : ClassId) (c : CoreClass) (at slot : ℕ) (g : CoreField) → class_at p class ≡ Some c → slice_get c.fields at ≡ Some g →
      slot_after (slice_get c.fields at) (slots_above p c + count_by is_instance (take at c.fields)) ≡ Some slot → is_interface (class_at p class) ≡ false
  no-interface class c at slot g there e s = by (is_interface (class_at p class)) (field_of p class c at g e ((f class c there).parts (a_field at) (is_field e))).of_interface
    where
      place : slot_after (Some g) (slots_above p c + count_by is_instance (take at c.fields)) ≡ Some slot
      place = ap (λ o. slot_after o (slots_above p c + count_by is_instance (take at c.fields))) (sym e) ∙ s

      by : (b : Bool) → (b ≡ true → g.is_static ≡ true) → b ≡ false
      by true h = absurd (let n = sym place ∙ ap (λ b. if b then None else Some (slots_above p c + count_by is_instance (take at c.fields))) (h refl) in cc)
      by false h = refl

pub fields_are_inherited : FieldsAreInherited
fields_are_inherited p own class c at slot g f there b e s =
    let some : class.0 < length p.classes = slice_get_within p.classes class.0 c there in
    let a = acyclic p f (omega (arith, some)) in
    let in-class : slice_get c.fields at ≡ Some g = ap (λ k. slice_get (fields_in k) at) (sym there) ∙ e in
    let place = ap (λ k. field_slot_in p k at) (sym there) ∙ s in
    slot-below p f a class (no-interface p f class c at slot g there in-class place) slot g (below-to p own class b)
    (slot-own p f a class c at slot g there in-class place)
