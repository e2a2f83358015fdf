-- What the members of rows do is safe.
use Rattle.std.proofs.Common.{◌≡◌, ◌<◌, ℕ, List, length, Some, refl, sym, ap, subst, ◌∙◌, arith}
use Rattle.std.specs.Prelude.{is_some, true, false}
use Rattle.std.proofs.lemmas.Option.{same_Some}
use Rattle.je_core.specs.declared.object.Obj.{Obj}
use Rattle.je_core.specs.declared.object.Obj.TheVariants.{Instance, Array, Text, Builder, Row, Cap}
use Rattle.je_core.specs.declared.types.ClassId.{ClassId}
use Rattle.je_core.specs.declared.value.ObjId.{ObjId}
use Rattle.je_core.specs.declared.value.Value.{Value}
use Rattle.je_core.specs.declared.value.Value.TheVariants.{Ref}
use Rattle.je_core.specs.Core.{CoreProgram}
use Rattle.je_classes.specs.Hierarchy.{same_class}
use Rattle.je_classes.specs.Subtypes.{array_of, class_type}
use Rattle.je_classes.proofs.Below.{same_class-refl}
use Rattle.je_fitting.specs.Types.{int}
use Rattle.je_java.specs.LibraryClasses.{builder_class, string_class}
use Rattle.je_java.specs.Steps.{Computation, bind, deref, get_count}
use Rattle.je_java.specs.World.{class_in, count_in, slots_of, type_in}
use Rattle.je_java.specs.library.RowObjects.{new_row, value_at}
use Rattle.je_sound.specs.Objects.{has_instances, is_device_interface, is_row_class, row_type, slot_type_in, IsObject, an_instance, a_capability, a_row}
use Rattle.je_sound.specs.Values.{ValueFits}
use Rattle.je_sound.proofs.Library.{there-too}
use Rattle.eval_sound.specs.Safety.{Context, Fitting, Grows, HasShape, Safe, Setting}
use Rattle.eval_sound.proofs.Arrays.{all-of-more, alike-at, safe-place_of}
use Rattle.library_fits.proofs.Table.{apart}
use Rattle.eval_sound.proofs.Finals.{FinalDue, object-of}
use Rattle.eval_sound.proofs.Growth.{grows-on}
use Rattle.eval_sound.proofs.Made.{bind_object, bind_value, safe-deref}
use Rattle.eval_sound.proofs.Moves.{fits-more, safe-bind, safe-ret, safe-seq}
use Rattle.eval_sound.proofs.Steps.{HasSlot, goes, safe-charge, safe-get_slot, safe-new_object}
use Rattle.eval_sound.proofs.Types.{Known, agree-itself}
use Rattle.eval_sound.proofs.Values.{int-of}
use Rattle.library_sound.proofs.Arguments.{IsGiven, safe-argument, safe-elements}

-- a class of rows, which is none of the others
pub record RowClass (k : ClassId) : Type 0 where
  pub rows : is_row_class k ≡ true
  pub no_text : same_class string_class k ≡ false
  pub no_builder : same_class builder_class k ≡ false
  pub no_device : is_device_interface k ≡ false

other-class : {A : Type 0} (c k : ClassId) → same_class c k ≡ false → Some c ≡ Some k → A
other-class c k e q = apart (subst (λ (x : ClassId). same_class c x ≡ true) (same_Some c k q) (same_class-refl c)) e

-- a row of so many values
pub record IsRow (S : Setting) (k : ClassId) (o : ObjId) (objects : List Obj) (count : ℕ) : Type 0 where
  pub fits : ValueFits S.program objects (class_type k) (Ref o)
  pub shape : HasShape objects o.0 (record { type = Some (class_type k); count = count })

row-slot : (p : CoreProgram) (k : ClassId) → RowClass k → (x : Obj) (count at : ℕ) → ¬ (has_instances p k ≡ true) → IsObject p x → class_in (Some x) ≡ Some k → length (slots_of x) ≡ count →
    at < count → slot_type_in p (Some x) at ≡ Some (row_type k)
row-slot p k is (Instance c slots) count at none (an_instance there made has) e n l = absurd (none (subst (λ (x : ClassId). has_instances p x ≡ true) (same_Some c k e) has))
row-slot p k is (Array element slots) count at none kind e n l = absurd cc
row-slot p k is (Text units) count at none kind e n l = other-class string_class k is.no_text e
row-slot p k is (Builder units) count at none kind e n l = other-class builder_class k is.no_builder e
row-slot p k is (Row c slots) count at none kind e n l = alike-at (row_type c) slots at (omega (arith, n)) ∙ ap (λ (x : ClassId). Some (row_type x)) (same_Some c k e)
row-slot p k is (Cap device c) count at none (a_capability there device_is) e n l = apart (subst (λ (x : ClassId). is_device_interface x ≡ true) (same_Some c k e) device_is) is.no_device

row-count : (p : CoreProgram) (k : ClassId) → RowClass k → (x : Obj) → ¬ (has_instances p k ≡ true) → IsObject p x → class_in (Some x) ≡ Some k →
    (count_in (Some x) ≡ Some (length (slots_of x))) × (type_in (Some x) ≡ Some (class_type k))
row-count p k is (Instance c slots) none (an_instance there made has) e = absurd (none (subst (λ (x : ClassId). has_instances p x ≡ true) (same_Some c k e) has))
row-count p k is (Array element slots) none kind e = absurd cc
row-count p k is (Text units) none kind e = other-class string_class k is.no_text e
row-count p k is (Builder units) none kind e = other-class builder_class k is.no_builder e
row-count p k is (Row c slots) none kind e = (refl, ap (λ (x : ClassId). Some (class_type x)) (same_Some c k e))
row-count p k is (Cap device c) none (a_capability there device_is) e = apart (subst (λ (x : ClassId). is_device_interface x ≡ true) (same_Some c k e) device_is) is.no_device

module _ {S : Setting} (fit : Known S.program) (k : ClassId) (due : FinalDue fit.library.number k) (is : RowClass k) where
  safe-get_count : {c : Context} {w : List Obj} {o : ObjId} → ValueFits S.program w (class_type k) (Ref o) → Safe S c w (IsRow S k o) (get_count o)
  unfolding get_count
  safe-get_count {o = o} f = record {
    run = λ go exits g x. record {
      from = λ s l st.
          let h = object-of S.program fit k due s.world o st.world.sound (fits-more l f) in
          let n = row-count S.program k is h.object h.no_instance h.kind h.class in
          goes (length (slots_of h.object)) (ap count_in h.there ∙ n.0) g l st (record {
            fits = fits-more l f;
            shape = record { object = h.object; there = h.there; alike = ap (λ t. record { type = t; count = length (slots_of h.object) }) n.1 };
          });
    };
  }

  value-slot : {w : List Obj} {o : ObjId} {count at : ℕ} → IsRow S k o w count → at < count → HasSlot S w o at (row_type k)
  value-slot {o = o} {count = count} {at = at} h l = record {
    there = λ world s g.
        let x = object-of S.program fit k due world o s (fits-more g h.fits) in
        let y = g.kept o.0 h.shape.object h.shape.there in
        let one : y.object ≡ x.object = same_Some y.object x.object (sym y.there ∙ x.there) in
        let n : length (slots_of x.object) ≡ count = ap (λ z. length (slots_of z)) (sym one) ∙ ap (λ z. z.count) (y.alike ∙ h.shape.alike) in
        ap (λ z. slot_type_in S.program z at) x.there ∙ row-slot S.program k is x.object count at x.no_instance x.kind x.class n l;
  }

  row-more : {w later : List Obj} {o : ObjId} {count : ℕ} → Grows w later → IsRow S k o w count → IsRow S k o later count
  row-more {o = o} g h = let y = g.kept o.0 h.shape.object h.shape.there in record {
    fits = fits-more g h.fits;
    shape = record { object = y.object; there = y.there; alike = y.alike ∙ h.shape.alike };
  }

  -- a receiver, and how many values it has
  pub receive-row : {A : Type 0} {Q : List Obj → A → Type 0} {c : Context} {w : List Obj} {this : Value} {f : ObjId → ℕ → Computation A} → ValueFits S.program w (class_type k) this →
      ((later : List Obj) → Grows w later → (o : ObjId) → (count : ℕ) → IsRow S k o later count → Safe S c later Q (f o count)) →
      Safe S c w Q (bind (deref S.program this) λ o. bind (get_count o) λ count. f o count)
  receive-row f go = bind_object (safe-deref fit refl f) λ later l o h. safe-bind (safe-get_count h) λ last l' count r. go last (grows-on l l') o count r

  pub safe-value_at : {c : Context} {w : List Obj} {given : List Value} {o : ObjId} {count : ℕ} → IsRow S k o w count → IsGiven S w given 0 int →
      Safe S c w (Fitting S.program (row_type k)) (value_at S.program o count given)
  unfolding value_at
  safe-value_at {count = count} r h = bind_value (safe-argument fit h) λ later l v f. safe-bind (safe-place_of fit count (int-of refl f)) λ last l' at q.
      safe-get_slot at (value-slot (row-more (grows-on l l') r) q.within)

  pub safe-new_row : {c : Context} {w : List Obj} {given : List Value} → IsGiven S w given 0 (array_of (row_type k)) → Safe S c w (Fitting S.program (class_type k)) (new_row S.program k given)
  unfolding new_row
  safe-new_row h = safe-bind (safe-elements fit h) λ later l values a. safe-seq (safe-charge (length values)) λ last l'.
      bind_object (safe-new_object {object = Row k values} refl (λ end l''. let b = all-of-more fit (grows-on l' l'') a in record {
        kind = a_row (ap is_some (there-too S.program fit.library k due.class due.there)) is.rows;
        slots = b.each;
      }) refl (agree-itself S.program fit (class_type k) refl)) λ end l'' o g. safe-ret _ g
