-- Which steps let objects grow alone.
use Rattle.std.proofs.Common.{◌≡◌, ℕ, zero, suc, List, [], ◌∷◌, ◌++◌, length, Option, Some, None, refl, sym, ap, subst, ◌∙◌, inl, inr}
use Rattle.std.specs.Prelude.{true, false, ◌⊎◌, slice_get, slice_set}
use Rattle.std.proofs.lemmas.Option.{same_Some}
use Rattle.je_core.specs.declared.object.Obj.{Obj}
use Rattle.je_core.specs.declared.object.Obj.TheVariants.{Instance, Array, Text, Builder, Row, Cap}
use Rattle.je_core.specs.declared.types.Ty.{Ty}
use Rattle.je_core.specs.declared.value.Value.{Value}
use Rattle.je_java.specs.World.{type_in, type_of, slots_of, with_slots, with_slot_in, with_slot, with_units, with_units_in, with_units_at}
use Rattle.je_sound.proofs.Lists.{in-front, after-set}
use Rattle.je_sound.proofs.Values.{TypesStay}
use Rattle.library_fits.proofs.Table.{apart}
use Rattle.eval_sound.specs.Safety.{Shape, shape_of, HasShape, is_device, HasDevice, Grows}

pub grows-refl : {objects : List Obj} → Grows objects objects
grows-refl = record { kept = λ id o e. record { object = o; there = e; alike = refl }; devices = λ d. d }

pub grows-on : {objects later last : List Obj} → Grows objects later → Grows later last → Grows objects last
grows-on x y = record {
  kept = λ id o e.
      let h = x.kept id o e in
      let k = y.kept id h.object h.there in
      record { object = k.object; there = k.there; alike = k.alike ∙ h.alike };
  devices = λ d. x.devices (y.devices d);
}

pub types-stay : {objects later : List Obj} → Grows objects later → TypesStay objects later
types-stay {objects = objects} {later = later} x id t e = by (slice_get objects id) refl e
  where
    by : (o : Option Obj) → slice_get objects id ≡ o → type_in o ≡ Some t → type_of later id ≡ Some t
    by None q h = absurd cc
    by (Some o) q h = let k = x.kept id o q in ap type_in k.there ∙ ap (λ (s : Shape). s.type) k.alike ∙ h

-- an object is made that is no device
made-plain : (objects : List Obj) (new : Obj) → is_device new ≡ false → HasDevice (objects ++ new ∷ []) → HasDevice objects
made-plain objects new plain d = at-place objects d.id d.there
  where
    at-place : (before : List Obj) (id : ℕ) → slice_get (before ++ new ∷ []) id ≡ Some d.object → HasDevice before
    at-place [] zero e = apart (subst (λ (o : Obj). is_device o ≡ true) (sym (same_Some new d.object e)) d.device) plain
    at-place [] (suc id) e = absurd cc
    at-place (o ∷ rest) zero e = record { id = 0; object = d.object; there = e; device = d.device }
    at-place (o ∷ rest) (suc id) e = let h = at-place rest id e in record { id = suc h.id; object = h.object; there = h.there; device = h.device }

pub grows-made : (objects : List Obj) (new : Obj) → is_device new ≡ false → Grows objects (objects ++ new ∷ [])
grows-made objects new plain = record {
  kept = λ id o e. record { object = o; there = in-front objects (new ∷ []) id o e; alike = refl };
  devices = made-plain objects new plain;
}

-- an object is changed for one that is a device where it was one
changed-plain : (objects : List Obj) (id : ℕ) (old new : Obj) → slice_get objects id ≡ Some old → is_device new ≡ is_device old → HasDevice (slice_set objects id new) → HasDevice objects
changed-plain objects id old new there like d = at-place objects id d.id there d.there
  where
    at-place : (before : List Obj) (id other : ℕ) → slice_get before id ≡ Some old → slice_get (slice_set before id new) other ≡ Some d.object → HasDevice before
    at-place [] id other q e = absurd cc
    at-place (o ∷ rest) zero zero q e =
        let was = sym like ∙ ap is_device (same_Some new d.object e) ∙ d.device in record { id = 0; object = old; there = q; device = was }
    at-place (o ∷ rest) zero (suc other) q e = record { id = suc other; object = d.object; there = e; device = d.device }
    at-place (o ∷ rest) (suc id) zero q e = record { id = 0; object = d.object; there = e; device = d.device }
    at-place (o ∷ rest) (suc id) (suc other) q e = let h = at-place rest id other q e in record { id = suc h.id; object = h.object; there = h.there; device = h.device }

-- an object is changed for one of its shape
grows-changed : (objects : List Obj) (id : ℕ) (old new : Obj) → slice_get objects id ≡ Some old → shape_of new ≡ shape_of old → is_device new ≡ is_device old → Grows objects (slice_set objects id new)
grows-changed objects id old new there like device = record {
  kept = λ other o e. by other o (after-set objects id other old new o there e);
  devices = changed-plain objects id old new there device;
}
  where
    by : (other : ℕ) (o : Obj) → ((old ≡ o) × (slice_get (slice_set objects id new) other ≡ Some new)) ⊎ (slice_get (slice_set objects id new) other ≡ Some o) →
        HasShape (slice_set objects id new) other (shape_of o)
    by other o (inl q) = record { object = new; there = q.1; alike = like ∙ ap shape_of q.0 }
    by other o (inr q) = record { object = o; there = q; alike = refl }

length-set : {A : Type 0} (xs : List A) (at : ℕ) (x : A) → length (slice_set xs at x) ≡ length xs
length-set [] at x = refl
length-set (y ∷ xs) zero x = refl
length-set (y ∷ xs) (suc at) x = ap suc (length-set xs at x)

counted : (t : Option Ty) {m n : ℕ} → m ≡ n → (let s : Shape = record { type = t; count = m } in s) ≡ record { type = t; count = n }
counted t e = ap (λ (n : ℕ). let s : Shape = record { type = t; count = n } in s) e

slotted : (o : Obj) (at : ℕ) (value : Value) → shape_of (with_slots o (slice_set (slots_of o) at value)) ≡ shape_of o
slotted (Instance class old) at value = counted _ (length-set old at value)
slotted (Array element old) at value = counted _ (length-set old at value)
slotted (Text us) at value = refl
slotted (Builder us) at value = refl
slotted (Row class old) at value = counted _ (length-set old at value)
slotted (Cap device class) at value = refl

slotted-device : (o : Obj) (slots : List Value) → is_device (with_slots o slots) ≡ is_device o
slotted-device (Instance class old) slots = refl
slotted-device (Array element old) slots = refl
slotted-device (Text us) slots = refl
slotted-device (Builder us) slots = refl
slotted-device (Row class old) slots = refl
slotted-device (Cap device class) slots = refl

pub grows-written : (objects : List Obj) (id at : ℕ) (value : Value) → Grows objects (with_slot objects id at value)
grows-written objects id at value = by (slice_get objects id) refl
  where
    by : (o : Option Obj) → slice_get objects id ≡ o → Grows objects (with_slot_in objects id at value o)
    by None q = grows-refl
    by (Some o) q = grows-changed objects id o _ q (slotted o at value) (slotted-device o _)

united : (o : Obj) (units : List ℕ) → shape_of (with_units o units) ≡ shape_of o
united (Instance class old) units = refl
united (Array element old) units = refl
united (Text us) units = refl
united (Builder us) units = refl
united (Row class old) units = refl
united (Cap device class) units = refl

united-device : (o : Obj) (units : List ℕ) → is_device (with_units o units) ≡ is_device o
united-device (Instance class old) units = refl
united-device (Array element old) units = refl
united-device (Text us) units = refl
united-device (Builder us) units = refl
united-device (Row class old) units = refl
united-device (Cap device class) units = refl

pub grows-united : (objects : List Obj) (id : ℕ) (units : List ℕ) → Grows objects (with_units_at objects id units)
grows-united objects id units = by (slice_get objects id) refl
  where
    by : (o : Option Obj) → slice_get objects id ≡ o → Grows objects (with_units_in objects id units o)
    by None q = grows-refl
    by (Some o) q = grows-changed objects id o _ q (united o units) (united-device o units)
