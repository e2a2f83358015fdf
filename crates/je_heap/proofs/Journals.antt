-- What was noted of writes gives the world in which a turn began.
use Rattle.std.proofs.Common.{◌≡◌, ◌≤◌, ℕ, zero, suc, Bool, true, false, nat_lt, List, [], ◌∷◌, ◌++◌, length, take, Option, Some, None, refl, sym, ◌∙◌, ap, subst, true≢false, arith}
use Rattle.std.specs.Prelude.{slice_get, slice_set, is_some, IfSome, option_map}
use Rattle.std.proofs.Math.Seq.{take-length}
use Rattle.std.proofs.lemmas.Option.{none-some, same_Some}
use Rattle.std.proofs.lemmas.List.{take-append-le}
use Rattle.std.proofs.lemmas.Bool.Decides.{nat_tests}
use Rattle.je_core.specs.declared.object.Obj.{Obj}
use Rattle.je_core.specs.declared.object.Obj.TheVariants.{Instance, Array, Text, Builder, Row, Cap}
use Rattle.je_core.specs.declared.value.ObjId.{ObjId}
use Rattle.je_core.specs.declared.value.Value.{Value}
use Rattle.je_java.specs.World.{World, slots_of, with_slots, slot_in, slot_of, with_slot_in, with_slot, units_in, units_of, with_units, with_units_in, with_units_at}
use Rattle.je_heap.specs.declared.turn.Saved.{Saved}
use Rattle.je_heap.specs.declared.turn.Saved.TheVariants.{Slot, Units, Length, Variable}
use Rattle.je_heap.specs.Contents.{Contents, with_objects, with_slot_written, with_units_written, with_units_added, with_static_written, world_before}
use Rattle.je_heap.specs.Growing.{units_within, lengthened_in, lengthened, shortened_in, shortened}
use Rattle.je_heap.specs.Shape.{is_builder}
use Rattle.je_heap.specs.Turns.{Turn, slot_noted, units_noted, length_noted, variable_noted, undone, all_undone, with_first, before}

-- ---- lists

set-back : {A : Type 0} (xs : List A) (n : ℕ) (v old : A) → slice_get xs n ≡ Some old → slice_set (slice_set xs n v) n old ≡ xs
set-back [] n v old is = refl
set-back (x ∷ xs) zero v old is = ap (λ y. y ∷ xs) (sym (same_Some x old is))
set-back (x ∷ xs) (suc n) v old is = ap (λ ys. x ∷ ys) (set-back xs n v old is)

set-none : {A : Type 0} (xs : List A) (n : ℕ) (v : A) → slice_get xs n ≡ None → slice_set xs n v ≡ xs
set-none [] n v is = refl
set-none (x ∷ xs) zero v is = absurd (none-some x (sym is))
set-none (x ∷ xs) (suc n) v is = ap (λ ys. x ∷ ys) (set-none xs n v is)

-- ---- one object changed

-- the objects after a change of one
unfoldable changed : List Obj → ℕ → (Obj → Obj) → List Obj
changed [] id f = []
changed (o ∷ os) zero f = f o ∷ os
changed (o ∷ os) (suc id) f = o ∷ changed os id f

unfoldable changed_at : List Obj → ℕ → (Obj → Obj) → Option Obj → List Obj
changed_at os id f None = os
changed_at os id f (Some o) = slice_set os id (f o)

changed-is : (os : List Obj) (id : ℕ) (f : Obj → Obj) → changed_at os id f (slice_get os id) ≡ changed os id f
unfolding changed changed_at
changed-is [] id f = refl
changed-is (o ∷ os) zero f = refl
changed-is (o ∷ os) (suc id) f = behind (slice_get os id) ∙ ap (λ ps. o ∷ ps) (changed-is os id f) where
  behind : (found : Option Obj) → changed_at (o ∷ os) (suc id) f found ≡ o ∷ changed_at os id f found
  behind None = refl
  behind (Some p) = refl

changed-twice : (os : List Obj) (id : ℕ) (f g : Obj → Obj) → ((o : Obj) → slice_get os id ≡ Some o → g (f o) ≡ o) → changed (changed os id f) id g ≡ os
unfolding changed
changed-twice [] id f g back = refl
changed-twice (o ∷ os) zero f g back = ap (λ p. p ∷ os) (back o refl)
changed-twice (o ∷ os) (suc id) f g back = ap (λ ps. o ∷ ps) (changed-twice os id f g back)

changed-idle : (os : List Obj) (id : ℕ) (f : Obj → Obj) → ((o : Obj) → slice_get os id ≡ Some o → f o ≡ o) → changed os id f ≡ os
unfolding changed
changed-idle [] id f idle = refl
changed-idle (o ∷ os) zero f idle = ap (λ p. p ∷ os) (idle o refl)
changed-idle (o ∷ os) (suc id) f idle = ap (λ ps. o ∷ ps) (changed-idle os id f idle)

length-changed : (os : List Obj) (id : ℕ) (f : Obj → Obj) → length (changed os id f) ≡ length os
unfolding changed
length-changed [] id f = refl
length-changed (o ∷ os) zero f = refl
length-changed (o ∷ os) (suc id) f = ap suc (length-changed os id f)

take-changed : (n : ℕ) (os : List Obj) (id : ℕ) (f : Obj → Obj) → take n (changed os id f) ≡ changed (take n os) id f
unfolding changed
take-changed zero os id f = refl
take-changed (suc n) [] id f = refl
take-changed (suc n) (o ∷ os) zero f = refl
take-changed (suc n) (o ∷ os) (suc id) f = ap (λ ps. o ∷ ps) (take-changed n os id f)

take-changed_past : (n : ℕ) (os : List Obj) (id : ℕ) (f : Obj → Obj) → n ≤ id → take n (changed os id f) ≡ take n os
unfolding changed
take-changed_past zero os id f le = refl
take-changed_past (suc n) [] id f le = refl
take-changed_past (suc n) (o ∷ os) zero f le = absurd (omega arith)
take-changed_past (suc n) (o ∷ os) (suc id) f le = ap (λ ps. o ∷ ps) (take-changed_past n os id f (omega arith))

-- ---- a write to a slot

unfoldable slot_put : ℕ → Value → Obj → Obj
slot_put at v o = with_slots o (slice_set (slots_of o) at v)

slot-is : (os : List Obj) (id at : ℕ) (v : Value) → with_slot os id at v ≡ changed os id (slot_put at v)
unfolding changed_at slot_put
slot-is os id at v = by (slice_get os id) ∙ changed-is os id (slot_put at v) where
  by : (found : Option Obj) → with_slot_in os id at v found ≡ changed_at os id (slot_put at v) found
  by None = refl
  by (Some o) = refl

-- the old value, put back
slot-back : (o : Obj) (at : ℕ) (v old : Value) → slot_in (Some o) at ≡ Some old → slot_put at old (slot_put at v o) ≡ o
unfolding slot_put
slot-back (Instance class slots) at v old is = ap (Instance class) (set-back slots at v old is)
slot-back (Array element slots) at v old is = ap (Array element) (set-back slots at v old is)
slot-back (Text units) at v old is = refl
slot-back (Builder units) at v old is = refl
slot-back (Row class slots) at v old is = ap (Row class) (set-back slots at v old is)
slot-back (Cap device class) at v old is = refl

-- a slot that isn't there
slot-idle : (o : Obj) (at : ℕ) (v : Value) → slot_in (Some o) at ≡ None → slot_put at v o ≡ o
unfolding slot_put
slot-idle (Instance class slots) at v is = ap (Instance class) (set-none slots at v is)
slot-idle (Array element slots) at v is = ap (Array element) (set-none slots at v is)
slot-idle (Text units) at v is = refl
slot-idle (Builder units) at v is = refl
slot-idle (Row class slots) at v is = ap (Row class) (set-none slots at v is)
slot-idle (Cap device class) at v is = refl

put-back : (os : List Obj) (id at : ℕ) (v old : Value) → slot_of os id at ≡ Some old → with_slot (with_slot os id at v) id at old ≡ os
put-back os id at v old is =
    slot-is (with_slot os id at v) id at old ∙ (ap (λ ps. changed ps id (slot_put at old)) (slot-is os id at v) ∙
    changed-twice os id (slot_put at v) (slot_put at old) (λ o found. slot-back o at v old (sym (ap (λ p. slot_in p at) found) ∙ is)))

not_there : (os : List Obj) (id at : ℕ) (v : Value) → slot_of os id at ≡ None → with_slot os id at v ≡ os
not_there os id at v is =
    slot-is os id at v ∙ changed-idle os id (slot_put at v) (λ o found. slot-idle o at v (sym (ap (λ p. slot_in p at) found) ∙ is))

none-so : {A : Type 0} (found : Option A) → is_some found ≡ false → found ≡ None
none-so None is = refl
none-so (Some a) is = absurd (true≢false is)

pub not_found : (os : List Obj) (id at : ℕ) (v : Value) → is_some (slot_of os id at) ≡ false → os ≡ with_slot os id at v
not_found os id at v is = sym (not_there os id at v (none-so (slot_of os id at) is))

pub as_many_left : (os : List Obj) (id at : ℕ) (v : Value) → length (with_slot os id at v) ≡ length os
as_many_left os id at v = ap length (slot-is os id at v) ∙ length-changed os id (slot_put at v)

-- ---- new units

unfoldable units_put : List ℕ → Obj → Obj
units_put us o = with_units o us

units-are : (os : List Obj) (id : ℕ) (us : List ℕ) → with_units_at os id us ≡ changed os id (units_put us)
unfolding changed_at units_put
units-are os id us = by (slice_get os id) ∙ changed-is os id (units_put us) where
  by : (found : Option Obj) → with_units_in os id us found ≡ changed_at os id (units_put us) found
  by None = refl
  by (Some o) = refl

-- the old units, put back
units-back : (o : Obj) (us old : List ℕ) → units_in (Some o) ≡ Some old → units_put old (units_put us o) ≡ o
unfolding units_put
units-back (Instance class slots) us old is = refl
units-back (Array element slots) us old is = refl
units-back (Text units) us old is = refl
units-back (Builder units) us old is = ap Builder (sym (same_Some units old is))
units-back (Row class slots) us old is = refl
units-back (Cap device class) us old is = refl

-- an object that is no builder
units-idle : (o : Obj) (us : List ℕ) → is_builder (Some o) ≡ false → units_put us o ≡ o
unfolding units_put
units-idle (Instance class slots) us is = refl
units-idle (Array element slots) us is = refl
units-idle (Text units) us is = refl
units-idle (Builder units) us is = absurd (true≢false is)
units-idle (Row class slots) us is = refl
units-idle (Cap device class) us is = refl

unit-free : (o : Obj) → units_in (Some o) ≡ None → is_builder (Some o) ≡ false
unit-free (Instance class slots) is = refl
unit-free (Array element slots) is = refl
unit-free (Text units) is = refl
unit-free (Builder units) is = absurd (none-some units (sym is))
unit-free (Row class slots) is = refl
unit-free (Cap device class) is = refl

put-units-back : (os : List Obj) (id : ℕ) (us old : List ℕ) → units_of os id ≡ Some old → with_units_at (with_units_at os id us) id old ≡ os
put-units-back os id us old is =
    units-are (with_units_at os id us) id old ∙ (ap (λ ps. changed ps id (units_put old)) (units-are os id us) ∙
    changed-twice os id (units_put us) (units_put old) (λ o found. units-back o us old (sym (ap units_in found) ∙ is)))

pub no_builder_left : (os : List Obj) (id : ℕ) (us : List ℕ) → is_builder (slice_get os id) ≡ false → os ≡ with_units_at os id us
no_builder_left os id us is =
    sym (units-are os id us ∙ changed-idle os id (units_put us) (λ o found. units-idle o us (sym (ap is_builder found) ∙ is)))

no-units : (os : List Obj) (id : ℕ) (us : List ℕ) → units_of os id ≡ None → with_units_at os id us ≡ os
no-units os id us is =
    units-are os id us ∙ changed-idle os id (units_put us) (λ o found. units-idle o us (unit-free o (sym (ap units_in found) ∙ is)))

pub as_many_texts_left : (os : List Obj) (id : ℕ) (us : List ℕ) → length (with_units_at os id us) ≡ length os
as_many_texts_left os id us = ap length (units-are os id us) ∙ length-changed os id (units_put us)

-- ---- units behind others

unfoldable units_grown : List ℕ → Obj → Obj
units_grown more o = with_units o (units_within o ++ more)

unfoldable units_cut : ℕ → Obj → Obj
units_cut count o = with_units o (take count (units_within o))

grown-is : (os : List Obj) (id : ℕ) (more : List ℕ) → lengthened os id more ≡ changed os id (units_grown more)
unfolding changed_at units_grown
grown-is os id more = by (slice_get os id) ∙ changed-is os id (units_grown more) where
  by : (found : Option Obj) → lengthened_in os id more found ≡ changed_at os id (units_grown more) found
  by None = refl
  by (Some o) = refl

cut-is : (os : List Obj) (id count : ℕ) → shortened os id count ≡ changed os id (units_cut count)
unfolding changed_at units_cut
cut-is os id count = by (slice_get os id) ∙ changed-is os id (units_cut count) where
  by : (found : Option Obj) → shortened_in os id count found ≡ changed_at os id (units_cut count) found
  by None = refl
  by (Some o) = refl

-- as many units as there were
cut-back : (o : Obj) (more : List ℕ) (count : ℕ) → option_map length (units_in (Some o)) ≡ Some count → units_cut count (units_grown more o) ≡ o
unfolding units_grown units_cut
cut-back (Instance class slots) more count is = refl
cut-back (Array element slots) more count is = refl
cut-back (Text units) more count is = refl
cut-back (Builder units) more count is =
    let n : count ≡ length units = sym (same_Some (length units) count is) in
    ap Builder (ap (λ k. take k (units ++ more)) n ∙ take-append-le (length units) units more (omega arith) ∙ take-length units)
cut-back (Row class slots) more count is = refl
cut-back (Cap device class) more count is = refl

-- an object that is no builder
cut-idle : (o : Obj) (count : ℕ) → is_builder (Some o) ≡ false → units_cut count o ≡ o
unfolding units_cut
cut-idle (Instance class slots) count is = refl
cut-idle (Array element slots) count is = refl
cut-idle (Text units) count is = refl
cut-idle (Builder units) count is = absurd (true≢false is)
cut-idle (Row class slots) count is = refl
cut-idle (Cap device class) count is = refl

grown-idle : (o : Obj) (more : List ℕ) → option_map length (units_in (Some o)) ≡ None → units_grown more o ≡ o
unfolding units_grown
grown-idle (Instance class slots) more is = refl
grown-idle (Array element slots) more is = refl
grown-idle (Text units) more is = refl
grown-idle (Builder units) more is = absurd (none-some (length units) (sym is))
grown-idle (Row class slots) more is = refl
grown-idle (Cap device class) more is = refl

cut-off : (os : List Obj) (id : ℕ) (more : List ℕ) (count : ℕ) → option_map length (units_of os id) ≡ Some count → shortened (lengthened os id more) id count ≡ os
cut-off os id more count is =
    cut-is (lengthened os id more) id count ∙ (ap (λ ps. changed ps id (units_cut count)) (grown-is os id more) ∙
    changed-twice os id (units_grown more) (units_cut count)
    (λ o found. cut-back o more count (sym (ap (λ p. option_map length (units_in p)) found) ∙ is)))

pub no_builder_shortened : (os : List Obj) (id count : ℕ) → is_builder (slice_get os id) ≡ false → os ≡ shortened os id count
no_builder_shortened os id count is =
    sym (cut-is os id count ∙ changed-idle os id (units_cut count) (λ o found. cut-idle o count (sym (ap is_builder found) ∙ is)))

none-grown : (os : List Obj) (id : ℕ) (more : List ℕ) → option_map length (units_of os id) ≡ None → lengthened os id more ≡ os
none-grown os id more is =
    grown-is os id more ∙ changed-idle os id (units_grown more)
    (λ o found. grown-idle o more (sym (ap (λ p. option_map length (units_in p)) found) ∙ is))

pub as_many_lengthened : (os : List Obj) (id : ℕ) (more : List ℕ) → length (lengthened os id more) ≡ length os
as_many_lengthened os id more = ap length (grown-is os id more) ∙ length-changed os id (units_grown more)

pub as_many_shortened : (os : List Obj) (id count : ℕ) → length (shortened os id count) ≡ length os
as_many_shortened os id count = ap length (cut-is os id count) ∙ length-changed os id (units_cut count)

-- where the units of a builder are known
pub lengthened_is : (os : List Obj) (id : ℕ) (us more : List ℕ) → units_of os id ≡ Some us → lengthened os id more ≡ with_units_at os id (us ++ more)
lengthened_is os id us more is = by (slice_get os id) is where
  by : (found : Option Obj) → units_in found ≡ Some us → lengthened_in os id more found ≡ with_units_in os id (us ++ more) found
  by None e = refl
  by (Some (Instance class slots)) e = refl
  by (Some (Array element slots)) e = refl
  by (Some (Text units)) e = refl
  by (Some (Builder units)) e = ap (λ vs. slice_set os id (Builder (vs ++ more))) (same_Some units us e)
  by (Some (Row class slots)) e = refl
  by (Some (Cap device class)) e = refl

pub shortened_is : (os : List Obj) (id : ℕ) (us : List ℕ) (count : ℕ) → units_of os id ≡ Some us → shortened os id count ≡ with_units_at os id (take count us)
shortened_is os id us count is = by (slice_get os id) is where
  by : (found : Option Obj) → units_in found ≡ Some us → shortened_in os id count found ≡ with_units_in os id (take count us) found
  by None e = refl
  by (Some (Instance class slots)) e = refl
  by (Some (Array element slots)) e = refl
  by (Some (Text units)) e = refl
  by (Some (Builder units)) e = ap (λ vs. slice_set os id (Builder (take count vs))) (same_Some units us e)
  by (Some (Row class slots)) e = refl
  by (Some (Cap device class)) e = refl

-- ---- the first objects

first-cut : (n : ℕ) (os : List Obj) (id count : ℕ) → take n (shortened os id count) ≡ shortened (take n os) id count
first-cut n os id count = ap (take n) (cut-is os id count) ∙ (take-changed n os id (units_cut count) ∙ sym (cut-is (take n os) id count))

first-grown-left : (n : ℕ) (os : List Obj) (id : ℕ) (more : List ℕ) → n ≤ id → take n (lengthened os id more) ≡ take n os
first-grown-left n os id more le = ap (take n) (grown-is os id more) ∙ take-changed_past n os id (units_grown more) le

first-with : (n : ℕ) (os : List Obj) (id at : ℕ) (v : Value) → take n (with_slot os id at v) ≡ with_slot (take n os) id at v
first-with n os id at v = ap (take n) (slot-is os id at v) ∙ (take-changed n os id (slot_put at v) ∙ sym (slot-is (take n os) id at v))

first-left : (n : ℕ) (os : List Obj) (id at : ℕ) (v : Value) → n ≤ id → take n (with_slot os id at v) ≡ take n os
first-left n os id at v le = ap (take n) (slot-is os id at v) ∙ take-changed_past n os id (slot_put at v) le

first-with-units : (n : ℕ) (os : List Obj) (id : ℕ) (us : List ℕ) → take n (with_units_at os id us) ≡ with_units_at (take n os) id us
first-with-units n os id us = ap (take n) (units-are os id us) ∙ (take-changed n os id (units_put us) ∙ sym (units-are (take n os) id us))

first-units-left : (n : ℕ) (os : List Obj) (id : ℕ) (us : List ℕ) → n ≤ id → take n (with_units_at os id us) ≡ take n os
first-units-left n os id us le = ap (take n) (units-are os id us) ∙ take-changed_past n os id (units_put us) le

first-undone : (n : ℕ) (w : World) (j : Saved) → with_first n (undone w j) ≡ undone (with_first n w) j
first-undone n w (Slot id at old) = ap (λ os. record w { objects = os }) (first-with n w.objects id.0 at old)
first-undone n w (Units id old) = ap (λ os. record w { objects = os }) (first-with-units n w.objects id.0 old)
first-undone n w (Length id count) = ap (λ os. record w { objects = os }) (first-cut n w.objects id.0 count)
first-undone n w (Variable at old) = refl

first-all : (n : ℕ) (w : World) (js : List Saved) → with_first n (all_undone w js) ≡ all_undone (with_first n w) js
first-all n w [] = refl
first-all n w (j ∷ js) = first-undone n (all_undone w js) j ∙ ap (λ v. undone v j) (first-all n w js)

-- ---- a journal

pub last_first : (w : World) (js : List Saved) (j : Saved) → all_undone w (js ++ j ∷ []) ≡ all_undone (undone w j) js
last_first w [] j = refl
last_first w (i ∷ js) j = ap (λ v. undone v i) (last_first w js j)

-- two worlds whose first objects are the same
same-first : (w v : World) (t : Turn) → with_first t.made_before w ≡ with_first t.made_before v → before w t ≡ before v t
same-first w v t same =
    first-all t.made_before w t.journal ∙ (ap (λ u. all_undone u t.journal) same ∙ sym (first-all t.made_before v t.journal))

-- ---- what keeps the world in which a turn began

slot-kept : (w : World) (id : ObjId) (at : ℕ) (v : Value) (t : Turn) →
    before (record w { objects = with_slot w.objects id.0 at v }) (slot_noted id at (slot_of w.objects id.0 at) t) ≡ before w t
slot-kept w id at v t = by (slot_of w.objects id.0 at) refl where
  old-one : (old : Value) → slot_of w.objects id.0 at ≡ Some old → (b : Bool) → nat_lt id.0 t.made_before ≡ b →
      before (record w { objects = with_slot w.objects id.0 at v }) (slot_noted id at (Some old) t) ≡ before w t
  old-one old is true lt = rw lt
      (ap (with_first t.made_before) (last_first (record w { objects = with_slot w.objects id.0 at v }) t.journal (Slot id at old) ∙
      ap (λ os. all_undone (record w { objects = os }) t.journal) (put-back w.objects id.0 at v old is)))
  old-one old is false ge = rw ge
      (same-first (record w { objects = with_slot w.objects id.0 at v }) w t
      (ap (λ os. record w { objects = os }) (first-left t.made_before w.objects id.0 at v (grind (arith, nat_tests)))))

  by : (found : Option Value) → slot_of w.objects id.0 at ≡ found →
      before (record w { objects = with_slot w.objects id.0 at v }) (slot_noted id at found t) ≡ before w t
  by None is = ap (λ os. before (record w { objects = os }) t) (not_there w.objects id.0 at v is)
  by (Some old) is = old-one old is (nat_lt id.0 t.made_before) refl

units-kept : (w : World) (id : ObjId) (us : List ℕ) (t : Turn) →
    before (record w { objects = with_units_at w.objects id.0 us }) (units_noted id (units_of w.objects id.0) t) ≡ before w t
units-kept w id us t = by (units_of w.objects id.0) refl where
  old-one : (old : List ℕ) → units_of w.objects id.0 ≡ Some old → (b : Bool) → nat_lt id.0 t.made_before ≡ b →
      before (record w { objects = with_units_at w.objects id.0 us }) (units_noted id (Some old) t) ≡ before w t
  old-one old is true lt = rw lt
      (ap (with_first t.made_before) (last_first (record w { objects = with_units_at w.objects id.0 us }) t.journal (Units id old) ∙
      ap (λ os. all_undone (record w { objects = os }) t.journal) (put-units-back w.objects id.0 us old is)))
  old-one old is false ge = rw ge
      (same-first (record w { objects = with_units_at w.objects id.0 us }) w t
      (ap (λ os. record w { objects = os }) (first-units-left t.made_before w.objects id.0 us (grind (arith, nat_tests)))))

  by : (found : Option (List ℕ)) → units_of w.objects id.0 ≡ found →
      before (record w { objects = with_units_at w.objects id.0 us }) (units_noted id found t) ≡ before w t
  by None is = ap (λ os. before (record w { objects = os }) t) (no-units w.objects id.0 us is)
  by (Some old) is = old-one old is (nat_lt id.0 t.made_before) refl

length-kept : (w : World) (id : ObjId) (more : List ℕ) (t : Turn) →
    before (record w { objects = lengthened w.objects id.0 more }) (length_noted id (option_map length (units_of w.objects id.0)) t) ≡ before w t
length-kept w id more t = by (option_map length (units_of w.objects id.0)) refl where
  old-one : (count : ℕ) → option_map length (units_of w.objects id.0) ≡ Some count → (b : Bool) → nat_lt id.0 t.made_before ≡ b →
      before (record w { objects = lengthened w.objects id.0 more }) (length_noted id (Some count) t) ≡ before w t
  old-one count is true lt = rw lt
      (ap (with_first t.made_before) (last_first (record w { objects = lengthened w.objects id.0 more }) t.journal (Length id count) ∙
      ap (λ os. all_undone (record w { objects = os }) t.journal) (cut-off w.objects id.0 more count is)))
  old-one count is false ge = rw ge
      (same-first (record w { objects = lengthened w.objects id.0 more }) w t
      (ap (λ os. record w { objects = os }) (first-grown-left t.made_before w.objects id.0 more (grind (arith, nat_tests)))))

  by : (found : Option ℕ) → option_map length (units_of w.objects id.0) ≡ found →
      before (record w { objects = lengthened w.objects id.0 more }) (length_noted id found t) ≡ before w t
  by None is = ap (λ os. before (record w { objects = os }) t) (none-grown w.objects id.0 more is)
  by (Some count) is = old-one count is (nat_lt id.0 t.made_before) refl

variable-kept : (w : World) (at : ℕ) (v : Value) (t : Turn) →
    before (record w { statics = slice_set w.statics at v }) (variable_noted at (slice_get w.statics at) t) ≡ before w t
variable-kept w at v t = by (slice_get w.statics at) refl where
  by : (found : Option Value) → slice_get w.statics at ≡ found →
      before (record w { statics = slice_set w.statics at v }) (variable_noted at found t) ≡ before w t
  by None is = ap (λ vs. before (record w { statics = vs }) t) (set-none w.statics at v is)
  by (Some old) is = ap (with_first t.made_before) (last_first (record w { statics = slice_set w.statics at v }) t.journal (Variable at old) ∙
      ap (λ vs. all_undone (record w { statics = vs }) t.journal) (set-back w.statics at v old is))

pub kept_by_slot : (c : Contents) (id : ObjId) (at : ℕ) (v : Value) → world_before (with_slot_written c id at v) ≡ world_before c
kept_by_slot c id at v = by c.turn refl where
  by : (turn : Option Turn) → c.turn ≡ turn → world_before (with_slot_written c id at v) ≡ world_before c
  by None is = rw is refl
  by (Some t) is = rw is (ap Some (slot-kept c.world id at v t))

pub kept_by_units : (c : Contents) (id : ObjId) (us : List ℕ) → world_before (with_units_written c id us) ≡ world_before c
kept_by_units c id us = by c.turn refl where
  by : (turn : Option Turn) → c.turn ≡ turn → world_before (with_units_written c id us) ≡ world_before c
  by None is = rw is refl
  by (Some t) is = rw is (ap Some (units-kept c.world id us t))

pub kept_by_length : (c : Contents) (id : ObjId) (more : List ℕ) → world_before (with_units_added c id more) ≡ world_before c
kept_by_length c id more = by c.turn refl where
  by : (turn : Option Turn) → c.turn ≡ turn → world_before (with_units_added c id more) ≡ world_before c
  by None is = rw is refl
  by (Some t) is = rw is (ap Some (length-kept c.world id more t))

pub kept_by_variable : (c : Contents) (at : ℕ) (v : Value) → world_before (with_static_written c at v) ≡ world_before c
kept_by_variable c at v = by c.turn refl where
  by : (turn : Option Turn) → c.turn ≡ turn → world_before (with_static_written c at v) ≡ world_before c
  by None is = rw is refl
  by (Some t) is = rw is (ap Some (variable-kept c.world at v t))

pub kept_by_object : (c : Contents) (o : Obj) → IfSome c.turn (λ t. t.made_before ≤ length c.world.objects) →
    world_before (with_objects c (c.world.objects ++ o ∷ [])) ≡ world_before c
kept_by_object c o few = by c.turn refl where
  by : (turn : Option Turn) → c.turn ≡ turn → world_before (with_objects c (c.world.objects ++ o ∷ [])) ≡ world_before c
  by None is = rw is refl
  by (Some t) is = rw is (ap Some (same-first (record c.world { objects = c.world.objects ++ o ∷ [] }) c.world t
      (ap (λ os. record c.world { objects = os }) (take-append-le t.made_before c.world.objects (o ∷ []) (subst (λ turn. IfSome turn (λ t. t.made_before ≤ length c.world.objects)) is few)))))

-- a turn that begins
pub begun_here : (w : World) → before w (record { made_before = length w.objects; journal = [] }) ≡ w
begun_here w = ap (λ os. record w { objects = os }) (take-length w.objects)
