-- What keeps a world sound.
use Rattle.std.proofs.Common.{◌≡◌, ℕ, List, [], ◌∷◌, ◌++◌, map, Option, Some, None, refl, sym, ap, subst, ◌∙◌, inl, inr}
use Rattle.std.specs.Prelude.{◌⊎◌, slice_get, slice_set}
use Rattle.std.specs.List.{All}
use Rattle.std.proofs.lemmas.List.Elements.{All-weaker, All-push, All-set}
use Rattle.je_core.specs.declared.object.Obj.{Obj}
use Rattle.je_core.specs.declared.object.Obj.TheVariants.{Instance, Array, Text, Builder, Row, Cap}
use Rattle.je_core.specs.declared.types.Ty.{Ty}
use Rattle.je_core.specs.declared.value.Value.{Value}
use Rattle.je_core.specs.Core.{CoreProgram}
use Rattle.je_java.specs.World.{World, slots_of, with_slots, type_in, type_of, slot_in, with_slot_in, with_units, with_units_in}
use Rattle.je_fitting.proofs.ClassesDecided.{at-place}
use Rattle.je_sound.specs.Laws.{FitsOn, NewObjectsKeep, SlotsHold, WritesKeep, FitsOverWrites, UnitsKeep, FitsOverUnits, StaticsHold, StaticWritesKeep}
use Rattle.je_sound.specs.Objects.{IsObject, an_instance, an_array, a_builder, a_row, slot_types, ObjectFits, slot_type_in}
use Rattle.je_sound.specs.Values.{ValueFits, ValuesFit}
use Rattle.je_sound.specs.Worlds as worlds
use Rattle.je_sound.specs.Worlds.{static_types, IsText, Sound}
use Rattle.je_sound.proofs.Lists.{in-front, after-set, set-in-front, all-alike, zip-at, zip-set}
use Rattle.je_sound.proofs.Values.{TypesStay, value-stays, values-stay}

-- ---- other objects

-- each object has its type on, and each text stays one
pub record Stays (objects later : List Obj) : Type 0 where
  pub types : TypesStay objects later
  pub texts : (id : ℕ) (units : List ℕ) → slice_get objects id ≡ Some (Text units) → slice_get later id ≡ Some (Text units)

module _ (p : CoreProgram) (objects later : List Obj) (s : Stays objects later) where
  object-stays : (o : Obj) → ObjectFits p objects o → ObjectFits p later o
  object-stays o f = record { kind = f.kind; slots = values-stay p objects later s.types (slot_types p o) (slots_of o) f.slots }

  pub objects-stay : All (ObjectFits p objects) objects → All (ObjectFits p later) objects
  objects-stay a = All-weaker (ObjectFits p objects) (ObjectFits p later) object-stays objects a

  text-stays : (v : Value) → IsText objects v → IsText later v
  text-stays _ (worlds.a_text {object = o} {units = us} e) = worlds.a_text (s.texts o.0 us e)

  pub texts-stay : (vs : List Value) → All (IsText objects) vs → All (IsText later) vs
  texts-stay vs a = All-weaker (IsText objects) (IsText later) text-stays vs a

-- a world with other objects is sound where these fit
with-objects : (p : CoreProgram) (world : World) (later : List Obj) → Sound p world → Stays world.objects later → All (ObjectFits p later) later → Sound p (record world { objects = later })
with-objects p world later f s a = record {
  objects = a;
  fields = f.fields;
  texts = f.texts;
  statics = f.statics;
  fields_fit = values-stay p world.objects later s.types (static_types p) f.fields f.fields_fit;
  texts_count = f.texts_count;
  are_texts = texts-stay p world.objects later s f.texts f.are_texts;
}

-- ---- one object more

type-on : (objects others : List Obj) → TypesStay objects (objects ++ others)
type-on objects others id t e = by (slice_get objects id) refl e
  where
    by : (o : Option Obj) → slice_get objects id ≡ o → type_in o ≡ Some t → type_of (objects ++ others) id ≡ Some t
    by None q h = absurd cc
    by (Some x) q h = ap type_in (in-front objects others id x q) ∙ h

more-stays : (objects others : List Obj) → Stays objects (objects ++ others)
more-stays objects others = record { types = type-on objects others; texts = λ id units e. in-front objects others id (Text units) e }

pub fits_on : FitsOn
fits_on p objects others t value f = value-stays p objects (objects ++ others) (type-on objects others) t value f

pub new_objects_keep : NewObjectsKeep
new_objects_keep p world object f o =
    let later = world.objects ++ object ∷ [] in
    let s = more-stays world.objects (object ∷ []) in
    with-objects p world later f s (All-push (ObjectFits p later) world.objects object (objects-stay p world.objects later s f.objects) (object-stays p world.objects later s object o))

-- ---- one object changed

-- an object that has the type of the one before, and is the same text if that is one
record IsLike (old new : Obj) : Type 0 where
  pub type : type_in (Some new) ≡ type_in (Some old)
  pub text : (units : List ℕ) → old ≡ Text units → new ≡ Text units

module _ (objects : List Obj) (id : ℕ) (old new : Obj) (there : slice_get objects id ≡ Some old) (like : IsLike old new) where
  changed-types : TypesStay objects (slice_set objects id new)
  changed-types other t e = by (slice_get objects other) refl e
    where
      at : (x : Obj) → type_in (Some x) ≡ Some t → ((old ≡ x) × (slice_get (slice_set objects id new) other ≡ Some new)) ⊎ (slice_get (slice_set objects id new) other ≡ Some x) →
          type_of (slice_set objects id new) other ≡ Some t
      at x h (inl q) = ap type_in q.1 ∙ like.type ∙ ap (λ (y : Obj). type_in (Some y)) q.0 ∙ h
      at x h (inr q) = ap type_in q ∙ h

      by : (o : Option Obj) → slice_get objects other ≡ o → type_in o ≡ Some t → type_of (slice_set objects id new) other ≡ Some t
      by None q h = absurd cc
      by (Some x) q h = at x h (after-set objects id other old new x there q)

  changed-texts : (other : ℕ) (units : List ℕ) → slice_get objects other ≡ Some (Text units) → slice_get (slice_set objects id new) other ≡ Some (Text units)
  changed-texts other units e = by (after-set objects id other old new (Text units) there e)
    where
      by : ((old ≡ Text units) × (slice_get (slice_set objects id new) other ≡ Some new)) ⊎ (slice_get (slice_set objects id new) other ≡ Some (Text units)) →
          slice_get (slice_set objects id new) other ≡ Some (Text units)
      by (inl q) = q.1 ∙ ap (λ (y : Obj). Some y) (like.text units q.0)
      by (inr q) = q

  changed-stays : Stays objects (slice_set objects id new)
  changed-stays = record { types = changed-types; texts = changed-texts }

-- a world in which one object was changed for another that fits
changed-sound : (p : CoreProgram) (world : World) (id : ℕ) (old new : Obj) → slice_get world.objects id ≡ Some old → IsLike old new → Sound p world →
    (ObjectFits p world.objects old → ObjectFits p world.objects new) → Sound p (record world { objects = slice_set world.objects id new })
changed-sound p world id old new there like f fits =
    let later = slice_set world.objects id new in
    let s = changed-stays world.objects id old new there like in
    let it = fits (at-place (ObjectFits p world.objects) world.objects id old f.objects there) in
    with-objects p world later f s (All-set (ObjectFits p later) world.objects id new (object-stays p world.objects later s new it) (objects-stay p world.objects later s f.objects))

-- ---- a slot written

slotted-like : (o : Obj) (slots : List Value) → IsLike o (with_slots o slots)
slotted-like (Instance class old) slots = record { type = refl; text = λ units e. absurd cc }
slotted-like (Array element old) slots = record { type = refl; text = λ units e. absurd cc }
slotted-like (Text us) slots = record { type = refl; text = λ units e. e }
slotted-like (Builder us) slots = record { type = refl; text = λ units e. e }
slotted-like (Row class old) slots = record { type = refl; text = λ units e. absurd cc }
slotted-like (Cap device class) slots = record { type = refl; text = λ units e. e }

module _ (p : CoreProgram) (objects : List Obj) (at : ℕ) (t : Ty) (value : Value) (v : ValueFits p objects t value) where
  -- by the types of the slots, which stay
  put : (ts : List Ty) (slots : List Value) → ValuesFit p objects ts slots → slice_get ts at ≡ Some t → ValuesFit p objects ts (slice_set slots at value)
  put ts slots z e = zip-set (ValueFits p objects) ts slots z at t value e v

  put-alike : (element : Ty) (slots : List Value) → ValuesFit p objects (map (λ slot. element) slots) slots → slice_get (map (λ slot. element) slots) at ≡ Some t →
      ValuesFit p objects (map (λ slot. element) (slice_set slots at value)) (slice_set slots at value)
  put-alike element slots z e = subst (λ (ts : List Ty). ValuesFit p objects ts (slice_set slots at value)) (sym (all-alike element slots at value))
      (put (map (λ slot. element) slots) slots z e)

  written-fits : (o : Obj) → slot_type_in p (Some o) at ≡ Some t → ObjectFits p objects o → ObjectFits p objects (with_slots o (slice_set (slots_of o) at value))
  written-fits o e f = by o f.kind f.slots e
    where
      by : (o : Obj) → IsObject p o → ValuesFit p objects (slot_types p o) (slots_of o) → slot_type_in p (Some o) at ≡ Some t →
          ObjectFits p objects (with_slots o (slice_set (slots_of o) at value))
      by (Instance class slots) (an_instance there made has) z e = record { kind = an_instance there made has; slots = put (slot_types p (Instance class slots)) slots z e }
      by (Array element slots) (an_array variable few) z e = record { kind = an_array variable few; slots = put-alike element slots z e }
      by (Row class slots) (a_row there row) z e = record { kind = a_row there row; slots = put-alike _ slots z e }
      by (Text units) k z e = absurd cc
      by (Builder units) k z e = absurd cc
      by (Cap device class) k z e = absurd cc

pub writes_keep : WritesKeep
writes_keep p world id at t value f e v = by (slice_get world.objects id) refl e
  where
    by : (o : Option Obj) → slice_get world.objects id ≡ o → slot_type_in p o at ≡ Some t → Sound p (record world { objects = with_slot_in world.objects id at value o })
    by None q h = absurd cc
    by (Some o) q h = changed-sound p world id o (with_slots o (slice_set (slots_of o) at value)) q (slotted-like o (slice_set (slots_of o) at value)) f (written-fits p world.objects at t value v o h)

pub fits_over_writes : FitsOverWrites
fits_over_writes p objects id at written t value f = by (slice_get objects id) refl
  where
    by : (o : Option Obj) → slice_get objects id ≡ o → ValueFits p (with_slot_in objects id at written o) t value
    by None q = f
    by (Some o) q = let new = with_slots o (slice_set (slots_of o) at written) in
        value-stays p objects (slice_set objects id new) (changed-types objects id o new q (slotted-like o (slice_set (slots_of o) at written))) t value f

pub slots_hold : SlotsHold
slots_hold p world id at t f e = by (slice_get world.objects id) refl e
  where
    by : (o : Option Obj) → slice_get world.objects id ≡ o → slot_type_in p o at ≡ Some t → (value : Value) × (slot_in o at ≡ Some value) × ValueFits p world.objects t value
    by None q h = absurd cc
    by (Some o) q h = zip-at (ValueFits p world.objects) (slot_types p o) (slots_of o) (at-place (ObjectFits p world.objects) world.objects id o f.objects q).slots at t h

-- ---- units written

united-like : (o : Obj) (new : List ℕ) → IsLike o (with_units o new)
united-like (Builder us) new = record { type = refl; text = λ units e. absurd cc }
united-like (Instance class old) new = record { type = refl; text = λ units e. e }
united-like (Array element old) new = record { type = refl; text = λ units e. e }
united-like (Text us) new = record { type = refl; text = λ units e. e }
united-like (Row class old) new = record { type = refl; text = λ units e. e }
united-like (Cap device class) new = record { type = refl; text = λ units e. e }

united-fits : (p : CoreProgram) (objects : List Obj) (o : Obj) (new : List ℕ) → ObjectFits p objects o → ObjectFits p objects (with_units o new)
united-fits p objects (Builder us) new f = record { kind = a_builder; slots = tt }
united-fits p objects (Instance class old) new f = f
united-fits p objects (Array element old) new f = f
united-fits p objects (Text us) new f = f
united-fits p objects (Row class old) new f = f
united-fits p objects (Cap device class) new f = f

pub units_keep : UnitsKeep
units_keep p world id units f = by (slice_get world.objects id) refl
  where
    by : (o : Option Obj) → slice_get world.objects id ≡ o → Sound p (record world { objects = with_units_in world.objects id units o })
    by None q = f
    by (Some o) q = changed-sound p world id o (with_units o units) q (united-like o units) f (united-fits p world.objects o units)

pub fits_over_units : FitsOverUnits
fits_over_units p objects id units t value f = by (slice_get objects id) refl
  where
    by : (o : Option Obj) → slice_get objects id ≡ o → ValueFits p (with_units_in objects id units o) t value
    by None q = f
    by (Some o) q = value-stays p objects (slice_set objects id (with_units o units)) (changed-types objects id o (with_units o units) q (united-like o units)) t value f

-- ---- statics

pub statics_hold : StaticsHold
statics_hold p world at t f e =
    let found = zip-at (ValueFits p world.objects) (static_types p) f.fields f.fields_fit at t e in
    (found.0, ap (λ vs. slice_get vs at) f.statics ∙ in-front f.fields f.texts at found.0 found.1, found.2)

pub static_writes_keep : StaticWritesKeep
static_writes_keep p world at t value f e v =
    let found = zip-at (ValueFits p world.objects) (static_types p) f.fields f.fields_fit at t e in
    record {
      objects = f.objects;
      fields = slice_set f.fields at value;
      texts = f.texts;
      statics = ap (λ vs. slice_set vs at value) f.statics ∙ set-in-front f.fields f.texts at found.0 value found.1;
      fields_fit = zip-set (ValueFits p world.objects) (static_types p) f.fields f.fields_fit at t value e v;
      texts_count = f.texts_count;
      are_texts = f.are_texts;
    }
