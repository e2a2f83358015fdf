-- The test for sound worlds and what it stands for.
use Rattle.std.proofs.Common.{◌≡◌, List, [], ◌∷◌, length, take, drop, Option, Some, None, refl, sym, ap, ◌∙◌, arith}
use Rattle.std.specs.Prelude.{Bool, true, slice_get, nat_lt, nat_eq, is_some}
use Rattle.std.specs.List.{All, list_all}
use Rattle.std.proofs.lemmas.Bool.Decides.{nat_tests}
use Rattle.std.proofs.lemmas.List.{take-append-drop, take_at, drop_at}
use Rattle.std.proofs.lemmas.List.Elements.{All-weaker}
use Rattle.std.proofs.lemmas.List.Sums.{AllPass-from_list_all, list_all-from_AllPass}
use Rattle.je_core.specs.declared.object.Obj.{Obj}
use Rattle.je_core.specs.declared.object.Obj.TheVariants.{Instance, Array, Text, Builder, Row, Cap}
use Rattle.je_core.specs.declared.types.Ty.{Ty}
use Rattle.je_core.specs.declared.value.Value.{Value}
use Rattle.je_core.specs.declared.value.Value.TheVariants as value
use Rattle.je_core.specs.Core.{CoreClass, CoreProgram}
use Rattle.je_classes.specs.Hierarchy.{class_at}
use Rattle.je_java.specs.World.{World, slots_of}
use Rattle.je_fitting.specs.Types.{is_variable_type}
use Rattle.je_fitting.specs.Expressions.{can_be_made}
use Rattle.je_fitting.proofs.Booleans.{two, four, both}
use Rattle.je_sound.specs.Laws.{WorldsAreDecided}
use Rattle.je_sound.specs.Objects.{has_instances, is_row_class, is_device_interface, IsObject, an_instance, an_array, a_text, a_builder, a_row, a_capability, slot_types, ObjectFits}
use Rattle.je_sound.specs.Values.{own_type, ValueFits, ValuesFit}
use Rattle.je_sound.specs.Worlds as worlds
use Rattle.je_sound.specs.Worlds.{static_types, IsText, Sound}
use Rattle.je_sound.specs.way.Deciding.{agrees_if_there, does_value_fit, do_values_fit, is_made_of, is_object, does_object_fit, is_text_at, is_text, static_values, text_values, is_sound}
use Rattle.je_sound.proofs.Lists.{zip-length}

module _ (p : CoreProgram) (objects : List Obj) where
  -- ---- values

  pub value-sound : (t : Ty) (v : Value) → does_value_fit p objects t v ≡ true → ValueFits p objects t v
  value-sound t v e = by (own_type objects v) refl e
    where
      by : (o : Option Ty) → own_type objects v ≡ o → agrees_if_there p t o ≡ true → ValueFits p objects t v
      by None q h = absurd cc
      by (Some own) q h = record { own = own; has = q; agree = h }

  pub value-complete : (t : Ty) (v : Value) → ValueFits p objects t v → does_value_fit p objects t v ≡ true
  value-complete t v f = ap (agrees_if_there p t) f.has ∙ f.agree

  pub values-sound : (ts : List Ty) (vs : List Value) → do_values_fit p objects ts vs ≡ true → ValuesFit p objects ts vs
  values-sound [] [] e = tt
  values-sound [] (v ∷ vs) e = absurd cc
  values-sound (t ∷ ts) [] e = absurd cc
  values-sound (t ∷ ts) (v ∷ vs) e = let q = two {a = does_value_fit p objects t v} {b = do_values_fit p objects ts vs} e in (value-sound t v q.0, values-sound ts vs q.1)

  pub values-complete : (ts : List Ty) (vs : List Value) → ValuesFit p objects ts vs → do_values_fit p objects ts vs ≡ true
  values-complete [] [] z = refl
  values-complete [] (v ∷ vs) z = absurd z
  values-complete (t ∷ ts) [] z = absurd z
  values-complete (t ∷ ts) (v ∷ vs) z = both (value-complete t v z.0) (values-complete ts vs z.1)

  -- ---- objects

  kind-sound : (o : Obj) → is_object p o ≡ true → IsObject p o
  kind-sound (Instance class slots) e = by (class_at p class) refl e
    where
      by : (o : Option CoreClass) → class_at p class ≡ o → is_made_of p class o ≡ true → IsObject p (Instance class slots)
      by None q h = absurd cc
      by (Some c) q h = let r = two {a = can_be_made c} {b = has_instances p class} h in an_instance q r.0 r.1
  kind-sound (Array element slots) e =
      let r = two {a = is_variable_type p element} {b = nat_lt element.dims 255} e in
      let l : nat_lt element.dims 255 ≡ true = r.1 in
      an_array r.0 (grind (arith, nat_tests))
  kind-sound (Text units) e = a_text
  kind-sound (Builder units) e = a_builder
  kind-sound (Row class slots) e = let r = two {a = is_some (class_at p class)} {b = is_row_class class} e in a_row r.0 r.1
  kind-sound (Cap device class) e = let r = two {a = is_some (class_at p class)} {b = is_device_interface class} e in a_capability r.0 r.1

  kind-complete : (o : Obj) → IsObject p o → is_object p o ≡ true
  kind-complete _ (an_instance {class = class} there made has) = ap (is_made_of p class) there ∙ both made has
  kind-complete _ (an_array {element = element} variable few) = let l : nat_lt element.dims 255 ≡ true = grind (arith, nat_tests) in both variable l
  kind-complete _ a_text = refl
  kind-complete _ a_builder = refl
  kind-complete _ (a_row there row) = both there row
  kind-complete _ (a_capability there device) = both there device

  object-sound : (o : Obj) → does_object_fit p objects o ≡ true → ObjectFits p objects o
  object-sound o e = let r = two {a = is_object p o} {b = do_values_fit p objects (slot_types p o) (slots_of o)} e in
      record { kind = kind-sound o r.0; slots = values-sound (slot_types p o) (slots_of o) r.1 }

  object-complete : (o : Obj) → ObjectFits p objects o → does_object_fit p objects o ≡ true
  object-complete o f = both (kind-complete o f.kind) (values-complete (slot_types p o) (slots_of o) f.slots)

  -- ---- texts

  text-sound : (v : Value) → is_text objects v ≡ true → IsText objects v
  text-sound (value.Ref o) e = by (slice_get objects o.0) refl e
    where
      by : (x : Option Obj) → slice_get objects o.0 ≡ x → is_text_at x ≡ true → IsText objects (value.Ref o)
      by (Some (Text units)) q h = worlds.a_text q
      by None q h = absurd cc
      by (Some (Instance class slots)) q h = absurd cc
      by (Some (Array element slots)) q h = absurd cc
      by (Some (Builder units)) q h = absurd cc
      by (Some (Row class slots)) q h = absurd cc
      by (Some (Cap device class)) q h = absurd cc
  text-sound (value.Bool b) e = absurd cc
  text-sound (value.Byte n) e = absurd cc
  text-sound (value.Short n) e = absurd cc
  text-sound (value.Char n) e = absurd cc
  text-sound (value.Int n) e = absurd cc
  text-sound (value.Long n) e = absurd cc
  text-sound value.Null e = absurd cc

  text-complete : (v : Value) → IsText objects v → is_text objects v ≡ true
  text-complete _ (worlds.a_text e) = ap is_text_at e

-- a test of each element
each-of : {A : Type 0} (test : A → Bool) (P : A → Type 0) → ((x : A) → test x ≡ true → P x) → (xs : List A) → list_all test xs ≡ true → All P xs
each-of test P f xs e = All-weaker (λ x. test x ≡ true) P f xs (AllPass-from_list_all test xs e)

of-each : {A : Type 0} (test : A → Bool) (P : A → Type 0) → ((x : A) → P x → test x ≡ true) → (xs : List A) → All P xs → list_all test xs ≡ true
of-each test P f xs a = list_all-from_AllPass test xs (All-weaker P (λ x. test x ≡ true) f xs a)

-- ---- worlds

world-sound : (p : CoreProgram) (world : World) → is_sound p world ≡ true → Sound p world
world-sound p world e =
    let n = length (static_types p) in
    let r = four {a = list_all (does_object_fit p world.objects) world.objects} {b = do_values_fit p world.objects (static_types p) (static_values p world)}
    {c = nat_eq (length (text_values p world)) (length p.texts)} {d = list_all (is_text world.objects) (text_values p world)} e in
    let count : nat_eq (length (text_values p world)) (length p.texts) ≡ true = r.2 in
    record {
      objects = each-of (does_object_fit p world.objects) (ObjectFits p world.objects) (object-sound p world.objects) world.objects r.0;
      fields = static_values p world;
      texts = text_values p world;
      statics = sym (take-append-drop n world.statics);
      fields_fit = values-sound p world.objects (static_types p) (static_values p world) r.1;
      texts_count = grind (arith, nat_tests);
      are_texts = each-of (is_text world.objects) (IsText world.objects) (text-sound p world.objects) (text_values p world) r.3;
    }

world-complete : (p : CoreProgram) (world : World) → Sound p world → is_sound p world ≡ true
world-complete p world f =
    let n = length (static_types p) in
    let l : length f.fields ≡ n = sym (zip-length (ValueFits p world.objects) (static_types p) f.fields f.fields_fit) in
    let fields : static_values p world ≡ f.fields = ap (take n) f.statics ∙ take_at f.fields f.texts n l in
    let texts : text_values p world ≡ f.texts = ap (drop n) f.statics ∙ drop_at f.fields f.texts n l in
    let same : length f.texts ≡ length p.texts = f.texts_count in
    let count : nat_eq (length f.texts) (length p.texts) ≡ true = grind (arith, nat_tests) in
    both (both (both (of-each (does_object_fit p world.objects) (ObjectFits p world.objects) (object-complete p world.objects) world.objects f.objects)
    (ap (do_values_fit p world.objects (static_types p)) fields ∙ values-complete p world.objects (static_types p) f.fields f.fields_fit))
    (ap (λ vs. nat_eq (length vs) (length p.texts)) texts ∙ count))
    (ap (list_all (is_text world.objects)) texts ∙ of-each (is_text world.objects) (IsText world.objects) (text-complete p world.objects) f.texts f.are_texts)

pub worlds_are_decided : WorldsAreDecided
worlds_are_decided p world = (world-sound p world, world-complete p world)
