-- What a value that fits a class has: fields, and methods.
use Rattle.std.proofs.Common.{◌≡◌, ℕ, zero, suc, ◌<◌, List, [], ◌∷◌, length, Option, Some, None, refl, sym, ap, subst, ◌∙◌, inl, inr, arith}
use Rattle.std.specs.Prelude.{Bool, true, false, not, ◌||◌, ◌⊎◌, nat_lt, slice_get, option_map, if◌then◌else◌}
use Rattle.std.specs.List.{Contains}
use Rattle.std.proofs.lemmas.List.Elements.{All-contains}
use Rattle.std.proofs.lemmas.Option.{same_Some, slice_get-map, slice_get_within}
use Rattle.je_core.specs.declared.object.Obj.{Obj}
use Rattle.je_core.specs.declared.object.Obj.TheVariants.{Instance, Array, Text, Builder, Row, Cap}
use Rattle.je_core.specs.declared.types.ClassId.{ClassId}
use Rattle.je_core.specs.declared.types.Ty.{Ty}
use Rattle.je_core.specs.Core.{CoreField, CoreMethod, CoreClass, CoreProgram}
use Rattle.je_classes.specs.Hierarchy.{class_at, with_superclass, supers_in, supers_of, same_class, is_below, Below, same, above, object_class, IsAcyclic}
use Rattle.je_classes.specs.Slots.{slot_fields, field_slot}
use Rattle.je_classes.specs.Subtypes.{class_type, array_of, number_in_kind, is_subtype}
use Rattle.je_classes.proofs.Below.{same_class-equal, below-from, below-itself}
use Rattle.je_classes.proofs.Lists.{bool_cases, contains-any, contains-here, contains-later}
use Rattle.je_classes.specs.Dispatch.{dispatched}
use Rattle.je_classes.specs.Members.{Member, method_of}
use Rattle.je_java.specs.Meaning.{member_at}
use Rattle.je_java.specs.LibraryClasses.{string_class, builder_class}
use Rattle.je_java.specs.World.{type_in}
use Rattle.je_fitting.specs.Classes.{can_be_extended, SuperclassFits, none_above, one_above}
use Rattle.je_fitting.specs.Expressions.{field_at, is_interface_sort, can_be_made}
use Rattle.je_fitting.specs.Program.{itself, is_itself, FitsProgram}
use Rattle.je_fitting.specs.Types.{agrees}
use Rattle.je_fitting.proofs.Acyclic.{acyclic}
use Rattle.je_fitting.proofs.ClassesDecided.{itself_of, at-place}
use Rattle.je_sound.specs.Calls.{RunsFor}
use Rattle.je_sound.specs.Laws.{FieldsAreThere, CallsAreThere}
use Rattle.je_sound.specs.Objects.{const_row, int_row, text_row, device_interfaces, is_row_class, is_device_interface, IsObject, an_instance, a_row, a_capability, field_type, ObjectFits, slot_type_in}
use Rattle.je_sound.specs.way.Bare.{from_text_row, from_int_row, from_rows, from_builder, from_string, bare_classes, AreBare}
use Rattle.je_sound.proofs.Dispatched.{calls_are_dispatched}
use Rattle.je_sound.proofs.Inherited.{fields_are_inherited}
use Rattle.je_sound.proofs.Library.{are-bare}
use Rattle.je_sound.proofs.Values.{agree-cases}

-- ---- the classes above an object's

-- of two class types that agree, the second is Object or the first is below it
pub classes-agree : (p : CoreProgram) (k class : ClassId) → agrees p (class_type k) (class_type class) ≡ true → (same_class class object_class ≡ true) ⊎ (is_below p k class ≡ true)
unfolding is_subtype
classes-agree p k class e = by (agree-cases p (class_type k) (class_type class) e)
  where
    by : (class_type k ≡ class_type class) ⊎ (is_subtype p (class_type k) (class_type class) ≡ true) → (same_class class object_class ≡ true) ⊎ (is_below p k class ≡ true)
    by (inl q) =
        let number : k.0 ≡ class.0 = ap (λ (t : Ty). number_in_kind t.base) q in
        let one : k ≡ class = ap (λ (n : ℕ). let x : ClassId = record { 0 = n } in x) number in
        inr (subst (λ (x : ClassId). is_below p k x ≡ true) one (below-itself p k))
    by (inr h) = bool_cases (λ b. (b || is_below p k class) ≡ true → (same_class class object_class ≡ true) ⊎ (is_below p k class ≡ true)) (same_class class object_class)
        (λ q g. inl q) (λ q g. inr g) h

-- of an array's type and a class type that agree, the second is Object
pub array-agrees : (p : CoreProgram) (element : Ty) (class : ClassId) → agrees p (array_of element) (class_type class) ≡ true → same_class class object_class ≡ true
unfolding is_subtype
array-agrees p element class e = by (agree-cases p (array_of element) (class_type class) e)
  where
    by : (array_of element ≡ class_type class) ⊎ (is_subtype p (array_of element) (class_type class) ≡ true) → same_class class object_class ≡ true
    by (inl q) = absurd (let n : suc element.dims ≡ 0 = ap (λ (t : Ty). t.dims) q in omega (arith, n))
    by (inr h) = h

-- ---- classes without slots

object-bare : Contains bare_classes object_class
object-bare = contains-here object_class from_string

text-bare : Contains bare_classes string_class
text-bare = contains-later object_class string_class from_string (contains-here string_class from_builder)

builder-bare : Contains bare_classes builder_class
builder-bare = contains-later object_class builder_class from_string (contains-later string_class builder_class from_builder (contains-here builder_class from_rows))

rows-bare : (k : ClassId) → Contains from_rows k → Contains bare_classes k
rows-bare k q = contains-later object_class k from_string (contains-later string_class k from_builder (contains-later builder_class k from_rows q))

row-bare : (k : ClassId) → is_row_class k ≡ true → Contains bare_classes k
row-bare k e = rows-bare k (by (same_class k const_row) (same_class k int_row) (same_class k text_row) refl refl refl e)
  where
    is : (d : ClassId) (xs : List ClassId) → same_class k d ≡ true → Contains (d ∷ xs) k
    is d xs q = subst (λ (x : ClassId). Contains (d ∷ xs) x) (sym (same_class-equal k d q)) (contains-here d xs)

    by : (a b c : Bool) → same_class k const_row ≡ a → same_class k int_row ≡ b → same_class k text_row ≡ c → (a || b || c) ≡ true → Contains from_rows k
    by true b c q r s h = is const_row from_int_row q
    by false true c q r s h = contains-later const_row k from_int_row (is int_row from_text_row r)
    by false false c q r s h = contains-later const_row k from_int_row (contains-later int_row k from_text_row (is text_row device_interfaces (s ∙ h)))

device-bare : (k : ClassId) → is_device_interface k ≡ true → Contains bare_classes k
device-bare k e =
    let d = contains-any (same_class k) device_interfaces e in
    rows-bare k (contains-later const_row k from_int_row (contains-later int_row k from_text_row (contains-later text_row k device_interfaces
    (subst (λ (x : ClassId). Contains device_interfaces x) (sym (same_class-equal k d.element d.passes)) d.there))))

module _ (p : CoreProgram) (f : FitsProgram p) where
  -- every class that is no interface is below Object
  module _ (a : IsAcyclic p) where
    pub extended : (s : ClassId) (o : Option CoreClass) → class_at p s ≡ o → can_be_extended o ≡ true → (c : CoreClass) × (class_at p s ≡ Some c) × (is_interface_sort c.kind.sort ≡ false)
    extended s None q e = absurd cc
    extended s (Some c) q e = (c, q, by (is_interface_sort c.kind.sort) c.kind.is_final e)
      where
        by : (x y : Bool) → not (x || y) ≡ true → x ≡ false
        by true y h = absurd cc
        by false y h = refl

    below-object : (n : ℕ) (class : ClassId) (c : CoreClass) → a.depth class < n → class_at p class ≡ Some c → is_interface_sort c.kind.sort ≡ false → Below p class object_class
    below-object zero class c l there plain = absurd (omega (arith, l))
    below-object (suc n) class c l there plain = by c.superclass refl (itself_of p class c ((f class c there).parts itself is_itself)).superclass (below-object n)
      where
        by : (s : Option ClassId) → c.superclass ≡ s → SuperclassFits p class c s →
            ((d : ClassId) (k : CoreClass) → a.depth d < n → class_at p d ≡ Some k → is_interface_sort k.kind.sort ≡ false → Below p d object_class) → Below p class object_class
        by _ q (none_above e) more =
            let one : same_class class object_class ≡ true = bool_cases (λ b. (b || is_interface_sort c.kind.sort) ≡ true → b ≡ true) (same_class class object_class) (λ h g. refl) (λ h g. absurd cc) e in
            subst (λ (d : ClassId). Below p class d) (same_class-equal class object_class one) same
        by _ q (one_above {s = s} e g) more =
            let up : Contains (supers_of p class) s = subst (λ o. Contains (supers_in o) s) (sym there) (subst (λ o. Contains (with_superclass o c.interfaces) s) (sym q) (contains-here s c.interfaces)) in
            let k = extended s (class_at p s) refl g in
            let falls : a.depth s < a.depth class = a.falls class s up in
            above up (more s k.0 (omega (arith, l, falls)) k.1 k.2)

  pub object-above : (class : ClassId) (c : CoreClass) → class_at p class ≡ Some c → is_interface_sort c.kind.sort ≡ false → is_below p class object_class ≡ true
  object-above class c there plain =
      let some : class.0 < length p.classes = slice_get_within p.classes class.0 c there in
      let a = acyclic p f (omega (arith, some)) in
      below-from p (below-object a (suc (a.depth class)) class c (omega arith) there plain)

  -- ---- fields

  module _ (bare : AreBare p) (class : ClassId) (c : CoreClass) (at slot : ℕ) (g : CoreField) (there : class_at p class ≡ Some c)
      (field : field_at p class at ≡ Some g) (place : field_slot p class at ≡ Some slot) where
    below-has : (k : ClassId) → is_below p k class ≡ true → slice_get (slot_fields p (Some k)) slot ≡ Some g
    below-has k b = fields_are_inherited p k class c at slot g f there b field place

    -- no bare class is below the class
    not-bare : (k : ClassId) → Contains bare_classes k → is_below p k class ≡ true → ⊥
    not-bare k q b =
        let none : slot_fields p (Some k) ≡ [] = All-contains (λ x. slot_fields p (Some x) ≡ []) bare_classes k bare q in
        let gone : slice_get (slot_fields p (Some k)) slot ≡ None = ap (λ fs. slice_get fs slot) none in
        let has = below-has k b in absurd cc

    not-object : same_class class object_class ≡ true → ⊥
    not-object q = not-bare object_class object-bare (subst (λ (d : ClassId). is_below p object_class d ≡ true) (sym (same_class-equal class object_class q)) (below-itself p object_class))

    -- the object's own class is below the class
    own-below : (k : ClassId) → agrees p (class_type k) (class_type class) ≡ true → is_below p k class ≡ true
    own-below k e = by (classes-agree p k class e)
      where
        by : (same_class class object_class ≡ true) ⊎ (is_below p k class ≡ true) → is_below p k class ≡ true
        by (inl q) = absurd (not-object q)
        by (inr h) = h

    bare-has-not : (k : ClassId) → Contains bare_classes k → agrees p (class_type k) (class_type class) ≡ true → ⊥
    bare-has-not k q e = not-bare k q (own-below k e)

    typed : (k : ClassId) (own : Ty) → Some (class_type k) ≡ Some own → agrees p own (class_type class) ≡ true → agrees p (class_type k) (class_type class) ≡ true
    typed k own t e = subst (λ (u : Ty). agrees p u (class_type class) ≡ true) (sym (same_Some (class_type k) own t)) e

    slot-typed : (o : Obj) → IsObject p o → (own : Ty) → type_in (Some o) ≡ Some own → agrees p own (class_type class) ≡ true → slot_type_in p (Some o) slot ≡ Some g.ty
    slot-typed (Instance k slots) i own t e = slice_get-map field_type (slot_fields p (Some k)) slot ∙ ap (option_map field_type) (below-has k (own-below k (typed k own t e)))
    slot-typed (Array element slots) i own t e = absurd (not-object (array-agrees p element class (by (nat_lt element.dims 255) t)))
      where
        by : (b : Bool) → (if b then Some (array_of element) else None) ≡ Some own → agrees p (array_of element) (class_type class) ≡ true
        by true h = subst (λ (u : Ty). agrees p u (class_type class) ≡ true) (sym (same_Some (array_of element) own h)) e
        by false h = absurd cc
    slot-typed (Text units) i own t e = absurd (bare-has-not string_class text-bare (typed string_class own t e))
    slot-typed (Builder units) i own t e = absurd (bare-has-not builder_class builder-bare (typed builder_class own t e))
    slot-typed (Row k slots) (a_row q r) own t e = absurd (bare-has-not k (row-bare k r) (typed k own t e))
    slot-typed (Cap device k) (a_capability q r) own t e = absurd (bare-has-not k (device-bare k r) (typed k own t e))

pub fields_are_there : FieldsAreThere
fields_are_there p world o class c at slot g f library s there v field place = by (slice_get world.objects o.0) refl v.has
  where
    by : (x : Option Obj) → slice_get world.objects o.0 ≡ x → type_in x ≡ Some v.own → slot_type_in p x slot ≡ Some g.ty
    by None q h = absurd cc
    by (Some x) q h = slot-typed p f (are-bare p library) class c at slot g there field place x (at-place (ObjectFits p world.objects) world.objects o.0 x s.objects q).kind v.own h v.agree

-- ---- methods

pub no-interface : (c : CoreClass) → can_be_made c ≡ true → is_interface_sort c.kind.sort ≡ false
no-interface c e = by c.kind.is_abstract (is_interface_sort c.kind.sort) e
  where
    by : (a b : Bool) → not (a || b) ≡ true → b ≡ false
    by a true h = absurd (by-true a h)
      where
        by-true : (a : Bool) → not (a || true) ≡ true → ⊥
        by-true true h = absurd cc
        by-true false h = absurd cc
    by a false h = refl

pub calls_are_there : CallsAreThere
calls_are_there p world o own class slots at named f s there v is instance method = by (at-place (ObjectFits p world.objects) world.objects o.0 (Instance own slots) s.objects there).kind
  where
    agree : agrees p (class_type own) (class_type class) ≡ true
    agree = subst (λ (u : Ty). agrees p u (class_type class) ≡ true) (sym (same_Some (class_type own) v.own (sym (ap type_in there) ∙ v.has))) v.agree

    by : IsObject p (Instance own slots) → (to : Member) × (by : CoreMethod) × (dispatched p own (member_at class at) ≡ Some to) × (method_of p to ≡ Some by) × RunsFor p by named
    by (an_instance {c = c} q made has) = calls_are_dispatched p own class c at named f q made (below (classes-agree p own class agree)) is instance method
      where
        below : (same_class class object_class ≡ true) ⊎ (is_below p own class ≡ true) → is_below p own class ≡ true
        below (inl h) = subst (λ (d : ClassId). is_below p own d ≡ true) (sym (same_class-equal class object_class h)) (object-above p f own c q (no-interface c made))
        below (inr h) = h
