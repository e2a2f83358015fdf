-- The world before the load of a program that fits: capabilities and constant strings are objects that Java makes, and
-- each class variable has a value of its type.
use Rattle.std.proofs.Common.{◌≡◌, ℕ, suc, ◌+◌, List, [], ◌∷◌, ◌++◌, length, map, filter, Option, Some, None, refl, sym, ap, subst, ◌∙◌, arith}
use Rattle.std.specs.Prelude.{true, flat_map, option_map, slice_get, unwrap_or}
use Rattle.std.specs.List.{All}
use Rattle.std.proofs.lemmas.List.Elements.{All-nil, All-cons, All-head, All-tail, All-append, All-filter}
use Rattle.std.proofs.lemmas.Option.{same_Some, slice_get-map}
use Rattle.je_base.specs.Names.{place_of}
use Rattle.je_base.proofs.Numbering.{place-text}
use Rattle.je_core.specs.declared.object.Obj.{Obj}
use Rattle.je_core.specs.declared.object.Obj.TheVariants.{Cap, Text}
use Rattle.je_core.specs.declared.types.ClassId.{ClassId}
use Rattle.je_core.specs.declared.types.Ty.{Ty}
use Rattle.je_core.specs.declared.value.Value.{Value}
use Rattle.je_core.specs.declared.value.Value.TheVariants as value
use Rattle.je_core.specs.Defaults.{default_of}
use Rattle.je_core.specs.Core.{Core, CoreField, CoreClass, CoreProgram, form_of, ty_of}
use Rattle.je_classes.specs.Statics.{is_static}
use Rattle.je_classes.specs.Subtypes.{class_type, is_subtype, null_type}
use Rattle.je_classes.proofs.Below.{below-itself, or_true}
use Rattle.je_classes.proofs.Same.{same_type-equal}
use Rattle.je_fitting.specs.Expressions.{Body, Fits, const, text}
use Rattle.je_fitting.specs.Members.{FieldFits, is_constant_form, static_body}
use Rattle.je_fitting.specs.Program.{FitsProgram, a_field, is_field}
use Rattle.je_fitting.specs.Types.{agrees, string, type_of_value}
use Rattle.je_fitting.proofs.ClassesDecided.{field_of}
use Rattle.je_java.specs.LibraryClasses.{string_class}
use Rattle.je_java.specs.World.{type_in}
use Rattle.je_load.specs.Loading.{capabilities, constant_value, first_value, reference, text_reference, text_references, variables_of}
use Rattle.je_load.proofs.Beginning.{length-capabilities, length-text_references}
use Rattle.je_sound.specs.Objects.{ObjectFits, a_capability, a_text, field_type}
use Rattle.je_sound.specs.Values.{ValueFits, ValuesFit, own_type}
use Rattle.je_sound.specs.Worlds.{IsText, Sound, static_types, static_types_of}
use Rattle.je_sound.specs.Worlds as worlds
use Rattle.je_sound.proofs.Lists.{all-places, behind}
use Rattle.je_sound.proofs.Values.{defaults_fit}
use Rattle.je_worlds.proofs.Matches.{zip-append}
use Rattle.load_sound.specs.Beginnings.{FirstWorldsAreSound, IsOfDevice}

module _ (p : CoreProgram) where
  -- a constant agrees with its own type, and a string with that of strings
  value-agrees : (v : Value) (t : Ty) → type_of_value v ≡ Some t → agrees p t t ≡ true
  unfolding is_subtype
  value-agrees (value.Bool b) t e = subst (λ (u : Ty). agrees p u u ≡ true) (same_Some _ t e) refl
  value-agrees (value.Byte n) t e = subst (λ (u : Ty). agrees p u u ≡ true) (same_Some _ t e) refl
  value-agrees (value.Short n) t e = subst (λ (u : Ty). agrees p u u ≡ true) (same_Some _ t e) refl
  value-agrees (value.Char n) t e = subst (λ (u : Ty). agrees p u u ≡ true) (same_Some _ t e) refl
  value-agrees (value.Int n) t e = subst (λ (u : Ty). agrees p u u ≡ true) (same_Some _ t e) refl
  value-agrees (value.Long n) t e = subst (λ (u : Ty). agrees p u u ≡ true) (same_Some _ t e) refl
  value-agrees value.Null t e = subst (λ (u : Ty). agrees p u u ≡ true) (same_Some _ t e) refl
  value-agrees (value.Ref o) t e = absurd cc

  class-agrees : (class : ClassId) → agrees p (class_type class) (class_type class) ≡ true
  unfolding is_subtype
  class-agrees class = or_true _ _ (below-itself p class)

  own-type : (objects : List Obj) (v : Value) (t : Ty) → type_of_value v ≡ Some t → own_type objects v ≡ Some t
  own-type objects (value.Ref o) t e = absurd cc
  own-type objects (value.Bool b) t e = e
  own-type objects (value.Byte n) t e = e
  own-type objects (value.Short n) t e = e
  own-type objects (value.Char n) t e = e
  own-type objects (value.Int n) t e = e
  own-type objects (value.Long n) t e = e
  own-type objects value.Null t e = e

module _ (p : CoreProgram) (interfaces : List ClassId) where
  abbrev number : ℕ
  number = length interfaces

  abbrev objects : List Obj
  objects = capabilities 0 interfaces ++ map Text p.texts

  text-there : (n : ℕ) (units : List ℕ) → slice_get p.texts n ≡ Some units → slice_get objects (number + n) ≡ Some (Text units)
  text-there n units e =
      ap (λ k. slice_get objects (k + n)) (sym (length-capabilities 0 interfaces))
      ∙ behind (capabilities 0 interfaces) (map Text p.texts) n
      ∙ slice_get-map Text p.texts n
      ∙ ap (option_map Text) e

  -- ---- objects

  capabilities-fit : (device : ℕ) (of : List ClassId) → All (IsOfDevice p) of → All (ObjectFits p objects) (capabilities device of)
  capabilities-fit device [] a = All-nil (ObjectFits p objects)
  capabilities-fit device (interface ∷ of) a =
      let own = All-head (IsOfDevice p) interface of a in
      All-cons (ObjectFits p objects) (Cap device interface) (capabilities (suc device) of) (record { kind = a_capability own.0 own.1; slots = tt })
      (capabilities-fit (suc device) of (All-tail (IsOfDevice p) interface of a))

  strings-fit : (texts : List (List ℕ)) → All (ObjectFits p objects) (map Text texts)
  strings-fit [] = All-nil (ObjectFits p objects)
  strings-fit (units ∷ texts) = All-cons (ObjectFits p objects) (Text units) (map Text texts) (record { kind = a_text; slots = tt }) (strings-fit texts)

  objects-fit : All (IsOfDevice p) interfaces → All (ObjectFits p objects) objects
  objects-fit a = All-append (ObjectFits p objects) (capabilities 0 interfaces) (map Text p.texts) (capabilities-fit 0 interfaces a) (strings-fit p.texts)

  references-are-texts : (first : ℕ) (texts : List (List ℕ)) → ((n : ℕ) (units : List ℕ) → slice_get texts n ≡ Some units → slice_get objects (first + n) ≡ Some (Text units)) →
      All (IsText objects) (text_references first texts)
  references-are-texts first [] there = All-nil (IsText objects)
  references-are-texts first (units ∷ texts) there =
      let here : first + 0 ≡ first = omega arith in
      All-cons (IsText objects) (reference first) (text_references (suc first) texts)
      (worlds.a_text (subst (λ k. slice_get objects k ≡ Some (Text units)) here (there 0 units refl)))
      (references-are-texts (suc first) texts λ n others e.
      let next : first + suc n ≡ suc first + n = omega arith in
      subst (λ k. slice_get objects k ≡ Some (Text others)) next (there (suc n) others e))

  -- ---- class variables

  text-fits : (units : List ℕ) → ValueFits p objects string (text_reference number (place_of p.texts units))
  unfolding string_class is_subtype
  text-fits units = by (place_of p.texts units) refl
    where
      by : (o : Option ℕ) → place_of p.texts units ≡ o → ValueFits p objects string (text_reference number o)
      by None e = record { own = null_type; has = refl; agree = refl }
      by (Some n) e = record {
        own = class_type string_class;
        has = ap type_in (text-there n units (place-text p.texts units n e));
        agree = class-agrees p string_class;
      }

  constant-fits : (body : Body) (e : Core) → is_constant_form (form_of e) ≡ true → Fits p body e → ValueFits p objects (ty_of e) (constant_value p.texts number (form_of e))
  constant-fits body _ h (const {v = v} {t = t} q u) = record { own = t; has = own-type p objects v t q; agree = value-agrees p v t q }
  constant-fits body _ h (text {units = units} q u) = text-fits units
  constant-fits body _ h _ = absurd cc

  first_value-fits : (class : ClassId) (g : CoreField) → FieldFits p class g → ValueFits p objects g.ty (first_value p.texts number g)
  first_value-fits class g k = by g.constant refl
    where
      by : (o : Option Core) → g.constant ≡ o → ValueFits p objects g.ty (unwrap_or (option_map (λ e. constant_value p.texts number (form_of e)) o) (default_of g.ty))
      by None q = defaults_fit p objects g.ty k.type
      by (Some e) q =
          let c = k.constant e q in
          subst (λ (t : Ty). ValueFits p objects t (constant_value p.texts number (form_of e))) (same_type-equal (ty_of e) g.ty c.of_its_type)
          (constant-fits (static_body class []) e c.is_constant c.fits)

  -- the field fits in the class of some number
  abbrev HasFit : CoreField → Type 0
  HasFit g = (class : ClassId) × FieldFits p class g

  fields-begin : (gs : List CoreField) → All HasFit gs → ValuesFit p objects (map field_type gs) (map (first_value p.texts number) gs)
  fields-begin [] a = tt
  fields-begin (g ∷ gs) a =
      let own = All-head HasFit g gs a in
      (first_value-fits own.0 g own.1, fields-begin gs (All-tail HasFit g gs a))

  abbrev HasFits : CoreClass → Type 0
  HasFits c = All HasFit c.fields

  classes-begin : (cs : List CoreClass) → All HasFits cs → ValuesFit p objects (flat_map static_types_of cs) (flat_map (variables_of p.texts number) cs)
  classes-begin [] a = tt
  classes-begin (c ∷ cs) a =
      zip-append (ValueFits p objects) (static_types_of c) (variables_of p.texts number c) (flat_map static_types_of cs) (flat_map (variables_of p.texts number) cs)
      (fields-begin (filter is_static c.fields) (All-filter is_static HasFit c.fields (All-head HasFits c cs a)))
      (classes-begin cs (All-tail HasFits c cs a))

  all-fit : FitsProgram p → All HasFits p.classes
  all-fit f = all-places HasFits p.classes λ at c there.
      let class : ClassId = record { 0 = at } in
      all-places HasFit c.fields λ n g e. (class, field_of p class c n g e ((f class c there).parts (a_field n) (is_field e)))

pub first_worlds_are_sound : FirstWorldsAreSound
first_worlds_are_sound p interfaces f a = record {
  objects = objects-fit p interfaces a;
  fields = flat_map (variables_of p.texts (length interfaces)) p.classes;
  texts = text_references (length interfaces) p.texts;
  statics = refl;
  fields_fit = classes-begin p interfaces p.classes (all-fit p interfaces f);
  texts_count = length-text_references (length interfaces) p.texts;
  are_texts = references-are-texts p interfaces (length interfaces) p.texts (text-there p interfaces);
}
