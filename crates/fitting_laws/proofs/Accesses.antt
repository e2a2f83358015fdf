-- The laws on field access (JLS 10.7, 15.11).
use Rattle.std.proofs.Common.{◌≡◌, ℕ, zero, suc, List, [], ◌∷◌, Option, Some, None, refl, sym, ap, ◌∙◌, subst, inl, inr, arith}
use Rattle.std.specs.Prelude.{Bool, true, false, ◌&&◌, if◌then◌else◌, is_some}
use Rattle.std.specs.List.{Contains}
use Rattle.std.proofs.lemmas.List.Elements.{All-cons, All-nil}
use Rattle.je_base.specs.declared.span.Span.{Span}
use Rattle.je_core.specs.declared.expr.Use.{Use}
use Rattle.je_core.specs.declared.types.ClassId.{ClassId}
use Rattle.je_core.specs.Core.{CoreProgram}
use Rattle.je_ast.specs.declared.name.Identifier.{Identifier}
use Rattle.je_classes.specs.Hierarchy.{above, object_class, same_class, is_below, same}
use Rattle.je_classes.specs.Members.{Found, Member, nothing, one, several}
use Rattle.je_classes.specs.Subtypes.{class_type, is_subtype}
use Rattle.je_classes.proofs.Below.{same_class-refl}
use Rattle.je_classes.proofs.Lists.{contains-here}
use Rattle.je_fitting.specs.Expressions.{Body, are_there}
use Rattle.je_fitting.proofs.Booleans.{two}
use Rattle.je_scopes.specs.Headers.{is_guest, site_at}
use Rattle.je_scopes.specs.SourceTypes.{SourceType, no_source_types, plain, of_class, of_variable}
use Rattle.source_types.specs.Erasure.{class_numbered, erased}
use Rattle.source_types.specs.Heads.{ClassHead, object_type, supers_of}
use Rattle.declarations.specs.Declarations.{DeclaredField}
use Rattle.je_typing.specs.declared.fault.TypeRule.TheVariants.{BadOperand, NotAccessible, StaticContext, UnknownField}
use Rattle.je_typing.specs.Arrays.{length_of}
use Rattle.je_typing.specs.Judged.{Judged, bind, check, faulty, gives, need}
use Rattle.je_typing.specs.Typed.{TypedNode, element_type}
use Rattle.name_typing.specs.Accesses.{Selected, field_in, field_of_value, first_type, found_field, has_members, is_array, is_length, member_of_value, selected, static_field, static_value, super_field, superclass_of, typed_selected, typed_static, typed_super}
use Rattle.name_typing.specs.Fields.{field_at as declared_at, find_field, is_accessible}
use Rattle.name_typing.specs.Instances.{is_instance}
use Rattle.name_typing.specs.Program.{Place, Program}
use Rattle.name_typing.specs.Variables.{uses_for}
use Rattle.typing_laws.specs.Correspondence.{HasHeads}
use Rattle.typing_laws.specs.Fitting.{Gives}
use Rattle.typing_laws.proofs.Elements.{lengths_fit}
use Rattle.typing_laws.proofs.Subtypes.{or-left}
use Rattle.fitting_laws.specs.Names.{IsVariable}
use Rattle.fitting_laws.specs.Represented.{IsConstantOf, Represents, StandsAt}
use Rattle.fitting_laws.specs.Sound.{HeadsAreSound, IsSound, IsType, a_type, no_arguments, of_null, of_void, sound_class, sound_primitive}
use Rattle.fitting_laws.specs.Values.{FitsBelow, IsValue}
use Rattle.fitting_laws.proofs.Below.{below-below}
use Rattle.fitting_laws.proofs.Fields.{class-static-fits, found-fits, seen-put, selected-fits}
use Rattle.fitting_laws.proofs.Gives.{behind, behind-check}
use Rattle.fitting_laws.proofs.Instances.{class-below, erased-class-type, this-fits}
use Rattle.fitting_laws.proofs.Paths.{above-class, found-stands}
use Rattle.fitting_laws.proofs.Sound.{type-dims, wider}
use Rattle.fitting_laws.proofs.Taken.{same-value}
use Rattle.fitting_laws.proofs.Variables.{constant-or-value}

-- ---- the superclass

module _ (q : CoreProgram) (heads : List ClassHead) (known : HasHeads q heads) (sound : HeadsAreSound q heads) (object : is_some (Rattle.je_classes.specs.Hierarchy.class_at q object_class) ≡ true) where
  pub object-sound : IsSound q heads 255 object_type
  object-sound = sound_class object (omega arith) no_arguments

  pub object-below : (c : ℕ) → is_subtype q (class_type (class_numbered c)) (class_type object_class) ≡ true
  unfolding is_subtype
  object-below c = or-left (same_class object_class object_class) (is_below q (class_numbered c) object_class) (same_class-refl object_class)

  -- a type that stands directly above a class
  pub directly-below : (c : ℕ) (t : SourceType) → Contains (supers_of heads c) t → is_subtype q (class_type (class_numbered c)) (erased heads t) ≡ true
  directly-below c t h =
      let s = known.supers c t h in
      ap (is_subtype q (class_type (class_numbered c))) (ap (erased heads) s.is ∙ erased-class-type q heads known s.class s.arguments)
      ∙ class-below q (class_numbered c) (class_numbered s.class) (above s.above same)

  first-below : (c : ℕ) (ts : List SourceType) → ((t : SourceType) → Contains ts t → is_subtype q (class_type (class_numbered c)) (erased heads t) ≡ true)
      → is_subtype q (class_type (class_numbered c)) (erased heads (first_type ts)) ≡ true
  first-below c [] h = ap (is_subtype q (class_type (class_numbered c))) (erased-class-type q heads known object_class.0 no_source_types) ∙ object-below c
  first-below c (t ∷ ts) h = h t (contains-here t ts)

  first-sound : (ts : List SourceType) → ((t : SourceType) → Contains ts t → IsSound q heads 254 t) → IsSound q heads 255 (first_type ts)
  first-sound [] h = object-sound
  first-sound (t ∷ ts) h = wider q heads (h t (contains-here t ts))

  pub superclass-below : (c : ℕ) → is_subtype q (class_type (class_numbered c)) (erased heads (superclass_of heads c)) ≡ true
  superclass-below c = first-below c (supers_of heads c) (directly-below c)

  pub superclass-sound : (c : ℕ) → IsSound q heads 255 (superclass_of heads c)
  superclass-sound c = first-sound (supers_of heads c) (sound.supers c)

-- ---- arrays

pub array-elements : (t : SourceType) → is_array t ≡ true → is_some (element_type t) ≡ true
array-elements (plain b zero) h = absurd cc
array-elements (plain b (suc n)) h = refl
array-elements (of_class c ts zero) h = absurd cc
array-elements (of_class c ts (suc n)) h = refl
array-elements (of_variable c at zero) h = absurd cc
array-elements (of_variable c at (suc n)) h = refl

module _ (p : Program) (q : CoreProgram) (body : Body) (represents : Represents p q) where
  -- ---- the field that is found

  pub record IsSelected (found : Found) (s : Selected) : Type 0 where
    pub is : found ≡ one s.member
    pub there : declared_at p.classes s.member ≡ Some s.declared

  pub found-selected : (c : ℕ) (id : Identifier) (found : Found) → Gives (IsSelected found) (found_field p c id found)
  unfolding found_field bind check need
  found-selected c id nothing = tt
  found-selected c id several = tt
  found-selected c id (one m) = by (declared_at p.classes m) refl
    where
      further : (f : DeclaredField) → declared_at p.classes m ≡ Some f → (b : Bool) → Gives (IsSelected (one m)) (bind (check NotAccessible id.span b) (λ u. gives (selected m f)))
      further f e true = record { is = refl; there = e }
      further f e false = tt

      by : (o : Option DeclaredField) → declared_at p.classes m ≡ o
          → Gives (IsSelected (one m)) (bind (need UnknownField id.span o) (λ f. bind (check NotAccessible id.span (is_accessible p c m f)) (λ u. gives (selected m f))))
      by None e = tt
      by (Some f) e = further f e (is_accessible p c m f)

  -- ---- of a value

  field-of-value : (place : Place) (id : Identifier) (span : Span) (on : TypedNode) → IsValue q body p.heads on → Gives (FitsBelow q body p.heads) (field_of_value p place id span on)
  unfolding field_of_value
  field-of-value place id span on v = behind-check (FitsBelow q body p.heads) BadOperand id.span (has_members on.type) _ (λ h. by on.type refl v.type h)
    where
      selected-of : IsSound q p.heads 255 on.type → (s : Selected) → IsSelected (find_field p.heads p.classes on.type id.name) s → FitsBelow q body p.heads (typed_selected p on s id.span span)
      selected-of sound s k = found-fits p q body represents on id.name s.member s.declared id.span span v.fits sound k.is k.there

      by : (t : SourceType) → on.type ≡ t → IsType q p.heads t → has_members t ≡ true
          → Gives (FitsBelow q body p.heads) (bind (field_in p place.here.class on.type id) (λ s. gives (typed_selected p on s id.span span)))
      by t e (a_type s) h = behind (IsSelected (find_field p.heads p.classes on.type id.name)) (FitsBelow q body p.heads) (field_in p place.here.class on.type id) (λ s. gives (typed_selected p on s id.span span))
          (found-selected place.here.class id (find_field p.heads p.classes on.type id.name)) (selected-of (subst (IsSound q p.heads 255) (sym e) s))
      by _ e of_null h = absurd cc
      by _ e of_void h = absurd cc

  pub members_fit : (place : Place) (id : Identifier) (span : Span) (on : TypedNode) → IsValue q body p.heads on → Gives (IsVariable p q body) (member_of_value p place id span on)
  unfolding member_of_value
  members_fit place id span on v = by (is_array on.type && is_length p id) refl
    where
      weaker : (j : Judged TypedNode) → Gives (FitsBelow q body p.heads) j → Gives (IsVariable p q body) j
      weaker (gives t) h = inr h
      weaker (faulty fault) h = tt

      by : (b : Bool) → (is_array on.type && is_length p id) ≡ b → Gives (IsVariable p q body) (if b then gives (length_of id.span span on.node) else field_of_value p place id span on)
      by true e = inl (record {
        fits = lengths_fit q body p.heads id.span span on represents.heads.bounds (type-dims q p.heads v.type) (array-elements on.type (two {a = is_array on.type} e).0) v.fits;
        type = a_type (sound_primitive refl (omega arith));
      })
      by false e = weaker (field_of_value p place id span on) (field-of-value place id span on v)

  -- ---- of a class

  pub static-fields : (place : Place) (id : Identifier) (span : Span) (found : Found)
      → Gives (λ t. IsValue q body p.heads t × ((m : Member) → found ≡ one m → (f : DeclaredField) × (declared_at p.classes m ≡ Some f) × (t.type ≡ f.ty))) (static_field p place id span found)
  unfolding static_field
  static-fields place id span found = behind (IsSelected found) _ (found_field p place.here.class id found) _ (found-selected place.here.class id found)
      (λ s k. behind-check _ StaticContext id.span s.declared.is_static (gives (typed_static p s id.span span)) (λ e. result s k e))
    where
      result : (s : Selected) → IsSelected found s → s.declared.is_static ≡ true
          → IsValue q body p.heads (typed_static p s id.span span) × ((m : Member) → found ≡ one m → (f : DeclaredField) × (declared_at p.classes m ≡ Some f) × (s.declared.ty ≡ f.ty))
      result s k e = (
        same-value q body p.heads represents.heads (typed_static p s id.span span) (class-static-fits p q body represents s.member s.declared id.span span k.there e) refl,
        λ m is. let same : one s.member ≡ one m = sym k.is ∙ is in let member : s.member ≡ m = cc in (s.declared, ap (declared_at p.classes) (sym member) ∙ k.there, refl),
      )

  pub static-values : (id : Identifier) (found : Found) (t : TypedNode) → IsValue q body p.heads t → ((m : Member) → found ≡ one m → (f : DeclaredField) × (declared_at p.classes m ≡ Some f) × (t.type ≡ f.ty))
      → IsValue q body p.heads (static_value p id found t)
  static-values id nothing t v k = v
  static-values id several t v k = v
  static-values id (one m) t v k =
      let f = k m refl in
      constant-or-value q body p.heads t (uses_for p m id.span) (p.constants m)
      (λ c e. (subst (λ (u : SourceType). IsConstantOf u c) (sym f.2) (represents.constants m f.0 c f.1 e), v.fits.type, used f.0 f.1 (is_guest (site_at p.source.sites m.class.0).written), v.type)) (λ e. v)
    where
      used : (f : DeclaredField) → declared_at p.classes m ≡ Some f → (b : Bool) → are_there q (if b then [] else record { class = m.class; field = m.at; span = id.span } ∷ [])
      used f there true = All-nil _
      used f there false = All-cons (λ (u : Use). is_some (Rattle.je_fitting.specs.Expressions.field_at q u.class u.field) ≡ true) (record { class = m.class; field = m.at; span = id.span }) [] (ap is_some (represents.fields m f there).there) (All-nil _)

  -- ---- by `super`

  pub super_fields_fit : (place : Place) (word : Span) (id : Identifier) (span : Span) → StandsAt p q body place → Gives (FitsBelow q body p.heads) (super_field p place word id span)
  unfolding super_field
  super_fields_fit place word id span stands = behind (IsSelected (find_field p.heads p.classes above id.name)) _ (field_in p place.here.class above id) _ (found-selected place.here.class id (find_field p.heads p.classes above id.name))
      (λ s k. behind-check _ StaticContext word (is_instance place.here.context) (gives (typed_selected p (typed_super p place word) s id.span span)) (λ e. result s k e))
    where
      above : SourceType
      above = superclass_of p.heads place.here.class

      result : (s : Selected) → IsSelected (find_field p.heads p.classes (superclass_of p.heads place.here.class) id.name) s → is_instance place.here.context ≡ true → FitsBelow q body p.heads (typed_selected p (typed_super p place word) s id.span span)
      result s k e =
          let c = place.here.class in
          let r = found-stands p.heads p.classes id.name (superclass_of p.heads c) s.member k.is in
          let higher : is_subtype q (erased p.heads (superclass_of p.heads c)) (class_type s.member.class) ≡ true =
          ap (λ (d : ClassId). is_subtype q (erased p.heads (superclass_of p.heads c)) (class_type d)) r.is ∙ above-class q p.heads represents.heads (superclass_of p.heads c) r.class r.arguments r.way in
          let below = below-below q represents.top (class_type (class_numbered c)) (erased p.heads (superclass_of p.heads c)) (class_type s.member.class)
          (superclass-below q p.heads represents.heads represents.sound represents.object c) higher in
          selected-fits p q body represents (typed_super p place word) s.member s.declared id.span span (this-fits p q body place stands word (stands.this e)).node k.there below
          (seen-put q p.heads represents.heads represents.sound represents.top (superclass_of p.heads c) s.member s.declared (superclass-sound q p.heads represents.heads represents.sound represents.object c) (represents.field_types s.member s.declared k.there))
