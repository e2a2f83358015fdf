-- Fields fit where they are found: of a value, of a class, and by `super` (JLS 15.11).
use Rattle.std.proofs.Common.{◌≡◌, ℕ, List, [], ◌∷◌, Option, Some, None, refl, sym, ap, ◌∙◌, subst}
use Rattle.std.specs.Prelude.{Bool, true, false, ◌||◌, if◌then◌else◌, is_some}
use Rattle.std.specs.List.{find, list_any}
use Rattle.std.proofs.lemmas.List.Elements.{All-nil}
use Rattle.std.proofs.lemmas.Option.{none-some, same_Some}
use Rattle.je_base.specs.declared.span.NameId.{NameId}
use Rattle.je_base.specs.declared.span.Span.{Span}
use Rattle.je_core.specs.declared.types.ClassId.{ClassId}
use Rattle.je_core.specs.declared.types.Ty.{Ty}
use Rattle.je_core.specs.Core.{Core, CoreField, CoreProgram, MaybeCore, a_core, no_core, node, ty_of}
use Rattle.je_core.specs.Core as core
use Rattle.je_classes.specs.Hierarchy.{object_class, supers_of}
use Rattle.je_classes.specs.Members.{Member, one}
use Rattle.je_classes.specs.Subtypes.{class_type, is_subtype}
use Rattle.je_classes.proofs.Lists.{bool_cases}
use Rattle.je_fitting.specs.Expressions.{Body, Fits, MaybeFits, field_at}
use Rattle.je_fitting.specs.Expressions as fits
use Rattle.je_scopes.specs.SourceTypes.{SourceType, plain, of_class, of_variable, same_source_type}
use Rattle.plain_programs.specs.Nodes.{every, every_if}
use Rattle.source_types.specs.Erasure.{class_numbered, erased}
use Rattle.source_types.specs.Heads.{ClassHead}
use Rattle.source_types.specs.Supertypes.{supertypes}
use Rattle.source_types.proofs.Above.{above-to}
use Rattle.source_types.proofs.Same.{same-refl}
use Rattle.declarations.specs.Declarations.{DeclaredField}
use Rattle.je_typing.specs.Castable.{is_of_class}
use Rattle.je_typing.specs.Typed.{TypedNode}
use Rattle.name_typing.specs.Accesses.{selected, typed_selected, typed_static}
use Rattle.name_typing.specs.Fields.{field_at as declared_at, find_field, if_one_list, is_other_list, only_of_class, put_in, type_seen}
use Rattle.name_typing.specs.Instances.{has_instance, instance_node}
use Rattle.name_typing.specs.Program.{Place, Program, frames}
use Rattle.name_typing.specs.Variables.{class_of_frame}
use Rattle.header_typing.specs.Supers.{own_type}
use Rattle.typing_laws.specs.Correspondence.{HasHeads}
use Rattle.typing_laws.specs.Fitting.{FitsAs, stands_once, with_texts}
use Rattle.fitting_laws.specs.Represented.{Represents, StandsAt}
use Rattle.fitting_laws.specs.Sound.{HeadsAreSound, IsSound, sound_class}
use Rattle.fitting_laws.specs.Values.{FitsBelow}
use Rattle.fitting_laws.proofs.Below.{subtype-texts}
use Rattle.fitting_laws.proofs.Instances.{field-fits, outer-value, own-sound}
use Rattle.fitting_laws.proofs.Paths.{above-class, found-stands}
use Rattle.fitting_laws.proofs.Sound.{PutIn, above-sound, itself, substituted-put}

-- ---- the type of a field as it is seen from a type

find-any : (test : SourceType → Bool) (ts : List SourceType) (t : SourceType) → find test ts ≡ Some t → list_any (λ u. same_source_type u t) ts ≡ true
find-any test [] t e = absurd (none-some t e)
find-any test (u ∷ ts) t e = bool_cases (λ b. (if b then Some u else find test ts) ≡ Some t → (same_source_type u t || list_any (λ v. same_source_type v t) ts) ≡ true) (test u)
    (λ _ h. let same : u ≡ t = same_Some u t h in subst (λ (v : SourceType). (same_source_type u v || list_any (λ w. same_source_type w v) ts) ≡ true) same (ap (λ b. b || list_any (λ w. same_source_type w u) ts) (same-refl u)))
    (λ _ h. later (same_source_type u t) (list_any (λ v. same_source_type v t) ts) (find-any test ts t h)) e
  where
    later : (a b : Bool) → b ≡ true → (a || b) ≡ true
    later true b k = refl
    later false b k = k

only-any : (c : ℕ) (ts : List SourceType) (t : SourceType) → only_of_class c ts ≡ Some t → list_any (λ u. same_source_type u t) ts ≡ true
only-any c ts t e = by (find (is_of_class c) ts) refl e
  where
    by : (o : Option SourceType) → find (is_of_class c) ts ≡ o → if_one_list c ts o ≡ Some t → list_any (λ u. same_source_type u t) ts ≡ true
    by None q h = absurd (none-some t h)
    by (Some u) q h = bool_cases (λ b. (if b then None else Some u) ≡ Some t → list_any (λ u. same_source_type u t) ts ≡ true) (list_any (is_other_list c u) ts)
        (λ _ k. absurd (none-some t k))
        (λ _ k. let same : u ≡ t = same_Some u t k in subst (λ (v : SourceType). list_any (λ w. same_source_type w v) ts ≡ true) same (find-any (is_of_class c) ts u q)) h

module _ (q : CoreProgram) (heads : List ClassHead) (known : HasHeads q heads) (sound : HeadsAreSound q heads) (top : supers_of q object_class ≡ []) where
  put-seen : (u : SourceType) (f : DeclaredField) → IsSound q heads 255 u → IsSound q heads 254 f.ty → PutIn q heads known f.ty (put_in (Some u) f.ty)
  put-seen (of_class c args n) f (sound_class h few given) s = substituted-put q heads known top c args given s
  put-seen (of_variable c at n) f k s = itself q heads known s
  put-seen (plain b n) f k s = itself q heads known s

  pub seen-put : (t : SourceType) (m : Member) (f : DeclaredField) → IsSound q heads 255 t → IsSound q heads 254 f.ty → PutIn q heads known f.ty (type_seen heads t m f)
  seen-put t m f k s = by (only_of_class m.class.0 (supertypes heads t)) refl
    where
      by : (o : Option SourceType) → only_of_class m.class.0 (supertypes heads t) ≡ o → PutIn q heads known f.ty (put_in o f.ty)
      by None e = itself q heads known s
      by (Some u) e = put-seen u f (above-sound q heads known top sound (above-to heads t u (only-any m.class.0 (supertypes heads t) u e)) k) s

-- ---- fields of nodes

module _ (p : Program) (q : CoreProgram) (body : Body) (represents : Represents p q) where
  -- a node of a field that has that of its declaration as type
  below-by : (t : TypedNode) (u : SourceType) → ((texts : List (List ℕ)) → every (stands_once texts) t.node ≡ true → Fits (with_texts q texts) body t.node)
      → fits.are_there q (Rattle.je_typing.specs.Constants.uses_of t.node) → ty_of t.node ≡ erased p.heads u → PutIn q p.heads represents.heads u t.type → FitsBelow q body p.heads t
  below-by t u fit uses is put = record { node = fit; uses = uses; below = subst (λ (x : Ty). Rattle.fitting_laws.specs.Sound.SameOrBelow q (erased p.heads t.type) x) (sym is) put.below; type = put.sound }

  -- a static field, selected from an expression or not
  static-fits : (o : MaybeCore) (m : Member) (f : DeclaredField) (span at : Span) → declared_at p.classes m ≡ Some f → f.is_static ≡ true
      → ((texts : List (List ℕ)) → every_if (stands_once texts) o ≡ true → MaybeFits (with_texts q texts) body m.class o)
      → (texts : List (List ℕ)) → every_if (stands_once texts) o ≡ true → Fits (with_texts q texts) body (node (core.Static o m.class m.at) (erased p.heads f.ty) span at)
  static-fits o m f span at there static fit texts h =
      let s = represents.fields m f there in
      subst (λ (u : Ty). Fits (with_texts q texts) body (node (core.Static o m.class m.at) u span at)) s.type (fits.static (fit texts h) s.there (s.is_static ∙ static))

  -- ---- of a value (JLS 15.11.1)

  module _ (on : TypedNode) (m : Member) (f : DeclaredField) (at span : Span) (fit : (texts : List (List ℕ)) → every (stands_once texts) on.node ≡ true → Fits (with_texts q texts) body on.node) (there : declared_at p.classes m ≡ Some f)
      (below : is_subtype q (ty_of on.node) (class_type m.class) ≡ true) (put : PutIn q p.heads represents.heads f.ty (type_seen p.heads on.type m f)) where
    static-selected : f.is_static ≡ true → (texts : List (List ℕ)) → every_if (stands_once texts) (a_core on.node) ≡ true
        → Fits (with_texts q texts) body (node (core.Static (a_core on.node) m.class m.at) (erased p.heads f.ty) span at)
    static-selected static = static-fits (a_core on.node) m f span at there static (λ texts h. fits.something (fit texts h) (subtype-texts q texts (ty_of on.node) (class_type m.class) ∙ below))

    field-selected : f.is_static ≡ false → (texts : List (List ℕ)) → every (stands_once texts) on.node ≡ true → Fits (with_texts q texts) body (node (core.Field on.node m.class m.at) (erased p.heads f.ty) span at)
    field-selected own texts h =
        let s = represents.fields m f there in
        (field-fits q body on.node m.class m.at s.field (erased p.heads f.ty) span at fit below s.there (s.is_static ∙ own) s.type).node texts h

    pub selected-fits : FitsBelow q body p.heads (typed_selected p on (selected m f) at span)
    selected-fits = by f.is_static refl
      where
        by : (b : Bool) → f.is_static ≡ b
            → FitsBelow q body p.heads (record { node = node (if b then core.Static (a_core on.node) m.class m.at else core.Field on.node m.class m.at) (erased p.heads f.ty) span at; type = type_seen p.heads on.type m f })
        by true e = below-by _ f.ty (static-selected e) (All-nil _) refl put
        by false e = below-by _ f.ty (field-selected e) (All-nil _) refl put

  -- where it is found for the type of the value
  pub found-fits : (on : TypedNode) (x : NameId) (m : Member) (f : DeclaredField) (at span : Span) → FitsAs q body p.heads on → IsSound q p.heads 255 on.type
      → find_field p.heads p.classes on.type x ≡ one m → declared_at p.classes m ≡ Some f → FitsBelow q body p.heads (typed_selected p on (selected m f) at span)
  found-fits on x m f at span value s found there =
      let k = found-stands p.heads p.classes x on.type m found in
      let below : is_subtype q (erased p.heads on.type) (class_type m.class) ≡ true =
      ap (λ (c : ClassId). is_subtype q (erased p.heads on.type) (class_type c)) k.is ∙ above-class q p.heads represents.heads on.type k.class k.arguments k.way in
      selected-fits on m f at span value.node there (ap (λ (u : Ty). is_subtype q u (class_type m.class)) value.type ∙ below)
      (seen-put q p.heads represents.heads represents.sound represents.top on.type m f s (represents.field_types m f there))

  -- ---- of a class (JLS 6.5.6.2)

  pub class-static-fits : (m : Member) (f : DeclaredField) (at span : Span) → declared_at p.classes m ≡ Some f → f.is_static ≡ true → FitsBelow q body p.heads (typed_static p (selected m f) at span)
  class-static-fits m f at span there static =
      below-by _ f.ty (static-fits no_core m f span at there static (λ texts h. fits.nothing)) (All-nil _) refl (itself q p.heads represents.heads (represents.field_types m f there))

  -- ---- by a simple name (JLS 6.5.6.1), of the class so many classes outwards

  module _ (place : Place) (stands : StandsAt p q body place) (n : ℕ) (x : NameId) (m : Member) (f : DeclaredField) (at : Span)
      (found : find_field p.heads p.classes (own_type p.heads (class_of_frame (frames place) n)) x ≡ one m) (there : declared_at p.classes m ≡ Some f) where
    abbrev on : TypedNode
    on = record { node = instance_node p place n at; type = own_type p.heads (class_of_frame (frames place) n) }

    abbrev seen : SourceType
    seen = type_seen p.heads (own_type p.heads (class_of_frame (frames place) n)) m f

    pub named-static-fits : is_some (Rattle.je_classes.specs.Hierarchy.class_at q (class_numbered (class_of_frame (frames place) n))) ≡ true → f.is_static ≡ true
        → FitsBelow q body p.heads (record { node = node (core.Static no_core m.class m.at) (erased p.heads f.ty) at at; type = seen })
    named-static-fits class-there static = below-by _ f.ty (static-fits no_core m f at at there static (λ texts h. fits.nothing)) (All-nil _) refl
        (seen-put q p.heads represents.heads represents.sound represents.top on.type m f (own-sound q p.heads represents.heads represents.sound (class_of_frame (frames place) n) class-there) (represents.field_types m f there))

    pub named-field-fits : has_instance n (frames place) ≡ true → f.is_static ≡ false → FitsBelow q body p.heads (record { node = node (core.Field (instance_node p place n at) m.class m.at) (erased p.heads f.ty) at at; type = seen })
    named-field-fits h own =
        let value = outer-value p q body place stands represents at n h in
        by f.is_static own (found-fits on x m f at at value.fits (typed value.type) found there)
      where
        typed : Rattle.fitting_laws.specs.Sound.IsType q p.heads on.type → IsSound q p.heads 255 on.type
        typed (Rattle.fitting_laws.specs.Sound.a_type s) = s

        by : (b : Bool) → b ≡ false → FitsBelow q body p.heads (record { node = node (if b then core.Static (a_core on.node) m.class m.at else core.Field on.node m.class m.at) (erased p.heads f.ty) at at; type = seen })
            → FitsBelow q body p.heads (record { node = node (core.Field on.node m.class m.at) (erased p.heads f.ty) at at; type = seen })
        by false e k = k
        by true e k = absurd cc
