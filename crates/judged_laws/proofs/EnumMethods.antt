-- No fault of overriding stands at the methods that an enum has without words of its own: of those of Object they override
-- `toString` alone.
use Rattle.std.proofs.Common.{◌≡◌, ℕ, zero, suc, ◌-◌, ◌<◌, ◌≤◌, List, [], ◌∷◌, ◌++◌, length, take, Some, refl, sym, ap, ◌∙◌, subst, arith}
use Rattle.std.specs.Prelude.{Bool, true, false, not, ◌&&◌, ◌||◌, codes, filter, if◌then◌else◌, slice_get}
use Rattle.std.specs.List.{flat_map, list_all, list_any}
use Rattle.std.specs.Str.{bytes_eq}
use Rattle.std.proofs.lemmas.Option.{none-some, same_Some}
use Rattle.je_base.specs.declared.span.Span.{Span}
use Rattle.je_classes.specs.Hierarchy.{library_class, object_class}
use Rattle.je_scopes.specs.Headers.{same_name, site_at}
use Rattle.je_scopes.specs.Source.{Source}
use Rattle.je_scopes.specs.SourceTypes.{SourceType, SourceTypes, of_class}
use Rattle.source_types.specs.Heads.{ClassHead, object_type, supers_of}
use Rattle.source_types.specs.Heads as heads_in
use Rattle.source_types.specs.Supertypes.{most_steps, supertypes, supertypes_within}
use Rattle.declarations.specs.Declarations.{DeclaredClass, DeclaredMethod, declared_class, is_enum_sort}
use Rattle.header_typing.specs.Supers.{own_type}
use Rattle.je_typing.specs.Castable.{is_interface, is_interface_in}
use Rattle.je_typing.specs.declared.fault.TypeRule.{TypeRule}
use Rattle.je_typing.specs.declared.fault.TypeRule.TheVariants.{BadOverride, SameErasure}
use Rattle.je_typing.specs.Judged.{check, gives}
use Rattle.class_heads.specs.Headers.{class_heads, head_of}
use Rattle.class_names.specs.Words.{AreNumbered, class_words, further_words, library_words, member_words}
use Rattle.library_classes.specs.Library.{rows}
use Rattle.library_declarations.specs.Library.{library_declared}
use Rattle.overriding.specs.Methods.{Method, have_one_name, is_another_class, is_subsignature, methods_above, methods_in, object_for, own, own_from, own_method, seen_in, types_above}
use Rattle.overriding.specs.Overrides.{clashes_above, good_override, have_one_erasure, is_like_one, may_override, no_clash, overridden_of, overrides_well, own_before, takes_erasure}
use Rattle.class_typing.specs.Enums.{enum_methods}
use Rattle.class_typing.specs.Enums as enums
use Rattle.je_core.specs.declared.program.Flags.{Flags}
use Rattle.je_core.specs.declared.program.Access.TheVariants as access
use Rattle.je_typing.specs.Typed.{string_type}
use Rattle.class_typing.specs.Programs.{classes, heads, library_count, number, with_enum_methods}
use Rattle.override_laws.specs.Laws.{IsGood}
use Rattle.elaborated_laws.specs.Premises.{IsEnumDeclaration}
use Rattle.elaborated_laws.proofs.Declared.{head-there, library-many}
use Rattle.elaborated_laws.proofs.Methods.{nat-itself}
use Rattle.elaborated_laws.proofs.Supers.{heads-count}
use Rattle.judged_laws.proofs.ClassDepth.{far, object-top}
use Rattle.judged_laws.proofs.Sorts.{no-interface}
use Rattle.judged_laws.proofs.Words.{names-differ, same-itself}

-- ---- one method beside those above

abbrev Each : {A : Type 0} → (A → Type 0) → List A → Type 0
Each P [] = Unit {0}
Each P (x ∷ xs) = P x × Each P xs

module _ (heads : List ClassHead) (m : Method) where
  -- it may override the other one if it does, and takes no erasure of one that it doesn't override
  record Beside (n : Method) : Type 0 where
    overrides : overrides_well heads m n ≡ true
    takes_none : (overridden : List Method) → takes_erasure heads overridden m n ≡ false

  by-names : (a b c d e : Bool) → a ≡ false → (not ((a && b) || (a && c)) || d) ≡ true
  by-names false b c d e h = refl
  by-names true b c d e h = absurd cc

  no-names : (a b c : Bool) → a ≡ false → ((a && b) && c) ≡ false
  no-names false b c h = refl
  no-names true b c h = absurd cc

  other-name : (n : Method) → have_one_name m n ≡ false → Beside n
  other-name n h = record {
    overrides = by-names (have_one_name m n) _ _ (may_override heads m n) true h;
    takes_none = λ overridden. no-names (have_one_name m n) _ _ h;
  }

  by-override : (a b : Bool) → a ≡ true → b ≡ true → (not a || b) ≡ true
  by-override true b h k = k
  by-override false b h k = refl

  no-other : (a b c : Bool) → b ≡ true → ((a && not b) && c) ≡ false
  no-other true true c h = refl
  no-other false true c h = refl
  no-other a false c h = absurd cc

  well-overridden : (n : Method) → is_subsignature heads m n ≡ true → may_override heads m n ≡ true → Beside n
  well-overridden n h k = record {
    overrides = by-override (is_subsignature heads m n) (may_override heads m n) h k;
    takes_none = λ overridden. no-other (have_one_name m n) (is_subsignature heads m n) _ h;
  }

  all-overridden : (ns : List Method) → Each Beside ns → list_all (overrides_well heads m) ns ≡ true
  all-overridden [] h = refl
  all-overridden (n ∷ ns) h = rw h.0.overrides (all-overridden ns h.1)

  none-taken : (overridden ns : List Method) → Each Beside ns → list_any (takes_erasure heads overridden m) ns ≡ false
  none-taken overridden [] h = refl
  none-taken overridden (n ∷ ns) h = rw (h.0.takes_none overridden) (none-taken overridden ns h.1)

  unlike : (n : Method) → have_one_name m n ≡ false → have_one_erasure heads m.declared n.declared ≡ false
  unlike n h = rw h refl

  none-alike : (ns : List Method) → Each (λ n. have_one_name m n ≡ false) ns → is_like_one heads ns m ≡ false
  none-alike [] h = refl
  none-alike (n ∷ ns) h = rw h.0 (none-alike ns h.1)

  holds : (rule : TypeRule) (span : Span) (b : Bool) → b ≡ true → check rule span b ≡ gives tt
  unfolding check
  holds rule span true h = refl
  holds rule span false h = absurd cc

  neither : (a b : Bool) → a ≡ false → b ≡ false → not (a || b) ≡ true
  neither false false h k = refl
  neither true b h k = absurd cc
  neither false true h k = absurd cc

  good : (classes : List DeclaredClass) → Each Beside (methods_above heads classes m.holder) →
      Each (λ n. have_one_name m n ≡ false) (own_before classes m) → IsGood heads classes m
  unfolding good_override no_clash
  good classes above before =
      let ns = methods_above heads classes m.holder in
      record {
        overrides = holds BadOverride m.declared.name.span _ (all-overridden ns above);
        clashes = holds SameErasure m.declared.name.span _
            (neither (is_like_one heads (own_before classes m) m) (clashes_above heads m ns)
            (none-alike (own_before classes m) before) (none-taken (overridden_of heads m ns) ns above));
      }

-- ---- what stands above an enum

above-one : (heads : List ClassHead) (c k : ℕ) (args : SourceTypes) → is_another_class c (of_class c args 0) ≡ false →
    is_another_class c object_type ≡ true → is_interface heads c ≡ false → supers_of heads c ≡ object_type ∷ [] →
    supers_of heads object_class.0 ≡ [] →
    filter (is_another_class c) (supertypes_within heads (suc (suc k)) (of_class c args 0)) ++ object_for (is_interface heads c)
    ≡ object_type ∷ []
above-one heads c k args own other no_interface above top =
    rw above (rw top (rw own (rw other (rw no_interface refl))))

module _ (source : Source) (c : ℕ) (le : library_count source ≤ c) (l : c < length (classes source)) (enum : is_enum_sort (site_at source.sites c).sort ≡ true)
    (written : IsEnumDeclaration (site_at source.sites c).written)
    (there : slice_get (classes source) c ≡ Some (with_enum_methods source c (declared_class source c)))
    (numbered : AreNumbered source.texts library_words) where
  abbrev declared-enum : DeclaredClass
  declared-enum = with_enum_methods source c (declared_class source c)

  is-enum : declared-enum ≡ record (declared_class source c) { methods = enum_methods (number source) c }
  unfolding declared_class
  is-enum = ap (λ b. if b then record (declared_class source c) { methods = enum_methods (number source) c } else declared_class source c) enum

  abbrev the-head : ClassHead
  the-head = head_of (classes source) c (record (declared_class source c) { methods = enum_methods (number source) c })

  head-is : heads_in.head_at (heads source) c ≡ Some the-head
  head-is = head-there source c declared-enum there ∙ ap (λ d. Some (head_of (classes source) c d)) is-enum

  supers-are : the-head.supers ≡ object_type ∷ []
  unfolding declared_class
  supers-are = rw (no-interface (site_at source.sites c).sort enum) (rw (far source c le) (rw written.is refl))

  record Steps : Type 0 where
    fewer : ℕ
    are : most_steps (heads source) ≡ suc (suc fewer)

  steps : Steps
  unfolding heads class_heads
  steps = let many : library_count source ≡ 39 = library-many source in
      let count : length (heads source) ≡ length (classes source) = heads-count (classes source) (classes source) 0 in
      record { fewer = most_steps (heads source) - 2; are = omega (arith, many, count, le, l) }

  one-above : types_above (heads source) c ≡ object_type ∷ []
  unfolding supertypes declared_class
  one-above =
      ap (λ n. filter (is_another_class c) (supertypes_within (heads source) n (own_type (heads source) c)) ++ object_for (is_interface (heads source) c)) steps.are
      ∙ above-one (heads source) c steps.fewer _ (rw (nat-itself c) refl) (rw (far source c le) refl)
      (ap is_interface_in head-is ∙ no-interface (site_at source.sites c).sort enum)
      (ap heads_in.supers_in head-is ∙ supers-are) (object-top source)

  own-methods-are : methods_in (slice_get (classes source) c) ≡ enum_methods (number source) c
  own-methods-are = ap methods_in there ∙ ap (λ (d : DeclaredClass). d.methods) is-enum

  abbrev objects : List Method
  objects = flat_map (seen_in (own (classes source))) (object_type ∷ [])

  objects-above : methods_above (heads source) (classes source) c ≡ objects
  unfolding methods_above
  objects-above = ap (flat_map (seen_in (own (classes source)))) one-above

  good-by : (at : ℕ) (d : DeclaredMethod) → Each (Beside (heads source) (own_method c at d)) objects →
      Each (λ n. have_one_name (own_method c at d) n ≡ false) (own_from c 0 (take at (enum_methods (number source) c))) →
      IsGood (heads source) (classes source) (own_method c at d)
  good-by at d above before =
      good (heads source) (own_method c at d) (classes source)
      (subst (Each (Beside (heads source) (own_method c at d))) (sym objects-above) above)
      (subst (λ ms. Each (λ n. have_one_name (own_method c at d) n ≡ false) (own_from c 0 (take at ms))) (sym own-methods-are) before)

  differ : (v w : List ℕ) → list_any (bytes_eq v) library_words ≡ true → list_any (bytes_eq w) library_words ≡ true →
      bytes_eq v w ≡ false → same_name (number source v) (number source w) ≡ false
  differ = names-differ source numbered

  -- of another name than the methods of Object
  apart : (at : ℕ) (v : List ℕ) (parameters : List SourceType) (result : SourceType) (f : Flags) → list_any (bytes_eq v) library_words ≡ true →
      bytes_eq v (codes "equals") ≡ false → bytes_eq v (codes "hashCode") ≡ false → bytes_eq v (codes "toString") ≡ false →
      Each (Beside (heads source) (own_method c at (enums.declared (number source) v false parameters result f))) objects
  unfolding classes library_declared rows object_class library_class library_words class_words member_words further_words
  apart at v parameters result f word a b d = (
    other-name (heads source) _ _ (differ v (codes "equals") word refl a),
    (
      other-name (heads source) _ _ (differ v (codes "hashCode") word refl b),
      (other-name (heads source) _ _ (differ v (codes "toString") word refl d), tt),
    ),
  )

  abbrev method : ℕ → DeclaredMethod → Method
  method at d = own_method c at d

  abbrev declared-as : List ℕ → List SourceType → SourceType → Flags → DeclaredMethod
  declared-as v = enums.declared (number source) v false

  -- `toString` overrides that of Object
  text-beside : Each (Beside (heads source) (method 2 (declared-as (codes "toString") [] string_type (enums.flags access.Public false)))) objects
  unfolding classes library_declared rows object_class library_class library_words class_words member_words further_words may_override
  text-beside = (
    other-name (heads source) _ _ (differ (codes "toString") (codes "equals") refl refl refl),
    (
      other-name (heads source) _ _ (differ (codes "toString") (codes "hashCode") refl refl refl),
      (well-overridden (heads source) _ _ (rw (same-itself (number source (codes "toString"))) refl) refl, tt),
    ),
  )

  pub enum-good : (at : ℕ) (d : DeclaredMethod) → slice_get (enum_methods (number source) c) at ≡ Some d → d.is_constructor ≡ false →
      IsGood (heads source) (classes source) (own_method c at d)
  unfolding library_words class_words member_words further_words
  enum-good zero d h plain = absurd (let no : true ≡ false = ap (λ (m : DeclaredMethod). m.is_constructor) (same_Some _ d h) ∙ plain in cc)
  enum-good (suc zero) d h plain =
      subst (λ m. IsGood (heads source) (classes source) (own_method c 1 m)) (same_Some _ d h)
      (good-by 1 _ (apart 1 (codes "name") _ _ _ refl refl refl refl) tt)
  enum-good (suc (suc zero)) d h plain =
      subst (λ m. IsGood (heads source) (classes source) (own_method c 2 m)) (same_Some _ d h)
      (good-by 2 _ text-beside (differ (codes "toString") (codes "name") refl refl refl, tt))
  enum-good (suc (suc (suc zero))) d h plain =
      subst (λ m. IsGood (heads source) (classes source) (own_method c 3 m)) (same_Some _ d h)
      (good-by 3 _ (apart 3 (codes "ordinal") _ _ _ refl refl refl refl)
      (differ (codes "ordinal") (codes "name") refl refl refl, (differ (codes "ordinal") (codes "toString") refl refl refl, tt)))
  enum-good (suc (suc (suc (suc zero)))) d h plain =
      subst (λ m. IsGood (heads source) (classes source) (own_method c 4 m)) (same_Some _ d h)
      (good-by 4 _ (apart 4 (codes "values") _ _ _ refl refl refl refl) (
        differ (codes "values") (codes "name") refl refl refl,
        (differ (codes "values") (codes "toString") refl refl refl, (differ (codes "values") (codes "ordinal") refl refl refl, tt)),
      ))
  enum-good (suc (suc (suc (suc (suc at))))) d h plain = absurd (none-some d h)
