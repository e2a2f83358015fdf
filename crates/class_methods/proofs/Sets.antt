-- The types above a class, and the methods there, as sets.
use Rattle.std.proofs.Common.{◌≡◌, ℕ, List, ◌++◌, refl, sym, ap, ◌∙◌}
use Rattle.std.specs.Prelude.{Bool, ◌&&◌, ◌||◌, filter}
use Rattle.std.specs.List.{flat_map, list_any}
use Rattle.std.proofs.lemmas.List.Folds.{list_any-append}
use Rattle.je_scopes.specs.SourceTypes.{SourceType}
use Rattle.je_typing.specs.Castable.{is_interface}
use Rattle.declarations.specs.Declarations.{DeclaredClass}
use Rattle.header_typing.specs.Supers.{own_type}
use Rattle.header_steps.proofs.Sets.{same_test}
use Rattle.source_types.specs.Heads.{ClassHead}
use Rattle.source_types.specs.Supertypes.{supertypes}
use Rattle.source_subtypes.specs.Above.{HasTypesAbove}
use Rattle.overriding.specs.Methods.{Method, is_another_class, methods_above, object_for, own, seen_in, types_above}
use Rattle.class_methods.specs.Above.{HasSame}
use Rattle.class_methods.proofs.Lists.{any-filter, any-flat}

-- a test of the types of other classes
abbrev of_others : ℕ → (SourceType → Bool) → SourceType → Bool
of_others c test t = is_another_class c t && test t

-- of the types above a class
abbrev others_above : List ClassHead → ℕ → List SourceType
others_above heads c = filter (is_another_class c) (supertypes heads (own_type heads c))

pub all_types : (heads : List ClassHead) (c : ℕ) (t : SourceType) (above types : List SourceType) → t ≡ own_type heads c → HasTypesAbove heads t above →
    types ≡ filter (is_another_class c) above ++ object_for (is_interface heads c) → HasSame types (types_above heads c)
all_types heads c t above types e h f = record {
  each = λ (test : SourceType → Bool).
      ap (list_any test) f
      ∙ list_any-append test (filter (is_another_class c) above) (object_for (is_interface heads c))
      ∙ ap (λ (b : Bool). b || list_any test (object_for (is_interface heads c)))
      (any-filter test (is_another_class c) above
      ∙ same_test (of_others c test) above (supertypes heads t) h.each
      ∙ ap (λ (u : SourceType). list_any (of_others c test) (supertypes heads u)) e
      ∙ sym (any-filter test (is_another_class c) (supertypes heads (own_type heads c))))
      ∙ sym (list_any-append test (others_above heads c) (object_for (is_interface heads c)));
}

pub all_methods : (heads : List ClassHead) (classes : List DeclaredClass) (c : ℕ) (types : List SourceType) (methods : List Method) → HasSame types (types_above heads c) →
    methods ≡ flat_map (seen_in (own classes)) types → HasSame methods (methods_above heads classes c)
unfolding methods_above
all_methods heads classes c types methods h e = record {
  each = λ (test : Method → Bool). ap (list_any test) e ∙ any-flat test (seen_in (own classes)) types
      ∙ h.each (λ (t : SourceType). list_any test (seen_in (own classes) t)) ∙ sym (any-flat test (seen_in (own classes)) (types_above heads c));
}

pub same_among_types : (test : SourceType → Bool) (heads : List ClassHead) (t : SourceType) (types : List SourceType) (b : Bool) → HasTypesAbove heads t types →
    b ≡ list_any test types → b ≡ list_any test (supertypes heads t)
same_among_types test heads t types b h e = e ∙ same_test test types (supertypes heads t) h.each
