-- No fault stands at what a class inherits, with hidden fields as without.
use Rattle.std.proofs.Common.{◌≡◌, ℕ, zero, suc, List, [], ◌∷◌, ◌++◌, filter, length, map, refl, ap, ◌∙◌}
use Rattle.std.specs.Prelude.{Bool, not, ◌&&◌, ◌||◌, slice_get}
use Rattle.std.specs.List.{list_any}
use Rattle.je_base.specs.declared.span.Span.{Span}
use Rattle.je_core.specs.Core.{CoreProgram}
use Rattle.je_scopes.specs.Headers.{site_at, span_in}
use Rattle.je_scopes.specs.Source.{Source}
use Rattle.source_types.specs.Heads.{ClassHead}
use Rattle.declarations.specs.Declarations.{DeclaredClass}
use Rattle.je_typing.specs.Castable.{is_interface}
use Rattle.je_typing.specs.Judged.{check, gives}
use Rattle.je_typing.specs.declared.fault.TypeRule.TheVariants.{BadOverride, NotAbstract, SameErasure}
use Rattle.overriding.specs.Methods.{Method, abstract_in, has_within, inherited, inherited_from, is_overridden, is_same, is_subsignature, joined_over, methods_above, own, own_method, seen_in}
use Rattle.overriding.specs.Overrides.{all_implemented, are_alike, are_implemented, good_implementations, implement_well, implements, is_abstract_class, may_clash, no_inherited_clash, overridden_of, takes_erasure}
use Rattle.class_typing.specs.Programs.{CapturedLocal, classes, heads, plain_program, with_hidden}
use Rattle.override_laws.specs.Inherited.{InheritsWell}
use Rattle.elaborated_laws.specs.Elaborated.{IsElaborated, captured_by}
use Rattle.elaborated_laws.proofs.Came.{came}
use Rattle.judged_laws.specs.Laws.{ClassesInheritWell}
use Rattle.judged_laws.proofs.HiddenFields.{above-kept, own-kept}
use Rattle.judged_laws.proofs.Signed.{classes_are_judged}

-- ---- what is asked of inherited methods, by those that classes declare and that stand above them

module _ (hs : List ClassHead) where
  abbrev inherited-by : (ℕ → List Method) → (ℕ → List Method) → ℕ → List Method
  inherited-by mine f c =
      map (abstract_in (is_interface hs c)) (filter (λ m. not (is_overridden hs (mine c) m)) (joined_over (seen_in f) [] (inherited_from hs c)))

  module _ (above : ℕ → List Method) where
    abbrev overrides-by : Method → Method → Bool
    overrides-by m n = list_any (λ k. is_same k n && is_subsignature hs (own_method m.holder m.place m.declared) k) (above m.holder)

    abbrev override-by : Method → Method → Bool
    override-by m n = overrides-by m n || implements m n

    abbrev clash-by : Method → Method → Bool
    clash-by m n = may_clash hs m n && not (override-by m n || override-by n m) && not (are_alike hs m n)

    abbrev overridden-by : Method → List Method
    overridden-by m = overridden_of hs (own_method m.holder m.place m.declared) (above m.holder)

    abbrev clash-above : Method → Method → Bool
    clash-above m n = takes_erasure hs (overridden-by m) m n && not (overrides-by m n || overrides-by n m)

    abbrev no-clash : ℕ → List Method → Bool
    no-clash c ms = not (list_any (λ m. list_any (clash-by m) ms) ms || list_any (λ m. list_any (clash-above m) (above c)) ms)

module _ (source : Source) (captured : ℕ → List CapturedLocal) (hs : List ClassHead) (ds : List DeclaredClass) where
  abbrev all : List DeclaredClass
  all = with_hidden source captured 0 ds

  count-kept : (ds : List DeclaredClass) (at : ℕ) → length (with_hidden source captured at ds) ≡ length ds
  count-kept [] at = refl
  count-kept (d ∷ ds) at = ap suc (count-kept ds (suc at))

  abstract-kept : (ds : List DeclaredClass) (at c : ℕ) →
      is_abstract_class (slice_get (with_hidden source captured at ds) c) ≡ is_abstract_class (slice_get ds c)
  abstract-kept [] at c = refl
  abstract-kept (d ∷ ds) at zero = refl
  abstract-kept (d ∷ ds) at (suc c) = abstract-kept ds (suc at) c

  has-kept : (n : ℕ) → has_within hs all n ≡ has_within hs ds n
  has-kept zero = refl
  has-kept (suc n) = λ i c. own-kept source captured hs ds i c ++ inherited-by hs (own-kept source captured hs ds i) (has-kept n i) c

  inherited-kept : (c : ℕ) → inherited hs all c ≡ inherited hs ds c
  unfolding inherited
  inherited-kept c =
      ap (λ n. inherited-by hs (own all) (has_within hs all n) c) (count-kept ds 0)
      ∙ (λ i. inherited-by hs (own-kept source captured hs ds i) (has-kept (length ds) i) c)

  all-above : methods_above hs all ≡ methods_above hs ds
  all-above = λ i c. above-kept source captured hs ds c i

  inherits-kept : (c : ℕ) (span : Span) → good_implementations hs ds c span ≡ gives tt → no_inherited_clash hs ds c span ≡ gives tt →
      InheritsWell hs all c
  unfolding good_implementations no_inherited_clash
  inherits-kept c span good none = record {
    span = span;
    implementations = ap (λ ms. check BadOverride span (implement_well hs ms)) (inherited-kept c) ∙ good;
    clashes = (λ i. check SameErasure span (no-clash hs (all-above i) c (inherited-kept c i))) ∙ none;
  }

  implemented-kept : (c : ℕ) (span : Span) → all_implemented hs ds c span ≡ gives tt → all_implemented hs all c span ≡ gives tt
  unfolding all_implemented
  implemented-kept c span h =
      (λ i. check NotAbstract span (abstract-kept ds 0 c i || are_implemented (own-kept source captured hs ds i c ++ inherited-kept c i))) ∙ h

pub classes_inherit_well : (source : Source) (program : CoreProgram) (e : IsElaborated source program) → ClassesInheritWell source program e
unfolding plain_program
classes_inherit_well source program e sites c le l =
    let judged = classes_are_judged source program e sites c le l in
    let placed = came _ _ tt judged.whole in
    let implemented = came _ _ tt placed.rest in
    let good = came _ _ tt implemented.rest in
    let clashes = came _ _ tt good.rest in
    let span = span_in (site_at source.sites c).written in
    record {
      inherits = inherits-kept source (captured_by source e.first) (heads source) (classes source) c span good.is clashes.is;
      span = span;
      implemented = implemented-kept source (captured_by source e.first) (heads source) (classes source) c span implemented.is;
    }
