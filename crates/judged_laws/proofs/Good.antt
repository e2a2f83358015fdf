-- No fault of overriding stands at any method of a class of the source.
use Rattle.std.proofs.Common.{◌≡◌, ℕ, ◌<◌, ◌≤◌, ◌⊎◌, inl, inr, length, Some, refl, sym, ap, ◌∙◌, subst}
use Rattle.std.specs.Prelude.{false, if◌then◌else◌, slice_get}
use Rattle.std.proofs.lemmas.Bool.{cases_lt}
use Rattle.std.proofs.lemmas.Option.{none-some, slice_get_past}
use Rattle.je_core.specs.Core.{CoreProgram}
use Rattle.je_classes.proofs.Lists.{bool_cases}
use Rattle.je_scopes.specs.Headers.{site_at}
use Rattle.je_scopes.specs.Source.{Source}
use Rattle.declarations.specs.Declarations.{DeclaredMethod, declared_class, declared_method, is_enum_sort}
use Rattle.overriding.specs.Methods.{methods_in, own_method}
use Rattle.class_typing.specs.Enums.{enum_methods}
use Rattle.class_typing.specs.Programs.{classes, heads, library_count, number, plain_program, with_enum_methods}
use Rattle.override_laws.specs.Laws.{IsGood}
use Rattle.elaborated_laws.specs.Elaborated.{IsElaborated, captured_by, program_of}
use Rattle.elaborated_laws.specs.Premises.{HasSites, HasWords}
use Rattle.elaborated_laws.proofs.Classes.{classes-count}
use Rattle.elaborated_laws.proofs.Guests.{guest-declared, within-sites}
use Rattle.elaborated_laws.proofs.Methods.{same-methods}
use Rattle.judged_laws.specs.Laws.{MethodsAreGood, signed}
use Rattle.judged_laws.proofs.EnumMethods.{enum-good}
use Rattle.judged_laws.proofs.HiddenFields.{good-kept, methods-kept}
use Rattle.judged_laws.proofs.Signed.{classes_are_judged}
use Rattle.judged_laws.proofs.WrittenMethods.{written-good}

module _ (source : Source) (program : CoreProgram) (e : IsElaborated source program) (sites : HasSites source) (words : HasWords source)
    (c : ℕ) (le : library_count source ≤ c) (l : c < length (classes source)) where
  within : c < length source.sites
  within = within-sites source c le (subst (λ n. c < n) (classes-count source) l)

  there : slice_get (classes source) c ≡ Some (with_enum_methods source c (declared_class source c))
  there = guest-declared source c le within

  good-in : (at : ℕ) (d : DeclaredMethod) → slice_get (methods_in (slice_get (classes source) c)) at ≡ Some d →
      d.is_constructor ≡ false → IsGood (heads source) (classes source) (own_method c at d)
  unfolding declared_class plain_program
  good-in at d h plain =
      let methods = same-methods source c (declared_class source c) in
      bool_cases (λ b. IsGood (heads source) (classes source) (own_method c at d)) (is_enum_sort (site_at source.sites c).sort)
      (λ yes. enum-good source c le l yes (sites.enums c yes) there words.numbered at d
      (sym (ap (λ ms. slice_get ms at)
      (ap methods_in there ∙ methods ∙ ap (λ b. if b then enum_methods (number source) c else (declared_class source c).methods) yes)) ∙ h)
      plain)
      (λ no. written-good (signed source) c (declared_method source c) (λ m. refl)
      (ap methods_in there ∙ methods ∙ ap (λ b. if b then enum_methods (number source) c else (declared_class source c).methods) no)
      (classes_are_judged source program e sites c le within) at d h plain)

pub methods_are_good : (source : Source) (program : CoreProgram) (e : IsElaborated source program) → MethodsAreGood source program e
unfolding plain_program
methods_are_good source program e sites words c le at d h plain = by (cases_lt c (length (classes source)))
  where
    kept : slice_get (methods_in (slice_get (classes source) c)) at ≡ Some d
    kept = sym (ap (λ ms. slice_get ms at) (methods-kept source (captured_by source e.first) (classes source) 0 c)) ∙ h

    by : (c < length (classes source) ⊎ length (classes source) ≤ c) →
        IsGood (program_of source e.first).heads (program_of source e.first).classes (own_method c at d)
    by (inl l) = good-kept source (captured_by source e.first) (heads source) (classes source) (own_method c at d)
        (good-in source program e sites words c le l at d kept plain)
    by (inr past) = absurd (none-some d (sym (ap (λ o. slice_get (methods_in o) at) (slice_get_past (classes source) c past)) ∙ kept))
