-- What the classes of a source declare, behind those of the library.
use Rattle.std.proofs.Common.{◌≡◌, ℕ, zero, suc, ◌+◌, ◌-◌, ◌<◌, ◌≤◌, ◌⊎◌, inl, inr, List, [], ◌∷◌, ◌++◌, length, Some, refl, sym, ap, ◌∙◌, subst, arith}
use Rattle.std.specs.Prelude.{drop, option_map, slice_get}
use Rattle.std.proofs.lemmas.Bool.{cases_lt}
use Rattle.std.proofs.lemmas.Option.{slice_get-map}
use Rattle.je_scopes.specs.Faults.{below}
use Rattle.je_scopes.specs.Source.{Source}
use Rattle.name_walk.proofs.Standing.{slice_get-append, slice_get-seam}
use Rattle.declarations.specs.Declarations.{DeclaredClass, declared_class}
use Rattle.je_names.specs.Scopes.{declared_classes}
use Rattle.library_declarations.specs.Library.{library_declared}
use Rattle.class_typing.specs.Elaboration.{guest_count}
use Rattle.class_typing.specs.Programs.{all_with_methods, classes, library_count, number, with_enum_methods}
use Rattle.elaborated_laws.proofs.Classes.{below-count}
use Rattle.elaborated_laws.proofs.Lists.{dropped, later}

below-get : (n k : ℕ) → k < n → slice_get (below n) k ≡ Some k
below-get zero k l = absurd (omega (arith, l))
below-get (suc n) k l = by (cases_lt k n) (below-get n k)
  where
    by : (k < n ⊎ n ≤ k) → (k < n → slice_get (below n) k ≡ Some k) → slice_get (below n ++ n ∷ []) k ≡ Some k
    by (inl m) f = slice_get-append (below n) (n ∷ []) k (subst (λ j. k < j) (sym (below-count n)) m) ∙ f m
    by (inr m) f =
        let e : k ≡ n = omega (arith, l, m) in
        ap (slice_get (below n ++ n ∷ [])) (e ∙ sym (below-count n)) ∙ slice_get-seam (below n) n [] ∙ ap Some (sym e)

methods-get : (source : Source) (ds : List DeclaredClass) (at k : ℕ) →
    slice_get (all_with_methods source at ds) k ≡ option_map (with_enum_methods source (at + k)) (slice_get ds k)
methods-get source [] at k = refl
methods-get source (d ∷ ds) at zero =
    let here : at ≡ at + 0 = omega arith in ap (λ n. Some (with_enum_methods source n d)) here
methods-get source (d ∷ ds) at (suc k) =
    let there : suc at + k ≡ at + suc k = omega arith in
    methods-get source ds (suc at) k ∙ ap (λ n. option_map (with_enum_methods source n) (slice_get ds k)) there

declared-at : (source : Source) (c : ℕ) → c < length source.sites → slice_get (declared_classes source) c ≡ Some (declared_class source c)
unfolding declared_classes
declared-at source c l =
    slice_get-map (declared_class source) (below (length source.sites)) c
    ∙ ap (option_map (declared_class source)) (below-get (length source.sites) c l)

-- a class of the source is declared where it is written, an enum with the methods that no source writes
pub guest-declared : (source : Source) (c : ℕ) → library_count source ≤ c → c < length source.sites →
    slice_get (classes source) c ≡ Some (with_enum_methods source c (declared_class source c))
unfolding classes
guest-declared source c le l =
    let n = library_count source in
    let rest = drop n (declared_classes source) in
    let place : n + (c - n) ≡ c = omega (arith, le) in
    later (library_declared (number source)) (all_with_methods source n rest) c le
    ∙ methods-get source rest n (c - n)
    ∙ ap (λ k. option_map (with_enum_methods source k) (slice_get rest (c - n))) place
    ∙ ap (option_map (with_enum_methods source c))
    (dropped n (declared_classes source) (c - n) ∙ ap (slice_get (declared_classes source)) place ∙ declared-at source c l)

-- it stands within what is written
pub within-sites : (source : Source) (c : ℕ) → library_count source ≤ c → c < library_count source + guest_count source →
    c < length source.sites
within-sites source c le l = omega (arith, le, l)
