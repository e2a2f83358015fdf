-- No type is above itself, and the erasure of a type variable is that of its bound.
use Rattle.std.proofs.Common.{◌≡◌, ℕ, zero, suc, ◌+◌, ◌<◌, ◌≤◌, ◌⊎◌, inl, inr, List, None, length, refl, sym, ap, ◌∙◌, subst, arith}
use Rattle.std.specs.Prelude.{min, true}
use Rattle.std.proofs.lemmas.Bool.{cases_lt}
use Rattle.std.proofs.lemmas.Option.{slice_get_past}
use Rattle.je_core.specs.declared.types.Ty.{Ty}
use Rattle.je_core.specs.Core.{CoreProgram}
use Rattle.je_scopes.specs.Faults.{first_fault}
use Rattle.je_scopes.specs.Laws as scopes
use Rattle.je_scopes.specs.Source.{Source}
use Rattle.je_scopes.specs.SourceTypes.{SourceType, of_class, of_variable, plain}
use Rattle.source_types.specs.Erasure.{erased, erased_array, erased_within}
use Rattle.source_types.specs.Heads.{ClassHead, bound_of, bounds_in, head_at, object_type, or_object, variable_count}
use Rattle.source_types.specs.Laws.{IsAcyclic, is_class_or_variable}
use Rattle.typing_laws.specs.Fitting.{BoundsFit}
use Rattle.class_typing.specs.Programs.{heads, plain_program}
use Rattle.elaborated_laws.specs.Elaborated.{IsElaborated, program_of}
use Rattle.elaborated_laws.specs.Sound.{VariablesAreSound}
use Rattle.elaborated_laws.proofs.Declared.{heads-are}
use Rattle.elaborated_laws.specs.Premises.{HasSites, HeadsAreClasses}
use Rattle.judged_laws.specs.Laws.{HeadsAreAcyclic, VariablesStand}
use Rattle.judged_laws.specs.Names.{NamesAreGood}
use Rattle.judged_laws.specs.Written.{HeadersAreWritten}
use Rattle.judged_laws.proofs.HeaderTypes.{bounds-fit}
use Rattle.judged_laws.proofs.Acyclic.{before-all, heads-acyclic, left-of, own-count, variable-depth, variable-falls, variable-within}

module _ (source : Source) (program : CoreProgram) (e : IsElaborated source program) (sites : HasSites source)
    (named-classes : HeadsAreClasses source) (bounds : BoundsFit (heads source)) (free : first_fault source ≡ None)
    (graph : scopes.IsAcyclic source) where
  abbrev hs : List ClassHead
  hs = heads source

  abbrev depth : ℕ → ℕ → ℕ
  depth c at = variable-depth source program e sites named-classes bounds free graph c at

  -- so many steps lead from a type to the end of its bounds
  abbrev IsEnough : ℕ → SourceType → Type 0
  IsEnough n t = (c at : ℕ) → t ≡ of_variable c at 0 → depth c at ≤ length hs + n

  same-variable : (c at d j m n : ℕ) → of_variable c at m ≡ of_variable d j n → (c ≡ d) × (at ≡ j)
  same-variable c at d j m n h = (cc, cc)

  past-bound : (c at : ℕ) → own-count hs c ≤ at → bound_of hs c at ≡ object_type
  past-bound c at past = ap or_object (slice_get_past (bounds_in (head_at hs c)) at past)

  no-variable : (d j : ℕ) → ¬ (object_type ≡ of_variable d j 0)
  no-variable d j h = absurd cc

  -- of the bound it is one step less
  bound-enough : (n c at : ℕ) → IsEnough (suc n) (of_variable c at 0) → IsEnough n (bound_of hs c at)
  bound-enough n c at f d j h = by (cases_lt at (own-count hs c))
    where
      by : (at < own-count hs c ⊎ own-count hs c ≤ at) → depth d j ≤ length hs + n
      by (inl l) =
          let less = variable-falls source program e sites named-classes bounds free graph c at d j l h in
          omega (arith, less, f c at refl)
      by (inr past) = absurd (no-variable d j (sym (past-bound c at past) ∙ h))

  stays : (n : ℕ) (t : SourceType) → is_class_or_variable t ≡ true → IsEnough n t → erased_within hs n t ≡ erased_within hs (suc n) t
  stays n (plain b d) fits f = absurd cc
  stays n (of_class c args zero) fits f = refl
  stays n (of_class c args (suc d)) fits f = absurd cc
  stays n (of_variable c at (suc d)) fits f = absurd cc
  stays zero (of_variable c at zero) fits f = by (cases_lt at (own-count hs c))
    where
      by : (at < own-count hs c ⊎ own-count hs c ≤ at) → erased_within hs 0 (of_variable c at 0) ≡ erased_within hs 1 (of_variable c at 0)
      by (inl l) = absurd (omega (arith, left-of source program e sites named-classes bounds free graph c at l, f c at refl))
      by (inr past) = sym (ap (λ b. erased_array (erased_within hs 0 b) 0) (past-bound c at past))
  stays (suc n) (of_variable c at zero) fits f =
      ap (λ t. erased_array t 0) (stays n (bound_of hs c at) (bounds c at) (bound-enough n c at f))

  few-dims : (n : ℕ) (t : SourceType) → is_class_or_variable t ≡ true → (erased_within hs n t).dims ≤ 255
  few-dims n (plain b d) fits = absurd cc
  few-dims n (of_class c args zero) fits = omega arith
  few-dims n (of_class c args (suc d)) fits = absurd cc
  few-dims n (of_variable c at (suc d)) fits = absurd cc
  few-dims zero (of_variable c at zero) fits = omega arith
  few-dims (suc n) (of_variable c at zero) fits = omega arith

  no-array : (t : Ty) → t.dims ≤ 255 → erased_array t 0 ≡ t
  no-array t h = let same : min 255 (t.dims + 0) ≡ t.dims = omega (arith, h) in
      ap (λ (n : ℕ). let u : Ty = record { base = t.base; dims = n } in u) same

  pub variable-erased : (c at : ℕ) → erased hs (of_variable c at 0) ≡ erased hs (bound_of hs c at)
  unfolding erased
  variable-erased c at =
      stays (variable_count hs) (of_variable c at 0) refl
      (λ d j h. let deep = variable-within source program e sites named-classes bounds free graph d j in omega (arith, deep, before-all hs d))
      ∙ no-array (erased_within hs (variable_count hs) (bound_of hs c at)) (few-dims (variable_count hs) (bound_of hs c at) (bounds c at))

module _ (source : Source) (program : CoreProgram) (e : IsElaborated source program) (sites : HasSites source)
    (names : NamesAreGood source) (written : HeadersAreWritten source) (named-classes : HeadsAreClasses source) where
  bounds-are : BoundsFit (heads source)
  bounds-are = bounds-fit source sites names.faultless written

  pub acyclic : IsAcyclic (program_of source e.first).heads
  acyclic = subst IsAcyclic (sym (heads-are source e.first))
      (heads-acyclic source program e sites named-classes bounds-are names.faultless names.acyclic)

  pub variables-sound : VariablesAreSound (program_of source e.first)
  unfolding plain_program
  variables-sound = record {
    bounds = bounds-are;
    erased_alike = variable-erased source program e sites named-classes bounds-are names.faultless names.acyclic;
  }

pub heads_are_acyclic : (source : Source) (program : CoreProgram) (e : IsElaborated source program) → HeadsAreAcyclic source program e
heads_are_acyclic source program e sites names written named-classes = acyclic source program e sites names written named-classes

pub variables_stand : (source : Source) (program : CoreProgram) (e : IsElaborated source program) → VariablesStand source program e
variables_stand source program e sites names written named-classes = variables-sound source program e sites names written named-classes
