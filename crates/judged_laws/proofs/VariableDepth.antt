-- Of the bounds that lead from a type variable to another one of its class there are fewer at each step.
use Rattle.std.proofs.Common.{◌≡◌, ℕ, zero, suc, ◌+◌, ◌<◌, ◌⊎◌, inl, inr, List, [], ◌∷◌, ◌++◌, length, Option, Some, None, refl, sym, ap, subst, arith}
use Rattle.std.specs.Prelude.{Bool, true, false, ◌||◌, nat_eq, slice_get}
use Rattle.std.specs.List.{Contains}
use Rattle.std.proofs.lemmas.Bool.Decides.{nat_tests}
use Rattle.std.proofs.lemmas.Option.{none-some, slice_get_within}
use Rattle.je_ast.specs.Types.{TypeParameter}
use Rattle.je_classes.proofs.Counts.{counted, counted-lt, counted-within}
use Rattle.je_classes.proofs.Lists.{bool_cases, contains-cases, contains-here}
use Rattle.je_classes.proofs.Ways.{Way, here, longer, reached}
use Rattle.je_scopes.specs.Faults.{Fault, below, comes_by, cycle, cycle_in_bound, faults, first_fault, guests, name_span, next_variable, of_class, of_class_name, of_fields, of_heads, of_imports, of_methods, of_optional_type, of_parameter, of_parameters, of_parameters_from, twice, where_so}
use Rattle.je_scopes.specs.Faults as faults_of
use Rattle.je_scopes.specs.Headers.{is_guest, parameters_in, site_at}
use Rattle.je_scopes.specs.Scope.{header}
use Rattle.je_scopes.specs.Source.{Source}
use Rattle.je_scopes.proofs.Either.{nothing-in}
use Rattle.je_scopes.proofs.First.{none_is_fault_free}
use Rattle.judged_laws.proofs.Faults.{in-parameters, parameter-faults}
use Rattle.je_scopes.proofs.Lists.{in-right}

itself : ℕ → ℕ
itself n = n

same-place : (m n : ℕ) → itself m ≡ itself n → m ≡ n
unfolding itself
same-place m n e = e

there-if : (test : Bool) (f : Fault) → test ≡ true → Contains (where_so test f) f
there-if true f e = contains-here f []
there-if false f e = absurd cc

module _ (p : Source) (c : ℕ) where
  abbrev pub all-parameters : List TypeParameter
  all-parameters = parameters_in (site_at p.sites c).written

  abbrev pub count : ℕ
  count = length all-parameters

  next : ℕ → Option ℕ
  next at = next_variable p c at

  listed : Option ℕ → List ℕ
  listed None = []
  listed (Some k) = k ∷ []

  edges : ℕ → List ℕ
  edges at = listed (next at)

  edge : (at k : ℕ) → next_variable p c at ≡ Some k → Contains (edges at) k
  unfolding edges next listed
  edge at k e = subst (λ o. Contains (listed o) k) (sym e) (contains-here k [])

  only-edge : (o : Option ℕ) (k : ℕ) → Contains (listed o) k → o ≡ Some k
  unfolding listed
  only-edge None k q = absurd (nothing-in k q)
  only-edge (Some j) k q = by (contains-cases j k [] q)
    where
      by : (j ≡ k) ⊎ Contains [] k → Some j ≡ Some k
      by (inl e) = ap Some e
      by (inr r) = absurd (nothing-in k r)

  is-edge : (at k : ℕ) → Contains (edges at) k → next_variable p c at ≡ Some k
  unfolding edges next
  is-edge at k q = only-edge (next_variable p c at) k q

  bound-there : (at k : ℕ) → next_variable p c at ≡ Some k → at < count
  bound-there at k e = by (slice_get all-parameters at) refl e
    where
      by : (o : Option TypeParameter) → slice_get all-parameters at ≡ o →
          faults_of.variable_of_bound p c (faults_of.bound_of o) ≡ Some k → at < count
      by None q h = absurd (none-some k h)
      by (Some x) q h = slice_get_within all-parameters at x q

  -- whether bounds lead from a variable, or itself, to another one
  reach : ℕ → ℕ → ℕ → Bool
  reach n k at = comes_by p c n (Some k) at

  reach-itself : (n k : ℕ) → reach n k k ≡ true
  unfolding reach
  reach-itself zero k = grind (arith, nat_tests)
  reach-itself (suc n) k = let same : nat_eq k k ≡ true = grind (arith, nat_tests) in rw same refl

  or-right : (x y : Bool) → y ≡ true → (x || y) ≡ true
  or-right true y e = refl
  or-right false y e = e

  reach-further : (n k e at : ℕ) → Contains (edges k) e → reach n e at ≡ true → reach (suc n) k at ≡ true
  unfolding reach
  reach-further n k e at q h =
      or-right (nat_eq k at) _ (subst (λ o. comes_by p c n o at ≡ true) (sym (is-edge k e q)) h)

  abbrev Leads : ℕ → ℕ → Type 0
  Leads k at = Way edges itself same-place k at

  complete : (k at : ℕ) → Leads k at → comes_by p c count (Some k) at ≡ true
  unfolding reach itself
  complete k at w = reached edges itself same-place count (λ a b q. bound-there a b (is-edge a b q)) reach reach-itself reach-further k at w

  sound : (n k at : ℕ) → comes_by p c n (Some k) at ≡ true → Leads k at
  sound zero k at e = let same : k ≡ at = grind (arith, nat_tests) in subst (λ j. Leads k j) same (here edges itself same-place k)
  sound (suc n) k at e =
      bool_cases (λ b. nat_eq k at ≡ b → (b || comes_by p c n (next_variable p c k) at) ≡ true → Leads k at) (nat_eq k at)
      (λ _ h _. let same : k ≡ at = grind (arith, nat_tests) in subst (λ j. Leads k j) same (here edges itself same-place k))
      (λ _ h g. by (next_variable p c k) refl g (λ j. sound n j at)) refl e
    where
      by : (o : Option ℕ) → next_variable p c k ≡ o → comes_by p c n o at ≡ true →
          ((j : ℕ) → comes_by p c n (Some j) at ≡ true → Leads j at) → Leads k at
      by None q h f = absurd cc
      by (Some j) q h f = longer edges itself same-place k j at (edge k j q) (f j h)

  -- ---- how many variables the bound of one leads to

  abbrev pub leads : ℕ → ℕ → Bool
  leads at k = comes_by p c count (next_variable p c at) k

  abbrev pub led-to : ℕ → ℕ
  led-to at = counted (leads at) count

  -- what the bound of a variable leads to
  onwards : (at j k : ℕ) → next_variable p c at ≡ Some j → leads j k ≡ true → leads at k ≡ true
  onwards at j k e h =
      subst (λ o. comes_by p c count o k ≡ true) (sym e) (complete j k (by (next_variable p c j) refl h))
    where
      by : (o : Option ℕ) → next_variable p c j ≡ o → comes_by p c count o k ≡ true → Leads j k
      by None q g = absurd cc
      by (Some i) q g = longer edges itself same-place j i k (edge j i q) (sound count i k g)

  module _ (free : first_fault p ≡ None) (guest : is_guest (site_at p.sites c).written ≡ true) (within : c < length p.sites) where
    never-back : (at : ℕ) (q : TypeParameter) → slice_get all-parameters at ≡ Some q → (t : _) → q.bound ≡ Some t → leads at at ≡ true → ⊥
    never-back at q there t bound h =
        let f = cycle (name_span t) in
        none_is_fault_free p free f
        (parameter-faults p c within guest f
        (in-parameters p c all-parameters all-parameters 0 at q f there
        (subst (λ n. Contains (of_parameter p c all-parameters n q) f) start
        (in-right (where_so _ (twice q.name.span) ++ of_optional_type p c header q.bound) (cycle_in_bound (leads at at) q.bound) f
        (subst (λ o. Contains (cycle_in_bound (leads at at) o) f) (sym bound) (there-if (leads at at) f h))))))
      where
        start : at ≡ 0 + at
        start = omega arith

    pub no-way-back : (at : ℕ) → leads at at ≡ false
    no-way-back at =
        bool_cases (λ b. b ≡ false) (leads at at) (λ h. absurd (by (slice_get all-parameters at) refl h)) (λ h. refl)
      where
        by-bound : (q : TypeParameter) → slice_get all-parameters at ≡ Some q → (o : _) → q.bound ≡ o →
            comes_by p c count (faults_of.variable_of_bound p c o) at ≡ true → leads at at ≡ true → ⊥
        by-bound q there None e h k = absurd cc
        by-bound q there (Some t) e h k = never-back at q there t e k

        by : (o : Option TypeParameter) → slice_get all-parameters at ≡ o → leads at at ≡ true → ⊥
        by None e h = let no : comes_by p c count None at ≡ true =
            subst (λ o. comes_by p c count (faults_of.variable_of_bound p c (faults_of.bound_of o)) at ≡ true) e h in absurd cc
        by (Some q) e h = by-bound q e q.bound refl
            (subst (λ o. comes_by p c count (faults_of.variable_of_bound p c (faults_of.bound_of o)) at ≡ true) e h) h

    pub fewer : (at j : ℕ) → next_variable p c at ≡ Some j → j < count → led-to j < led-to at
    fewer at j e l =
        counted-lt (leads j) (leads at) count (λ k _ h. onwards at j k e h) j l (no-way-back j)
        (subst (λ o. comes_by p c count o j ≡ true) (sym e) (complete j j (here edges itself same-place j)))

    pub some-left : (at : ℕ) → at < count → led-to at < count
    some-left at l = counted-within (leads at) count at l (no-way-back at)
