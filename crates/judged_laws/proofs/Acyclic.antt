-- No class and no type variable is above itself, where no name has a fault.
use Rattle.std.proofs.Common.{◌≡◌, ℕ, zero, suc, ◌+◌, ◌<◌, ◌≤◌, ◌⊎◌, inl, inr, List, [], ◌∷◌, length, Option, Some, None, map, refl, sym, ap, ◌∙◌, subst, arith}
use Rattle.std.specs.Prelude.{Bool, true, false, if◌then◌else◌, nat_eq, nat_lt, option_map, slice_get}
use Rattle.std.specs.List.{Contains}
use Rattle.std.proofs.lemmas.Bool.{cases_lt}
use Rattle.std.proofs.lemmas.Bool.Decides.{nat_tests}
use Rattle.std.proofs.lemmas.Grind.{common_steps}
use Rattle.std.proofs.lemmas.List.{length-map}
use Rattle.std.proofs.lemmas.Option.{slice_get-map, slice_get_past}
use Rattle.je_core.specs.Core.{CoreProgram}
use Rattle.je_ast.specs.Types.{TypeName, TypeParameter, class_type, primitive}
use Rattle.je_classes.specs.Hierarchy.{object_class}
use Rattle.je_classes.specs.Members.{In}
use Rattle.je_classes.proofs.Counts.{counted}
use Rattle.je_classes.proofs.Lists.{contains-cases}
use Rattle.je_scopes.specs.Faults.{first_fault, next_variable}
use Rattle.je_scopes.specs.Faults as faults_of
use Rattle.je_scopes.specs.Headers.{is_guest, parameters_in, site_at}
use Rattle.je_scopes.specs.Laws as scopes
use Rattle.je_scopes.specs.Looks.{Look, a_class, a_variable, nothing, unclear, waits}
use Rattle.je_scopes.specs.Scope.{header, meaning}
use Rattle.je_scopes.specs.Settled.{settled}
use Rattle.je_scopes.specs.Sites.{Written, behind_new, in_library}
use Rattle.je_scopes.specs.Sites as written_as
use Rattle.je_scopes.specs.Source.{Source}
use Rattle.je_scopes.specs.SourceTypes.{SourceType, SourceTypes, arity_of, count, no_source_types, null_type, of_class, of_variable, plain, type_for, types_named}
use Rattle.source_types.specs.Heads.{ClassHead, bound_count, bound_of, bounds_in, head_at, object_type, or_object, supers_of, variable_count}
use Rattle.source_types.specs.Laws.{IsAcyclic, is_class_or_variable}
use Rattle.source_types.specs.Substitution.{all_substituted, substituted}
use Rattle.source_types.specs.Supertypes.{directly_above, most_steps}
use Rattle.name_types.specs.View.{in_limit}
use Rattle.declarations.specs.Declarations.{DeclaredClass, declared_class, declared_parameter, type_at}
use Rattle.class_heads.specs.Headers.{head_of}
use Rattle.class_heads.specs.Headers as class_head
use Rattle.library_declarations.specs.Library.{class_declared, parameters_declared}
use Rattle.typing_laws.specs.Fitting.{BoundsFit}
use Rattle.typing_laws.proofs.Subtypes.{contains-none, from-map}
use Rattle.class_typing.specs.Programs.{classes, heads, library_count, number, with_enum_methods}
use Rattle.elaborated_laws.specs.Elaborated.{IsElaborated}
use Rattle.elaborated_laws.specs.Premises.{HasSites, HeadsAreClasses}
use Rattle.elaborated_laws.proofs.Classes.{classes-count}
use Rattle.elaborated_laws.proofs.Declared.{head-there, in-library, library-many}
use Rattle.elaborated_laws.proofs.Guests.{guest-declared, within-sites}
use Rattle.judged_laws.proofs.ClassDepth.{above-named, as-many-heads, class-depth, class-falls, class-within, object-lowest, object-top}
use Rattle.judged_laws.proofs.VariableDepth.{fewer, led-to, some-left}
use Rattle.judged_laws.proofs.VariableDepth as variables
use Rattle.judged_laws.proofs.VariableScopes.{of-meaning}

-- ---- how many variables the classes before one have

pub before : List ClassHead → ℕ → ℕ
before [] c = 0
before (h ∷ hs) zero = 0
before (h ∷ hs) (suc c) = bound_count h + before hs c

abbrev pub own-count : List ClassHead → ℕ → ℕ
own-count hs c = length (bounds_in (head_at hs c))

before-less : (hs : List ClassHead) (d c : ℕ) → d < c → before hs d + own-count hs d ≤ before hs c
unfolding before
before-less [] d c l = omega arith
before-less (h ∷ hs) d zero l = absurd (omega (arith, l))
before-less (h ∷ hs) zero (suc c) l = omega arith
before-less (h ∷ hs) (suc d) (suc c) l = omega (arith, before-less hs d c (omega (arith, l)))

pub before-all : (hs : List ClassHead) (c : ℕ) → before hs c + own-count hs c ≤ variable_count hs
unfolding before
before-all [] c = omega arith
before-all (h ∷ hs) zero = grind (arith, common_steps)
before-all (h ∷ hs) (suc c) = let more : before hs c + own-count hs c ≤ variable_count hs = before-all hs c in grind (arith, common_steps, more)

-- ---- what the bound of a variable means

parameters-kept : (b : Bool) (d : DeclaredClass) (ms : _) → (if b then record d { methods = ms } else d).parameters ≡ d.parameters
parameters-kept true d ms = refl
parameters-kept false d ms = refl

variable-same : (c d i j m n : ℕ) → of_variable c i m ≡ of_variable d j n → (c ≡ d) × (i ≡ j)
variable-same c d i j m n e = (cc, cc)

no-variable : (t : SourceType) (d j : ℕ) → t ≡ object_type → t ≡ of_variable d j 0 → ⊥
no-variable t d j e h = let no : object_type ≡ of_variable d j 0 = sym e ∙ h in absurd cc

module _ (source : Source) (c : ℕ) where
  variable-meant : (look : Look) (k : ℕ) (ts : SourceTypes) (n d j : ℕ) →
      in_limit (type_for source look k ts n) ≡ of_variable d j 0 → look ≡ a_variable d j
  variable-meant waits k ts n d j e = absurd cc
  variable-meant nothing k ts n d j e = absurd cc
  variable-meant unclear k ts n d j e = absurd cc
  variable-meant (a_class b) k ts n d j e = by (nat_eq k (arity_of source b)) e
    where
      by : (x : Bool) → in_limit (if x then of_class b ts n else null_type n) ≡ of_variable d j 0 → a_class b ≡ a_variable d j
      by true h = absurd cc
      by false h = absurd cc
  variable-meant (a_variable b i) k ts n d j e =
      let same = variable-same b d i j _ 0 e in ap (λ x. a_variable x i) same.0 ∙ ap (a_variable d) same.1

  abbrev IsRound : ℕ → Type 0
  IsRound d = (d ≡ c) ⊎ In (site_at source.sites c).spot.round d

  -- a variable that is the bound of another one
  record Leads (at d j : ℕ) : Type 0 where
    round : IsRound d
    next : d ≡ c → next_variable source c at ≡ Some j

  record Bound (d j : ℕ) (t : TypeName) : Type 0 where
    round : IsRound d
    next : d ≡ c → faults_of.variable_of_bound source c (Some t) ≡ Some j

  bound-means : (t : TypeName) (d j : ℕ) → type_at source c header t ≡ of_variable d j 0 → Bound d j t
  bound-means (primitive word dims span) d j e = absurd cc
  bound-means (class_type q ts dims span) d j e =
      let look = meaning source (settled source) c header q.parts in
      let is = variable-meant look (count ts) (types_named source (settled source) c header ts) dims d j e in
      record {
        round = of-meaning IsRound source (settled source) c header q.parts (inl refl) (λ k i. inr i) d j is;
        next = λ same. let it : nat_eq c c ≡ true = grind (arith, nat_tests) in
            ap (λ l. faults_of.variable_in c (type_for source l (count ts) (types_named source (settled source) c header ts) dims)) is
            ∙ ap (λ k. faults_of.variable_in c (of_variable k j dims)) same ∙ ap (λ b. if b then Some j else None) it;
      }

-- ---- the bounds of a class of the source

module _ (source : Source) (c : ℕ) (le : library_count source ≤ c) (l : c < length (classes source)) where
  abbrev all : List TypeParameter
  all = parameters_in (site_at source.sites c).written

  pub within : c < length source.sites
  within = within-sites source c le (subst (λ n. c < n) (classes-count source) l)

  bounds-are : bounds_in (head_at (heads source) c) ≡ map class_head.bound_of (map (declared_parameter source c) all)
  unfolding declared_class
  bounds-are =
      let own = with_enum_methods source c (declared_class source c) in
      ap bounds_in (head-there source c own (guest-declared source c le within))
      ∙ ap (map class_head.bound_of) (parameters-kept _ (declared_class source c) _)

  many-bounds : own-count (heads source) c ≡ length all
  many-bounds = ap length bounds-are ∙ length-map (map (declared_parameter source c) all) class_head.bound_of
      ∙ length-map all (declared_parameter source c)

  abbrev pub bound-by : Option TypeParameter → Option SourceType
  bound-by o = option_map class_head.bound_of (option_map (declared_parameter source c) o)

  pub bound-is : (at : ℕ) → slice_get (bounds_in (head_at (heads source) c)) at ≡ bound-by (slice_get all at)
  bound-is at = ap (λ bs. slice_get bs at) bounds-are ∙ slice_get-map class_head.bound_of (map (declared_parameter source c) all) at
      ∙ ap (option_map class_head.bound_of) (slice_get-map (declared_parameter source c) all at)

  bound-leads : (at d j : ℕ) → bound_of (heads source) c at ≡ of_variable d j 0 → Leads source c at d j
  bound-leads at d j e = by (slice_get all at) refl (sym (ap or_object (bound-is at)) ∙ e)
    where
      by-bound : (q : TypeParameter) (o : Option TypeName) → slice_get all at ≡ Some q → q.bound ≡ o →
          or_object (option_map (type_at source c header) o) ≡ of_variable d j 0 → Leads source c at d j
      by-bound q None here is h = absurd (no-variable object_type d j refl h)
      by-bound q (Some t) here is h =
          let b = bound-means source c t d j h in
          record {
            round = b.round;
            next = λ same. ap (λ o. faults_of.variable_of_bound source c (faults_of.bound_of o)) here
                ∙ ap (faults_of.variable_of_bound source c) is ∙ b.next same;
          }

      by : (o : Option TypeParameter) → slice_get all at ≡ o → or_object (bound-by o) ≡ of_variable d j 0 → Leads source c at d j
      by None here h = absurd (no-variable object_type d j refl h)
      by (Some q) here h = by-bound q q.bound here refl h

-- ---- depths

module _ (source : Source) (program : CoreProgram) (e : IsElaborated source program) (sites : HasSites source)
    (named-classes : HeadsAreClasses source) (bounds : BoundsFit (heads source)) (free : first_fault source ≡ None)
    (graph : scopes.IsAcyclic source) where
  abbrev all-heads : List ClassHead
  all-heads = heads source

  abbrev of-the-class : ℕ → ℕ
  of-the-class c = class-depth source program e named-classes graph c

  steps-left : ℕ → ℕ → Bool → ℕ
  steps-left c at true = suc (led-to source c at)
  steps-left c at false = 0

  pub variable-depth : ℕ → ℕ → ℕ
  variable-depth c at = length all-heads + before all-heads c + steps-left c at (nat_lt at (own-count all-heads c))

  depth : SourceType → ℕ
  depth (plain b n) = 0
  depth (of_class c args n) = of-the-class c
  depth (of_variable c at n) = variable-depth c at

  pub left-of : (c at : ℕ) → at < own-count all-heads c →
      variable-depth c at ≡ length all-heads + before all-heads c + suc (led-to source c at)
  unfolding variable-depth steps-left
  left-of c at l = let here : nat_lt at (own-count all-heads c) ≡ true = grind (arith, nat_tests) in rw here refl

  pub none-left : (c at : ℕ) → own-count all-heads c ≤ at → variable-depth c at ≡ length all-heads + before all-heads c + 0
  unfolding variable-depth steps-left
  none-left c at le = let past : nat_lt at (own-count all-heads c) ≡ false = grind (arith, nat_tests) in rw past refl

  no-parameters : (w : Written) → is_guest w ≡ false → parameters_in w ≡ []
  no-parameters in_library h = refl
  no-parameters (written_as.declared d) h = absurd cc
  no-parameters (behind_new word t body) h = absurd cc

  in-heads : (c : ℕ) → c < length all-heads → c < length (classes source)
  in-heads c l = omega (arith, l, as-many-heads source program e named-classes graph, classes-count source)

  -- a class has as many variables as its bounds lead to, or more
  left-within : (c at : ℕ) → at < own-count all-heads c → led-to source c at < own-count all-heads c
  left-within c at l = by (cases_lt c (library_count source)) (cases_lt c (length all-heads))
    where
      by : (c < library_count source ⊎ library_count source ≤ c) → (c < length all-heads ⊎ length all-heads ≤ c) →
          led-to source c at < own-count all-heads c
      by (inl m) other =
          let none = no-parameters (site_at source.sites c).written (sites.library c m) in
          let zero-left : led-to source c at ≡ 0 = subst (λ qs. counted (variables.leads source c at) (length qs) ≡ 0) (sym none) refl in
          omega (arith, zero-left, l)
      by (inr le) (inl m) =
          let many = many-bounds source c le (in-heads c m) in
          let some = some-left source c free (sites.guests c le (within source c le (in-heads c m))) (within source c le (in-heads c m)) at
          (subst (λ n. at < n) many l) in
          omega (arith, many, some)
      by (inr le) (inr past) =
          let none : own-count all-heads c ≡ 0 = ap (λ o. length (bounds_in o)) (slice_get_past all-heads c past) in
          absurd (omega (arith, none, l))

  pub variable-within : (c at : ℕ) → variable-depth c at ≤ length all-heads + before all-heads c + own-count all-heads c
  variable-within c at = by (cases_lt at (own-count all-heads c))
    where
      by : (at < own-count all-heads c ⊎ own-count all-heads c ≤ at) →
          variable-depth c at ≤ length all-heads + before all-heads c + own-count all-heads c
      by (inl l) = omega (arith, left-of c at l, left-within c at l)
      by (inr le) = omega (arith, none-left c at le)

  -- ---- they fall along bounds

  pub some-heads : 0 < length all-heads
  some-heads =
      let many : library_count source ≡ 39 = library-many source in
      omega (arith, many, as-many-heads source program e named-classes graph)

  library-bound : (c at d j : ℕ) → c < library_count source → ¬ (bound_of all-heads c at ≡ of_variable d j 0)
  library-bound c at d j l h =
      let row = in-library source c l in
      by row.row.bound at (sym (ap (λ o. or_object (slice_get (bounds_in o) at))
      (head-there source c (class_declared (number source) c row.row) row.declared)) ∙ h)
    where
      by : (o : _) (at : ℕ) → ¬ (or_object (slice_get (map class_head.bound_of (parameters_declared (number source) o)) at) ≡ of_variable d j 0)
      by None at h = no-variable object_type d j refl h
      by (Some x) zero h = absurd cc
      by (Some x) (suc at) h = no-variable object_type d j refl h

  in-class : (c at j : ℕ) → library_count source ≤ c → c < length (classes source) → at < own-count all-heads c →
      next_variable source c at ≡ Some j → variable-depth c j < variable-depth c at
  in-class c at j le l here next = by (cases_lt j (own-count all-heads c))
    where
      by : (j < own-count all-heads c ⊎ own-count all-heads c ≤ j) → variable-depth c j < variable-depth c at
      by (inl m) =
          let many = many-bounds source c le l in
          let w = within source c le l in
          let less = fewer source c free (sites.guests c le w) w at j next (subst (λ n. j < n) many m) in
          omega (arith, left-of c j m, left-of c at here, less)
      by (inr past) = omega (arith, none-left c j past, left-of c at here)

  outside : (c at d j : ℕ) → at < own-count all-heads c → d < c → variable-depth d j < variable-depth c at
  outside c at d j here l =
      omega (arith, variable-within d j, left-of c at here, before-less all-heads d c l)

  pub variable-falls : (c at d j : ℕ) → at < own-count all-heads c → bound_of all-heads c at ≡ of_variable d j 0 →
      variable-depth d j < variable-depth c at
  variable-falls c at d j here h = by (cases_lt c (library_count source))
    where
      there : c < length all-heads
      there = by-place (cases_lt c (length all-heads))
        where
          by-place : (c < length all-heads ⊎ length all-heads ≤ c) → c < length all-heads
          by-place (inl l) = l
          by-place (inr past) =
              let none : own-count all-heads c ≡ 0 = ap (λ o. length (bounds_in o)) (slice_get_past all-heads c past) in
              absurd (omega (arith, none, here))

      by-round : library_count source ≤ c → Leads source c at d j → (d ≡ c) ⊎ In (site_at source.sites c).spot.round d →
          variable-depth d j < variable-depth c at
      by-round le leads (inl same) =
          subst (λ k. variable-depth k j < variable-depth c at) (sym same)
          (in-class c at j le (in-heads c there) here (leads.next same))
      by-round le leads (inr round) = outside c at d j here (sites.rounds c d le round).1

      by : (c < library_count source ⊎ library_count source ≤ c) → variable-depth d j < variable-depth c at
      by (inl l) = absurd (library-bound c at d j l h)
      by (inr le) =
          let leads = bound-leads source c le (in-heads c there) at d j h in
          by-round le leads leads.round

  object-depth : depth object_type ≡ 0
  unfolding depth
  object-depth = object-lowest source program e named-classes graph

  bound-falls : (c at : ℕ) (t : SourceType) → bound_of all-heads c at ≡ t → is_class_or_variable t ≡ true → depth t < variable-depth c at
  unfolding depth
  bound-falls c at t h fits = by (cases_lt at (own-count all-heads c)) t h fits
    where
      low : length all-heads ≤ variable-depth c at
      low = by-place (cases_lt at (own-count all-heads c))
        where
          by-place : (at < own-count all-heads c ⊎ own-count all-heads c ≤ at) → length all-heads ≤ variable-depth c at
          by-place (inl l) = omega (arith, left-of c at l)
          by-place (inr le) = omega (arith, none-left c at le)

      by : (at < own-count all-heads c ⊎ own-count all-heads c ≤ at) → (t : SourceType) → bound_of all-heads c at ≡ t →
          is_class_or_variable t ≡ true → depth t < variable-depth c at
      by (inr past) t h fits =
          let none : object_type ≡ t = sym (ap or_object (slice_get_past (bounds_in (head_at all-heads c)) at past)) ∙ h in
          subst (λ u. depth u < variable-depth c at) none (omega (arith, object-depth, low, some-heads))
      by (inl l) (of_class d args zero) h fits = omega (arith, class-within source program e named-classes graph d, left-of c at l)
      by (inl l) (of_variable d j zero) h fits = variable-falls c at d j l h
      by (inl l) (plain b n) h fits = absurd cc
      by (inl l) (of_class d args (suc n)) h fits = absurd cc
      by (inl l) (of_variable d j (suc n)) h fits = absurd cc

  -- ---- along both

  record Step (s t : SourceType) : Type 0 where
    falls : depth t < depth s
    named : is_class_or_variable t ≡ true

  class-step : (c : ℕ) (args : SourceTypes) (t : SourceType) → Contains (map (substituted c args) (supers_of all-heads c)) t →
      Step (of_class c args 0) t
  unfolding depth
  class-step c args t q =
      let w = from-map (substituted c args) (supers_of all-heads c) t q in
      let is = above-named source program e named-classes graph c w.0 w.1 in
      let above : Contains (supers_of all-heads c) (of_class is.class is.arguments 0) = subst (Contains (supers_of all-heads c)) is.is w.1 in
      let same : of_class is.class (all_substituted c args is.arguments) 0 ≡ t = sym (ap (substituted c args) is.is) ∙ w.2 in
      subst (Step (of_class c args 0)) same (record {
        falls = class-falls source program e named-classes graph c is.class is.arguments above;
        named = refl;
      })

  variable-step : (c at : ℕ) (t : SourceType) → Contains (bound_of all-heads c at ∷ []) t → Step (of_variable c at 0) t
  unfolding depth
  variable-step c at t q = by (contains-cases (bound_of all-heads c at) t [] q)
    where
      by : (bound_of all-heads c at ≡ t) ⊎ Contains [] t → Step (of_variable c at 0) t
      by (inl same) =
          let fits = subst (λ u. is_class_or_variable u ≡ true) same (bounds c at) in
          record { falls = bound-falls c at t same fits; named = fits }
      by (inr r) = absurd (contains-none t r)

  step : (s t : SourceType) → Contains (directly_above all-heads s) t → Step s t
  step (plain b n) t q = absurd (contains-none t q)
  step (of_class c args zero) t q = class-step c args t q
  step (of_class c args (suc n)) t q = absurd (contains-none t q)
  step (of_variable c at zero) t q = variable-step c at t q
  step (of_variable c at (suc n)) t q = absurd (contains-none t q)

  depth-within : (t : SourceType) → depth t ≤ most_steps all-heads
  unfolding depth
  depth-within (plain b n) = omega arith
  depth-within (of_class c args n) = omega (arith, class-within source program e named-classes graph c)
  depth-within (of_variable c at n) = omega (arith, variable-within c at, before-all all-heads c)

  pub heads-acyclic : IsAcyclic all-heads
  heads-acyclic = record {
    depth = depth;
    falls = λ s t q. (step s t q).falls;
    within = depth-within;
    named = λ s t q. (step s t q).named;
    top = ap (map (substituted object_class.0 no_source_types)) (object-top source);
  }
