-- An interface stands in no body: a class round a static one is static, or at the top (JLS 8.1.3).
use Rattle.std.proofs.Common.{◌≡◌, ℕ, ◌<◌, ◌≤◌, List, [], ◌∷◌, length, None, Some, refl, sym, ap, ◌∙◌, subst, arith}
use Rattle.std.specs.Prelude.{Bool, true, false, not, ◌&&◌, ◌||◌, if◌then◌else◌, is_some}
use Rattle.je_core.specs.declared.program.Kind.{Kind}
use Rattle.je_core.specs.declared.program.Sort.{Sort}
use Rattle.je_core.specs.declared.program.Sort.TheVariants as sort
use Rattle.je_core.specs.Core.{CoreProgram}
use Rattle.je_classes.specs.Members.{In, first}
use Rattle.je_classes.proofs.Lists.{bool_cases}
use Rattle.je_scopes.specs.Headers.{innermost, is_interface_sort, is_local_sort, site_at, within}
use Rattle.je_scopes.specs.Scope.{is_static_context}
use Rattle.je_scopes.specs.Sites.{static}
use Rattle.je_scopes.specs.Source.{Source}
use Rattle.source_types.specs.Heads.{head_at}
use Rattle.declarations.specs.Declarations.{declared_class, is_enum_sort, is_static_member}
use Rattle.je_typing.specs.declared.fault.TypeRule.TheVariants.{BadStatic}
use Rattle.header_typing.specs.Statics.{is_inner, is_inner_if, is_static_head}
use Rattle.class_typing.specs.Places.{in_body, innermost_in_body}
use Rattle.class_typing.specs.Programs.{heads, library_count, plain_program}
use Rattle.override_laws.proofs.Erasures.{holds}
use Rattle.elaborated_laws.specs.Elaborated.{IsElaborated}
use Rattle.elaborated_laws.specs.Premises.{HasSites}
use Rattle.elaborated_laws.proofs.Came.{came}
use Rattle.elaborated_laws.proofs.Declared.{head-there}
use Rattle.elaborated_laws.proofs.Guests.{guest-declared}
use Rattle.judged_laws.proofs.Signed.{classes_are_judged}
use Rattle.judged_laws.proofs.Sorts.{kind-kept}

no-local : (s : Sort) → is_interface_sort s ≡ true → is_local_sort s ≡ false
no-local sort.Interface h = refl
no-local sort.Class h = refl
no-local sort.Enum h = refl
no-local sort.Local h = absurd cc
no-local sort.Anonymous h = absurd cc

-- an enum and a static member are no local classes
static-no-local : (s : Sort) (inside context : Bool) → (is_enum_sort s || (inside && not (is_local_sort s) && context)) ≡ true →
    is_local_sort s ≡ false
static-no-local sort.Class a b h = refl
static-no-local sort.Interface a b h = refl
static-no-local sort.Enum a b h = refl
static-no-local sort.Local true b h = absurd cc
static-no-local sort.Local false b h = absurd cc
static-no-local sort.Anonymous true b h = absurd cc
static-no-local sort.Anonymous false b h = absurd cc

static-by : (s : Sort) (inside context : Bool) → inside ≡ true → is_local_sort s ≡ false → context ≡ true →
    (is_enum_sort s || (inside && not (is_local_sort s) && context)) ≡ true
static-by s true true i l k = by (is_enum_sort s) (is_local_sort s) l
  where
    by : (e l : Bool) → l ≡ false → (e || (true && not l && true)) ≡ true
    by true l h = refl
    by false false h = refl
    by false true h = absurd cc
static-by s true false i l k = absurd cc
static-by s false b i l k = absurd cc

neither : (a b : Bool) → a ≡ true → not (a && b) ≡ true → b ≡ false
neither true false e h = refl
neither true true e h = absurd cc
neither false b e h = absurd cc

not-inner : (a : Bool) → (true && not a) ≡ false → a ≡ true
not-inner true h = refl
not-inner false h = absurd cc

module _ (source : Source) (program : CoreProgram) (e : IsElaborated source program) (sites : HasSites source) where
  module _ (c : ℕ) (le : library_count source ≤ c) (l : c < length source.sites) where
    static-is : is_static_head (head_at (heads source) c)
        ≡ (is_enum_sort (site_at source.sites c).sort || is_static_member (site_at source.sites c))
    unfolding declared_class
    static-is =
        ap is_static_head (head-there source c _ (guest-declared source c le l))
        ∙ ap (λ (k : Kind). k.is_static) (kind-kept _ (declared_class source c) _)

    -- the class round a static one isn't inner
    outer-not-inner : is_static_head (head_at (heads source) c) ≡ true →
        is_inner_if source.sites (heads source) (within (site_at source.sites c)) ≡ false
    unfolding plain_program
    outer-not-inner h =
        let judged = classes_are_judged source program e sites c le l in
        let clashes = came _ _ tt (came _ _ tt (came _ _ tt (came _ _ tt judged.whole).rest).rest).rest in
        neither _ _ h (holds BadStatic _ _ clashes.rest)

  module _ (c : ℕ) (le : library_count source ≤ c) (l : c < length source.sites) where
    -- a class that isn't inner is no local one, and the one round it isn't inner either
    not-inner-no-local : (ds : List ℕ) → (site_at source.sites c).spot.round ≡ ds →
        is_inner source.sites (heads source) c ≡ false →
        (is_local_sort (site_at source.sites c).sort ≡ false)
        × (is_inner_if source.sites (heads source) (innermost ds) ≡ false)
    not-inner-no-local [] round h = (
      bool_cases (λ b. is_local_sort (site_at source.sites c).sort ≡ b → is_local_sort (site_at source.sites c).sort ≡ false)
          (is_local_sort (site_at source.sites c).sort) (λ _ y. absurd (sites.locals c y round)) (λ _ n. n) refl,
      refl,
    )
    not-inner-no-local (d ∷ ds) round h =
        let is-static = not-inner _ (sym (ap (λ rs. is_some (innermost rs) && not (is_static_head (head_at (heads source) c))) round) ∙ h) in (
          static-no-local (site_at source.sites c).sort _ _ (sym (static-is c le l) ∙ is-static),
          sym (ap (λ rs. is_inner_if source.sites (heads source) (innermost rs)) round) ∙ outer-not-inner c le l is-static,
        )

  none-in-body : (ds : List ℕ) (c : ℕ) → library_count source ≤ c → c < length source.sites →
      (site_at source.sites c).spot.round ≡ ds → is_local_sort (site_at source.sites c).sort ≡ false →
      is_inner_if source.sites (heads source) (innermost ds) ≡ false → innermost_in_body source.sites c ds ≡ None
  none-in-body [] c le l round local outer = ap (λ b. if b then Some c else None) local
  none-in-body (d ∷ ds) c le l round local outer =
      let s = sites.rounds c d le (subst (λ rs. In rs d) (sym round) first) in
      let within-d : d < length source.sites = omega (arith, s.1, l) in
      let around = sites.nested c d ds le round in
      let next = not-inner-no-local d s.0 within-d ds around outer in
      ap (λ b. if b then Some c else innermost_in_body source.sites d ds) local
      ∙ none-in-body ds d s.0 within-d around next.0 next.1

  pub interface-in-no-body : (c : ℕ) → library_count source ≤ c → c < length source.sites →
      is_interface_sort (site_at source.sites c).sort ≡ true → (site_at source.sites c).spot.context ≡ static →
      in_body source.sites c ≡ None
  unfolding in_body
  interface-in-no-body c le l interface context =
      let local = no-local (site_at source.sites c).sort interface in
      none-in-body (site_at source.sites c).spot.round c le l refl local (by (site_at source.sites c).spot.round refl local)
    where
      by : (ds : List ℕ) → (site_at source.sites c).spot.round ≡ ds → is_local_sort (site_at source.sites c).sort ≡ false →
          is_inner_if source.sites (heads source) (innermost (site_at source.sites c).spot.round) ≡ false
      by [] round local = ap (λ rs. is_inner_if source.sites (heads source) (innermost rs)) round
      by (d ∷ ds) round local = outer-not-inner c le l
          (static-is c le l ∙ static-by (site_at source.sites c).sort _ _ (ap (λ rs. is_some (innermost rs)) round) local
          (ap is_static_context context))
