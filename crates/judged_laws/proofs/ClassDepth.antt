-- Each class has a depth, and those that its header names have smaller ones: how far the library's stand below Object, and
-- on how many classes of the source one of these depends.
use Rattle.std.proofs.Common.{◌≡◌, ℕ, zero, suc, ◌+◌, ◌-◌, ◌<◌, ◌≤◌, ◌⊎◌, inl, inr, List, [], ◌∷◌, length, Option, Some, None, refl, sym, ap, ◌∙◌, subst, arith, zero-add}
use Rattle.std.specs.Prelude.{Bool, true, false, ◌&&◌, if◌then◌else◌, max, nat_eq, nat_lt, slice_get}
use Rattle.std.specs.List.{Contains, list_all}
use Rattle.std.proofs.lemmas.Bool.{cases_lt}
use Rattle.std.proofs.lemmas.Bool.Decides.{nat_tests}
use Rattle.std.proofs.lemmas.Option.{none-some, same_Some, slice_get_past}
use Rattle.je_core.specs.Core.{CoreProgram}
use Rattle.je_classes.specs.Hierarchy.{library_class, object_class}
use Rattle.je_classes.proofs.Counts.{all-true, counted, counted-le, counted-lt}
use Rattle.je_classes.proofs.Lists.{bool_cases, contains-cases}
use Rattle.je_table.specs.declared.classes.Super.{Super}
use Rattle.je_table.specs.Library.{Class, classes as rows}
use Rattle.je_ast.specs.Types.{TypeName, class_type, primitive}
use Rattle.je_scopes.specs.Looks.{Look, a_class, a_variable, nothing, unclear, waits}
use Rattle.je_scopes.specs.Scope.{header, meaning, named}
use Rattle.je_scopes.specs.Settled.{Depends, dependences, depends, direct, heads_of, onward, parts_of, settled}
use Rattle.je_scopes.specs.Source.{Source}
use Rattle.je_scopes.specs.SourceTypes.{SourceType, SourceTypes, arity_of, count, null_type, of_class, type_for, types_named}
use Rattle.je_scopes.specs.Laws.{HasLibrary}
use Rattle.je_scopes.specs.Laws as scopes
use Rattle.je_scopes.proofs.Dependence.{complete, sound}
use Rattle.je_scopes.proofs.Found.{meant-named}
use Rattle.je_scopes.proofs.Lists.{flat-from, in-flat}
use Rattle.je_scopes.proofs.Ranges.{named-are}
use Rattle.source_types.specs.Heads.{ClassHead, object_type, supers_of}
use Rattle.source_types.specs.Heads as heads_in
use Rattle.source_types.proofs.Same.{and-left, and-right}
use Rattle.name_types.specs.View.{in_limit}
use Rattle.declarations.specs.Declarations.{DeclaredClass, declared_class, type_at}
use Rattle.class_heads.specs.Headers.{class_heads, head_of, is_whole}
use Rattle.library_classes.specs.Library.{class_above, number_of_class}
use Rattle.library_declarations.specs.Library.{library_declared, super_type}
use Rattle.override_laws.proofs.Lists.{all-passes, contained}
use Rattle.typing_laws.proofs.Subtypes.{contains-none, from-map}
use Rattle.class_typing.specs.Elaboration.{guest_count}
use Rattle.class_typing.specs.Programs.{classes, heads, library_count, with_enum_methods}
use Rattle.elaborated_laws.specs.Elaborated.{IsElaborated}
use Rattle.elaborated_laws.specs.Premises.{HeadsAreClasses, IsClassType}
use Rattle.elaborated_laws.proofs.Classes.{classes-count}
use Rattle.elaborated_laws.proofs.Declared.{InLibrary, head-there, heads-are, in-library, library-many}
use Rattle.elaborated_laws.proofs.Guests.{guest-declared, within-sites}
use Rattle.elaborated_laws.proofs.Supers.{heads-count, library-named}

-- ---- the library's classes

abbrev supers_in : Option Class → List Super
supers_in None = []
supers_in (Some row) = row.supers

abbrev rank_over : (ℕ → ℕ) → List Super → ℕ
rank_over f [] = 0
rank_over f (s ∷ ss) = max (suc (f (number_of_class s.class).0)) (rank_over f ss)

-- how many steps lead from a class up to Object at most, in so many rounds
abbrev rank_within : ℕ → ℕ → ℕ
rank_within zero c = 0
rank_within (suc n) c = rank_over (rank_within n) (supers_in (slice_get rows c))

unfoldable rank : ℕ → ℕ
rank c = rank_within 9 c

abbrev falls_to : ℕ → Super → Bool
falls_to c s = nat_lt (number_of_class s.class).0 39 && nat_lt (rank (number_of_class s.class).0) (rank c)

abbrev row_falls : ℕ → Class → Bool
row_falls c row = nat_lt (rank c) 39 && list_all (falls_to c) row.supers

abbrev rows_fall : ℕ → List Class → Bool
rows_fall c [] = true
rows_fall c (r ∷ rs) = row_falls c r && rows_fall (suc c) rs

all-fall : rows_fall 0 rows ≡ true
unfolding rank library_class
all-fall = refl

object-first : object_class.0 ≡ 0
unfolding object_class library_class
object-first = refl

object-rank : rank object_class.0 ≡ 0
unfolding rank object_class library_class
object-rank = refl

one-falls : (rs : List Class) (at c : ℕ) (row : Class) → rows_fall at rs ≡ true → slice_get rs c ≡ Some row → row_falls (at + c) row ≡ true
one-falls [] at c row h e = absurd (none-some row e)
one-falls (r ∷ rs) at zero row h e =
    let here : at ≡ at + 0 = omega arith in
    subst (λ n. row_falls n row ≡ true) here
    (subst (λ x. row_falls at x ≡ true) (same_Some r row e) (and-left (row_falls at r) _ h))
one-falls (r ∷ rs) at (suc c) row h e =
    let there : suc at + c ≡ at + suc c = omega arith in
    subst (λ n. row_falls n row ≡ true) there (one-falls rs (suc at) c row (and-right (row_falls at r) _ h) e)

-- ---- the classes that headers of the source name

class-of : (c d : ℕ) (ts us : SourceTypes) (m n : ℕ) → of_class c ts m ≡ of_class d us n → c ≡ d
class-of c d ts us m n e = cc

pub heads-kept : (b : Bool) (d : DeclaredClass) (ms : _) → (if b then record d { methods = ms } else d).heads ≡ d.heads
heads-kept true d ms = refl
heads-kept false d ms = refl

pub object-or : (b : Bool) (ts : List SourceType) (t : SourceType) → Contains (if b then ts else object_type ∷ ts) t →
    (object_type ≡ t) ⊎ Contains ts t
object-or true ts t q = inr q
object-or false ts t q = contains-cases object_type t ts q

module _ (source : Source) (c : ℕ) where
  class-meant : (look : Look) (k : ℕ) (ts : SourceTypes) (n d : ℕ) (args : SourceTypes) →
      in_limit (type_for source look k ts n) ≡ of_class d args 0 → look ≡ a_class d
  class-meant waits k ts n d args e = absurd cc
  class-meant nothing k ts n d args e = absurd cc
  class-meant unclear k ts n d args e = absurd cc
  class-meant (a_variable b at) k ts n d args e = absurd cc
  class-meant (a_class b) k ts n d args e = by (nat_eq k (arity_of source b)) e
    where
      by : (x : Bool) → in_limit (if x then of_class b ts n else null_type n) ≡ of_class d args 0 → a_class b ≡ a_class d
      by true h = ap a_class (class-of b d _ args _ 0 h)
      by false h = absurd cc

  pub names-class : (t : TypeName) (d : ℕ) (args : SourceTypes) → type_at source c header t ≡ of_class d args 0 →
      Contains (named source (settled source) c header (parts_of t)) d
  names-class (primitive word dims span) d args e = absurd cc
  names-class (class_type q ts dims span) d args e =
      meant-named source (settled source) c header q.parts d
      (class-meant (meaning source (settled source) c header q.parts) (count ts) (types_named source (settled source) c header ts) dims d args e)

  module _ (le : library_count source ≤ c) (l : c < length (classes source)) where
    supers-are : supers_of (heads source) c ≡ (head_of (classes source) c (with_enum_methods source c (declared_class source c))).supers
    supers-are = ap heads_in.supers_in (head-there source c (with_enum_methods source c (declared_class source c))
        (guest-declared source c le (within-sites source c le (subst (λ n. c < n) (classes-count source) l))))

    -- Object, or one on which the class depends
    super-named : (d : ℕ) (args : SourceTypes) → Contains (supers_of (heads source) c) (of_class d args 0) →
        (object_class.0 ≡ d) ⊎ Contains (dependences source c) d
    unfolding declared_class
    super-named d args q =
        let own = with_enum_methods source c (declared_class source c) in
        by (object-or (is_whole (classes source) c own) own.heads (of_class d args 0)
        (subst (λ ts. Contains ts (of_class d args 0)) supers-are q))
      where
        by : (object_type ≡ of_class d args 0) ⊎ Contains ((with_enum_methods source c (declared_class source c)).heads) (of_class d args 0) →
            (object_class.0 ≡ d) ⊎ Contains (dependences source c) d
        by (inl e) = inl (class-of object_class.0 d _ args 0 0 e)
        by (inr r) =
            let w = from-map (type_at source c header) (heads_of source c) (of_class d args 0)
            (subst (λ ts. Contains ts (of_class d args 0)) (heads-kept _ (declared_class source c) _) r) in
            inr (in-flat (λ t. named source (settled source) c header (parts_of t)) (heads_of source c) w.0 d w.1 (names-class w.0 d args w.2))

pub far : (source : Source) (c : ℕ) → library_count source ≤ c → nat_eq c object_class.0 ≡ false
unfolding object_class library_class
far source c le = let many : library_count source ≡ 39 = library-many source in grind (arith, nat_tests, many)

pub has-library : (source : Source) (c : ℕ) → library_count source ≤ c → c < length (classes source) → HasLibrary source
has-library source c le l =
    let many : library_count source ≡ length rows = library-many source in omega (arith, many, classes-count source, le, l)

pub object-top : (source : Source) → supers_of (heads source) object_class.0 ≡ []
unfolding heads class_heads classes library_declared object_class library_class
object-top source = refl

-- ---- depths

module _ (source : Source) (program : CoreProgram) (e : IsElaborated source program) (named-classes : HeadsAreClasses source)
    (graph : scopes.IsAcyclic source) where
  pub class-depth : ℕ → ℕ
  class-depth c = if nat_lt c (library_count source) then rank c
      else library_count source + counted (λ k. depends source c (library_count source + k)) (guest_count source)

  library-depth : (c : ℕ) → c < library_count source → class-depth c ≡ rank c
  unfolding class-depth
  library-depth c l = let here : nat_lt c (library_count source) ≡ true = grind (arith, nat_tests) in rw here refl

  guest-depth : (c : ℕ) → library_count source ≤ c →
      class-depth c ≡ library_count source + counted (λ k. depends source c (library_count source + k)) (guest_count source)
  unfolding class-depth
  guest-depth c le = let past : nat_lt c (library_count source) ≡ false = grind (arith, nat_tests) in rw past refl

  row-falls : (c : ℕ) (l : InLibrary source c) → row_falls c l.row ≡ true
  row-falls c l = subst (λ n. row_falls n l.row ≡ true) (zero-add c) (one-falls rows 0 c l.row all-fall l.there)

  rank-small : (c : ℕ) → c < library_count source → rank c < library_count source
  rank-small c l =
      let many : library_count source ≡ 39 = library-many source in
      let h : nat_lt (rank c) 39 ≡ true = and-left (nat_lt (rank c) 39) _ (row-falls c (in-library source c l)) in
      grind (arith, nat_tests, many)

  library-falls : (c d : ℕ) (args : SourceTypes) → c < library_count source → Contains (supers_of (heads source) c) (of_class d args 0) →
      class-depth d < class-depth c
  library-falls c d args l q =
      let many : library_count source ≡ 39 = library-many source in
      let row = in-library source c l in
      let w = from-map super_type row.row.supers (of_class d args 0)
      (subst (λ ts. Contains ts (of_class d args 0)) (ap (λ hs. supers_of hs c) (sym (heads-are source e.first)) ∙ library-named source program e named-classes c row) q) in
      let same : (class_above w.0).0 ≡ d = class-of (class_above w.0).0 d _ args 0 0 w.2 in
      let falls = subst (λ n. (nat_lt n 39 && nat_lt (rank n) (rank c)) ≡ true) same
      (all-passes (falls_to c) row.row.supers w.0 (and-right (nat_lt (rank c) 39) _ (row-falls c row)) (contained row.row.supers w.0 w.1)) in
      let small : nat_lt d 39 ≡ true = and-left (nat_lt d 39) (nat_lt (rank d) (rank c)) falls in
      let lower : nat_lt (rank d) (rank c) ≡ true = and-right (nat_lt d 39) (nat_lt (rank d) (rank c)) falls in
      let below : d < library_count source = grind (arith, nat_tests, many) in
      let less : rank d < rank c = grind (arith, nat_tests) in
      omega (arith, library-depth d below, library-depth c l, less)

  depends-falls : {c d : ℕ} → Depends source c d → graph.depth d < graph.depth c
  depends-falls (direct {c = c} {d = d} q) = graph.falls c d q
  depends-falls (onward {c = c} {d = d} {e = k} q r) = omega (arith, graph.falls c d q, depends-falls r)

  not-itself : (c : ℕ) → depends source c c ≡ false
  not-itself c = bool_cases (λ b. b ≡ false) (depends source c c)
      (λ h. absurd (omega (arith, depends-falls (sound source c c h)))) (λ h. refl)

  module _ (c : ℕ) (le : library_count source ≤ c) (l : c < length (classes source)) where
    past : library_count source ≤ class-depth c
    past = omega (arith, guest-depth c le)

    -- one of the source that it depends on
    guest-below : (d : ℕ) → Contains (dependences source c) d → library_count source ≤ d → d < length source.sites →
        class-depth d < class-depth c
    guest-below d q m within =
        let first = library_count source in
        let back : first + (d - first) ≡ d = omega (arith, m) in
        let place : d - first < guest_count source = omega (arith, m, within) in
        let less : counted (λ k. depends source d (first + k)) (guest_count source) < counted (λ k. depends source c (first + k)) (guest_count source) =
        counted-lt (λ k. depends source d (first + k)) (λ k. depends source c (first + k)) (guest_count source)
        (λ k _ h. complete source (onward q (sound source d (first + k) h))) (d - first) place
        (subst (λ n. depends source d n ≡ false) (sym back) (not-itself d))
        (subst (λ n. depends source c n ≡ true) (sym back) (complete source (direct q))) in
        omega (arith, guest-depth d m, guest-depth c le, less)

    depended-below : (d : ℕ) → Contains (dependences source c) d → class-depth d < class-depth c
    depended-below d q = by (cases_lt d (library_count source))
      where
        by : (d < library_count source ⊎ library_count source ≤ d) → class-depth d < class-depth c
        by (inl m) = omega (arith, library-depth d m, rank-small d m, past)
        by (inr m) =
            let r = flat-from (λ t. named source (settled source) c header (parts_of t)) (heads_of source c) d q in
            guest-below d q m (named-are source (has-library source c le l) (settled source) c header (parts_of r.from) d r.has)

    object-below : class-depth object_class.0 < class-depth c
    object-below =
        let many : library_count source ≡ 39 = library-many source in
        let top : object_class.0 < library_count source = omega (arith, many, object-first) in
        omega (arith, library-depth object_class.0 top, object-rank, past, many)

    guest-falls : (d : ℕ) (args : SourceTypes) → Contains (supers_of (heads source) c) (of_class d args 0) → class-depth d < class-depth c
    guest-falls d args q = by (super-named source c le l d args q)
      where
        by : (object_class.0 ≡ d) ⊎ Contains (dependences source c) d → class-depth d < class-depth c
        by (inl same) = subst (λ k. class-depth k < class-depth c) same object-below
        by (inr r) = depended-below d r

  pub as-many-heads : length (heads source) ≡ library_count source + guest_count source
  unfolding heads class_heads
  as-many-heads = heads-count (classes source) (classes source) 0 ∙ classes-count source

  pub class-within : (c : ℕ) → class-depth c ≤ length (heads source)
  class-within c = by (cases_lt c (library_count source))
    where
      by : (c < library_count source ⊎ library_count source ≤ c) → class-depth c ≤ length (heads source)
      by (inl l) = omega (arith, library-depth c l, rank-small c l, as-many-heads)
      by (inr le) =
          let few : counted (λ k. depends source c (library_count source + k)) (guest_count source) ≤ counted (λ k. true) (guest_count source) =
          counted-le (λ k. depends source c (library_count source + k)) (λ k. true) (guest_count source) (λ k m h. refl) in
          omega (arith, guest-depth c le, few, all-true (guest_count source), as-many-heads)

  pub object-lowest : class-depth object_class.0 ≡ 0
  object-lowest =
      let many : library_count source ≡ 39 = library-many source in
      let top : object_class.0 < library_count source = omega (arith, many, object-first) in
      library-depth object_class.0 top ∙ object-rank

  none-above-past : (c : ℕ) (t : SourceType) → length (heads source) ≤ c → Contains (supers_of (heads source) c) t → ⊥
  none-above-past c t le q = contains-none t (subst (λ o. Contains (heads_in.supers_in o) t) (slice_get_past (heads source) c le) q)

  pub class-falls : (c d : ℕ) (args : SourceTypes) → Contains (supers_of (heads source) c) (of_class d args 0) → class-depth d < class-depth c
  class-falls c d args q = by (cases_lt c (library_count source)) (cases_lt c (length (heads source)))
    where
      by : (c < library_count source ⊎ library_count source ≤ c) → (c < length (heads source) ⊎ length (heads source) ≤ c) →
          class-depth d < class-depth c
      by (inl l) other = library-falls c d args l q
      by (inr le) (inl l) = guest-falls c le (omega (arith, l, as-many-heads, classes-count source)) d args q
      by (inr le) (inr past) = absurd (none-above-past c _ past q)

  -- what stands above a class is a class
  pub above-named : (c : ℕ) (t : SourceType) → Contains (supers_of (heads source) c) t → IsClassType t
  above-named c t q = by (cases_lt c (library_count source))
    where
      by : (c < library_count source ⊎ library_count source ≤ c) → IsClassType t
      by (inr le) = named-classes c t le q
      by (inl l) =
          let row = in-library source c l in
          let w = from-map super_type row.row.supers t
          (subst (λ ts. Contains ts t) (ap (λ hs. supers_of hs c) (sym (heads-are source e.first)) ∙ library-named source program e named-classes c row) q) in
          record { class = (class_above w.0).0; arguments = _; is = sym w.2 }
