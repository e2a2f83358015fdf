-- Types in headers without fault are classes and type variables.
use Rattle.std.proofs.Common.{◌≡◌, ℕ, zero, suc, ◌<◌, ◌≤◌, ◌⊎◌, inl, inr, List, [], ◌∷◌, length, map, Option, Some, None, refl, sym, ap, ◌∙◌, subst}
use Rattle.std.specs.Prelude.{Bool, true, false, not, if◌then◌else◌, nat_eq, option_map, slice_get}
use Rattle.std.specs.List.{Contains}
use Rattle.std.proofs.lemmas.Bool.{cases_lt}
use Rattle.std.proofs.lemmas.Option.{none-some, slice_get_past}
use Rattle.je_base.specs.declared.span.Span.{Span}
use Rattle.je_core.specs.Core.{CoreProgram}
use Rattle.je_ast.specs.Types.{TypeName, TypeParameter, class_type, primitive}
use Rattle.je_classes.specs.Members.{In}
use Rattle.je_classes.proofs.Sets.{by_either}
use Rattle.je_ast.specs.Trees.{Declaration, Members}
use Rattle.je_typing.specs.Castable as castable
use Rattle.je_typing.specs.Judged.{gives}
use Rattle.header_typing.specs.Supers.{class_in, head_if, is_interface, is_open_head, may_be_extended}
use Rattle.fitting_laws.proofs.Lists.{in-cases, in-one}
use Rattle.override_laws.proofs.Lists.{contained, in-map}
use Rattle.typing_laws.proofs.Subtypes.{contains-none, from-map}
use Rattle.je_scopes.specs.Sites.{Written, behind_new, declared, in_library}
use Rattle.je_classes.proofs.Lists.{contains-here}
use Rattle.je_scopes.specs.Faults.{Fault, by_meaning, cycle_in_bound, first_fault, of_head, of_name, of_optional_type, of_type, of_types, out_of_profile, twice, unknown, where_so}
use Rattle.je_scopes.specs.Headers.{heads_in, is_guest, parameters_in, site_at}
use Rattle.je_scopes.specs.Looks.{Look, a_class, a_variable, nothing, unclear, waits}
use Rattle.je_scopes.specs.Scope.{Part, header, meaning}
use Rattle.je_scopes.specs.Settled.{heads_of, settled}
use Rattle.je_scopes.specs.Source.{Source}
use Rattle.je_scopes.specs.SourceTypes.{SourceType, SourceTypes, arity_of, count, no_source_types, null_type, of_class, of_variable, plain, type_for, types_named}
use Rattle.je_scopes.proofs.First.{none_is_fault_free}
use Rattle.je_scopes.proofs.Lists.{in-flat, in-left, in-right}
use Rattle.source_types.specs.Heads.{ClassHead, bound_of, bounds_in, head_at, or_object, supers_of}
use Rattle.source_types.specs.Heads as heads_of_all
use Rattle.je_classes.specs.Hierarchy.{object_class}
use Rattle.elaborated_laws.proofs.Guests.{guest-declared}
use Rattle.source_types.specs.Laws.{is_class_or_variable}
use Rattle.name_types.specs.View.{in_limit}
use Rattle.declarations.specs.Declarations.{type_at}
use Rattle.body_laws.specs.Written.{IsMade}
use Rattle.class_heads.specs.Headers as class_head
use Rattle.library_declarations.specs.Library.{class_declared, parameters_declared}
use Rattle.typing_laws.specs.Fitting.{BoundsFit}
use Rattle.class_typing.specs.Programs.{classes, heads, library_count, number}
use Rattle.elaborated_laws.specs.Elaborated.{IsElaborated}
use Rattle.elaborated_laws.specs.Premises.{HasSites, IsClassType, is_interface_written}
use Rattle.elaborated_laws.proofs.Declared.{head-there, heads-at, in-library}
use Rattle.judged_laws.specs.Judged.{IsJudged, header_of}
use Rattle.judged_laws.specs.Laws.{HeadsNameClasses, signed}
use Rattle.judged_laws.specs.Written.{HeadersAreWritten, NoneIsBelowVariables}
use Rattle.judged_laws.proofs.Signed.{classes_are_judged}
use Rattle.judged_laws.proofs.Supers.{AreInterfaces, IsOpen, interfaces-named, supers-by, written-named}
use Rattle.judged_laws.proofs.ClassDepth.{object-or}
use Rattle.judged_laws.proofs.Acyclic.{bound-by, bound-is, within}
use Rattle.judged_laws.proofs.Faults.{head-faults, in-parameters, parameter-faults}

abbrev None-of : List Fault → Type 0
None-of fs = (f : Fault) → ¬ Contains fs f

if-there : (test : Bool) (f : Fault) → None-of (where_so (not test) f) → test ≡ true
if-there true f h = refl
if-there false f h = absurd (h f (contains-here f []))

module _ (p : Source) (c : ℕ) (part : Part) where
  meaning-fits : (look : Look) (k : ℕ) (ts : SourceTypes) (span : Span) → None-of (by_meaning p look k span) →
      is_class_or_variable (in_limit (type_for p look k ts 0)) ≡ true
  meaning-fits waits k ts span h = absurd (h (unknown span) (contains-here (unknown span) []))
  meaning-fits nothing k ts span h = absurd (h (unknown span) (contains-here (unknown span) []))
  meaning-fits unclear k ts span h = absurd (h (unknown span) (contains-here (unknown span) []))
  meaning-fits (a_variable d at) k ts span h = refl
  meaning-fits (a_class d) k ts span h =
      ap (λ b. is_class_or_variable (in_limit (if b then of_class d ts 0 else null_type 0)))
      (if-there (nat_eq k (arity_of p d)) (out_of_profile span) h)

  -- a type without brackets, in which no name has a fault
  pub type-fits : (t : TypeName) → IsMade t → None-of (of_type p c part t) → is_class_or_variable (type_at p c part t) ≡ true
  type-fits (primitive word dims span) m h = absurd m
  type-fits (class_type q args dims span) m h =
      ap (λ n. is_class_or_variable (in_limit (type_for p (meaning p (settled p) c part q.parts) (count args) (types_named p (settled p) c part args) n))) m
      ∙ meaning-fits (meaning p (settled p) c part q.parts) (count args) (types_named p (settled p) c part args) q.span
      (λ f i. h f (in-left (of_name p c part q (count args)) (of_types p c part args) f
      (in-right _ (by_meaning p (meaning p (settled p) c part q.parts) (count args) q.span) f i)))

-- ---- the bounds of variables

module _ (source : Source) (sites : HasSites source) (free : first_fault source ≡ None) (written : HeadersAreWritten source) where
  module _ (c : ℕ) (le : library_count source ≤ c) (l : c < length (classes source)) where
    abbrev all : List TypeParameter
    all = parameters_in (site_at source.sites c).written

    guest : is_guest (site_at source.sites c).written ≡ true
    guest = sites.guests c le (within source c le l)

    bound-faults : (at : ℕ) (q : TypeParameter) → slice_get all at ≡ Some q → None-of (of_optional_type source c header q.bound)
    bound-faults at q there f i =
        none_is_fault_free source free f
        (parameter-faults source c (within source c le l) guest f
        (in-parameters source c all all 0 at q f there
        (in-left _ (cycle_in_bound _ q.bound) f (in-right (where_so _ (twice q.name.span)) (of_optional_type source c header q.bound) f i))))

    guest-bound : (at : ℕ) (o : Option TypeParameter) → slice_get all at ≡ o → is_class_or_variable (or_object (bound-by source c le l o)) ≡ true
    guest-bound at None there = refl
    guest-bound at (Some q) there = by q.bound refl
      where
        by : (b : Option TypeName) → q.bound ≡ b → is_class_or_variable (or_object (option_map (type_at source c header) b)) ≡ true
        by None e = refl
        by (Some t) e = type-fits source c header t (written.bounds c at q t there e)
            (λ f i. bound-faults at q there f (subst (λ o. Contains (of_optional_type source c header o) f) (sym e) i))

  library-bound : (o : _) (at : ℕ) →
      is_class_or_variable (or_object (slice_get (map class_head.bound_of (parameters_declared (number source) o)) at)) ≡ true
  library-bound None at = refl
  library-bound (Some x) zero = refl
  library-bound (Some x) (suc at) = refl

  pub bounds-fit : BoundsFit (heads source)
  bounds-fit c at = by (cases_lt c (library_count source)) (cases_lt c (length (classes source)))
    where
      by : (c < library_count source ⊎ library_count source ≤ c) → (c < length (classes source) ⊎ length (classes source) ≤ c) →
          is_class_or_variable (bound_of (heads source) c at) ≡ true
      by (inl l) other =
          let row = in-library source c l in
          ap (λ o. is_class_or_variable (or_object (slice_get (bounds_in o) at)))
          (head-there source c (class_declared (number source) c row.row) row.declared)
          ∙ library-bound row.row.bound at
      by (inr le) (inl l) =
          ap (λ o. is_class_or_variable (or_object o)) (bound-is source c le l at)
          ∙ guest-bound c le l at (slice_get (parameters_in (site_at source.sites c).written) at) refl
      by (inr le) (inr past) =
          ap (λ o. is_class_or_variable (or_object (slice_get (bounds_in o) at)))
          (heads-at source c ∙ ap (option_map (class_head.head_of (classes source) c)) (slice_get_past (classes source) c past))

-- ---- what headers name

-- a class with a head, or none
headed : (hs : List ClassHead) (t : SourceType) → is_class_or_variable t ≡ true → (o : Option ℕ) → class_in t ≡ o → (k : ℕ) → o ≡ Some k → IsClassType t
headed hs (of_class c args zero) fits o e k h = record { class = c; arguments = args; is = refl }
headed hs (of_class c args (suc n)) fits o e k h = absurd cc
headed hs (of_variable c at zero) fits o e k h = absurd (none-some k (e ∙ h))
headed hs (of_variable c at (suc n)) fits o e k h = absurd cc
headed hs (plain b n) fits o e k h = absurd cc

module _ (hs : List ClassHead) (t : SourceType) (fits : is_class_or_variable t ≡ true) where
  by-interface : is_interface hs t ≡ true → IsClassType t
  by-interface h = by (class_in t) refl h
    where
      by : (o : Option ℕ) → class_in t ≡ o → castable.is_interface_in (head_if hs o) ≡ true → IsClassType t
      by None e k = absurd cc
      by (Some c) e k = headed hs t fits (Some c) e c refl

  by-open : may_be_extended hs t ≡ true → IsClassType t
  by-open h = by (class_in t) refl h
    where
      by : (o : Option ℕ) → class_in t ≡ o → is_open_head (head_if hs o) ≡ true → IsClassType t
      by None e k = absurd cc
      by (Some c) e k = headed hs t fits (Some c) e c refl

behind-declared : (d : Declaration) (word : Span) (u : TypeName) (body : Members) → ¬ (declared d ≡ behind_new word u body)
behind-declared d word u body h = absurd cc

no-variable : (t : SourceType) → is_class_or_variable t ≡ true → ((d at n : ℕ) → ¬ (t ≡ of_variable d at n)) → IsClassType t
no-variable (of_class c args zero) fits h = record { class = c; arguments = args; is = refl }
no-variable (of_class c args (suc n)) fits h = absurd cc
no-variable (of_variable c at n) fits h = absurd (h c at n refl)
no-variable (plain b n) fits h = absurd cc

module _ (source : Source) (program : CoreProgram) (e : IsElaborated source program) (sites : HasSites source) (free : first_fault source ≡ None)
    (written : HeadersAreWritten source) (anonymous : NoneIsBelowVariables source) (c : ℕ) (le : library_count source ≤ c)
    (l : c < length (classes source)) where
  abbrev all-heads : List ClassHead
  all-heads = heads source

  abbrev site : Written
  site = (site_at source.sites c).written

  judged : IsJudged (signed source) c
  judged = classes_are_judged source program e sites c le (within source c le l)

  -- a type in the header is a class or a variable
  head-fits : (t : TypeName) → Contains (heads_of source c) t → is_class_or_variable (type_at source c header t) ≡ true
  head-fits t q =
      type-fits source c header t (written.heads c t q)
      (λ f i. none_is_fault_free source free f
      (head-faults source c (within source c le l) (sites.guests c le (within source c le l)) f
      (in-flat (of_head source c) (heads_of source c) t f q (in-right _ (of_type source c header t) f i))))

  abbrev AreClasses : Written → Type 0
  AreClasses w = (t : TypeName) → Contains (heads_in w) t → IsClassType (type_at source c header t)

  by-named : (w : Written) → w ≡ site → AreInterfaces all-heads (map (type_at source c header) (heads_in w)) ⊎ IsOpen all-heads (map (type_at source c header) (heads_in w)) →
      AreClasses w
  by-named w is (inl h) t q =
      by-interface all-heads (type_at source c header t) (head-fits t (subst (λ x. Contains (heads_in x) t) is q))
      (h _ (in-map (type_at source c header) (heads_in w) t (contained (heads_in w) t q)))
  by-named w is (inr h) t q =
      by-one (subst (λ ts. In ts (type_at source c header t)) h.are (in-map (type_at source c header) (heads_in w) t (contained (heads_in w) t q)))
    where
      fits : is_class_or_variable (type_at source c header t) ≡ true
      fits = head-fits t (subst (λ x. Contains (heads_in x) t) is q)

      by-one : In (h.above ∷ h.interfaces) (type_at source c header t) → IsClassType (type_at source c header t)
      by-one i = by_either
          (λ same. by-open all-heads (type_at source c header t) fits (subst (λ u. may_be_extended all-heads u ≡ true) (sym same) h.open_above))
          (λ r. by-interface all-heads (type_at source c header t) fits (h.each _ r))
          (in-cases h.above (type_at source c header t) h.interfaces i)

  are-classes : (w : Written) → w ≡ site → AreClasses w
  are-classes in_library is t q = absurd (contains-none t q)
  are-classes (behind_new word u body) is t q =
      no-variable (type_at source c header t) (head-fits t (subst (λ x. Contains (heads_in x) t) is q))
      (λ d at n h. anonymous c d at n word u body (sym is) (sym (ap (type_at source c header) (in-one u t (contained (u ∷ []) t q))) ∙ h))
  are-classes (declared d) is t q =
      by (is_interface_written (declared d)) refl
    where
      by : (b : Bool) → is_interface_written (declared d) ≡ b → IsClassType (type_at source c header t)
      by true i = by-named (declared d) is (inl (interfaces-named source c judged (declared d) i (subst (λ w. header_of (signed source) c w ≡ gives tt) (sym is) judged.header))) t q
      by false i = by-named (declared d) is
          (written-named source c judged (declared d) refl i (λ word u body h. absurd (behind-declared d word u body h))
          (subst (λ w. header_of (signed source) c w ≡ gives tt) (sym is) judged.header)) t q

  pub class-heads : (t : SourceType) → Contains (supers_of all-heads c) t → IsClassType t
  class-heads t q =
      by_either
      (λ same. record { class = object_class.0; arguments = no_source_types; is = sym same })
      (λ r. let w = from-map (type_at source c header) (heads_in site) t r in
      subst IsClassType w.2 (are-classes site refl w.0 w.1))
      (object-or _ (map (type_at source c header) (heads_in site)) t
      (subst (λ ts. Contains ts t) (supers-by source c le (guest-declared source c le (within source c le l))) q))

pub heads_are_classes : (source : Source) (program : CoreProgram) (e : IsElaborated source program) → HeadsNameClasses source program e
heads_are_classes source program e sites names written anonymous c t le q = by (cases_lt c (length (classes source)))
  where
    by : (c < length (classes source) ⊎ length (classes source) ≤ c) → IsClassType t
    by (inl l) = class-heads source program e sites names.faultless written anonymous c le l t q
    by (inr past) = absurd (contains-none t
        (subst (λ o. Contains (heads_of_all.supers_in o) t)
        (heads-at source c ∙ ap (option_map (class_head.head_of (classes source) c)) (slice_get_past (classes source) c past)) q))
