-- In the core program, too, a class that may be extended stands above a class, and interfaces.
use Rattle.std.proofs.Common.{◌≡◌, ℕ, ◌<◌, ◌≤◌, List, [], ◌∷◌, ◌++◌, length, map, Option, Some, None, refl, sym, ap, ◌∙◌, subst, arith}
use Rattle.std.specs.Prelude.{Bool, true, false, not, ◌||◌, drop, if◌then◌else◌, option_map, slice_get}
use Rattle.std.proofs.lemmas.Option.{none-some, same_Some, slice_get_within}
use Rattle.je_core.specs.declared.types.ClassId.{ClassId}
use Rattle.je_core.specs.Core.{CoreClass, CoreProgram}
use Rattle.je_ast.specs.Types.{TypeName}
use Rattle.je_classes.specs.Hierarchy.{class_at, object_class, same_class}
use Rattle.je_classes.specs.Members.{In, first, further}
use Rattle.je_classes.proofs.Lists.{bool_cases}
use Rattle.je_classes.proofs.Sets.{by_either, in-either}
use Rattle.je_fitting.specs.Classes.{SuperclassFits, can_be_extended, none_above, one_above}
use Rattle.je_fitting.specs.Expressions as fitting
use Rattle.je_fitting.specs.Members as fitting_members
use Rattle.je_scopes.specs.Headers.{heads_in, is_interface_sort, site_at}
use Rattle.je_scopes.specs.Scope.{header}
use Rattle.je_scopes.specs.Settled.{parts_of, settled}
use Rattle.je_scopes.specs.Sites.{Written}
use Rattle.je_scopes.specs.Source.{Source}
use Rattle.je_scopes.specs.SourceTypes.{SourceType}
use Rattle.je_scopes.proofs.Ranges.{named-are}
use Rattle.source_types.specs.Erasure.{class_numbered}
use Rattle.source_types.specs.Heads.{ClassHead, head_at, object_type, supers_of}
use Rattle.declarations.specs.Declarations.{DeclaredClass, declared_class, type_at}
use Rattle.class_heads.specs.Headers.{begins_with_class}
use Rattle.class_heads.specs.Headers as class_head
use Rattle.je_typing.specs.Castable as castable
use Rattle.fitting_laws.proofs.Lists.{contains-in, in-one}
use Rattle.header_typing.specs.Supers.{class_in, head_of, is_interface, is_open_head, may_be_extended}
use Rattle.class_typing.specs.Captures.{listed}
use Rattle.class_typing.specs.Classes.{classes_of_types, interfaces_if, superclass_if}
use Rattle.class_typing.specs.Programs.{classes, heads, library_count, plain_program, with_enum_methods}
use Rattle.elaborated_laws.specs.Elaborated.{IsElaborated, IsMade}
use Rattle.elaborated_laws.specs.Premises.{HasSites, HeadsAreClasses, IsClassType}
use Rattle.elaborated_laws.proofs.Classes.{classes-count}
use Rattle.elaborated_laws.proofs.Declared.{head-there, heads-are, heads-at}
use Rattle.elaborated_laws.proofs.Guests.{guest-declared, within-sites}
use Rattle.elaborated_laws.proofs.Heads.{kinds_stand}
use Rattle.elaborated_laws.proofs.Lists.{placed}
use Rattle.judged_laws.specs.Judged.{IsJudged}
use Rattle.judged_laws.specs.Laws.{HeadersStand, signed}
use Rattle.judged_laws.specs.Parts.{HeaderStands}
use Rattle.judged_laws.proofs.ClassDepth.{far, has-library, names-class}
use Rattle.judged_laws.proofs.Signed.{classes_are_judged}
use Rattle.judged_laws.proofs.Sorts.{same-sorts, sort-is}
use Rattle.judged_laws.proofs.Supers.{AreInterfaces, HasHead, IsOpen, interfaces-named, named-by, open-supers, supers-of-class, supers-of-interface, written-named}

module _ (source : Source) (program : CoreProgram) (e : IsElaborated source program) where
  abbrev all-heads : List ClassHead
  all-heads = heads source

  -- a class of the core program by its head
  record Stands (k : ℕ) (h : ClassHead) : Type 0 where
    class : CoreClass
    there : class_at program (class_numbered k) ≡ Some class
    sort : fitting.is_interface_sort class.kind.sort ≡ is_interface_sort h.kind.sort
    final : class.kind.is_final ≡ h.kind.is_final

  by-head : (k : ℕ) (h : ClassHead) → head_at all-heads k ≡ Some h → Stands k h
  by-head k h is =
      let within : k < length (classes source) = declared-within (slice_get (classes source) k) refl in
      let c = placed program.classes k (subst (λ n. k < n) (sym e.has.count) within) in
      let stands = kinds_stand source program e k c.element c.is in
      let same : stands.head ≡ h = same_Some stands.head h (sym stands.there ∙ ap (λ hs. head_at hs k) (heads-are source e.first) ∙ is) in
      record {
        class = c.element;
        there = c.is;
        sort = same-sorts c.element.kind.sort ∙ ap is_interface_sort stands.sort ∙ ap (λ (x : ClassHead). is_interface_sort x.kind.sort) same;
        final = stands.is_final ∙ ap (λ (x : ClassHead). x.kind.is_final) same;
      }
    where
      declared-within : (o : Option DeclaredClass) → slice_get (classes source) k ≡ o → k < length (classes source)
      declared-within (Some d) there = slice_get_within (classes source) k d there
      declared-within None there = absurd (none-some h
          (sym (heads-at source k ∙ ap (option_map (class_head.head_of (classes source) k)) there) ∙ is))

  core-interface : (k : ℕ) (o : Option ClassHead) → head_at all-heads k ≡ o → castable.is_interface_in o ≡ true →
      fitting_members.is_interface (class_at program (class_numbered k)) ≡ true
  core-interface k None is h = absurd cc
  core-interface k (Some x) is h = let s = by-head k x is in ap fitting_members.is_interface s.there ∙ s.sort ∙ h

  core-open : (k : ℕ) (o : Option ClassHead) → head_at all-heads k ≡ o → is_open_head o ≡ true → can_be_extended (class_at program (class_numbered k)) ≡ true
  core-open k None is h = absurd cc
  core-open k (Some x) is h = let s = by-head k x is in
      ap can_be_extended s.there ∙ ap (λ b. not (b || s.class.kind.is_final)) s.sort ∙ ap (λ b. not (is_interface_sort x.kind.sort || b)) s.final ∙ h

  all-interfaces : (ts : List SourceType) → ((t : SourceType) → In ts t → IsClassType t) → AreInterfaces all-heads ts → (d : ClassId) →
      In (classes_of_types ts) d → fitting_members.is_interface (class_at program d) ≡ true
  all-interfaces [] are h d i = elim i [ ]
  all-interfaces (t ∷ ts) are h d i =
      by_either (of-one (are t first) (h t first))
      (all-interfaces ts (λ u k. are u (further k)) (λ u k. h u (further k)) d)
      (in-either (map class_numbered (listed (class_in t))) i)
    where
      of-one : IsClassType t → is_interface all-heads t ≡ true → In (map class_numbered (listed (class_in t))) d →
          fitting_members.is_interface (class_at program d) ≡ true
      of-one is k j =
          let same : d ≡ class_numbered is.class = in-one (class_numbered is.class) d (subst (λ u. In (map class_numbered (listed (class_in u))) d) is.is j) in
          subst (λ x. fitting_members.is_interface (class_at program x) ≡ true) (sym same)
          (core-interface is.class (head_at all-heads is.class) refl (subst (λ u. is_interface all-heads u ≡ true) is.is k))

  -- ---- a class of the source

  module _ (sites : HasSites source) (classes-named : HeadsAreClasses source) (c : ℕ) (class : CoreClass) (le : library_count source ≤ c)
      (there : class_at program (class_numbered c) ≡ Some class) where
    within-classes : c < length (classes source)
    within-classes = subst (λ n. c < n) e.has.count (slice_get_within program.classes c class there)

    within : c < length source.sites
    within = within-sites source c le (subst (λ n. c < n) (classes-count source) within-classes)

    judged : IsJudged (signed source) c
    judged = classes_are_judged source program e sites c le within

    declared-there : slice_get (classes source) c ≡ Some (with_enum_methods source c (declared_class source c))
    declared-there = guest-declared source c le within

    made : IsMade source e.first c class
    made = e.has.guests c class le there

    abbrev interface : Bool
    interface = is_interface_sort (site_at source.sites c).sort

    abbrev written : Written
    written = (site_at source.sites c).written

    above-named : (t : SourceType) → In (supers_of all-heads c) t → IsClassType t
    above-named t i = classes-named c t le (contains-in (supers_of all-heads c) t i)

    superclass-is : class.superclass ≡ superclass_if interface (classes_of_types (supers_of all-heads c))
    unfolding plain_program
    superclass-is = ap (λ (k : CoreClass). k.superclass) made.is

    interfaces-are : class.interfaces ≡ interfaces_if interface (classes_of_types (supers_of all-heads c))
    unfolding plain_program
    interfaces-are = ap (λ (k : CoreClass). k.interfaces) made.is

    core-sort : fitting.is_interface_sort class.kind.sort ≡ interface
    core-sort = same-sorts class.kind.sort ∙ ap is_interface_sort (sort-is source program e c class made declared-there)

    -- a class behind `new` is one of the source
    class-there : (t : TypeName) → In (supers_of all-heads c) (type_at source c header t) →
        (h : ClassHead) × (head_of all-heads (type_at source c header t) ≡ Some h)
    class-there t i =
        let is = above-named (type_at source c header t) i in
        let k = named-are source (has-library source c le within-classes) (settled source) c header (parts_of t) is.class
        (names-class source c t is.class is.arguments is.is) in
        let d = placed (classes source) is.class (omega (arith, k, classes-count source)) in
        (class_head.head_of (classes source) is.class d.element, ap (head_of all-heads) is.is ∙ head-there source is.class d.element d.is)

    -- ---- an interface

    when-interface : interface ≡ true → HeaderStands program (class_numbered c) class
    when-interface i =
        let supers = supers-of-interface source c le declared-there i in
        let each : AreInterfaces all-heads (supers_of all-heads c) =
        subst (AreInterfaces all-heads) (sym supers) (interfaces-named source c judged written (sym (sites.interfaces c) ∙ i) judged.header) in
        record {
          superclass = subst (SuperclassFits program (class_numbered c) class)
              (sym (superclass-is ∙ ap (λ b. superclass_if b (classes_of_types (supers_of all-heads c))) i))
              (none_above (ap (λ b. same_class (class_numbered c) object_class || b) (core-sort ∙ i) ∙ or-true (same_class (class_numbered c) object_class)));
          interfaces = λ d k. all-interfaces (supers_of all-heads c) above-named each d
              (subst (λ ds. In ds d) (interfaces-are ∙ ap (λ b. interfaces_if b (classes_of_types (supers_of all-heads c))) i) k);
        }
      where
        or-true : (b : Bool) → (b || true) ≡ true
        or-true true = refl
        or-true false = refl

    -- ---- a class

    has-head : interface ≡ false → HasHead source c judged written
    has-head i word t body is = class-there t (subst (λ ts. In ts (type_at source c header t)) (sym (supers-of-class source c le declared-there i))
        (by (begins_with_class (classes source) (named-by source c le declared-there))))
      where
        among : In (named-by source c le declared-there) (type_at source c header t)
        among = subst (λ w. In (map (type_at source c header) (heads_in w)) (type_at source c header t)) (sym is) first

        by : (b : Bool) → In (if b then named-by source c le declared-there else object_type ∷ named-by source c le declared-there) (type_at source c header t)
        by true = among
        by false = further among

    when-open : interface ≡ false → IsOpen all-heads (supers_of all-heads c) → HeaderStands program (class_numbered c) class
    when-open i o =
        let first-named = above-named o.above (subst (λ ts. In ts o.above) (sym o.are) first) in
        let rest-named = λ (t : SourceType) (k : In o.interfaces t). above-named t (subst (λ ts. In ts t) (sym o.are) (further k)) in
        let above : classes_of_types (supers_of all-heads c) ≡ class_numbered first-named.class ∷ classes_of_types o.interfaces =
        ap classes_of_types o.are ∙ ap (λ t. map class_numbered (listed (class_in t)) ++ classes_of_types o.interfaces) first-named.is in
        record {
          superclass = subst (SuperclassFits program (class_numbered c) class)
              (sym (superclass-is ∙ ap (λ b. superclass_if b (classes_of_types (supers_of all-heads c))) i ∙ ap (superclass_if false) above))
              (one_above (ap (λ b. same_class (class_numbered c) object_class || b) (core-sort ∙ i) ∙ ap (λ b. b || false) (far source c le))
              (core-open first-named.class (head_at all-heads first-named.class) refl
              (subst (λ t. may_be_extended all-heads t ≡ true) first-named.is o.open_above)));
          interfaces = λ d k. all-interfaces o.interfaces rest-named o.each d
              (subst (λ ds. In ds d) (interfaces-are ∙ ap (λ b. interfaces_if b (classes_of_types (supers_of all-heads c))) i ∙ ap (drop 1) above) k);
        }

    header-stands : HeaderStands program (class_numbered c) class
    header-stands =
        bool_cases (λ b. HeaderStands program (class_numbered c) class) interface when-interface
        (λ i. when-open i (open-supers source c le declared-there i
        (written-named source c judged written (sites.guests c le within) (sym (sites.interfaces c) ∙ i) (has-head i) judged.header)))

pub headers_stand : (source : Source) (program : CoreProgram) (e : IsElaborated source program) → HeadersStand source program e
headers_stand source program e sites classes-named c class le there = header-stands source program e sites classes-named c class le there
