-- The library's classes themselves fit.
use Rattle.std.proofs.Common.{◌≡◌, ◌<◌, ℕ, zero, suc, List, [], ◌∷◌, length, Option, Some, None, refl, sym, ap, subst, ◌∙◌, arith}
use Rattle.std.specs.Prelude.{is_none, is_some, Bool, true, false, not, ◌&&◌, ◌||◌, slice_get, nat_eq, codes, if◌then◌else◌}
use Rattle.std.specs.List.{All, Contains, list_any}
use Rattle.std.specs.Str.{bytes_eq}
use Rattle.std.proofs.lemmas.Bool.Decides.{nat_tests}
use Rattle.std.proofs.lemmas.List.{length-append}
use Rattle.std.proofs.lemmas.List.Elements.{All-nil, All-cons}
use Rattle.std.proofs.lemmas.Option.{same_Some}
use Rattle.je_base.specs.declared.span.NameId.{NameId}
use Rattle.je_core.specs.declared.program.Bridge.{Bridge}
use Rattle.je_core.specs.declared.program.Sort.TheVariants as sort
use Rattle.je_core.specs.declared.types.ClassId.{ClassId}
use Rattle.je_core.specs.Core.{CoreMethod, CoreProgram}
use Rattle.je_table.specs.declared.classes.LibraryClass.TheVariants as class
use Rattle.je_table.specs.Library.{Class, class_row, classes}
use Rattle.je_table.specs.Rows.{Row}
use Rattle.je_classes.specs.Dispatch.{bridged, bridged_in, bridged_or, dispatched, implemented, implemented_or_private, implemented_upwards, is_own, own_from, placed, same_signature}
use Rattle.je_classes.specs.Hierarchy.{class_at, is_below, library_class, object_class, same_class, supers_in, supers_of, Below, same, above}
use Rattle.je_classes.specs.Laws.{SubtypesAreDecided}
use Rattle.je_classes.specs.Members.{Member, is_private, method_of, methods_in}
use Rattle.je_classes.proofs.Below.{below-from, below-to, same_class-equal}
use Rattle.je_classes.proofs.Lists.{contains-here, contains-later}
use Rattle.je_fitting.specs.Classes.{BridgeFits, ClassFits, Implements, InheritedFit, IsInstanceMethod, SuperclassFits, can_be_extended, is_interface, none_above, one_above}
use Rattle.je_fitting.specs.Expressions.{can_be_made, is_interface_sort, method_at}
use Rattle.je_fitting.specs.Members.{is_guest}
use Rattle.je_fitting.proofs.Booleans.{two, is_false}
use Rattle.je_sound.proofs.Lists.{all-places}
use Rattle.je_sound.proofs.Dispatched.{is-implemented, own-at}
use Rattle.library_classes.specs.Library.{LibraryStands, all_due, bridges_due, class_due, compare_bridge, interfaces_due, method_due, rows, sort_due, superclass_due}
use Rattle.library_fits.proofs.Named.{method-there}
use Rattle.library_fits.proofs.Inherited.{found, implemented-in, own-itself, own-some}
use Rattle.library_fits.proofs.Members.{HasRow, IsMethod, above-row, all-passing, at-passes, mapped, method-row, round-row, stands-for}
use Rattle.library_fits.proofs.Rounds.{above-within, all-of, in-list, round-above}
use Rattle.library_fits.proofs.Table.{apart, class-there}
use Rattle.library_fits.proofs.Tests.{are_supers_right, bridging, each-row, implementing, interfaces-alone, is-round, is_alone, is_below_none, is_bridging, is_extensible, is_implementing, is_row, is_up, methods_by, none-below, round_of, supers-right, supers_by}

count : (number : List ℕ → NameId) → length (all_due number) ≡ 39
unfolding all_due
count number = refl

contains-at : {A : Type 0} (xs : List A) (at : ℕ) (x : A) → slice_get xs at ≡ Some x → Contains xs x
contains-at [] at x e = absurd cc
contains-at (y ∷ xs) zero x e = subst (Contains (y ∷ xs)) (same_Some y x e) (contains-here y xs)
contains-at (y ∷ xs) (suc at) x e = contains-later y x xs (contains-at xs at x e)

not-static : (m : CoreMethod) → is_own m ≡ true → m.flags.is_static ≡ false
not-static m e = by m.flags.is_static refl
  where
    by : (b : Bool) → m.flags.is_static ≡ b → b ≡ false
    by false q = refl
    by true q = absurd (let z : is_own m ≡ false = rw q refl in apart e z)

no-method : (e : Class) → nat_eq (length (methods_by e)) 0 ≡ true → (at : ℕ) (r : Row) → ¬ (slice_get (methods_by e) at ≡ Some r)
no-method e h at r q = by (methods_by e) h q
  where
    by : (rs : List Row) → nat_eq (length rs) 0 ≡ true → ¬ (slice_get rs at ≡ Some r)
    by [] z g = absurd cc
    by (x ∷ rs) z g = absurd (let n : suc (length rs) ≡ 0 = grind (arith, nat_tests, z) in omega (arith, n))

module _ (decided : SubtypesAreDecided) (p : CoreProgram) (s : LibraryStands p) (k : ClassId) (c : Class) (there : slice_get classes k.0 ≡ Some c) (g : is_guest k ≡ false) where
  many : 5 < length p.classes
  many = omega (arith, ap length s.first, length-append (all_due s.number) s.others, count s.number)

  itself-among : list_any (same_class k) (round_of k) ≡ true
  itself-among = (is-round s.number k c there).among

  -- a method above it
  record IsAbove (d : ClassId) (at : ℕ) (j : CoreMethod) : Type 0 where
    among : list_any (same_class d) (round_of k) ≡ true
    method : IsMethod decided p s d at j

  is-above : (d : ClassId) (at : ℕ) (j : CoreMethod) → IsInstanceMethod p k d at j → IsAbove d at j
  is-above d at j i = let a = above-row decided p s k c there g d i.is_above in record { among = a.0; method = method-row decided p s d a.1 at j i.there }

  -- ---- what it inherits

  of-class : c.is_interface ≡ false → InheritedFit p k
  unfolding implemented
  of-class n d at j i private none m by h other there' =
      let a = is-above d at j i in
      let place = implemented-in p s j k c there (length p.classes) k c there n itself-among m h in
      let it = is-implemented p j k m h in
      let one : it.by ≡ by = same_Some it.by by (sym it.there ∙ there') in
      let own = two {a = is_own it.by} {b = same_signature it.by j} it.passes in
      let static = subst (λ (x : CoreMethod). x.flags.is_static ≡ false) one (not-static it.by own.0) in
      stands-for decided p s k c there m.class d place a.among m.at at by j (method-row decided p s m.class (row-of m.class place) m.at by there') a.method
      (subst (λ (x : CoreMethod). same_signature x j ≡ true) one own.1) (ap (λ b. b && j.flags.is_static) static) i.no_constructor
    where
      row-of : (d : ClassId) → list_any (same_class d) (round_of k) ≡ true → HasRow d
      row-of d h = round-row k c there d (in-list d (round_of k) h)

  -- an interface inherits nothing that runs
  of-interface : c.is_interface ≡ true → InheritedFit p k
  unfolding implemented
  of-interface n d at j i private none m by h other there' = absurd (nothing (length p.classes) h)
    where
      a : IsAbove d at j
      a = is-above d at j i

      alone : (same_class d k || is_row (λ (e : Class). nat_eq (length (methods_by e)) 0) (slice_get classes d.0)) ≡ true
      alone = all-of (λ (d : ClassId). same_class d k || is_row (λ (e : Class). nat_eq (length (methods_by e)) 0) (slice_get classes d.0)) (round_of k)
          (rw n at (each-row is_alone interfaces-alone k c there)) d (in-list d (round_of k) a.among)

      itself : same_class d k ≡ true
      itself = by-case (same_class d k) refl (slice_get classes d.0) refl
        where
          by-case : (b : Bool) → same_class d k ≡ b → (o : Option Class) → slice_get classes d.0 ≡ o → b ≡ true
          by-case true q o z = refl
          by-case false q None z = absurd (let y = sym z ∙ a.method.there in cc)
          by-case false q (Some e) z = absurd (no-method e (rw (q, z) at alone) at a.method.row (subst (λ (x : Class). slice_get (methods_by x) at ≡ Some a.method.row) (same_Some a.method.class e (sym a.method.there ∙ z)) a.method.stands))

      here : slice_get (class_due s.number k.0 c).methods at ≡ Some j
      here = sym (ap (λ o. slice_get (methods_in o) at) (class-there p s k c there)) ∙ subst (λ (x : ClassId). method_at p x at ≡ Some j) (same_class-equal d k itself) i.there

      abstract-ones : (x : ℕ × CoreMethod) → own_from j 0 (class_due s.number k.0 c).methods ≡ Some x → x.1.flags.is_abstract ≡ true
      abstract-ones x q =
          let o = own-at j 0 (class_due s.number k.0 c).methods x.0 x.1 q in
          let r = mapped (method_due s.number c) (methods_by c) o.at x.1 o.there in
          ap (λ (y : CoreMethod). y.flags.is_abstract) (sym r.2) ∙ n

      nothing : (fuel : ℕ) → ¬ (implemented_upwards p fuel j (Some k) ≡ Some m)
      nothing zero q = absurd cc
      nothing (suc fuel) q = by-own (own_from j 0 (class_due s.number k.0 c).methods) _ refl (own-some j (own-itself j i.own private) 0 (class_due s.number k.0 c).methods at here) (rw (class-there p s k c there) at q)
        where
          by-own : (o : Option (ℕ × CoreMethod)) (higher : Option Member) → own_from j 0 (class_due s.number k.0 c).methods ≡ o → is_some o ≡ true → ¬ (placed k o higher ≡ Some m)
          by-own None higher z y w = absurd cc
          by-own (Some x) higher z y w = let v = rw (abstract-ones x z) at w in absurd cc

  inherited-fits : InheritedFit p k
  inherited-fits = by c.is_interface refl
    where
      by : (b : Bool) → c.is_interface ≡ b → InheritedFit p k
      by true q = of-interface q
      by false q = of-class q

  -- ---- that it has each method above it

  not-private : (d : ClassId) (at : ℕ) (j : CoreMethod) → IsMethod decided p s d at j → is_private j ≡ false
  not-private d at j i = subst (λ (x : CoreMethod). is_private x ≡ false) i.is refl

  by-class : (d : ClassId) (at : ℕ) (j : CoreMethod) → IsInstanceMethod p k d at j → c.is_interface ≡ false → is_up 5 k d ≡ true → is_some (dispatched p k (record { class = d; at = at })) ≡ true
  unfolding dispatched implemented
  by-class d at j i n up =
      let private = not-private d at j (is-above d at j i).method in
      or-else (bridged (class_at p k) (record { class = d; at = at })) _
      (ap (λ o. is_some (implemented_or_private p k (record { class = d; at = at }) o)) i.there ∙ (rw private (found p s j (own-itself j i.own private) d at i.there 5 (length p.classes) many k c there n up)))
    where
      or-else : (x y : Option Member) → is_some y ≡ true → is_some (bridged_or x y) ≡ true
      or-else None y h = h
      or-else (Some z) y h = refl

  -- `compareTo` of Comparable, which String has by its bridge
  by-bridge : (d : ClassId) (at : ℕ) (j : CoreMethod) → IsMethod decided p s d at j → k.0 ≡ 1 → d.0 ≡ 7 → is_some (dispatched p k (record { class = d; at = at })) ≡ true
  unfolding dispatched rows library_class
  by-bridge d at j i one seven = by at (subst (λ (x : Class). slice_get (methods_by x) at ≡ Some i.row) comparable-row i.stands)
    where
      comparable-row : i.class ≡ class_row class.Comparable
      comparable-row = sym (same_Some _ i.class (sym (ap (slice_get classes) seven) ∙ i.there))

      string-row : c ≡ class_row class.String
      string-row = sym (same_Some _ c (sym (ap (slice_get classes) one) ∙ there))

      bridge-there : is_some (bridged (class_at p k) (record { class = d; at = 0 })) ≡ true
      bridge-there = ap (λ o. is_some (bridged o (record { class = d; at = 0 }))) (class-there p s k c there) ∙
          subst (λ (x : Class). is_some (bridged_in (bridges_due x) (record { class = d; at = 0 })) ≡ true) (sym string-row) (rw seven refl)

      first-some : (x y : Option Member) → is_some x ≡ true → is_some (bridged_or x y) ≡ true
      first-some None y h = absurd cc
      first-some (Some z) y h = refl

      by : (at : ℕ) → slice_get (methods_by (class_row class.Comparable)) at ≡ Some i.row → is_some (dispatched p k (record { class = d; at = at })) ≡ true
      by zero q = first-some (bridged (class_at p k) (record { class = d; at = 0 })) (implemented_or_private p k (record { class = d; at = 0 }) (method_of p (record { class = d; at = 0 }))) bridge-there
      by (suc at) q = absurd cc

  implements-fits : can_be_made (class_due s.number k.0 c) ≡ true → Implements p k
  implements-fits made d at j i = by (slice_get classes d.0) refl at-row
    where
      a : IsAbove d at j
      a = is-above d at j i

      class : c.is_interface ≡ false
      class = by-case c.is_interface refl
        where
          by-case : (b : Bool) → c.is_interface ≡ b → b ≡ false
          by-case false q = refl
          by-case true q = absurd (let z : can_be_made (class_due s.number k.0 c) ≡ false = rw q refl in apart made z)

      test : Class → Bool
      test e = if e.is_interface then nat_eq (length (methods_by e)) 0 || (nat_eq k.0 1 && nat_eq d.0 7) else is_up 5 k d

      at-row : is_row test (slice_get classes d.0) ≡ true
      at-row = all-of (λ (d : ClassId). is_row (λ (e : Class). if e.is_interface then nat_eq (length (methods_by e)) 0 || (nat_eq k.0 1 && nat_eq d.0 7) else is_up 5 k d) (slice_get classes d.0)) (round_of k)
          (rw class at (each-row is_implementing implementing k c there)) d (in-list d (round_of k) a.among)

      by-sort : (e : Class) → a.method.class ≡ e → (b : Bool) → e.is_interface ≡ b → test e ≡ true → is_some (dispatched p k (record { class = d; at = at })) ≡ true
      by-sort e alike false q h = by-class d at j i class (rw q at h)
      by-sort e alike true q h = by-case (nat_eq (length (methods_by e)) 0) refl
        where
          by-case : (b : Bool) → nat_eq (length (methods_by e)) 0 ≡ b → is_some (dispatched p k (record { class = d; at = at })) ≡ true
          by-case true z = absurd (no-method e z at a.method.row (subst (λ (x : Class). slice_get (methods_by x) at ≡ Some a.method.row) alike a.method.stands))
          by-case false z = let v = two {a = nat_eq k.0 1} (rw (q, z) at h) in by-bridge d at j a.method (grind (arith, nat_tests, v.0)) (grind (arith, nat_tests, v.1))

      by : (o : Option Class) → slice_get classes d.0 ≡ o → is_row test o ≡ true → is_some (dispatched p k (record { class = d; at = at })) ≡ true
      by None q h = absurd cc
      by (Some e) q h = by-sort e (same_Some a.method.class e (sym a.method.there ∙ q)) e.is_interface refl h

  -- ---- its supers

  superclass-fits : SuperclassFits p k (class_due s.number k.0 c) (superclass_due c)
  superclass-fits = by (same_class k object_class || c.is_interface) refl
      (two {a = if same_class k object_class || c.is_interface then is_none (superclass_due c) else is_extensible (superclass_due c)} (each-row are_supers_right supers-right k c there)).0
    where
      sorts : (x y : Bool) → (x || is_interface_sort (if y then sort.Interface else sort.Class)) ≡ (x || y)
      sorts x true = refl
      sorts x false = refl

      none : (o : Option ClassId) → is_none o ≡ true → (same_class k object_class || is_interface_sort (sort_due c)) ≡ true → SuperclassFits p k (class_due s.number k.0 c) o
      none None h e = none_above e
      none (Some d) h e = absurd cc

      extended : (d : ClassId) (o : Option Class) → slice_get classes d.0 ≡ o → is_row (λ (c : Class). not c.is_interface && not c.is_final) o ≡ true → can_be_extended (class_at p d) ≡ true
      extended d None q h = absurd cc
      extended d (Some r) q h = let t = two {a = not r.is_interface} h in rw (class-there p s d r q, is_false t.0, is_false t.1) refl

      one : (o : Option ClassId) → is_extensible o ≡ true → (same_class k object_class || is_interface_sort (sort_due c)) ≡ false → SuperclassFits p k (class_due s.number k.0 c) o
      one None h e = absurd cc
      one (Some d) h e = one_above e (extended d (slice_get classes d.0) refl h)

      by : (b : Bool) → (same_class k object_class || c.is_interface) ≡ b → (if b then is_none (superclass_due c) else is_extensible (superclass_due c)) ≡ true → SuperclassFits p k (class_due s.number k.0 c) (superclass_due c)
      by true q h = none (superclass_due c) h (sorts (same_class k object_class) c.is_interface ∙ q)
      by false q h = one (superclass_due c) h (sorts (same_class k object_class) c.is_interface ∙ q)

  interfaces-fit : All (λ i. is_interface (class_at p i) ≡ true) (interfaces_due c)
  interfaces-fit = all-passing (λ (i : ClassId). is_row (λ (d : Class). d.is_interface) (slice_get classes i.0)) (λ i. is_interface (class_at p i) ≡ true) (λ i h. by i (slice_get classes i.0) refl h) (interfaces_due c)
      (two {a = if same_class k object_class || c.is_interface then is_none (superclass_due c) else is_extensible (superclass_due c)} (each-row are_supers_right supers-right k c there)).1
    where
      by : (i : ClassId) (o : Option Class) → slice_get classes i.0 ≡ o → is_row (λ (d : Class). d.is_interface) o ≡ true → is_interface (class_at p i) ≡ true
      by i None q h = absurd cc
      by i (Some d) q h = rw (class-there p s i d q, h) refl

  supers-are : supers_of p k ≡ supers_by (Some c)
  supers-are = ap supers_in (class-there p s k c there)

  acyclic : All (λ d. is_below p d k ≡ false) (supers_of p k)
  acyclic = subst (All (λ d. is_below p d k ≡ false)) (sym supers-are) (all-places (λ d. is_below p d k ≡ false) (supers_by (Some c)) (λ at d e. not-above at d e))
    where
      not-above : (at : ℕ) (d : ClassId) → slice_get (supers_by (Some c)) at ≡ Some d → is_below p d k ≡ false
      not-above at d e = by (is_below p d k) refl
        where
          among : list_any (same_class d) (round_of k) ≡ true
          among = above-within p s k (round_of k) (is-round s.number k c there) k d itself-among (subst (λ xs. Contains xs d) (sym supers-are) (contains-at (supers_by (Some c)) at d e))

          row : HasRow d
          row = round-row k c there d (in-list d (round_of k) among)

          outside : list_any (same_class k) (round_of d) ≡ false
          outside = is_false (at-passes (λ s. not (list_any (same_class k) (round_of s))) (supers_by (Some c)) (each-row is_below_none none-below k c there) at d e)

          by : (b : Bool) → is_below p d k ≡ b → b ≡ false
          by false q = refl
          by true q = apart (round-above p s d (round_of d) (is-round s.number d row.row row.there) (below-to p d k q)) outside

  -- ---- its bridges

  string-itself : bytes_eq c.name (codes "java.lang.String") ≡ true → k.0 ≡ 1
  string-itself e = let h = rw e at (each-row is_bridging bridging k c there) in grind (arith, nat_tests, h)

  bridge-fits : k.0 ≡ 1 → BridgeFits p k compare_bridge
  unfolding library_class all_due rows
  bridge-fits one = record {
    from = _;
    to = _;
    from_there = method-there p s (record { 0 = 7 }) 0 _ refl;
    to_there = method-there p s (record { 0 = 1 }) 1 _ refl;
    from_above = below-from p (above (subst (λ xs. Contains xs (record { 0 = 7 })) (sym (supers-are ∙ ap (λ x. supers_by (Some x)) string-row)) (contains-later (record { 0 = 0 }) (record { 0 = 7 }) (record { 0 = 7 } ∷ []) (contains-here (record { 0 = 7 }) []))) same);
    to_above = below-from p (subst (Below p k) itself same);
    from_own = refl;
    to_own = refl;
    to_concrete = refl;
    name = grind (arith, nat_tests);
    params = refl;
    result = refl;
  }
    where
      string-row : c ≡ class_row class.String
      string-row = sym (same_Some _ c (sym (ap (slice_get classes) one) ∙ there))

      itself : k ≡ record { 0 = 1 }
      itself = ap (λ n. record { 0 = n }) one

  bridges-fit : All (BridgeFits p k) (bridges_due c)
  bridges-fit = by (bytes_eq c.name (codes "java.lang.String")) refl
    where
      by : (b : Bool) → bytes_eq c.name (codes "java.lang.String") ≡ b → All (BridgeFits p k) (if b then compare_bridge ∷ [] else [])
      by true q = All-cons (BridgeFits p k) compare_bridge [] (bridge-fits (string-itself q)) (All-nil (BridgeFits p k))
      by false q = All-nil (BridgeFits p k)

  one-bridge : (i j : ℕ) (a b : Bridge) → slice_get (bridges_due c) i ≡ Some a → slice_get (bridges_due c) j ≡ Some b → i ≡ j
  one-bridge i j a b = by (bytes_eq c.name (codes "java.lang.String")) i j
    where
      by : (x : Bool) (i j : ℕ) → slice_get (if x then compare_bridge ∷ [] else []) i ≡ Some a → slice_get (if x then compare_bridge ∷ [] else []) j ≡ Some b → i ≡ j
      by true zero zero e f = refl
      by true zero (suc j) e f = absurd cc
      by true (suc i) j e f = absurd cc
      by false i j e f = absurd cc

  pub class-fits : ClassFits p k (class_due s.number k.0 c)
  class-fits = record {
    superclass = superclass-fits;
    interfaces = interfaces-fit;
    not_above_itself = acyclic;
    not_round_itself = refl;
    heads = All-nil _;
    round = λ d e. absurd cc;
    top = ap is_some (class-there p s k c there);
    outer = λ d e. absurd cc;
    hidden = λ e. apart e g;
    bridges = bridges-fit;
    one_bridge = λ i j a b e f q. one-bridge i j a b e f;
    inherited = inherited-fits;
    implements = implements-fits;
    initializers = All-nil _;
  }
