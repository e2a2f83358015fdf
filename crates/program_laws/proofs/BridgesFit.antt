-- The bridges of the classes of a source fit.
use Rattle.std.proofs.Common.{◌≡◌, ℕ, suc, ◌<◌, ◌≤◌, List, [], ◌∷◌, map, Some, length, refl, sym, ap, ◌∙◌, subst}
use Rattle.std.specs.Prelude.{Bool, true, false, not, ◌&&◌, ◌||◌, cond, is_some, slice_get, nat_eq}
use Rattle.std.specs.List.{find}
use Rattle.std.proofs.lemmas.Bool.{cases_lt}
use Rattle.std.proofs.lemmas.Option.{none-some, same_Some, slice_get_within}
use Rattle.je_core.specs.declared.program.Bridge.{Bridge}
use Rattle.je_core.specs.declared.program.Flags.{Flags}
use Rattle.je_core.specs.declared.program.Sort.{Sort}
use Rattle.je_core.specs.declared.program.Sort.TheVariants as sort
use Rattle.je_core.specs.Core.{CoreClass, CoreProgram}
use Rattle.je_classes.specs.Hierarchy.{Below, class_at, is_below}
use Rattle.je_classes.specs.Members.{In, first, methods_in as core_methods_in, same_name}
use Rattle.je_classes.proofs.Below.{below-from}
use Rattle.je_classes.proofs.Lists.{bool_cases, contains-any}
use Rattle.je_classes.proofs.Sets.{Passes, by_either, filter-in, in-either, in-left, in-right, later-passes}
use Rattle.je_fitting.specs.Classes.{BridgeFits, same_places}
use Rattle.je_fitting.specs.Expressions.{is_interface_sort, method_at}
use Rattle.je_fitting.specs.Members.{results_agree}
use Rattle.je_fitting.proofs.Booleans.{both, is_false, two}
use Rattle.je_scopes.specs.Headers as headers
use Rattle.je_scopes.specs.Source.{Source}
use Rattle.je_scopes.specs.SourceTypes.{SourceType}
use Rattle.source_types.specs.Erasure.{class_numbered}
use Rattle.source_types.specs.Heads.{ClassHead}
use Rattle.je_typing.specs.Castable.{is_interface, is_interface_in}
use Rattle.declarations.specs.Declarations.{DeclaredClass, DeclaredMethod}
use Rattle.overriding.specs.Methods.{Method, abstract_in, are_same_types, erasure, has_within, have_one_name, have_one_signature, inherited, inherited_by, is_same, is_subsignature, methods_above, methods_in, own, own_method}
use Rattle.overriding.specs.Overrides.{has_methods, implements}
use Rattle.name_typing.specs.Program.{Program}
use Rattle.typing_laws.proofs.Subtypes.{either, or-left}
use Rattle.fitting_laws.specs.Methods.{HasMethods, MethodStands}
use Rattle.fitting_laws.specs.Represented.{Represents}
use Rattle.fitting_laws.proofs.Lists.{mapped}
use Rattle.fitting_laws.proofs.Methods.{Seen, StandFor, own-from, within-seen}
use Rattle.class_typing.specs.Bridges.{bridges, instance_methods, is_instance_method, is_same_place, place_of, runs_for, runs_for_place}
use Rattle.class_typing.specs.Programs.{classes, library_count}
use Rattle.elaborated_laws.specs.Elaborated.{IsElaborated}
use Rattle.elaborated_laws.proofs.Classes.{classes-count}
use Rattle.elaborated_laws.proofs.Guests.{within-sites}
use Rattle.elaborated_laws.proofs.Lists.{in-got}
use Rattle.elaborated_laws.proofs.Methods.{nat-itself}
use Rattle.judged_laws.proofs.ClassSignatures.{signatures_stand}
use Rattle.judged_laws.proofs.Good.{methods_are_good}
use Rattle.judged_laws.proofs.Inheriting.{classes_inherit_well}
use Rattle.override_laws.specs.Fitting.{HasNoOthers, IsOfMethod}
use Rattle.override_laws.specs.Inherited.{InheritsWell}
use Rattle.override_laws.proofs.Bridging.{all-places, bridges-by, of-subsignature, overrides_bridge}
use Rattle.override_laws.proofs.Erasures.{names-swapped, neither}
use Rattle.override_laws.proofs.Inherited.{equal-of, there-of}
use Rattle.override_laws.proofs.Lists.{contained}
use Rattle.override_laws.proofs.Standing.{Above, declared-above, own-in}
use Rattle.program_laws.specs.Laws.{BridgesFit}
use Rattle.program_laws.specs.Premises.{ImplementationsAgree, IsInheritedBridge, ResultAgrees, SourceIsSound, declared, is_implementing, is_overriding}
use Rattle.program_laws.proofs.Bodies.{has-methods, represents}
use Rattle.program_laws.proofs.Bridges.{method-at, of-bridge}
use Rattle.program_laws.proofs.Declaring.{DeclaredAbove, has-below, is-own, method-above}
use Rattle.program_laws.proofs.Lists.{all-in, clash}
use Rattle.program_laws.proofs.Sources.{variables-sound}
use Rattle.program_laws.proofs.Supers.{has-no-others}

-- ---- what runs for what

found-passes : {A : Type 0} (test : A → Bool) (xs : List A) (x : A) → find test xs ≡ Some x → Passes test xs x
found-passes test [] x e = absurd (none-some x e)
found-passes test (y ∷ xs) x e =
    bool_cases (λ b. test y ≡ b → cond b (Some y) (find test xs) ≡ Some x → Passes test (y ∷ xs) x) (test y)
    (λ _ passes h. let is = same_Some y x h in
    record { there = subst (In (y ∷ xs)) is first; passes = subst (λ z. test z ≡ true) is passes })
    (λ _ _ h. later-passes (found-passes test xs x h)) refl e

one-place : (p q : ℕ × ℕ) → is_same_place p q ≡ true → p ≡ q
one-place p q h =
    let b = two {a = nat_eq p.0 q.0} {b = nat_eq p.1 q.1} h in
    λ i. (equal-of p.0 q.0 b.0 i, equal-of p.1 q.1 b.1 i)

module _ (heads : List ClassHead) (classes : List DeclaredClass) (c : ℕ) where
  -- a bridge from a method above the class to one that it has
  record Runs (b : Bridge) : Type 0 where
    method : Method
    by : Method
    above : In (methods_above heads classes c) method
    has : In (has_methods heads classes c) by
    own : method.declared.flags.is_static ≡ false
    runs : runs_for heads classes c method by ≡ true
    is : b ≡ record { method = method-at (place_of method); by = method-at (place_of by) }

  what-runs : (b : Bridge) → In (bridges heads classes c) b → Runs b
  what-runs b i =
      let f = of-bridge heads classes c b i in
      let runs = (found-passes (runs_for_place heads classes c f.place) (has_methods heads classes c) f.by f.found) in
      let some = contains-any (λ n. is_same_place f.place (place_of n) && runs_for heads classes c n f.by)
      (instance_methods heads classes c) runs.passes in
      let instance = filter-in (is_instance_method heads classes c) (methods_above heads classes c) some.element
      (contained (instance_methods heads classes c) some.element some.there) in
      let parts = two {a = is_same_place f.place (place_of some.element)} some.passes in
      record {
        method = some.element;
        by = f.by;
        above = instance.there;
        has = runs.there;
        own = is_false instance.passes;
        runs = parts.1;
        is = f.is ∙ ap (λ at. record { method = method-at at; by = method-at (place_of f.by) })
            (one-place f.place (place_of some.element) parts.0);
      }

-- ---- signatures

same-parameters : (heads : List ClassHead) (m n : Method) → implements m n ≡ true → is_subsignature heads m n ≡ true
same-parameters heads m n h =
    or-left (have_one_signature m n)
    (have_one_name m n && are_same_types m.parameters (map (erasure heads) n.parameters))
    (two {a = not m.is_abstract && n.is_abstract} h).1

-- a method that a class declares, as the class itself sees it
own-itself : (classes : List DeclaredClass) (c : ℕ) (m : Method) → In (own classes c) m →
    m ≡ own_method m.holder m.place m.declared
own-itself classes c m i =
    let o = own-from c 0 (methods_in (slice_get classes c)) m i in
    subst (λ k. k ≡ own_method k.holder k.place k.declared) (sym o.is) refl

interface-sort : (s : Sort) → headers.is_interface_sort s ≡ true → is_interface_sort s ≡ true
interface-sort sort.Class h = h
interface-sort sort.Interface h = h
interface-sort sort.Local h = h
interface-sort sort.Anonymous h = h
interface-sort sort.Enum h = h

module _ (source : Source) (program : CoreProgram) (e : IsElaborated source program)
    (sound : SourceIsSound source program e) where
  abbrev p : Program
  p = declared source program e

  stands : Represents p program
  stands = represents source program e sound

  has : HasMethods p program
  has = has-methods source program e sound

  others : HasNoOthers p program
  others = has-no-others source program e sound

  -- the method of the core program for a declared one
  of-declared : (c at : ℕ) (d : DeclaredMethod) → slice_get (methods_in (slice_get p.classes c)) at ≡ Some d →
      d.is_constructor ≡ false → (k : MethodStands program p.heads c at d) → IsOfMethod program c at d k.method
  of-declared c at d there plain k =
      let named = others.methods (class_numbered c) at k.method k.there (k.is_constructor ∙ plain) in
      record {
        there = k.there;
        name = named.name
            ∙ ap (λ (x : DeclaredMethod). x.name.name) (same_Some named.method d (sym named.there ∙ there));
      }

  module _ (c : ℕ) (class : CoreClass) (le : library_count source ≤ c)
      (there : class_at program (class_numbered c) ≡ Some class) where
    -- what the class has
    has-seen : (m : Method) → In (has_methods p.heads p.classes c) m → Seen p program stands has c m
    unfolding inherited
    has-seen m i = within-seen p program stands has (suc (length p.classes)) c m i

    inherits-well : InheritsWell p.heads p.classes c
    inherits-well =
        let l : c < length (classes source) =
        subst (λ n. c < n) e.has.count (slice_get_within program.classes c class there) in
        let within = within-sites source c le (subst (λ n. c < n) (classes-count source) l) in
        (classes_inherit_well source program e sound.sites c le within).inherits

    -- its methods with bodies are declared by classes above it
    by-below : (m : Method) → In (has_methods p.heads p.classes c) m → m.is_abstract ≡ false →
        Below program (class_numbered c) (class_numbered m.holder)
    unfolding inherited
    by-below m i concrete = has-below p program stands (suc (length p.classes)) c m i concrete

    -- ---- an interface has no method with a body

    no-inherited : (m : Method) → is_interface p.heads c ≡ true → In (inherited p.heads p.classes c) m →
        ¬ (m.is_abstract ≡ false)
    unfolding inherited
    no-inherited m interface i concrete =
        let a = mapped (abstract_in (is_interface p.heads c)) _ m i in
        clash (a.from.is_abstract || is_interface p.heads c)
        (ap (λ b. a.from.is_abstract || b) interface ∙ or-true a.from.is_abstract)
        (ap (λ (k : Method). k.is_abstract) a.is ∙ concrete)
      where
        or-true : (b : Bool) → (b || true) ≡ true
        or-true true = refl
        or-true false = refl

    core-interface : is_interface p.heads c ≡ true → is_interface_sort class.kind.sort ≡ true
    core-interface interface =
        let k = stands.kinds c class there in
        interface-sort class.kind.sort
        (ap headers.is_interface_sort k.sort ∙ ap is_interface_in (sym k.there) ∙ interface)

    no-own : (m : Method) → is_interface p.heads c ≡ true → In (own p.classes c) m → ¬ (m.is_abstract ≡ false)
    no-own m interface i concrete =
        let seen = has-seen m (in-left (inherited p.heads p.classes c) i) in
        let k = has.methods m.holder m.place m.declared seen.there in
        let here = (is-own p.classes c m i).holder in
        let found : slice_get class.methods m.place ≡ Some k.method =
        ap (λ o. slice_get (core_methods_in o) m.place) (sym there)
        ∙ subst (λ d. method_at program (class_numbered d) m.place ≡ Some k.method) here k.there in
        let signature = signatures_stand source program e sound.sites sound.words
        (variables-sound source program e sound) sound.types.heads c class le there k.method
        (in-got class.methods m.place k.method found) in
        clash k.method.flags.is_abstract (signature.of_interface (core-interface interface))
        (ap (λ (f : Flags). f.is_abstract) k.flags ∙ seen.concrete concrete)

    not-interface : (m : Method) → In (has_methods p.heads p.classes c) m → m.is_abstract ≡ false →
        is_interface p.heads c ≡ false
    not-interface m i concrete =
        bool_cases (λ b. is_interface p.heads c ≡ b → b ≡ false) (is_interface p.heads c)
        (λ _ interface. absurd (by_either (λ r. no-own m interface r concrete)
        (λ r. no-inherited m interface r concrete) (in-either (own p.classes c) i)))
        (λ _ _. refl) refl

    -- ---- a bridge

    module _ (agree : ImplementationsAgree source program e c) (b : Bridge)
        (i : In (bridges p.heads p.classes c) b) where
      run : Runs p.heads p.classes c b
      run = what-runs p.heads p.classes c b i

      abbrev m : Method
      m = run.by

      abbrev n : Method
      n = run.method

      -- what it asks of the two
      body : (not (m.is_abstract || m.declared.flags.is_static) ≡ true) × (have_one_name m n ≡ true)
      body = two (two (two run.runs).0).0

      -- why it runs
      reason : (is_overriding source program e m n || implements m n) ≡ true
      reason = (two run.runs).1

      concrete : m.is_abstract ≡ false
      concrete = (neither m.is_abstract m.declared.flags.is_static body.0).0

      instance : m.declared.flags.is_static ≡ false
      instance = (neither m.is_abstract m.declared.flags.is_static body.0).1

      seen : Seen p program stands has c m
      seen = has-seen m run.has

      above : DeclaredAbove p program stands c n
      above = method-above p program stands c n (not-interface m run.has concrete) run.above

      theirs-seen : Above p program stands has n
      theirs-seen = declared-above p program stands has c n (ap is_some there) run.above

      mine : MethodStands program p.heads m.holder m.place m.declared
      mine = has.methods m.holder m.place m.declared seen.there

      theirs : MethodStands program p.heads n.holder n.place n.declared
      theirs = has.methods n.holder n.place n.declared theirs-seen.there

      of-mine : IsOfMethod program m.holder m.place m.declared mine.method
      of-mine = of-declared m.holder m.place m.declared seen.there seen.plain mine

      of-theirs : IsOfMethod program n.holder n.place n.declared theirs.method
      of-theirs = of-declared n.holder n.place n.declared theirs-seen.there above.plain theirs

      own-call : mine.method.flags.is_static ≡ false
      own-call = ap (λ (f : Flags). f.is_static) mine.flags ∙ instance

      abbrev Agrees : Type 0
      Agrees = results_agree program mine.method.returns theirs.method.returns ≡ true

      declared-alike : (k : Method) → slice_get (methods_in (slice_get p.classes k.holder)) k.place ≡ Some k.declared →
          is_same k n ≡ true → n.declared ≡ k.declared
      declared-alike k there-k same-k =
          let places = two {a = nat_eq k.holder n.holder} same-k in
          let holder = equal-of k.holder n.holder places.0 in
          let place = equal-of k.place n.place places.1 in
          same_Some n.declared k.declared
          (sym theirs-seen.there ∙ (λ j. slice_get (methods_in (slice_get p.classes (sym holder j))) (sym place j))
          ∙ there-k)

      -- the other one, as another class sees it
      of-same : (k : Method) → slice_get (methods_in (slice_get p.classes k.holder)) k.place ≡ Some k.declared →
          is_same k n ≡ true → IsOfMethod program k.holder k.place k.declared theirs.method
      of-same k there-k same-k =
          let places = two {a = nat_eq k.holder n.holder} same-k in
          let holder = equal-of k.holder n.holder places.0 in
          let place = equal-of k.place n.place places.1 in
          let same = declared-alike k there-k same-k in
          record {
            there = (λ j. method_at program (class_numbered (holder j)) (place j)) ∙ theirs.there;
            name = of-theirs.name ∙ ap (λ (d : DeclaredMethod). d.name.name) same;
          }

      no-hiding : (mine.method.flags.is_static && theirs.method.flags.is_static) ≡ false
      no-hiding = ap (λ x. x && theirs.method.flags.is_static) own-call

      -- where it overrides the other one by the class that declares it
      by-law : library_count source ≤ m.holder → (k : Method) → In (methods_above p.heads p.classes m.holder) k →
          is_subsignature p.heads (own_method m.holder m.place m.declared) k ≡ true → is_same k n ≡ true → Agrees
      by-law guest k k-above sub same-k =
          let there-mine = there-of program m.holder m.place mine.method mine.there in
          let of-k = declared-above p program stands has m.holder k there-mine k-above in
          (overrides_bridge p program stands has m.holder m.place m.declared there-mine seen.there seen.plain
          (methods_are_good source program e sound.sites sound.words m.holder guest m.place m.declared seen.there
          seen.plain)
          (seen.concrete concrete) k k-above sub mine.method theirs.method of-mine (of-same k of-k.there same-k)
          no-hiding).result

      -- the other one, as the class sees it that overrides it
      record Overridden : Type 0 where
        method : Method
        among : In (methods_above p.heads p.classes m.holder) method
        sub : is_subsignature p.heads (own_method m.holder m.place m.declared) method ≡ true
        same : is_same method n ≡ true

      overridden : is_overriding source program e m n ≡ true → Overridden
      overridden h =
          let x = contains-any (λ k. is_same k n && is_subsignature p.heads (own_method m.holder m.place m.declared) k)
          (methods_above p.heads p.classes m.holder) h in
          let parts = two {a = is_same x.element n} x.passes in
          record {
            method = x.element;
            among = contained (methods_above p.heads p.classes m.holder) x.element x.there;
            sub = parts.1;
            same = parts.0;
          }

      of-overriding : library_count source ≤ m.holder → Overridden → Agrees
      of-overriding guest o = by-law guest o.method o.among o.sub o.same

      of-own : In (own p.classes c) m → Agrees
      of-own r =
          let holder = (is-own p.classes c m r).holder in
          let guest = subst (λ d. library_count source ≤ d) (sym holder) le in
          either Agrees (is_overriding source program e m n) (implements m n) reason
          (λ h. of-overriding guest (overridden h))
          (λ h. by-law guest n (subst (λ d. In (methods_above p.heads p.classes d) n) (sym holder) run.above)
          (subst (λ k. is_subsignature p.heads k n ≡ true) (own-itself p.classes c m r) (same-parameters p.heads m n h))
          (both (nat-itself n.holder) (nat-itself n.place)))

      given : ResultAgrees source program e m n → Agrees
      given h = (λ j. results_agree program (mine.returns j) (theirs.returns j)) ∙ h

      module _ (r : In (inherited p.heads p.classes c) m) where
        inherits : IsInheritedBridge source program e c n m
        inherits = record {
          above = run.above;
          inherits = r;
          bridge = subst (In (bridges p.heads p.classes c)) run.is i;
        }

        -- where it implements one that the class inherits
        of-implementing : is_implementing source program e c m n ≡ true → Agrees
        of-implementing h =
            let x = contains-any (λ k. is_same k n && implements m k) (inherited p.heads p.classes c) h in
            let parts = two {a = is_same x.element n} x.passes in
            let k-there = contained (inherited p.heads p.classes c) x.element x.there in
            let k-seen = has-seen x.element (in-right (own p.classes c) k-there) in
            (bridges-by p program stands has c inherits-well x.element k-there m r parts.1 mine.method theirs.method
            of-mine (of-same x.element k-seen.there parts.0) no-hiding).result

        of-inherited : Agrees
        of-inherited =
            bool_cases (λ x. is_overriding source program e m n ≡ x → Agrees) (is_overriding source program e m n)
            (λ _ h. by_either (λ l. given (agree.library n m inherits h l))
            (λ guest. of-overriding guest (overridden h)) (cases_lt m.holder (library_count source)))
            (λ _ h. bool_cases (λ x. is_implementing source program e c m n ≡ x → Agrees)
            (is_implementing source program e c m n)
            (λ _ k. of-implementing k) (λ _ k. given (agree.others n m inherits h k)) refl) refl

      result : Agrees
      result = by_either of-own of-inherited (in-either (own p.classes c) run.has)

      abbrev SamePlaces : Type 0
      SamePlaces = same_places theirs.method.params mine.method.params ≡ true

      -- where both stand for these types
      standing : (ts : List SourceType) → StandFor program p.heads ts n.declared.parameters →
          StandFor program p.heads ts m.declared.parameters → SamePlaces
      standing ts for-theirs for-mine =
          (λ j. same_places (theirs.params j) (mine.params j))
          ∙ all-places program p.heads stands.heads ts n.declared.parameters m.declared.parameters
          (has.parameters n.holder n.place n.declared theirs-seen.there) for-theirs for-mine

      params-overriding : Overridden → SamePlaces
      params-overriding o =
          let there-mine = there-of program m.holder m.place mine.method mine.there in
          let of-k = declared-above p program stands has m.holder o.method there-mine o.among in
          standing m.declared.parameters
          (subst (λ (d : DeclaredMethod). StandFor program p.heads m.declared.parameters d.parameters)
          (sym (declared-alike o.method of-k.there o.same))
          (of-subsignature program p.heads stands.heads (own_method m.holder m.place m.declared) o.method
          o.method.declared.parameters o.sub of-k.stand))
          (within-seen p program stands has 1 m.holder (own_method m.holder m.place m.declared)
          (in-left (inherited_by p.heads p.classes (has_within p.heads p.classes 0) m.holder)
          (own-in p program has m.holder m.place m.declared seen.there seen.plain))).parameters

      params : SamePlaces
      params = either SamePlaces (is_overriding source program e m n) (implements m n) reason
          (λ h. params-overriding (overridden h))
          (λ h. standing m.parameters (of-subsignature program p.heads stands.heads m n n.declared.parameters
          (same-parameters p.heads m n h) theirs-seen.stand) seen.parameters)

      name : same_name theirs.method.name mine.method.name ≡ true
      name = (λ j. same_name (of-theirs.name j) (of-mine.name j))
          ∙ names-swapped m.declared.name.name n.declared.name.name body.1

      fits : BridgeFits program (class_numbered c) b
      fits = record {
        from = theirs.method;
        to = mine.method;
        from_there = ap (λ (x : Bridge). method_at program x.method.0 x.method.1) run.is ∙ theirs.there;
        to_there = ap (λ (x : Bridge). method_at program x.by.0 x.by.1) run.is ∙ mine.there;
        from_above = ap (λ (x : Bridge). is_below program (class_numbered c) x.method.0) run.is
            ∙ below-from program above.below;
        to_above = ap (λ (x : Bridge). is_below program (class_numbered c) x.by.0) run.is
            ∙ below-from program (by-below m run.has concrete);
        from_own = ap (λ (f : Flags). f.is_static) theirs.flags ∙ run.own;
        to_own = own-call;
        to_concrete = ap (λ (f : Flags). f.is_abstract) mine.flags ∙ seen.concrete concrete;
        name = name;
        params = params;
        result = result;
      }

pub bridges_fit : (source : Source) (program : CoreProgram) (e : IsElaborated source program) →
    BridgesFit source program e
bridges_fit source program e sound c class le there agree =
    all-in (BridgeFits program (class_numbered c)) class.bridges
    (λ b i. fits source program e sound c class le there agree b
    (subst (λ (k : CoreClass). In k.bridges b) (e.has.guests c class le there).is i))
