-- The tests of a class itself, and of a program, decide whether they fit.
use Rattle.std.proofs.Common.{◌≡◌, ℕ, zero, suc, ◌<◌, ◌+◌, List, [], ◌∷◌, take, drop, length, Some, None, refl, sym, ap, ◌∙◌, subst, arith}
use Rattle.std.specs.Prelude.{Bool, true, false, not, ◌&&◌, ◌||◌, Option, is_some, slice_get, nat_eq}
use Rattle.std.specs.List.{All, list_all}
use Rattle.std.proofs.lemmas.Bool.Decides.{nat_tests}
use Rattle.std.proofs.lemmas.List.Elements.{All-nil, All-cons, All-head, All-tail}
use Rattle.std.proofs.lemmas.Option.{slice_get_within}
use Rattle.je_core.specs.declared.program.Bridge.{Bridge}
use Rattle.je_core.specs.declared.program.Head.{Head}
use Rattle.je_core.specs.declared.types.ClassId.{ClassId}
use Rattle.je_core.specs.Core.{CoreField, CoreMethod, CoreClass, CoreProgram}
use Rattle.je_classes.specs.Hierarchy.{class_at, same_class, is_below, supers_of}
use Rattle.je_classes.specs.Subtypes.{same_types}
use Rattle.je_classes.specs.Members.{Member, same_name, is_private}
use Rattle.je_classes.specs.Dispatch.{bridged, implemented, dispatched}
use Rattle.je_classes.proofs.Lists.{bool_cases}
use Rattle.je_fitting.specs.Expressions.{outer_count, method_at, is_constructor, can_be_made, places_up_to}
use Rattle.je_fitting.specs.Members.{is_guest, results_agree, StandsFor, InitializerFits, FieldFits, MethodFits}
use Rattle.je_fitting.specs.Classes.{can_be_extended, is_interface, is_round, SuperclassFits, none_above, one_above, is_hidden, hidden_fields, field_types, outer_type, enum_types, handed_count, HiddenFit, same_places, BridgeFits, IsInstanceMethod, InheritedFit, Implements, ClassFits}
use Rattle.je_fitting.specs.Program.{Part, itself, a_field, a_method, PartFits, itself_fits, field_fits, method_fits, IsPart, is_itself, is_field, is_method, FitsWhole, FitsProgram}
use Rattle.je_fitting.specs.way.Deciding.{same_pair}
use Rattle.je_fitting.specs.way.DecidingMembers.{stands_for, is_field_fit, is_method_fit, is_initializer_fit}
use Rattle.je_fitting.specs.way.Quantifying.{implies, if_there}
use Rattle.je_fitting.specs.way.DecidingClasses.{is_top, is_hidden_fit, begin_alike, begin_apart, is_superclass_fit, is_bridge_between, is_bridge_fit, is_instance_method, is_inherited_fit, is_unbridged, are_inherited_fit, implements_all, are_supers_fit, are_named_there, are_bridges_fit, is_class_fit, is_whole_fit, is_program_fit}
use Rattle.je_fitting.proofs.Booleans.{two, three, four, five, both, is_false, is_not}
use Rattle.je_fitting.proofs.Quantified.{implied, implying, on-there, if-there, each-place, places-pass, each-tested, all-tested}
use Rattle.je_fitting.proofs.MembersDecided.{types-equal, types-same, stands_sound, stands_complete, field_sound, field_complete, method_sound, method_complete, initializer_sound, initializer_complete}

-- a test of each element
each-of : {A : Type 0} (test : A → Bool) (P : A → Type 0) → ((x : A) → test x ≡ true → P x) → (xs : List A) → list_all test xs ≡ true → All P xs
each-of test P f [] e = All-nil P
each-of test P f (x ∷ xs) e = let q = two {a = test x} {b = list_all test xs} e in All-cons P x xs (f x q.0) (each-of test P f xs q.1)

of-each : {A : Type 0} (test : A → Bool) (P : A → Type 0) → ((x : A) → P x → test x ≡ true) → (xs : List A) → All P xs → list_all test xs ≡ true
of-each test P f [] a = refl
of-each test P f (x ∷ xs) a = both (f x (All-head P x xs a)) (of-each test P f xs (All-tail P x xs a))

pub at-place : {A : Type 0} (P : A → Type 0) (xs : List A) (i : ℕ) (x : A) → All P xs → slice_get xs i ≡ Some x → P x
at-place P [] i x a e = absurd (let z : i < 0 = slice_get_within [] i x e in omega arith)
at-place P (y ∷ ys) zero x a e = let q : y ≡ x = cc in subst P q (All-head P y ys a)
at-place P (y ∷ ys) (suc i) x a e = at-place P ys i x (All-tail P y ys a) e

all-places : {A : Type 0} (P : A → Type 0) (xs : List A) → ((i : ℕ) (x : A) → slice_get xs i ≡ Some x → P x) → All P xs
all-places P [] f = All-nil P
all-places P (x ∷ xs) f = All-cons P x xs (f 0 x refl) (all-places P xs (λ i y e. f (suc i) y e))

-- ---- hidden fields

hidden-sound : (c : CoreClass) → is_hidden_fit c ≡ true → HiddenFit c
hidden-sound c e = let q = five {a = nat_eq (length (hidden_fields c)) (handed_count c + length (enum_types c.kind.sort))} {b = list_all is_hidden (take (handed_count c) c.fields)} {c = same_types (take (outer_count c.enclosing) (field_types c.fields)) (outer_type c.enclosing)} {d = same_types (drop (handed_count c) (field_types (hidden_fields c))) (enum_types c.kind.sort)} {f = list_all (λ (f : CoreField). not f.is_static && f.is_final) (hidden_fields c)} e in record {
  count = let g : nat_eq (length (hidden_fields c)) (handed_count c + length (enum_types c.kind.sort)) ≡ true = q.0 in grind (arith, nat_tests);
  first = each-of is_hidden (λ f. is_hidden f ≡ true) (λ f h. h) (take (handed_count c) c.fields) q.1;
  outer = types-equal (take (outer_count c.enclosing) (field_types c.fields)) (outer_type c.enclosing) q.2;
  of_enum = types-equal (drop (handed_count c) (field_types (hidden_fields c))) (enum_types c.kind.sort) q.3;
  own = each-of (λ (f : CoreField). not f.is_static && f.is_final) (λ (f : CoreField). f.is_static ≡ false) (λ f h. let r = two {a = not f.is_static} {b = f.is_final} h in is_false r.0) (hidden_fields c) q.4;
  final = each-of (λ (f : CoreField). not f.is_static && f.is_final) (λ (f : CoreField). f.is_final ≡ true) (λ f h. let r = two {a = not f.is_static} {b = f.is_final} h in r.1) (hidden_fields c) q.4;
}

own-and-final : (fs : List CoreField) → All (λ (f : CoreField). f.is_static ≡ false) fs → All (λ (f : CoreField). f.is_final ≡ true) fs → list_all (λ (f : CoreField). not f.is_static && f.is_final) fs ≡ true
own-and-final [] a b = refl
own-and-final (f ∷ fs) a b = both (both (is_not (All-head (λ (g : CoreField). g.is_static ≡ false) f fs a)) (All-head (λ (g : CoreField). g.is_final ≡ true) f fs b))
    (own-and-final fs (All-tail (λ (g : CoreField). g.is_static ≡ false) f fs a) (All-tail (λ (g : CoreField). g.is_final ≡ true) f fs b))

hidden-complete : (c : CoreClass) → HiddenFit c → is_hidden_fit c ≡ true
hidden-complete c k =
    let n : length (hidden_fields c) ≡ handed_count c + length (enum_types c.kind.sort) = k.count in
    let g : nat_eq (length (hidden_fields c)) (handed_count c + length (enum_types c.kind.sort)) ≡ true = grind (arith, nat_tests) in
    both (both (both (both g (of-each is_hidden (λ f. is_hidden f ≡ true) (λ f h. h) (take (handed_count c) c.fields) k.first)) (rw k.outer (types-same (outer_type c.enclosing))))
    (rw k.of_enum (types-same (enum_types c.kind.sort))))
    (own-and-final (hidden_fields c) k.own k.final)

-- ---- bridges that begin apart

pair-equal : (a b : ClassId × ℕ) → same_pair a b ≡ true → a ≡ b
pair-equal a b e = let q = two {a = same_class a.0 b.0} {b = nat_eq a.1 b.1} e in
    let c : same_class a.0 b.0 ≡ true = q.0 in
    let n : a.1 ≡ b.1 = let g : nat_eq a.1 b.1 ≡ true = q.1 in grind (arith, nat_tests) in
    let d : a.0 ≡ b.0 = grind (arith, nat_tests) in
    ap (λ (k : ClassId). (k, a.1)) d ∙ ap (λ (m : ℕ). (b.0, m)) n

pair-same : (a b : ClassId × ℕ) → a ≡ b → same_pair a b ≡ true
pair-same a b e = subst (λ (z : ClassId × ℕ). same_pair a z ≡ true) e
    (let n : nat_eq a.1 a.1 ≡ true = grind (arith, nat_tests) in let c : same_class a.0 a.0 ≡ true = grind (arith, nat_tests) in both c n)

alike : (x y : Option Bridge) (a b : Bridge) → x ≡ Some a → y ≡ Some b → a.method ≡ b.method → begin_alike x y ≡ true
alike None y a b p q e = absurd cc
alike (Some x) None a b p q e = absurd cc
alike (Some x) (Some y) a b p q e = let r : x ≡ a = cc in let s : y ≡ b = cc in pair-same x.method y.method (ap (λ (z : Bridge). z.method) r ∙ e ∙ ap (λ (z : Bridge). z.method) (sym s))

record Alike (x y : Option Bridge) : Type 0 where
  a : Bridge
  b : Bridge
  first : x ≡ Some a
  second : y ≡ Some b
  same : a.method ≡ b.method

unlike : (x y : Option Bridge) → begin_alike x y ≡ true → Alike x y
unlike None y e = absurd cc
unlike (Some x) None e = absurd cc
unlike (Some x) (Some y) e = record { a = x; b = y; first = refl; second = refl; same = pair-equal x.method y.method e }

apart-sound : (bs : List Bridge) → begin_apart bs ≡ true → (i j : ℕ) (a b : Bridge) → slice_get bs i ≡ Some a → slice_get bs j ≡ Some b → a.method ≡ b.method → i ≡ j
apart-sound bs e i j a b p q m =
    let row = each-place (λ i. list_all (λ j. implies (begin_alike (slice_get bs i) (slice_get bs j)) (nat_eq i j)) (places_up_to (length bs))) (length bs) e i (slice_get_within bs i a p) in
    let one = each-place (λ j. implies (begin_alike (slice_get bs i) (slice_get bs j)) (nat_eq i j)) (length bs) row j (slice_get_within bs j b q) in
    let g : nat_eq i j ≡ true = implied one (alike (slice_get bs i) (slice_get bs j) a b p q m) in grind (arith, nat_tests)

apart-complete : (bs : List Bridge) → ((i j : ℕ) (a b : Bridge) → slice_get bs i ≡ Some a → slice_get bs j ≡ Some b → a.method ≡ b.method → i ≡ j) → begin_apart bs ≡ true
apart-complete bs f = places-pass (λ i. list_all (λ j. implies (begin_alike (slice_get bs i) (slice_get bs j)) (nat_eq i j)) (places_up_to (length bs))) (length bs)
    (λ i l. places-pass (λ j. implies (begin_alike (slice_get bs i) (slice_get bs j)) (nat_eq i j)) (length bs)
    (λ j m. implying (begin_alike (slice_get bs i) (slice_get bs j)) (nat_eq i j)
    (λ h. let k = unlike (slice_get bs i) (slice_get bs j) h in let e : i ≡ j = f i j k.a k.b k.first k.second k.same in grind (arith, nat_tests))))

module _ (p : CoreProgram) where
  superclass-sound : (class : ClassId) (c : CoreClass) (s : Option ClassId) → is_superclass_fit p class c s ≡ true → SuperclassFits p class c s
  superclass-sound class c None e = none_above e
  superclass-sound class c (Some s) e = let q = two {a = not (is_top class c)} {b = can_be_extended (class_at p s)} e in one_above (is_false q.0) q.1

  superclass-complete : (class : ClassId) (c : CoreClass) (s : Option ClassId) → SuperclassFits p class c s → is_superclass_fit p class c s ≡ true
  superclass-complete class c _ (none_above e) = e
  superclass-complete class c _ (one_above e f) = both (is_not e) f

  -- ---- bridges

  between-sound : (class : ClassId) (b : Bridge) (x y : Option CoreMethod) → method_at p b.method.0 b.method.1 ≡ x → method_at p b.by.0 b.by.1 ≡ y → is_bridge_between p class b x y ≡ true → BridgeFits p class b
  between-sound class b None y p1 p2 e = absurd cc
  between-sound class b (Some from) None p1 p2 e = absurd cc
  between-sound class b (Some from) (Some to) p1 p2 e =
      let q = five {a = is_below p class b.method.0} {b = is_below p class b.by.0} {c = not from.flags.is_static && not to.flags.is_static && not to.flags.is_abstract} {d = same_name from.name to.name && same_places from.params to.params} {f = results_agree p to.returns from.returns} e in
      let r = three {a = not from.flags.is_static} {b = not to.flags.is_static} {c = not to.flags.is_abstract} q.2 in let s = two {a = same_name from.name to.name} {b = same_places from.params to.params} q.3 in
      record { from = from; to = to; from_there = p1; to_there = p2; from_above = q.0; to_above = q.1; from_own = is_false r.0; to_own = is_false r.1; to_concrete = is_false r.2; name = s.0; params = s.1; result = q.4 }

  bridge-complete : (class : ClassId) (b : Bridge) → BridgeFits p class b → is_bridge_fit p class b ≡ true
  bridge-complete class b k = rw (k.from_there, k.to_there)
      (both (both (both (both k.from_above k.to_above) (both (both (is_not k.from_own) (is_not k.to_own)) (is_not k.to_concrete))) (both k.name k.params)) k.result)

  -- ---- what it inherits

  instance-sound : (class above : ClassId) (at : ℕ) (k : CoreMethod) → IsInstanceMethod p class above at k → is_instance_method p class above k ≡ true
  instance-sound class above at k i = both (both i.is_above (is_not i.own)) (is_not i.no_constructor)

  instance-complete : (class above : ClassId) (at : ℕ) (k : CoreMethod) → method_at p above at ≡ Some k → is_instance_method p class above k ≡ true → IsInstanceMethod p class above at k
  instance-complete class above at k there e = let q = three {a = is_below p class above} {b = not k.flags.is_static} {c = not (is_constructor p k)} e in
      record { there = there; is_above = q.0; own = is_false q.1; no_constructor = is_false q.2 }

  one-inherited : (class : ClassId) (k : CoreMethod) (o : Option Member) → is_inherited_fit p class k o ≡ true → (m : Member) (by : CoreMethod) → o ≡ Some m → same_class m.class class ≡ false → method_at p m.class m.at ≡ Some by → StandsFor p by k
  one-inherited class k None e m by q f there = absurd cc
  one-inherited class k (Some n) e m by q f there = let r : n ≡ m = cc in
      let h : is_inherited_fit p class k (Some m) ≡ true = subst (λ (z : Member). is_inherited_fit p class k (Some z) ≡ true) r e in
      bool_cases (λ x. same_class m.class class ≡ x → (x || if_there (λ by. stands_for p by k) (method_at p m.class m.at)) ≡ true → StandsFor p by k) (same_class m.class class)
      (λ _ g j. absurd cc)
      (λ _ g j. stands_sound p by k (on-there (λ by. stands_for p by k) (method_at p m.class m.at) j by there)) refl h

  inherited-one : (class : ClassId) (k : CoreMethod) (o : Option Member) → ((m : Member) (by : CoreMethod) → o ≡ Some m → same_class m.class class ≡ false → method_at p m.class m.at ≡ Some by → StandsFor p by k) → is_inherited_fit p class k o ≡ true
  inherited-one class k None f = refl
  inherited-one class k (Some m) f =
      bool_cases (λ x. same_class m.class class ≡ x → (x || if_there (λ by. stands_for p by k) (method_at p m.class m.at)) ≡ true) (same_class m.class class)
      (λ _ g. refl)
      (λ _ g. if-there (λ by. stands_for p by k) (method_at p m.class m.at) (λ by there. stands_complete p by k (f m by refl g there))) refl

  none-of : (b : Option Member) → not (is_some b) ≡ true → b ≡ None
  none-of None e = refl
  none-of (Some m) e = absurd cc

  inherited-sound : (class : ClassId) → are_inherited_fit p class ≡ true → InheritedFit p class
  inherited-sound class e above at k i np none m by q f there = one-inherited class k (implemented p class k)
      (implied (each-tested p (λ above at k. implies (is_instance_method p class above k && not (is_private k) && is_unbridged p class above at) (is_inherited_fit p class k (implemented p class k))) e above at k i.there)
      (both (both (instance-sound class above at k i) (is_not np)) (ap (λ (b : Option Member). not (is_some b)) none))) m by q f there

  inherited-complete : (class : ClassId) → InheritedFit p class → are_inherited_fit p class ≡ true
  inherited-complete class f = all-tested p (λ above at k. implies (is_instance_method p class above k && not (is_private k) && is_unbridged p class above at) (is_inherited_fit p class k (implemented p class k)))
      (λ above at k there. implying (is_instance_method p class above k && not (is_private k) && is_unbridged p class above at) (is_inherited_fit p class k (implemented p class k))
      (λ h. let q = three {a = is_instance_method p class above k} {b = not (is_private k)} {c = is_unbridged p class above at} h in
      inherited-one class k (implemented p class k) (λ m by r g t. f above at k (instance-complete class above at k there q.0) (is_false q.1) (none-of (bridged (class_at p class) (record { class = above; at = at })) q.2) m by r g t)))

  implements-sound : (class : ClassId) → implements_all p class ≡ true → Implements p class
  implements-sound class e above at k i =
      implied (each-tested p (λ above at k. implies (is_instance_method p class above k) (is_some (dispatched p class (record { class = above; at = at })))) e above at k i.there) (instance-sound class above at k i)

  implements-complete : (class : ClassId) → Implements p class → implements_all p class ≡ true
  implements-complete class f = all-tested p (λ above at k. implies (is_instance_method p class above k) (is_some (dispatched p class (record { class = above; at = at }))))
      (λ above at k there. implying (is_instance_method p class above k) (is_some (dispatched p class (record { class = above; at = at })))
      (λ h. f above at k (instance-complete class above at k there h)))

  -- ---- the class

  pub class_sound : (class : ClassId) (c : CoreClass) → is_class_fit p class c ≡ true → ClassFits p class c
  class_sound class c e =
      let q = five {a = are_supers_fit p class c} {b = are_named_there p c} {c = implies (is_guest class) (is_hidden_fit c)} {d = are_bridges_fit p class c} {f = are_inherited_fit p class && implies (can_be_made c) (implements_all p class) && list_all (is_initializer_fit p class) c.initializers} e in
      let s = four {a = is_superclass_fit p class c c.superclass} {b = list_all (λ i. is_interface (class_at p i)) c.interfaces} {c = list_all (λ s. not (is_below p s class)) (supers_of p class)} {d = not (is_round p (length p.classes) class c.within)} q.0 in
      let n = four {a = list_all (λ (h : Head). is_some (class_at p h.class)) c.heads} {b = if_there (λ d. is_some (class_at p d)) c.within} {c = is_some (class_at p c.top)} {d = if_there (λ d. is_some (class_at p d)) c.enclosing} q.1 in
      let b = two {a = list_all (is_bridge_fit p class) c.bridges} {b = begin_apart c.bridges} q.3 in
      let r = three {a = are_inherited_fit p class} {b = implies (can_be_made c) (implements_all p class)} {c = list_all (is_initializer_fit p class) c.initializers} q.4 in
      record {
        superclass = superclass-sound class c c.superclass s.0;
        interfaces = each-of (λ i. is_interface (class_at p i)) (λ i. is_interface (class_at p i) ≡ true) (λ i h. h) c.interfaces s.1;
        not_above_itself = each-of (λ s. not (is_below p s class)) (λ s. is_below p s class ≡ false) (λ s h. is_false h) (supers_of p class) s.2;
        not_round_itself = is_false s.3;
        heads = each-of (λ (h : Head). is_some (class_at p h.class)) (λ (h : Head). is_some (class_at p h.class) ≡ true) (λ h g. g) c.heads n.0;
        round = λ d there. on-there (λ d. is_some (class_at p d)) c.within n.1 d there;
        top = n.2;
        outer = λ d there. on-there (λ d. is_some (class_at p d)) c.enclosing n.3 d there;
        hidden = λ g. hidden-sound c (implied q.2 g);
        bridges = each-of (is_bridge_fit p class) (BridgeFits p class) (λ b h. between-sound class b (method_at p b.method.0 b.method.1) (method_at p b.by.0 b.by.1) refl refl h) c.bridges b.0;
        one_bridge = apart-sound c.bridges b.1;
        inherited = inherited-sound class r.0;
        implements = λ m. implements-sound class (implied r.1 m);
        initializers = each-of (is_initializer_fit p class) (InitializerFits p class) (λ i h. initializer_sound p class i h) c.initializers r.2;
      }

  pub class_complete : (class : ClassId) (c : CoreClass) → ClassFits p class c → is_class_fit p class c ≡ true
  class_complete class c k =
      let s : are_supers_fit p class c ≡ true = both (both (both (superclass-complete class c c.superclass k.superclass) (of-each (λ i. is_interface (class_at p i)) (λ i. is_interface (class_at p i) ≡ true) (λ i h. h) c.interfaces k.interfaces))
      (of-each (λ s. not (is_below p s class)) (λ s. is_below p s class ≡ false) (λ s h. is_not h) (supers_of p class) k.not_above_itself)) (is_not k.not_round_itself) in
      let n : are_named_there p c ≡ true = both (both (both (of-each (λ (h : Head). is_some (class_at p h.class)) (λ (h : Head). is_some (class_at p h.class) ≡ true) (λ h g. g) c.heads k.heads)
      (if-there (λ d. is_some (class_at p d)) c.within (λ d there. k.round d there))) k.top) (if-there (λ d. is_some (class_at p d)) c.enclosing (λ d there. k.outer d there)) in
      let b : are_bridges_fit p class c ≡ true = both (of-each (is_bridge_fit p class) (BridgeFits p class) (λ b h. bridge-complete class b h) c.bridges k.bridges) (apart-complete c.bridges k.one_bridge) in
      both (both (both (both s n) (implying (is_guest class) (is_hidden_fit c) (λ g. hidden-complete c (k.hidden g)))) b)
      (both (both (inherited-complete class k.inherited) (implying (can_be_made c) (implements_all p class) (λ m. implements-complete class (k.implements m))))
      (of-each (is_initializer_fit p class) (InitializerFits p class) (λ i h. initializer_complete p class i h) c.initializers k.initializers))

  -- ---- whole programs

  pub part_sound : (class : ClassId) (c : CoreClass) → is_whole_fit p class c ≡ true → (part : Part) → IsPart c part → PartFits p class c part
  part_sound class c e _ is_itself = let q = three {a = is_class_fit p class c} {b = list_all (is_field_fit p class) c.fields} {c = list_all (is_method_fit p class c) c.methods} e in itself_fits (class_sound class c q.0)
  part_sound class c e _ (is_field {at = at} {f = f} there) = let q = three {a = is_class_fit p class c} {b = list_all (is_field_fit p class) c.fields} {c = list_all (is_method_fit p class c) c.methods} e in
      field_fits there (field_sound p class f (at-place (λ f. is_field_fit p class f ≡ true) c.fields at f (each-of (is_field_fit p class) (λ f. is_field_fit p class f ≡ true) (λ f h. h) c.fields q.1) there))
  part_sound class c e _ (is_method {at = at} {m = m} there) = let q = three {a = is_class_fit p class c} {b = list_all (is_field_fit p class) c.fields} {c = list_all (is_method_fit p class c) c.methods} e in
      method_fits there (method_sound p class c m (at-place (λ m. is_method_fit p class c m ≡ true) c.methods at m (each-of (is_method_fit p class c) (λ m. is_method_fit p class c m ≡ true) (λ m h. h) c.methods q.2) there))

  pub itself_of : (class : ClassId) (c : CoreClass) → PartFits p class c itself → ClassFits p class c
  itself_of class c (itself_fits k) = k

  pub field_of : (class : ClassId) (c : CoreClass) (at : ℕ) (f : CoreField) → slice_get c.fields at ≡ Some f → PartFits p class c (a_field at) → FieldFits p class f
  field_of class c at f there (field_fits {f = g} q k) = let r : g ≡ f = cc in subst (FieldFits p class) r k

  pub method_of : (class : ClassId) (c : CoreClass) (at : ℕ) (m : CoreMethod) → slice_get c.methods at ≡ Some m → PartFits p class c (a_method at) → MethodFits p class c m
  method_of class c at m there (method_fits {m = n} q k) = let r : n ≡ m = cc in subst (MethodFits p class c) r k

  pub whole_complete : (class : ClassId) (c : CoreClass) → FitsWhole p class c → is_whole_fit p class c ≡ true
  whole_complete class c k = both (both (class_complete class c (itself_of class c (k.parts itself is_itself)))
      (of-each (is_field_fit p class) (FieldFits p class) (λ f h. field_complete p class f h) c.fields (all-places (FieldFits p class) c.fields (λ i f there. field_of class c i f there (k.parts (a_field i) (is_field there))))))
      (of-each (is_method_fit p class c) (MethodFits p class c) (λ m h. method_complete p class c m h) c.methods (all-places (MethodFits p class c) c.methods (λ i m there. method_of class c i m there (k.parts (a_method i) (is_method there)))))

  pub program_sound : is_program_fit p ≡ true → FitsProgram p
  program_sound e class c there = record {
    parts = part_sound class c
        (on-there (is_whole_fit p class) (class_at p class) (each-place (λ n. if_there (is_whole_fit p (record { 0 = n })) (class_at p (record { 0 = n }))) (length p.classes) e class.0 (slice_get_within p.classes class.0 c there)) c there);
  }

  pub program_complete : FitsProgram p → is_program_fit p ≡ true
  program_complete f = places-pass (λ n. if_there (is_whole_fit p (record { 0 = n })) (class_at p (record { 0 = n }))) (length p.classes)
      (λ n l. if-there (is_whole_fit p (record { 0 = n })) (class_at p (record { 0 = n })) (λ c there. whole_complete (record { 0 = n }) c (f (record { 0 = n }) c there)))
