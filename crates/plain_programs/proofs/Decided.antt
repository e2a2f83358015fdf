-- The test of each class, body and node in turn decides whether a program is plain.
use Rattle.std.proofs.Common.{◌≡◌, ℕ, zero, suc, ◌<◌, List, [], ◌∷◌, length, Option, Some, None, refl, sym, ap, ◌∙◌, subst, arith}
use Rattle.std.specs.Prelude.{Bool, true, false, not, ◌&&◌, ◌||◌, slice_get}
use Rattle.std.specs.List.{list_all}
use Rattle.std.proofs.lemmas.Option.{none-some, same_Some, slice_get_within}
use Rattle.je_core.specs.declared.types.ClassId.{ClassId}
use Rattle.je_core.specs.Core.{CoreForm, CoreStmt, CoreStmtForm, CoreInitializer, CoreMethod, CoreClass, CoreProgram}
use Rattle.je_classes.specs.Hierarchy.{class_at, is_below}
use Rattle.je_classes.specs.Members.{Member, methods_in}
use Rattle.je_classes.specs.Dispatch.{dispatched}
use Rattle.je_classes.proofs.Lists.{bool_cases}
use Rattle.je_fitting.specs.Classes.{is_interface}
use Rattle.je_fitting.specs.Expressions.{is_interface_sort, method_at, places_up_to}
use Rattle.je_fitting.specs.Members.{is_guest}
use Rattle.je_fitting.specs.way.Quantifying.{implies, if_there, each_method}
use Rattle.je_fitting.proofs.Booleans.{two, three, both, is_false, is_not}
use Rattle.je_fitting.proofs.Quantified.{implied, implying, on-there, if-there, each-place, places-pass, each-tested, all-tested}
use Rattle.plain_programs.specs.Nodes.{throughout, every_expression, every_statement}
use Rattle.plain_programs.specs.Plain.{has_finally, assigns_static, names_wild, joins_wild, IsBody, of_method, of_initializer, Implements, IsPlain}
use Rattle.plain_programs.specs.Wild.{is_wild}
use Rattle.plain_programs.specs.way.Deciding.{is_plain_form, is_wild_if, is_plain_node, is_plain_body, is_plain_method, is_plain_initializer, implements_plainly, implements_all_plainly, is_plain_class, is_plain}
use Rattle.plain_programs.proofs.Walking.{through}

-- ---- lists

all-at : {A : Type 0} (test : A → Bool) (xs : List A) → list_all test xs ≡ true → (i : ℕ) (x : A) → slice_get xs i ≡ Some x → test x ≡ true
all-at test [] h i x e = absurd (none-some x e)
all-at {A = A} test (y ∷ ys) h zero x e = subst (λ (z : A). test z ≡ true) (same_Some y x e) (two {a = test y} {b = list_all test ys} h).0
all-at test (y ∷ ys) h (suc i) x e = all-at test ys (two {a = test y} {b = list_all test ys} h).1 i x e

at-all : {A : Type 0} (test : A → Bool) (xs : List A) → ((i : ℕ) (x : A) → slice_get xs i ≡ Some x → test x ≡ true) → list_all test xs ≡ true
at-all test [] f = refl
at-all test (y ∷ ys) f = both (f 0 y refl) (at-all test ys (λ i x e. f (suc i) x e))

-- ---- bodies

either : (a b : Bool) → b ≡ true → (a || b) ≡ true
either true b e = refl
either false b e = e

module _ (p : CoreProgram) where
  module _ (starts : Bool) (s : CoreStmt) (h : is_plain_body p starts s ≡ true) where
    -- what follows from the test of each node
    on-forms : (v : CoreForm → Bool) → ((f : CoreForm) → is_plain_node p starts f ≡ true → v f ≡ true) → every_expression v s ≡ true
    on-forms v w = through (is_plain_node p starts) (is_plain_node p starts) v (λ f e _. w f e) is_plain_form is_plain_form (λ f. true) (λ f _ _. refl) s h h

    pub without-finally : every_statement (λ f. not (has_finally f)) s ≡ true
    without-finally = through (is_plain_node p starts) (is_plain_node p starts) (λ f. true) (λ f _ _. refl) is_plain_form is_plain_form is_plain_form (λ f e _. e) s h h

    parts : (f : CoreForm) → is_plain_node p starts f ≡ true → ((starts || not (assigns_static f)) ≡ true) × (not (names_wild f) ≡ true) × (not (joins_wild p f) ≡ true)
    parts f e = three {a = starts || not (assigns_static f)} {b = not (names_wild f)} {c = not (joins_wild p f)} e

    pub none-named : every_expression (λ f. not (names_wild f)) s ≡ true
    none-named = on-forms (λ f. not (names_wild f)) (λ f e. (parts f e).1)

    pub none-joined : every_expression (λ f. not (joins_wild p f)) s ≡ true
    none-joined = on-forms (λ f. not (joins_wild p f)) (λ f e. (parts f e).2)

    pub none-assigned : starts ≡ false → every_expression (λ f. not (assigns_static f)) s ≡ true
    none-assigned q = on-forms (λ f. not (assigns_static f)) (λ f e. subst (λ (b : Bool). (b || not (assigns_static f)) ≡ true) q (parts f e).0)

  -- and back
  module _ (starts : Bool) (s : CoreStmt) (plain : IsPlain p) (body : IsBody p starts s) where
    named-and-joined : every_expression (λ f. not (names_wild f) && not (joins_wild p f)) s ≡ true
    named-and-joined = through (λ f. not (names_wild f)) (λ f. not (joins_wild p f)) (λ f. not (names_wild f) && not (joins_wild p f)) (λ f e h. both e h)
        (λ f. true) (λ f. true) (λ f. true) (λ f _ _. refl) s (plain.no_wild_named starts s body) (plain.no_wild_joined starts s body)

    late : every_expression (λ f. starts || not (assigns_static f)) s ≡ true
    late = bool_cases (λ b. starts ≡ b → every_expression (λ f. starts || not (assigns_static f)) s ≡ true) starts
        (λ _ q. through (λ f. not (names_wild f)) (λ f. not (names_wild f)) (λ f. starts || not (assigns_static f)) (λ f _ _. ap (λ b. b || not (assigns_static f)) q)
        (λ f. true) (λ f. true) (λ f. true) (λ f _ _. refl) s (plain.no_wild_named starts s body) (plain.no_wild_named starts s body))
        (λ _ q. let e = plain.no_static_assigned s (subst (λ (b : Bool). IsBody p b s) q body) in
        through (λ f. not (assigns_static f)) (λ f. not (assigns_static f)) (λ f. starts || not (assigns_static f)) (λ f h _. either starts (not (assigns_static f)) h)
        (λ f. true) (λ f. true) (λ f. true) (λ f _ _. refl) s e e) refl

    nodes : every_expression (is_plain_node p starts) s ≡ true
    nodes = through (λ f. starts || not (assigns_static f)) (λ f. not (names_wild f) && not (joins_wild p f)) (is_plain_node p starts)
        (λ f e h. let q = two {a = not (names_wild f)} {b = not (joins_wild p f)} h in both (both e q.0) q.1)
        (λ f. true) (λ f. true) (λ f. true) (λ f _ _. refl) s late named-and-joined

    pub body-passes : is_plain_body p starts s ≡ true
    body-passes = through (is_plain_node p starts) (λ f. true) (is_plain_node p starts) (λ f e _. e) (λ f. true) is_plain_form is_plain_form (λ f _ e. e) s nodes (plain.no_finally starts s body)

  -- ---- classes

  class-within : (class : ClassId) (c : CoreClass) → class_at p class ≡ Some c → class.0 < length p.classes
  class-within class c e = slice_get_within p.classes class.0 c e

  module _ (whole : is_plain p ≡ true) where
    class-passes : (class : ClassId) (c : CoreClass) → class_at p class ≡ Some c → is_plain_class p class c ≡ true
    unfolding is_plain
    class-passes class c e = on-there (is_plain_class p class) (class_at p class)
        (each-place (λ n. if_there (is_plain_class p (record { 0 = n })) (class_at p (record { 0 = n }))) (length p.classes) whole class.0 (class-within class c e)) c e

    class-parts : (class : ClassId) (c : CoreClass) → class_at p class ≡ Some c →
        (list_all (is_plain_method p) c.methods ≡ true) × (list_all (is_plain_initializer p) c.initializers ≡ true) × (implements_all_plainly p class c ≡ true)
    class-parts class c e = three {a = list_all (is_plain_method p) c.methods} {b = list_all (is_plain_initializer p) c.initializers} {c = implements_all_plainly p class c} (class-passes class c e)

    method-parts : (class : ClassId) (c : CoreClass) (at : ℕ) (m : CoreMethod) → class_at p class ≡ Some c → slice_get c.methods at ≡ Some m → (not m.flags.is_native ≡ true) × (if_there (is_plain_body p false) m.body ≡ true)
    method-parts class c at m e h = two {a = not m.flags.is_native} {b = if_there (is_plain_body p false) m.body} (all-at (is_plain_method p) c.methods (class-parts class c e).0 at m h)

    body-plain : (starts : Bool) (s : CoreStmt) → IsBody p starts s → is_plain_body p starts s ≡ true
    body-plain _ _ (of_method class c at m s e h q) = on-there (is_plain_body p false) m.body (method-parts class c at m e h).1 s q
    body-plain _ _ (of_initializer class c at i e h) = all-at (is_plain_initializer p) c.initializers (class-parts class c e).1 at i h

    method-in : (class : ClassId) (at : ℕ) (m : CoreMethod) (o : Option CoreClass) → class_at p class ≡ o → slice_get (methods_in o) at ≡ Some m → m.flags.is_native ≡ false
    method-in class at m None e h = absurd (none-some m h)
    method-in class at m (Some c) e h = is_false (method-parts class c at m e h).0

    implemented-by : (class : ClassId) (m : Member) → Implements p class m → is_wild m ≡ false
    implemented-by class m i =
        let all = implied {a = is_guest class && not (is_interface_sort i.the_class.kind.sort)} (class-parts class i.the_class i.there).2 (both i.of_program (is_not i.no_interface)) in
        let one = each-tested p (λ above at k. implies (is_below p class above) (implements_plainly p class above at)) all i.above i.at i.method i.method_there in
        let over = implied {a = is_below p class i.above} one i.is_above in
        let tame = implied {a = is_interface (class_at p i.above)} over i.interface in
        is_false (subst (λ (o : Option Member). not (is_wild_if o) ≡ true) i.by tame)

    pub plain-where : IsPlain p
    plain-where = record {
      no_native = λ class at m e. method-in class at m (class_at p class) refl e;
      no_finally = λ starts s b. without-finally starts s (body-plain starts s b);
      no_static_assigned = λ s b. none-assigned false s (body-plain false s b) refl;
      no_wild_named = λ starts s b. none-named starts s (body-plain starts s b);
      no_wild_joined = λ starts s b. none-joined starts s (body-plain starts s b);
      no_wild_implements = implemented-by;
    }

  module _ (plain : IsPlain p) (class : ClassId) (c : CoreClass) (e : class_at p class ≡ Some c) where
    method-passes : (at : ℕ) (m : CoreMethod) → slice_get c.methods at ≡ Some m → is_plain_method p m ≡ true
    method-passes at m h = both (is_not (plain.no_native class at m (ap (λ o. slice_get (methods_in o) at) e ∙ h)))
        (if-there (is_plain_body p false) m.body (λ s q. body-passes false s plain (of_method class c at m s e h q)))

    tame-of : (above : ClassId) (at : ℕ) (k : CoreMethod) → method_at p above at ≡ Some k → is_guest class ≡ true → is_interface_sort c.kind.sort ≡ false → is_below p class above ≡ true → is_interface (class_at p above) ≡ true →
        (o : Option Member) → dispatched p class (record { class = above; at = at }) ≡ o → not (is_wild_if o) ≡ true
    tame-of above at k there guest own below interface None q = refl
    tame-of above at k there guest own below interface (Some m) q = is_not (plain.no_wild_implements class m (record {
      the_class = c;
      there = e;
      of_program = guest;
      no_interface = own;
      above = above;
      is_above = below;
      interface = interface;
      at = at;
      method = k;
      method_there = there;
      by = q;
    }))

    implements-passes : implements_all_plainly p class c ≡ true
    implements-passes = implying (is_guest class && not (is_interface_sort c.kind.sort)) (each_method p (λ above at k. implies (is_below p class above) (implements_plainly p class above at))) (λ q. let guest = two {a = is_guest class} {b = not (is_interface_sort c.kind.sort)} q in
        all-tested p (λ above at k. implies (is_below p class above) (implements_plainly p class above at))
        (λ above at k there. implying (is_below p class above) (implements_plainly p class above at)
        (λ below. implying (is_interface (class_at p above)) (not (is_wild_if (dispatched p class (record { class = above; at = at }))))
        (λ interface. tame-of above at k there guest.0 (is_false guest.1) below interface (dispatched p class (record { class = above; at = at })) refl))))

    pub class-plain : is_plain_class p class c ≡ true
    class-plain = both (both (at-all (is_plain_method p) c.methods method-passes)
        (at-all (is_plain_initializer p) c.initializers (λ at i h. body-passes i.is_static i.body plain (of_initializer class c at i e h)))) implements-passes

  pub where-plain : IsPlain p → is_plain p ≡ true
  unfolding is_plain
  where-plain plain = places-pass (λ n. if_there (is_plain_class p (record { 0 = n })) (class_at p (record { 0 = n }))) (length p.classes)
      (λ n l. if-there (is_plain_class p (record { 0 = n })) (class_at p (record { 0 = n })) (λ c e. class-plain plain (record { 0 = n }) c e))
