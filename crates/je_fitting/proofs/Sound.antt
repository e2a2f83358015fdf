-- What passes the test fits.
use Rattle.std.proofs.Common.{◌≡◌, ℕ, zero, suc, ◌<◌, ◌≤◌, List, [], ◌∷◌, map, length, Some, None, refl, sym, ap, ◌∙◌, subst, arith}
use Rattle.std.specs.Prelude.{Bool, true, false, not, count_by, ◌&&◌, ◌||◌, is_some, nat_eq, nat_lt, nat_le, slice_get, Option, if◌then◌else◌}
use Rattle.std.specs.List.{All, list_all}
use Rattle.std.specs.Str.{bytes_eq}
use Rattle.std.proofs.lemmas.List.Elements.{All-nil, All-cons}
use Rattle.std.proofs.lemmas.Bool.Decides.{nat_tests}
use Rattle.je_base.specs.declared.span.Span.{Span}
use Rattle.je_core.specs.declared.expr.BinOp.{BinOp}
use Rattle.je_core.specs.declared.expr.Use.{Use}
use Rattle.je_core.specs.declared.types.Base.{Base}
use Rattle.je_core.specs.declared.types.ClassId.{ClassId}
use Rattle.je_core.specs.declared.types.Ty.{Ty}
use Rattle.je_core.specs.Core.{Core, CoreForm, CoreCapture, Cores, MaybeCore, CoreField, CoreMethod, CoreClass, CoreProgram, node, none, more, no_core, a_core, list_of, ty_of, form_of}
use Rattle.je_core.specs.Core as core
use Rattle.je_classes.specs.Hierarchy.{class_at, same_class}
use Rattle.je_classes.specs.Subtypes.{class_type, array_of, same_type, is_subtype}
use Rattle.je_classes.proofs.Lists.{bool_cases}
use Rattle.je_classes.proofs.Same.{same_type-equal}
use Rattle.je_classes.specs.Members.{is_hidden_access}
use Rattle.je_fitting.specs.Types.{bool, int, string, is_int, agrees, all_agree, type_of_value, types_of}
use Rattle.je_fitting.specs.Operators.{sort_of, gives}
use Rattle.je_fitting.specs.Expressions.{Body, builds, starts, is_this, field_at, method_at, is_constructor, can_be_made, handed_over, Begins, at_local, at_this, CaptureFits, CapturesFit, Leads, here, through, IsPlace, a_local, an_element, a_field, an_own_field, a_static, an_own_static, Fits, const, text, local, this, field, static, index, length_of, assign, step, update, unary, binary, and, or, choose, convert, cast, instance_of, concat, call_virtual, call_exact, call_static, new, new_array, array_with, MaybeFits, nothing, something, AllFit, no_more, one_more}
use Rattle.je_fitting.specs.way.Deciding.{begins_as, goes_to, capture_fits, captures_fit, can_be_made_in, is_virtual, is_exact, is_made_by, is_operand_fit, gives_type, is_static_as, is_field, is_open, same_pairs, element_of, is_step_on, field_type, leads_to, is_place, is_fit, is_form_fit, is_maybe_fit, are_fit}
use Rattle.je_fitting.proofs.Booleans.{two, three, four, five, seven, both, is_false}

module _ (p : CoreProgram) (b : Body) where
  -- ---- what the smaller tests say

  pub gives-type : (o : Option Ty) (t : Ty) → gives_type o t ≡ true → o ≡ Some t
  gives-type None t e = absurd cc
  gives-type (Some s) t e = ap (λ (u : Ty). Some u) (same_type-equal s t e)

  record AField (kind : Bool) (o : Option CoreField) (t : Ty) : Type 0 where
    f : CoreField
    there : o ≡ Some f
    is_static : f.is_static ≡ kind
    type : f.ty ≡ t

  static-as : (kind k : Bool) → is_static_as kind k ≡ true → k ≡ kind
  static-as true k e = e
  static-as false k e = is_false e

  a-field : (kind : Bool) (o : Option CoreField) (t : Ty) → is_field kind o t ≡ true → AField kind o t
  a-field kind None t e = absurd cc
  a-field kind (Some f) t e = let q = two e in record { f = f; there = refl; is_static = static-as kind f.is_static q.0; type = same_type-equal f.ty t q.1 }

  pub all-of : {A : Type 0} (test : A → Bool) (xs : List A) → list_all test xs ≡ true → All (λ x. test x ≡ true) xs
  all-of test [] e = All-nil (λ x. test x ≡ true)
  all-of test (x ∷ xs) e = let q = two e in All-cons (λ y. test y ≡ true) x xs q.0 (all-of test xs q.1)

  an-array : (t : Ty) → nat_lt 0 t.dims ≡ true → t ≡ array_of (element_of t)
  an-array t h = by t.base t.dims h
    where
      by : (k : Base) (n : ℕ) → nat_lt 0 n ≡ true → record { base = k; dims = n } ≡ array_of (element_of (record { base = k; dims = n }))
      by k zero h = absurd (let z : 0 < 0 = grind (arith, nat_tests) in omega arith)
      by k (suc n) h = refl

  -- ---- places

  open-field : (c : ClassId) (n : ℕ) (o : Option CoreField) → field_at p c n ≡ o → is_open o ≡ true → (f : CoreField) × (field_at p c n ≡ Some f) × (f.is_final ≡ false)
  open-field c n None q e = absurd cc
  open-field c n (Some f) q e = (f, q, is_false e)

  pub same_class-equal : (c d : ClassId) → same_class c d ≡ true → c ≡ d
  same_class-equal c d e = grind (arith, nat_tests)

  place-sound : (form : CoreForm) → is_place p b form ≡ true → IsPlace p b form
  place-sound (core.Local n) e = a_local
  place-sound (core.Index a i) e = an_element
  place-sound (core.Field o c n) e = bool_cases (λ k. (k || (is_this o && builds b.code && same_class c b.class)) ≡ true → is_open (field_at p c n) ≡ k → IsPlace p b (core.Field o c n)) (is_open (field_at p c n))
      (λ q h g. let f = open-field c n (field_at p c n) refl g in a_field f.1 f.2)
      (λ q h g. let r = three h in subst (λ (d : ClassId). IsPlace p b (core.Field o d n)) (sym (same_class-equal c b.class r.2)) (an_own_field r.0 r.1)) e refl
  place-sound (core.Static o c n) e = bool_cases (λ k. (k || (starts b.code && same_class c b.class)) ≡ true → is_open (field_at p c n) ≡ k → IsPlace p b (core.Static o c n)) (is_open (field_at p c n))
      (λ q h g. let f = open-field c n (field_at p c n) refl g in a_static f.1 f.2)
      (λ q h g. let r = two h in subst (λ (d : ClassId). IsPlace p b (core.Static o d n)) (sym (same_class-equal c b.class r.1)) (an_own_static r.0)) e refl
  place-sound (core.Const v uses) h = absurd cc
  place-sound (core.Text u uses) h = absurd cc
  place-sound core.This e = absurd cc
  place-sound (core.Length a) h = absurd cc
  place-sound (core.Assign x y) h = absurd cc
  place-sound (core.Update x o e d) h = absurd cc
  place-sound (core.Unary o e) h = absurd cc
  place-sound (core.Binary o l r) h = absurd cc
  place-sound (core.And l r) h = absurd cc
  place-sound (core.Or l r) h = absurd cc
  place-sound (core.Choose x y z) h = absurd cc
  place-sound (core.Convert e) h = absurd cc
  place-sound (core.Cast e) h = absurd cc
  place-sound (core.InstanceOf e u) h = absurd cc
  place-sound (core.Concat l r) h = absurd cc
  place-sound (core.CallVirtual o c n es) h = absurd cc
  place-sound (core.CallExact o c n es) h = absurd cc
  place-sound (core.New c n es cs w) h = absurd cc
  place-sound (core.NewArray es) h = absurd cc
  place-sound (core.ArrayOf es) h = absurd cc

  -- ---- captures

  pairs-equal : (xs ys : List (ClassId × ℕ)) → same_pairs xs ys ≡ true → xs ≡ ys
  pairs-equal [] [] e = refl
  pairs-equal [] (y ∷ ys) e = absurd cc
  pairs-equal (x ∷ xs) [] e = absurd cc
  pairs-equal (x ∷ xs) (y ∷ ys) e = let q = two e in let r = two q.0 in
      let n : x.1 ≡ y.1 = let g : nat_eq x.1 y.1 ≡ true = r.1 in grind (arith, nat_tests) in
      let k : x ≡ y = ap (λ (c : ClassId). (c, x.1)) (same_class-equal x.0 y.0 r.0) ∙ ap (λ (m : ℕ). (y.0, m)) n in
      ap (λ (z : ClassId × ℕ). z ∷ xs) k ∙ ap (λ (zs : List (ClassId × ℕ)). y ∷ zs) (pairs-equal xs ys q.1)

  lead-on : (s : Ty) (x : ClassId × ℕ) (path : List (ClassId × ℕ)) (u : Ty) → ((t : Ty) → leads_to p (Some t) path ≡ Some u → Leads p b t path u) → (o : Option CoreField) → field_at p x.0 x.1 ≡ o →
      (if is_step_on p s x.0 o then leads_to p (field_type o) path else None) ≡ Some u → Leads p b s (x ∷ path) u
  lead-on s x path u further None q e = absurd cc
  lead-on s x path u further (Some f) q e = bool_cases (λ k. is_step_on p s x.0 (Some f) ≡ k → (if k then leads_to p (Some f.ty) path else None) ≡ Some u → Leads p b s (x ∷ path) u) (is_step_on p s x.0 (Some f))
      (λ _ h j. let r = three {a = is_subtype p s (class_type x.0)} {b = not f.is_static} {c = is_hidden_access f.access} h in through r.0 q (is_false r.1) r.2 (further f.ty j))
      (λ _ h j. absurd cc) refl e

  lead : (s : Ty) (path : List (ClassId × ℕ)) (u : Ty) → leads_to p (Some s) path ≡ Some u → Leads p b s path u
  lead s [] u e = let q : s ≡ u = cc in subst (λ (t : Ty). Leads p b s [] t) q here
  lead s (x ∷ path) u e = lead-on s x path u (λ t h. lead t path u h) (field_at p x.0 x.1) refl e

  capture-from : (c : CoreCapture) (o : Option Ty) → begins_as b c.local ≡ o → (u : Option Ty) → leads_to p o c.path ≡ u → (g : Option CoreField) → field_at p c.class c.field ≡ g →
      goes_to p u g ≡ true → CaptureFits p b c
  capture-from c o q None k g h e = absurd cc
  capture-from c o q (Some u) k None h e = absurd cc
  capture-from c None q (Some u) k (Some f) h e = absurd cc
  capture-from c (Some t) q (Some u) k (Some f) h e = record { from = t; to = u; field = f; begins = begins c.local t q; leads = lead t c.path u k; there = h; agree = e }
    where
      begins : (l : Option ℕ) (t : Ty) → begins_as b l ≡ Some t → Begins p b l t
      begins (Some n) t e = at_local e
      begins None t e = bool_cases (λ k. b.is_static ≡ k → (if k then None else Some (class_type b.class)) ≡ Some t → Begins p b None t) b.is_static
          (λ g h j. absurd cc)
          (λ g h j. let r : class_type b.class ≡ t = cc in subst (λ (u : Ty). Begins p b None u) r (at_this h)) refl e

  capture-sound : (c : CoreCapture) → capture_fits p b c ≡ true → CaptureFits p b c
  capture-sound c e = capture-from c (begins_as b c.local) refl (leads_to p (begins_as b c.local) c.path) refl (field_at p c.class c.field) refl e

  captures-sound : (class : ClassId) (cs : List CoreCapture) → captures_fit p b class cs ≡ true → CapturesFit p b class cs
  captures-sound class cs e = let q = two e in record {
    fields = pairs-equal (map (λ (c : CoreCapture). (c.class, c.field)) cs) (handed_over p class) q.0;
    each = all-captures cs q.1;
  }
    where
      all-captures : (cs : List CoreCapture) → list_all (capture_fits p b) cs ≡ true → All (CaptureFits p b) cs
      all-captures [] e = All-nil (CaptureFits p b)
      all-captures (c ∷ cs) e = let q = two e in All-cons (CaptureFits p b) c cs (capture-sound c q.0) (all-captures cs q.1)

  -- ---- methods

  record AMethod (o : Option CoreMethod) (args : List Ty) (t : Ty) (test : CoreMethod → Bool) : Type 0 where
    m : CoreMethod
    there : o ≡ Some m
    passes : test m ≡ true
    agree : all_agree p args m.params ≡ true
    type : m.returns ≡ t

  a-virtual : (o : Option CoreMethod) (args : List Ty) (t : Ty) → is_virtual p o args t ≡ true → AMethod o args t (λ m. not m.flags.is_static && not (is_constructor p m))
  a-virtual None args t e = absurd cc
  a-virtual (Some m) args t e = let q = four {a = not m.flags.is_static} {b = not (is_constructor p m)} e in record { m = m; there = refl; passes = both q.0 q.1; agree = q.2; type = same_type-equal m.returns t q.3 }

  an-exact : (received : Bool) (o : Option CoreMethod) (args : List Ty) (t : Ty) → is_exact p received o args t ≡ true →
      AMethod o args t (λ m. (received || m.flags.is_static) && not m.flags.is_abstract && not (is_constructor p m))
  an-exact received None args t e = absurd cc
  an-exact received (Some m) args t e = let q = five {a = received || m.flags.is_static} {b = not m.flags.is_abstract} {c = not (is_constructor p m)} e in record { m = m; there = refl; passes = both (both q.0 q.1) q.2; agree = q.3; type = same_type-equal m.returns t q.4 }

  pub makes : (o : Option CoreMethod) (args : List Ty) → is_made_by p o args ≡ true → (m : CoreMethod) × (o ≡ Some m) × (is_constructor p m ≡ true) × (all_agree p args m.params ≡ true)
  makes None args e = absurd cc
  makes (Some m) args e = let q = two e in (m, refl, q.0, q.1)

  made : (o : Option CoreClass) → can_be_made_in o ≡ true → (k : CoreClass) × (o ≡ Some k) × (can_be_made k ≡ true)
  made None e = absurd cc
  made (Some k) e = (k, refl, e)

  -- a node whose type is told
  of_type : (form : CoreForm) (s t : Ty) (span at : Span) → s ≡ t → Fits p b (node form s span at) → Fits p b (node form t span at)
  of_type form s t span at e f = subst (λ (u : Ty). Fits p b (node form u span at)) e f

  told : (form : CoreForm) (s t : Ty) (span at : Span) → same_type s t ≡ true → Fits p b (node form s span at) → Fits p b (node form t span at)
  told form s t span at e f = of_type form s t span at (same_type-equal s t e) f

  -- with a receiver, static or not
  exact-sound : (o : Core) (c : ClassId) (n : ℕ) (args : Cores) (t : Ty) (span at : Span) → Fits p b o → is_subtype p (ty_of o) (class_type c) ≡ true → AllFit p b args →
      AMethod (method_at p c n) (types_of (list_of args)) t (λ m. (true || m.flags.is_static) && not m.flags.is_abstract && not (is_constructor p m)) → Fits p b (node (core.CallExact (a_core o) c n args) t span at)
  exact-sound o c n args t span at f s a k = let q = two {a = (true || k.m.flags.is_static) && not k.m.flags.is_abstract} {b = not (is_constructor p k.m)} k.passes in let r = two {a = true || k.m.flags.is_static} {b = not k.m.flags.is_abstract} q.0 in of_type (core.CallExact (a_core o) c n args) k.m.returns t span at k.type
      (bool_cases (λ z. k.m.flags.is_static ≡ z → Fits p b (node (core.CallExact (a_core o) c n args) k.m.returns span at)) k.m.flags.is_static
      (λ g h. call_static (something f s) k.there h (is_false r.1) (is_false q.1) a k.agree)
      (λ g h. call_exact f s k.there h (is_false r.1) (is_false q.1) a k.agree) refl)

  -- ---- nodes

  mutual
    pub sound : (e : Core) → is_fit p b e ≡ true → Fits p b e
    sound (node form t span at) e = form_sound form t span at e

    form_sound : (form : CoreForm) (t : Ty) (span at : Span) → is_form_fit p b form t ≡ true → Fits p b (node form t span at)
    form_sound (core.Const v uses) t span at e = let q = two e in const (gives-type (type_of_value v) t q.0) (all-of (λ (u : Use). is_some (field_at p u.class u.field)) uses q.1)
    form_sound (core.Text units uses) t span at e = let q = three e in let n : count_by (λ s. bytes_eq s units) p.texts ≡ 1 = let g : nat_eq (count_by (λ s. bytes_eq s units) p.texts) 1 ≡ true = q.1 in grind (arith, nat_tests) in
        told (core.Text units uses) string t span at q.0 (text n (all-of (λ (u : Use). is_some (field_at p u.class u.field)) uses q.2))
    form_sound (core.Local n) t span at e = local (gives-type (slice_get b.locals n) t e)
    form_sound core.This t span at e = let q = two e in told core.This (class_type b.class) t span at q.1 (this (is_false q.0))
    form_sound (core.Field o c n) t span at e = let q = three e in let f = a-field false (field_at p c n) t q.2 in
        of_type (core.Field o c n) f.f.ty t span at f.type (field (sound o q.0) q.1 f.there f.is_static)
    form_sound (core.Static o c n) t span at e = let q = two e in let f = a-field true (field_at p c n) t q.1 in
        of_type (core.Static o c n) f.f.ty t span at f.type (static (maybe_sound c o q.0) f.there f.is_static)
    form_sound (core.Index a i) t span at e = let q = four e in index (sound a q.0) (same_type-equal (ty_of a) (array_of t) q.1) (sound i q.2) q.3
    form_sound (core.Length a) t span at e = let q = three e in told (core.Length a) int t span at q.2 (length_of (sound a q.0) (an-array (ty_of a) q.1))
    form_sound (core.Assign (node f u s k) value) t span at e = let q = five e in
        assign refl (form_sound f u s k q.0) (place-sound f q.1) (sound value q.2) q.3 q.4
    form_sound (core.Update (node f u s k) o operand old) t span at e = let q = four e in
        update_sound f u s k o operand old t span at (form_sound f u s k q.0) q.1 (place-sound f q.2) q.3
    form_sound (core.Unary o e) t span at h = let q = three h in told (core.Unary o e) (ty_of e) t span at q.2 (unary (sound e q.0) q.1)
    form_sound (core.Binary o l r) t span at h = let q = four h in told (core.Binary o l r) (gives (sort_of o) (ty_of l)) t span at q.3 (binary (sound l q.0) (sound r q.1) q.2)
    form_sound (core.And l r) t span at h = let q = five h in told (core.And l r) bool t span at q.4 (and (sound l q.0) (sound r q.1) q.2 q.3)
    form_sound (core.Or l r) t span at h = let q = five h in told (core.Or l r) bool t span at q.4 (or (sound l q.0) (sound r q.1) q.2 q.3)
    form_sound (core.Choose c y n) t span at h = let q = seven h in choose (sound c q.0) q.1 (sound y q.2) q.3 (sound n q.4) q.5 q.6
    form_sound (core.Convert e) t span at h = let q = four h in convert (sound e q.0) q.1 q.2 (is_false q.3)
    form_sound (core.Cast e) t span at h = let q = four h in cast (sound e q.0) q.1 q.2 q.3
    form_sound (core.InstanceOf e u) t span at h = let q = five h in told (core.InstanceOf e u) bool t span at q.4 (instance_of (sound e q.0) q.1 q.2 q.3)
    form_sound (core.Concat l r) t span at h = let q = four h in told (core.Concat l r) string t span at q.3 (concat (sound l q.0) (sound r q.1) q.2)
    form_sound (core.CallVirtual o c n args) t span at h = let q = four h in let m = a-virtual (method_at p c n) (types_of (list_of args)) t q.3 in let r = two {a = not m.m.flags.is_static} {b = not (is_constructor p m.m)} m.passes in
        of_type (core.CallVirtual o c n args) m.m.returns t span at m.type (call_virtual (sound o q.0) q.1 m.there (is_false r.0) (is_false r.1) (all_sound args q.2) m.agree)
    form_sound (core.CallExact no_core c n args) t span at h = let q = three {a = true} h in let m = an-exact false (method_at p c n) (types_of (list_of args)) t q.2 in let r = three {a = false || m.m.flags.is_static} {b = not m.m.flags.is_abstract} {c = not (is_constructor p m.m)} m.passes in
        of_type (core.CallExact no_core c n args) m.m.returns t span at m.type (call_static nothing m.there r.0 (is_false r.1) (is_false r.2) (all_sound args q.1) m.agree)
    form_sound (core.CallExact (a_core o) c n args) t span at h = let q = three h in let r = two q.0 in
        exact-sound o c n args t span at (sound o r.0) r.1 (all_sound args q.1) (an-exact true (method_at p c n) (types_of (list_of args)) t q.2)
    form_sound (core.New c n args captures word) t span at h = let q = five h in let k = made (class_at p c) q.0 in let m = makes (method_at p c n) (types_of (list_of args)) q.1 in
        told (core.New c n args captures word) (class_type c) t span at q.4 (new k.1 k.2 m.1 m.2 (all_sound args q.2) m.3 (captures-sound c captures q.3))
    form_sound (core.NewArray lengths) t span at h = let q = five h in
        let least : 1 ≤ length (list_of lengths) = let g : nat_le 1 (length (list_of lengths)) ≡ true = q.2 in grind (arith, nat_tests) in
        let most : length (list_of lengths) ≤ t.dims = let g : nat_le (length (list_of lengths)) t.dims ≡ true = q.3 in grind (arith, nat_tests) in
        new_array (all_sound lengths q.0) (all-of is_int (types_of (list_of lengths)) q.1) least most q.4
    form_sound (core.ArrayOf values) t span at h = let q = four h in
        of_type (core.ArrayOf values) (array_of (element_of t)) t span at (sym (an-array t q.1)) (array_with (all_sound values q.0) (all-of (λ v. agrees p v (element_of t)) (types_of (list_of values)) q.2) q.3)

    update_sound : (f : CoreForm) (u : Ty) (s k : Span) (o : BinOp) (operand : MaybeCore) (old : Bool) (t : Ty) (span at : Span) → Fits p b (node f u s k) → agrees p t u ≡ true → IsPlace p b f →
        is_operand_fit p b o t old operand ≡ true → Fits p b (node (core.Update (node f u s k) o operand old) t span at)
    update_sound f u s k o no_core old t span at fits e place h = let q = two h in step refl fits place e q.0 q.1
    update_sound f u s k o (a_core x) old t span at fits e place h = let q = three h in
        subst (λ (z : Bool). Fits p b (node (core.Update (node f u s k) o (a_core x) z) t span at)) (sym (is_false q.2)) (update refl fits place e (sound x q.0) q.1)

    maybe_sound : (c : ClassId) (o : MaybeCore) → is_maybe_fit p b c o ≡ true → MaybeFits p b c o
    maybe_sound c no_core e = nothing
    maybe_sound c (a_core o) e = let q = two e in something (sound o q.0) q.1

    pub all_sound : (es : Cores) → are_fit p b es ≡ true → AllFit p b es
    all_sound none e = no_more
    all_sound (more e es) h = let q = two h in one_more (sound e q.0) (all_sound es q.1)
