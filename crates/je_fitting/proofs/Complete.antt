-- What fits passes the test.
use Rattle.std.proofs.Common.{◌≡◌, ℕ, suc, List, [], ◌∷◌, map, length, Some, None, refl, sym, ap, subst, arith}
use Rattle.std.specs.Prelude.{Bool, true, false, not, count_by, ◌&&◌, ◌||◌, is_some, nat_eq, nat_lt, nat_le, slice_get, Option}
use Rattle.std.specs.List.{All, list_all}
use Rattle.std.specs.Str.{bytes_eq}
use Rattle.std.proofs.lemmas.Bool.Decides.{nat_tests}
use Rattle.std.proofs.lemmas.List.Elements.{All-head, All-tail}
use Rattle.je_core.specs.declared.expr.Use.{Use}
use Rattle.je_core.specs.declared.types.ClassId.{ClassId}
use Rattle.je_core.specs.declared.types.Ty.{Ty}
use Rattle.je_core.specs.Core.{Core, CoreForm, CoreCapture, Cores, MaybeCore, CoreField, CoreMethod, CoreClass, CoreProgram, list_of, ty_of}
use Rattle.je_classes.specs.Hierarchy.{class_at, same_class}
use Rattle.je_classes.specs.Subtypes.{class_type, array_of, same_type, is_subtype}
use Rattle.je_classes.specs.Members.{is_hidden_access}
use Rattle.je_classes.proofs.Same.{same_type-refl}
use Rattle.je_fitting.specs.Types.{bool, int, string, is_int, agrees, all_agree, type_of_value, types_of}
use Rattle.je_fitting.specs.Operators.{sort_of, gives}
use Rattle.je_fitting.specs.Expressions.{Body, builds, starts, is_this, field_at, method_at, is_constructor, can_be_made, Begins, at_local, at_this, CaptureFits, CapturesFit, Leads, here, through, IsPlace, a_local, an_element, a_field, an_own_field, a_static, an_own_static, Fits, const, text, local, this, field, static, index, length_of, assign, step, update, unary, binary, and, or, choose, convert, cast, instance_of, concat, call_virtual, call_exact, call_static, new, new_array, array_with, MaybeFits, nothing, something, AllFit, no_more, one_more}
use Rattle.je_fitting.specs.way.Deciding.{begins_as, goes_to, capture_fits, captures_fit, can_be_made_in, is_virtual, is_exact, is_made_by, is_there_core, gives_type, is_static_as, is_field, is_open, same_pairs, is_step_on, field_type, leads_to, is_place, is_fit, is_maybe_fit, are_fit}
use Rattle.je_fitting.proofs.Booleans.{both, is_not}

module _ (p : CoreProgram) (b : Body) where
  same : (t : Ty) → same_type t t ≡ true
  same t = same_type-refl t

  pub gives-type : (o : Option Ty) (t : Ty) → o ≡ Some t → gives_type o t ≡ true
  gives-type None t e = absurd cc
  gives-type (Some s) t e = let q : s ≡ t = cc in subst (λ (u : Ty). same_type s u ≡ true) q (same s)

  static-as : (kind k : Bool) → k ≡ kind → is_static_as kind k ≡ true
  static-as true k e = e
  static-as false k e = is_not e

  a-field : (kind : Bool) (o : Option CoreField) (f : CoreField) → o ≡ Some f → f.is_static ≡ kind → is_field kind o f.ty ≡ true
  a-field kind None f e g = absurd cc
  a-field kind (Some k) f e g = let q : k ≡ f = cc in subst (λ (z : CoreField). (is_static_as kind z.is_static && same_type z.ty f.ty) ≡ true) (sym q) (both (static-as kind f.is_static g) (same f.ty))

  pub listed : {A : Type 0} (test : A → Bool) (xs : List A) → All (λ x. test x ≡ true) xs → list_all test xs ≡ true
  listed test [] a = refl
  listed test (x ∷ xs) a = both (All-head (λ y. test y ≡ true) x xs a) (listed test xs (All-tail (λ y. test y ≡ true) x xs a))

  pub same_class-refl : (c : ClassId) → same_class c c ≡ true
  same_class-refl c = grind (arith, nat_tests)

  -- ---- places

  is-open : (o : Option CoreField) (f : CoreField) → o ≡ Some f → f.is_final ≡ false → is_open o ≡ true
  is-open None f e g = absurd cc
  is-open (Some k) f e g = let q : k ≡ f = cc in is_not (subst (λ (z : CoreField). z.is_final ≡ false) (sym q) g)

  or_left : (x y : Bool) → x ≡ true → (x || y) ≡ true
  or_left true y e = refl
  or_left false y e = absurd cc

  or_right : (x y : Bool) → y ≡ true → (x || y) ≡ true
  or_right true y e = refl
  or_right false y e = e

  place-complete : (form : CoreForm) → IsPlace p b form → is_place p b form ≡ true
  place-complete _ a_local = refl
  place-complete _ an_element = refl
  place-complete _ (a_field {o = o} {c = c} {at = n} {f = f} q g) = or_left (is_open (field_at p c n)) (is_this o && builds b.code && same_class c b.class) (is-open (field_at p c n) f q g)
  place-complete _ (an_own_field {o = o} {at = n} q g) = or_right (is_open (field_at p b.class n)) (is_this o && builds b.code && same_class b.class b.class) (both (both q g) (same_class-refl b.class))
  place-complete _ (a_static {c = c} {at = n} {f = f} q g) = or_left (is_open (field_at p c n)) (starts b.code && same_class c b.class) (is-open (field_at p c n) f q g)
  place-complete _ (an_own_static {at = n} q) = or_right (is_open (field_at p b.class n)) (starts b.code && same_class b.class b.class) (both q (same_class-refl b.class))

  -- ---- captures

  pairs-same : (xs : List (ClassId × ℕ)) → same_pairs xs xs ≡ true
  pairs-same [] = refl
  pairs-same (x ∷ xs) = let n : nat_eq x.1 x.1 ≡ true = grind (arith, nat_tests) in both (both (same_class-refl x.0) n) (pairs-same xs)

  begun : (l : Option ℕ) (t : Ty) → Begins p b l t → begins_as b l ≡ Some t
  begun _ _ (at_local q) = q
  begun _ _ (at_this q) = rw q refl

  stepped : (t : Ty) (c : ClassId) (o : Option CoreField) (f : CoreField) → o ≡ Some f → is_subtype p t (class_type c) ≡ true → f.is_static ≡ false → is_hidden_access f.access ≡ true → is_step_on p t c o ≡ true
  stepped t c None f e s g h = absurd cc
  stepped t c (Some k) f e s g h = let q : k ≡ f = cc in
      subst (λ (z : CoreField). (is_subtype p t (class_type c) && not z.is_static && is_hidden_access z.access) ≡ true) (sym q) (both (both s (is_not g)) h)

  typed : (o : Option CoreField) (f : CoreField) → o ≡ Some f → field_type o ≡ Some f.ty
  typed None f e = absurd cc
  typed (Some k) f e = let q : k ≡ f = cc in ap (λ (z : CoreField). Some z.ty) q

  led : (s : Ty) (path : List (ClassId × ℕ)) (u : Ty) → Leads p b s path u → leads_to p (Some s) path ≡ Some u
  led _ _ _ here = refl
  led s _ u (through {c = c} {at = n} {f = f} {path = path} q there own hidden rest) =
      rw (stepped s c (field_at p c n) f there q own hidden, typed (field_at p c n) f there) (led f.ty path u rest)

  goes : (u : Ty) (o : Option CoreField) (f : CoreField) → o ≡ Some f → agrees p u f.ty ≡ true → goes_to p (Some u) o ≡ true
  goes u None f e a = absurd cc
  goes u (Some k) f e a = let q : k ≡ f = cc in subst (λ (z : CoreField). agrees p u z.ty ≡ true) (sym q) a

  capture-complete : (c : CoreCapture) → CaptureFits p b c → capture_fits p b c ≡ true
  capture-complete c k =
      let from : begins_as b c.local ≡ Some k.from = begun c.local k.from k.begins in
      let to : leads_to p (Some k.from) c.path ≡ Some k.to = led k.from c.path k.to k.leads in
      rw (from, to) (goes k.to (field_at p c.class c.field) k.field k.there k.agree)

  captures-complete : (class : ClassId) (cs : List CoreCapture) → CapturesFit p b class cs → captures_fit p b class cs ≡ true
  captures-complete class cs k = both
      (subst (λ (xs : List (ClassId × ℕ)). same_pairs (map (λ (c : CoreCapture). (c.class, c.field)) cs) xs ≡ true) k.fields (pairs-same (map (λ (c : CoreCapture). (c.class, c.field)) cs)))
      (each cs k.each)
    where
      each : (cs : List CoreCapture) → All (CaptureFits p b) cs → list_all (capture_fits p b) cs ≡ true
      each [] a = refl
      each (c ∷ cs) a = both (capture-complete c (All-head (CaptureFits p b) c cs a)) (each cs (All-tail (CaptureFits p b) c cs a))

  -- ---- methods

  a-virtual : (o : Option CoreMethod) (m : CoreMethod) (args : List Ty) → o ≡ Some m → m.flags.is_static ≡ false → is_constructor p m ≡ false → all_agree p args m.params ≡ true → is_virtual p o args m.returns ≡ true
  a-virtual None m args e s k a = absurd cc
  a-virtual (Some n) m args e s k a = let q : n ≡ m = cc in subst (λ (z : CoreMethod). is_virtual p (Some z) args m.returns ≡ true) (sym q) (both (both (both (is_not s) (is_not k)) a) (same m.returns))

  an-exact : (received : Bool) (o : Option CoreMethod) (m : CoreMethod) (args : List Ty) → o ≡ Some m → (received || m.flags.is_static) ≡ true → m.flags.is_abstract ≡ false → is_constructor p m ≡ false →
      all_agree p args m.params ≡ true → is_exact p received o args m.returns ≡ true
  an-exact received None m args e r s k a = absurd cc
  an-exact received (Some n) m args e r s k a = let q : n ≡ m = cc in
      subst (λ (z : CoreMethod). is_exact p received (Some z) args m.returns ≡ true) (sym q) (both (both (both (both r (is_not s)) (is_not k)) a) (same m.returns))

  pub made-by : (o : Option CoreMethod) (m : CoreMethod) (args : List Ty) → o ≡ Some m → is_constructor p m ≡ true → all_agree p args m.params ≡ true → is_made_by p o args ≡ true
  made-by None m args e k a = absurd cc
  made-by (Some n) m args e k a = let q : n ≡ m = cc in subst (λ (z : CoreMethod). is_made_by p (Some z) args ≡ true) (sym q) (both k a)

  can-be : (o : Option CoreClass) (k : CoreClass) → o ≡ Some k → can_be_made k ≡ true → can_be_made_in o ≡ true
  can-be None k e c = absurd cc
  can-be (Some n) k e c = let q : n ≡ k = cc in subst (λ (z : CoreClass). can_be_made z ≡ true) (sym q) c

  -- ---- nodes

  mutual
    pub complete : (e : Core) → Fits p b e → is_fit p b e ≡ true
    complete _ (const {v = v} {uses = uses} {t = t} q u) = both (gives-type (type_of_value v) t q) (listed (λ (k : Use). is_some (field_at p k.class k.field)) uses u)
    complete _ (text {units = units} {uses = uses} q u) =
        let n : nat_eq (count_by (λ s. bytes_eq s units) p.texts) 1 ≡ true = grind (arith, nat_tests) in
        both (both (same string) n) (listed (λ (k : Use). is_some (field_at p k.class k.field)) uses u)
    complete _ (local {n = n} {t = t} q) = gives-type (slice_get b.locals n) t q
    complete _ (this q) = both (is_not q) (same (class_type b.class))
    complete _ (field {o = o} {c = c} {n = n} {f = f} q s there own) = both (both (complete o q) s) (a-field false (field_at p c n) f there own)
    complete _ (static {o = o} {c = c} {n = n} {f = f} q there own) = both (maybe_complete c o q) (a-field true (field_at p c n) f there own)
    complete _ (index {a = a} {i = i} {t = t} q e r n) = both (both (both (complete a q) (rw e (same (array_of t)))) (complete i r)) n
    complete _ (length_of {a = a} {t = t} q e) = both (both (complete a q) (rw e (let z : nat_lt 0 (suc t.dims) ≡ true = grind (arith, nat_tests) in z))) (same int)
    complete _ (assign {place = place} {value = value} {form = form} {t = t} e q k v a z) = both (both (both (both (complete place q) (rw e (place-complete form k))) (complete value v)) a) (rw e z)
    complete _ (step {place = place} {form = form} e q k z n s) = both (both (both (complete place q) (rw e z)) (rw e (place-complete form k))) (both n s)
    complete _ (update {place = place} {operand = operand} {form = form} e q k z v u) =
        both (both (both (complete place q) (rw e z)) (rw e (place-complete form k))) (both (both (complete operand v) u) refl)
    complete _ (unary {e = e} q k) = both (both (complete e q) k) (same (ty_of e))
    complete _ (binary {o = o} {l = l} {r = r} q k t) = both (both (both (complete l q) (complete r k)) t) (same (gives (sort_of o) (ty_of l)))
    complete _ (and {l = l} {r = r} q k x y) = both (both (both (both (complete l q) (complete r k)) x) y) (same bool)
    complete _ (or {l = l} {r = r} q k x y) = both (both (both (both (complete l q) (complete r k)) x) y) (same bool)
    complete _ (choose {c = c} {y = y} {n = n} q x k a l d s) = both (both (both (both (both (both (complete c q) x) (complete y k)) a) (complete n l)) d) s
    complete _ (convert {e = e} q x y d) = both (both (both (complete e q) x) y) (is_not d)
    complete _ (cast {e = e} q x y d) = both (both (both (complete e q) x) y) d
    complete _ (instance_of {e = e} q x y d) = both (both (both (both (complete e q) x) y) d) (same bool)
    complete _ (concat {l = l} {r = r} q k j) = both (both (both (complete l q) (complete r k)) j) (same string)
    complete _ (call_virtual {o = o} {c = c} {n = n} {args = args} {m = m} q s there own k all a) =
        both (both (both (complete o q) s) (all_complete args all)) (a-virtual (method_at p c n) m (types_of (list_of args)) there own k a)
    complete _ (call_exact {o = o} {c = c} {n = n} {args = args} {m = m} q s there own body k all a) =
        both (both (both (complete o q) s) (all_complete args all)) (an-exact true (method_at p c n) m (types_of (list_of args)) there refl body k a)
    complete _ (call_static {o = o} {c = c} {n = n} {args = args} {m = m} q there own body k all a) =
        both (both (maybe_complete c o q) (all_complete args all)) (an-exact (is_there_core o) (method_at p c n) m (types_of (list_of args)) there (or_right (is_there_core o) m.flags.is_static own) body k a)
    complete _ (new {c = c} {n = n} {args = args} {class = class} {m = m} {captures = captures} there can made k all a handed) =
        both (both (both (both (can-be (class_at p c) class there can) (made-by (method_at p c n) m (types_of (list_of args)) made k a)) (all_complete args all)) (captures-complete c captures handed)) (same (class_type c))
    complete _ (new_array {lengths = lengths} {t = t} all ints least most v) =
        let x : nat_le 1 (length (list_of lengths)) ≡ true = grind (arith, nat_tests) in
        let y : nat_le (length (list_of lengths)) t.dims ≡ true = grind (arith, nat_tests) in
        both (both (both (both (all_complete lengths all) (listed is_int (types_of (list_of lengths)) ints)) x) y) v
    complete _ (array_with {values = values} {t = t} all a v) =
        let x : nat_lt 0 (suc t.dims) ≡ true = grind (arith, nat_tests) in
        both (both (both (all_complete values all) x) (listed (λ u. agrees p u t) (types_of (list_of values)) a)) v

    maybe_complete : (c : ClassId) (o : MaybeCore) → MaybeFits p b c o → is_maybe_fit p b c o ≡ true
    maybe_complete _ _ nothing = refl
    maybe_complete _ _ (something {o = o} q s) = both (complete o q) s

    pub all_complete : (es : Cores) → AllFit p b es → are_fit p b es ≡ true
    all_complete _ no_more = refl
    all_complete _ (one_more {e = e} {es = es} q k) = both (complete e q) (all_complete es k)
