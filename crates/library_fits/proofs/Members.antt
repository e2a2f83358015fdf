-- The fields and methods of the library's classes fit.
use Rattle.std.proofs.Common.{◌≡◌, ◌<◌, ◌≤◌, ℕ, zero, suc, List, [], ◌∷◌, ◌++◌, map, length, Option, Some, None, option_map, refl, sym, ap, subst, ◌∙◌, inl, inr, arith}
use Rattle.std.specs.Prelude.{is_none, is_some, Bool, true, false, not, ◌&&◌, ◌||◌, ◌⊎◌, filter, slice_get, get_or, cond, codes, if◌then◌else◌}
use Rattle.std.specs.List.{All, Contains, list_all, list_any}
use Rattle.std.specs.Str.{bytes_eq}
use Rattle.std.proofs.lemmas.Bool.Decides.{nat_tests}
use Rattle.std.proofs.lemmas.List.Elements.{All-nil, All-cons}
use Rattle.std.proofs.lemmas.Option.{none-some, same_Some, slice_get-map, slice_get_cases}
use Rattle.std.proofs.lemmas.Slice.Eq.{bytes_eq-Decides}
use Rattle.je_core.specs.declared.types.Base.{Base}
use Rattle.je_core.specs.declared.types.Base.TheVariants as base
use Rattle.je_core.specs.declared.types.ClassId.{ClassId}
use Rattle.je_core.specs.declared.types.Ty.{Ty}
use Rattle.je_core.specs.declared.program.Sort.TheVariants as sort
use Rattle.je_core.specs.Core.{CoreField, CoreMethod, CoreProgram, node}
use Rattle.je_core.specs.Core as core
use Rattle.je_table.specs.Library.{Class, classes}
use Rattle.je_table.specs.Rows.{Row}
use Rattle.je_classes.specs.Dispatch.{same_signature}
use Rattle.je_classes.specs.Hierarchy.{is_below, same_class}
use Rattle.je_classes.specs.Laws.{SubtypesAreDecided}
use Rattle.je_classes.specs.Members.{methods_in, same_name}
use Rattle.je_classes.specs.Subtypes.{class_type, is_reference, is_subtype, itself, same_type, same_types}
use Rattle.je_classes.proofs.Below.{below-to}
use Rattle.je_classes.proofs.Lists.{bool_cases}
use Rattle.je_classes.proofs.Same.{same_type-equal}
use Rattle.je_fitting.specs.Expressions.{const, is_constructor, is_interface_sort, method_at}
use Rattle.je_fitting.specs.Members.{ConstantFits, ConstructorFits, FieldFits, IsOverridden, is_interface, MethodFits, StandsFor, is_guest, results_agree}
use Rattle.je_fitting.specs.Types.{is_variable_type, is_void, type_of_value}
use Rattle.je_fitting.proofs.Booleans.{two, is_false}
use Rattle.je_sound.proofs.Library.{alone}
use Rattle.library_classes.specs.Library.{LibraryStands, class_due, constant_field, erased, erased_base, fields_due, hidden_fields, is_field_of, is_method_of, limit, method_due, nowhere, rows, sort_due}
use Rattle.class_names.specs.Words.{library_words}
use Rattle.library_fits.proofs.Named.{constructor-named, method-named, same-word}
use Rattle.library_fits.proofs.Rounds.{all-of, in-list, round-above}
use Rattle.library_fits.proofs.Table.{apart, class-there}
use Rattle.library_fits.proofs.Tests.{are_right, fields-right, hidden-right, implies, is_constant_right, is_field_right, is_hidden_right, each-row, each_in, each_method_in, is-round, is_alike, is_maker, is_method_right, is_variable, methods-right, methods_by, names-there, pairs-right, params_by, pairs_right, round_of, rounds-there}

-- ---- lists

pub at-passes : {A : Type 0} (test : A → Bool) (xs : List A) → list_all test xs ≡ true → (at : ℕ) (x : A) → slice_get xs at ≡ Some x → test x ≡ true
at-passes test [] h at x e = absurd cc
at-passes test (y ∷ xs) h zero x e = subst (λ z. test z ≡ true) (same_Some y x e) (two {a = test y} {b = list_all test xs} h).0
at-passes test (y ∷ xs) h (suc at) x e = at-passes test xs (two {a = test y} {b = list_all test xs} h).1 at x e

filtered : {A : Type 0} (test keep : A → Bool) (xs : List A) → list_all test xs ≡ true → list_all test (filter keep xs) ≡ true
filtered test keep [] h = refl
filtered test keep (x ∷ xs) h = let b = two {a = test x} {b = list_all test xs} h in by (filtered test keep xs b.1) b.0 (keep x)
  where
    by : list_all test (filter keep xs) ≡ true → test x ≡ true → (c : Bool) → list_all test (cond c (x ∷ filter keep xs) (filter keep xs)) ≡ true
    by rest first true = rw (first, rest) refl
    by rest first false = rest

pub mapped : {A B : Type 0} (f : A → B) (xs : List A) (at : ℕ) (y : B) → slice_get (map f xs) at ≡ Some y → (x : A) × (slice_get xs at ≡ Some x) × (f x ≡ y)
mapped f xs at y e = by (slice_get xs at) refl (sym (slice_get-map f xs at) ∙ e)
  where
    by : (o : Option _) → slice_get xs at ≡ o → option_map f o ≡ Some y → (x : _) × (slice_get xs at ≡ Some x) × (f x ≡ y)
    by None q h = absurd (none-some y h)
    by (Some x) q h = (x, q, same_Some (f x) y h)

pub all-passing : {A : Type 0} (test : A → Bool) (P : A → Type 0) → ((x : A) → test x ≡ true → P x) → (xs : List A) → list_all test xs ≡ true → All P xs
all-passing test P f [] h = All-nil P
all-passing test P f (x ∷ xs) h = let b = two {a = test x} {b = list_all test xs} h in All-cons P x xs (f x b.0) (all-passing test P f xs b.1)

append-cases : {A : Type 0} (xs ys : List A) (at : ℕ) (x : A) → slice_get (xs ++ ys) at ≡ Some x → (slice_get xs at ≡ Some x) ⊎ ((n : ℕ) × (slice_get ys n ≡ Some x))
append-cases [] ys at x e = inr (at, e)
append-cases (y ∷ xs) ys zero x e = inl e
append-cases (y ∷ xs) ys (suc at) x e = append-cases xs ys at x e

-- ---- rows

-- a library class's row
pub record HasRow (k : ClassId) : Type 0 where
  pub row : Class
  pub there : slice_get classes k.0 ≡ Some row

pub library-row : (k : ClassId) → is_guest k ≡ false → HasRow k
library-row k g = by (slice_get_cases classes k.0).1
  where
    few : k.0 < length classes
    few = grind (arith, nat_tests, g)

    by : ((c : Class) × (k.0 < length classes) × (slice_get classes k.0 ≡ Some c) × (get_or classes k.0 c ≡ c)) ⊎ ((length classes ≤ k.0) × (slice_get classes k.0 ≡ None)) → HasRow k
    by (inl (c, l, e, u)) = record { row = c; there = e }
    by (inr (l, u)) = absurd (omega (arith, l, few))

pub round-row : (k : ClassId) (c : Class) → slice_get classes k.0 ≡ Some c → (d : ClassId) → Contains (round_of k) d → HasRow d
round-row k c e d i = by (slice_get classes d.0) refl (all-of (λ (d : ClassId). is_some (slice_get classes d.0)) (round_of k) (each-row (λ k c. list_all (λ (d : ClassId). is_some (slice_get classes d.0)) (round_of k)) rounds-there k c e) d i)
  where
    by : (o : Option Class) → slice_get classes d.0 ≡ o → is_some o ≡ true → HasRow d
    by None q h = absurd cc
    by (Some r) q h = record { row = r; there = q }

pub named : (c : Class) (at : ℕ) (r : Row) → slice_get (methods_by c) at ≡ Some r → list_any (bytes_eq r.name) library_words ≡ true
named c at r e = at-passes (λ (r : Row). list_any (bytes_eq r.name) library_words) (methods_by c) (filtered (λ (r : Row). list_any (bytes_eq r.name) library_words) (is_method_of c) rows names-there) at r e

module _ (decided : SubtypesAreDecided) (p : CoreProgram) (s : LibraryStands p) where
  -- ---- types

  variable : (t : Ty) → is_variable t ≡ true → is_variable_type p t ≡ true
  variable t h = by t.base t.dims h
    where
      of-class : (k : ClassId) (n : ℕ) → HasRow k → is_variable_type p (record { base = base.Class k; dims = n }) ≡ true
      of-class k n r = rw (class-there p s k r.row r.there) refl

      by : (b : Base) (n : ℕ) → is_variable (record { base = b; dims = n }) ≡ true → is_variable_type p (record { base = b; dims = n }) ≡ true
      by (base.Class k) n q = of-class k n (library-row k (grind (arith, nat_tests, q)))
      by base.Bool n q = refl
      by base.Byte n q = refl
      by base.Short n q = refl
      by base.Char n q = refl
      by base.Int n q = refl
      by base.Long n q = refl
      by base.Null n q = absurd cc
      by base.Void n q = absurd cc

  pub variable-fits : (t : Ty) → is_variable t ≡ true → is_variable_type p t ≡ true
  variable-fits = variable

  same-results : (t u : Ty) → same_type t u ≡ true → results_agree p t u ≡ true
  unfolding is_subtype
  same-results t u e = subst (λ v. results_agree p t v ≡ true) (same_type-equal t u e) (by t.base t.dims)
    where
      reference : (v : Ty) → is_reference v ≡ true → results_agree p v v ≡ true
      reference v r = rw ((decided p v v (alone p s)).1 (itself r)) (bool_cases (λ b. ((b || true) || (is_void v && is_void v)) ≡ true) _ (λ q. refl) (λ q. refl))

      by : (b : Base) (n : ℕ) → results_agree p (record { base = b; dims = n }) (record { base = b; dims = n }) ≡ true
      by b (suc n) = reference (record { base = b; dims = suc n }) refl
      by (base.Class k) zero = reference (class_type k) refl
      by base.Bool zero = refl
      by base.Byte zero = refl
      by base.Short zero = refl
      by base.Char zero = refl
      by base.Int zero = refl
      by base.Long zero = refl
      by base.Null zero = reference (record { base = base.Null; dims = 0 }) refl
      by base.Void zero = refl

  -- ---- two methods

  -- a method of the library, by its row
  pub record IsMethod (d : ClassId) (at : ℕ) (m : CoreMethod) : Type 0 where
    pub class : Class
    pub there : slice_get classes d.0 ≡ Some class
    pub row : Row
    pub stands : slice_get (methods_by class) at ≡ Some row
    pub is : method_due s.number class row ≡ m

  pub method-row : (d : ClassId) → HasRow d → (at : ℕ) (m : CoreMethod) → method_at p d at ≡ Some m → IsMethod d at m
  method-row d r at m e =
      let x = mapped (method_due s.number r.row) (methods_by r.row) at m (sym (ap (λ o. slice_get (methods_in o) at) (class-there p s d r.row r.there)) ∙ e) in
      record { class = r.row; there = r.there; row = x.0; stands = x.1; is = x.2 }

  alike : (c d : Class) (r q : Row) → list_any (bytes_eq r.name) library_words ≡ true → list_any (bytes_eq q.name) library_words ≡ true →
      same_signature (method_due s.number c r) (method_due s.number d q) ≡ true → is_alike c r d q ≡ true
  alike c d r q there there' e =
      let h = two {a = same_name (s.number r.name) (s.number q.name)} {b = same_types (params_by c r) (params_by d q)} e in
      let name = (bytes_eq-Decides r.name q.name).1 (same-word p s r.name q.name there there' h.0) in rw (name, h.1) refl

  -- whether a row is a constructor's
  pub no-maker : (c : Class) (r : Row) → is_constructor p (method_due s.number c r) ≡ false → is_maker r ≡ false
  no-maker c r e = by (is_maker r) refl
    where
      by : (b : Bool) → is_maker r ≡ b → b ≡ false
      by false q = refl
      by true q = apart (constructor-named p s (method_due s.number c r) (ap s.number (sym ((bytes_eq-Decides (codes "new") r.name).0 q)))) e

  -- of two methods of one signature, of classes above one, the one may stand for the other
  pub stands-for : (k : ClassId) (c : Class) → slice_get classes k.0 ≡ Some c → (d e : ClassId) → list_any (same_class d) (round_of k) ≡ true → list_any (same_class e) (round_of k) ≡ true →
      (at at' : ℕ) (m n : CoreMethod) → IsMethod d at m → IsMethod e at' n → same_signature m n ≡ true → (m.flags.is_static && n.flags.is_static) ≡ false → is_constructor p n ≡ false → StandsFor p m n
  stands-for k c there d e i j at at' m n im in' same one plain = subst (λ x. StandsFor p x n) im.is (subst (λ x. StandsFor p (method_due s.number im.class im.row) x) in'.is right)
    where
      r : Row
      r = im.row

      q : Row
      q = in'.row

      pair : are_right im.class r in'.class q ≡ true
      pair =
          let all = each-row pairs_right pairs-right k c there in
          let first = all-of (λ (x : ClassId). each_in (λ d r. each_method_in (round_of k) (λ e q. are_right d r e q)) (slice_get classes x.0)) (round_of k) all d (in-list d (round_of k) i) in
          let of-r = at-passes (λ r. each_method_in (round_of k) (λ e q. are_right im.class r e q)) (methods_by im.class)
          (subst (λ o. each_in (λ d r. each_method_in (round_of k) (λ e q. are_right d r e q)) o ≡ true) im.there first) at r im.stands in
          let second = all-of (λ (x : ClassId). each_in (λ e q. are_right im.class r e q) (slice_get classes x.0)) (round_of k) of-r e (in-list e (round_of k) j) in
          at-passes (λ q. are_right im.class r in'.class q) (methods_by in'.class) (subst (λ o. each_in (λ e q. are_right im.class r e q) o ≡ true) in'.there second) at' q in'.stands

      same' : same_signature (method_due s.number im.class r) (method_due s.number in'.class q) ≡ true
      same' = ap (λ x. same_signature x (method_due s.number in'.class q)) im.is ∙ ap (λ x. same_signature m x) in'.is ∙ same

      one' : (r.is_static && q.is_static) ≡ false
      one' = ap (λ (x : CoreMethod). x.flags.is_static && q.is_static) im.is ∙ ap (λ (x : CoreMethod). m.flags.is_static && x.flags.is_static) in'.is ∙ one

      plain' : is_maker q ≡ false
      plain' = no-maker in'.class q (ap (is_constructor p) in'.is ∙ plain)

      holds : (not r.is_static && (not q.is_static && same_type (erased im.class r.returns) (erased in'.class q.returns))) ≡ true
      holds = rw (alike im.class in'.class r q (named im.class at r im.stands) (named in'.class at' q in'.stands) same', one', plain') at pair

      right : StandsFor p (method_due s.number im.class r) (method_due s.number in'.class q)
      right = let h = two {a = not r.is_static} holds in
          let g = two {a = not q.is_static} h.1 in
          record { own = is_false h.0; above = is_false g.0; result = same-results (erased im.class r.returns) (erased in'.class q.returns) g.1 }

  -- ---- methods

  module _ (k : ClassId) (c : Class) (there : slice_get classes k.0 ≡ Some c) (g : is_guest k ≡ false) where
    -- a method above it
    pub above-row : (d : ClassId) → is_below p k d ≡ true → (list_any (same_class d) (round_of k) ≡ true) × HasRow d
    above-row d b = let i = round-above p s k (round_of k) (is-round s.number k c there) (below-to p k d b) in (i, round-row k c there d (in-list d (round_of k) i))

    -- that its own methods stand for those above
    overridden : (at : ℕ) (r : Row) → slice_get (methods_by c) at ≡ Some r → (d : ClassId) (at' : ℕ) (j : CoreMethod) → IsOverridden p k (method_due s.number c r) d at' j → StandsFor p (method_due s.number c r) j
    overridden at r e d at' j o =
        let a = above-row d o.is_above in
        let own : IsMethod k at (method_due s.number c r) = record { class = c; there = there; row = r; stands = e; is = refl } in
        stands-for k c there k d (is-round s.number k c there).among a.0 at at' (method_due s.number c r) j own (method-row d a.1 at' j o.there) o.alike o.no_hiding o.no_constructor

    pub interface : is_interface_sort (sort_due c) ≡ true → c.is_interface ≡ true
    interface e = by c.is_interface refl
      where
        by : (b : Bool) → c.is_interface ≡ b → b ≡ true
        by true q = refl
        by false q = absurd (let z : is_interface_sort (if c.is_interface then sort.Interface else sort.Class) ≡ false = rw q refl in apart e z)

    maker : (at : ℕ) (r : Row) → slice_get (methods_by c) at ≡ Some r → implies (is_maker r) (not r.is_static && (not c.is_interface && is_void (erased c r.returns))) ≡ true →
        is_constructor p (method_due s.number c r) ≡ true → ConstructorFits (method_due s.number c r)
    maker at r e h is = by (is_maker r) refl
      where
        by : (b : Bool) → is_maker r ≡ b → ConstructorFits (method_due s.number c r)
        by false q = apart is (method-named p s (method_due s.number c r) r.name refl (named c at r e) q)
        by true q = let f = two {a = not r.is_static} (rw q at h) in let n = two {a = not c.is_interface} f.1 in record { own = is_false f.0; concrete = is_false n.0; result = n.1 }

    result : (t : Ty) → (is_void t || is_variable t) ≡ true → (is_void t || is_variable_type p t) ≡ true
    result t h = by (is_void t) refl h
      where
        by : (b : Bool) → is_void t ≡ b → (b || is_variable t) ≡ true → (b || is_variable_type p t) ≡ true
        by true q z = refl
        by false q z = variable t z

    pub method-fits : (at : ℕ) (r : Row) → slice_get (methods_by c) at ≡ Some r → MethodFits p k (class_due s.number k.0 c) (method_due s.number c r)
    method-fits at r e =
        let t = two {a = list_all is_variable (params_by c r)} (at-passes (is_method_right c) (methods_by c) (each-row (λ k c. list_all (is_method_right c) (methods_by c)) methods-right k c there) at r e) in
        let u = two {a = is_void (erased c r.returns) || is_variable (erased c r.returns)} t.1 in
        record {
          params = all-passing is_variable (λ t. is_variable_type p t ≡ true) variable (params_by c r) t.0;
          result = result (erased c r.returns) u.0;
          throws = All-nil _;
          has_body = rw g refl;
          locals = All-nil _;
          first_locals = λ z. absurd cc;
          of_interface = interface;
          constructor = maker at r e u.1;
          overrides = overridden at r e;
          body = λ b z. absurd cc;
        }

    -- ---- fields

    constant-there : (o : Option Ty) (t : Ty) → is_constant_right o t ≡ true → o ≡ Some t
    constant-there None t h = absurd cc
    constant-there (Some u) t h = ap Some (same_type-equal u t h)

    constant-fits : (at : ℕ) (r : Row) → slice_get (filter (is_field_of c) rows) at ≡ Some r → FieldFits p k (constant_field s.number c r)
    constant-fits at r e =
        let t = two {a = is_variable (erased c r.returns)} (at-passes (is_field_right c) (filter (is_field_of c) rows) (each-row (λ k c. list_all (is_field_right c) (filter (is_field_of c) rows)) fields-right k c there) at r e) in
        let u = two {a = r.is_static} t.1 in
        let v = two {a = is_constant_right (type_of_value (limit r.name (erased_base c r.returns.base))) (erased c r.returns)} u.1 in
        let fits : ConstantFits p k (constant_field s.number c r) (node (core.Const (limit r.name (erased_base c r.returns.base)) []) (erased c r.returns) nowhere nowhere) = record {
          is_static = u.0;
          is_final = refl;
          is_constant = refl;
          fits = const (constant-there _ (erased c r.returns) v.0) (All-nil _);
          of_its_type = v.1;
        } in
        record {
          type = variable (erased c r.returns) t.0;
          of_interface = λ z. u.0;
          constant = λ b z. subst (ConstantFits p k (constant_field s.number c r)) (same_Some _ b z) fits;
        }

    hidden-fits : (at : ℕ) (f : CoreField) → slice_get (hidden_fields s.number c) at ≡ Some f → FieldFits p k f
    hidden-fits at f e =
        let t = two {a = not c.is_interface} (at-passes (λ (f : CoreField). not c.is_interface && (is_variable f.ty && is_none f.constant)) (hidden_fields s.number c) (each-row (is_hidden_right s.number) (hidden-right s.number) k c there) at f e) in
        let u = two {a = is_variable f.ty} t.1 in
        record {
          type = variable f.ty u.0;
          of_interface = λ z. apart (interface (sym (ap is_interface (class-there p s k c there)) ∙ z)) (is_false t.0);
          constant = λ b z. absurd (let n = sym (ap is_none z) ∙ u.1 in cc);
        }

    pub field-fits : (at : ℕ) (f : CoreField) → slice_get (fields_due s.number c) at ≡ Some f → FieldFits p k f
    field-fits at f e = by (append-cases (map (constant_field s.number c) (filter (is_field_of c) rows)) (hidden_fields s.number c) at f e)
      where
        by : (slice_get (map (constant_field s.number c) (filter (is_field_of c) rows)) at ≡ Some f) ⊎ ((n : ℕ) × (slice_get (hidden_fields s.number c) n ≡ Some f)) → FieldFits p k f
        by (inl q) = let x = mapped (constant_field s.number c) (filter (is_field_of c) rows) at f q in subst (FieldFits p k) x.2 (constant-fits at x.0 x.1)
        by (inr (n, q)) = hidden-fits n f q
