-- What the library's classes inherit, and that they have each method that stands above them.
use Rattle.std.proofs.Common.{◌≡◌, ◌<◌, ℕ, zero, suc, List, [], ◌∷◌, Option, Some, None, refl, sym, ap, subst, ◌∙◌, arith}
use Rattle.std.specs.Prelude.{is_none, is_some, Bool, true, false, not, ◌&&◌, ◌||◌, slice_get, if◌then◌else◌}
use Rattle.std.specs.List.{Contains, list_any}
use Rattle.std.proofs.lemmas.Bool.Decides.{nat_tests}
use Rattle.std.proofs.lemmas.Option.{same_Some}
use Rattle.je_base.specs.declared.span.NameId.{NameId}
use Rattle.je_core.specs.declared.types.ClassId.{ClassId}
use Rattle.je_core.specs.declared.types.Ty.{Ty}
use Rattle.je_core.specs.Core.{CoreMethod, CoreProgram}
use Rattle.je_table.specs.Library.{Class, classes}
use Rattle.je_classes.specs.Dispatch.{implemented_upwards, is_own, next_above, own_from, own_or_above, placed, same_signature, unless_abstract}
use Rattle.je_classes.specs.Hierarchy.{library_class, object_class, same_class, supers_in, supers_of, with_superclass}
use Rattle.je_classes.specs.Members.{Member, is_private, methods_in, same_name}
use Rattle.je_classes.specs.Subtypes.{same_types}
use Rattle.je_classes.proofs.Below.{same_class-equal}
use Rattle.je_classes.proofs.Lists.{contains-here}
use Rattle.je_classes.proofs.Same.{same_type-refl}
use Rattle.je_fitting.specs.Expressions.{method_at}
use Rattle.je_fitting.proofs.Booleans.{two, is_false}
use Rattle.je_sound.proofs.Dispatched.{own-at}
use Rattle.library_classes.specs.Library.{LibraryStands, class_due, interfaces_due, method_due, superclass_due}
use Rattle.library_fits.proofs.Members.{mapped}
use Rattle.library_fits.proofs.Rounds.{above-within}
use Rattle.library_fits.proofs.Table.{class-there}
use Rattle.library_fits.proofs.Tests.{are_supers_right, by_super, each-row, is-round, is_extensible, is_row, is_up, methods_by, round_of, superclass_by, supers-right}

-- ---- a method that stands in a class

same-types : (ts : List Ty) → same_types ts ts ≡ true
same-types [] = refl
same-types (t ∷ ts) = rw (same_type-refl t, same-types ts) refl

pub own-itself : (j : CoreMethod) → j.flags.is_static ≡ false → is_private j ≡ false → (is_own j && same_signature j j) ≡ true
own-itself j s r = rw (s, r, same-names j.name, same-types j.params) refl
  where
    same-names : (x : NameId) → same_name x x ≡ true
    same-names x = grind (arith, nat_tests)

pub own-some : (j : CoreMethod) → (is_own j && same_signature j j) ≡ true → (n : ℕ) (ks : List CoreMethod) (at : ℕ) → slice_get ks at ≡ Some j → is_some (own_from j n ks) ≡ true
own-some j h n [] at e = absurd cc
own-some j h n (k ∷ ks) zero e = let q : k ≡ j = same_Some k j e in rw (q, h) refl
own-some j h n (k ∷ ks) (suc at) e = by (is_own k && same_signature k j) (own-some j h (suc n) ks at e)
  where
    by : (b : Bool) → is_some (own_from j (suc n) ks) ≡ true → is_some (if b then Some (n, k) else own_from j (suc n) ks) ≡ true
    by true more = refl
    by false more = more

other : (x : Bool) {y : Bool} (b : Bool) → b ≡ false → (if b then x else y) ≡ true → y ≡ true
other x true e h = absurd cc
other x false e h = h

-- ---- superclasses

module _ (p : CoreProgram) (s : LibraryStands p) where
  -- the superclass of a class, which is one of the library that may be extended
  record HasSuper (k : ClassId) (c : Class) : Type 0 where
    super : ClassId
    is : superclass_due c ≡ Some super
    row : Class
    there : slice_get classes super.0 ≡ Some row
    no_interface : row.is_interface ≡ false

  super-of : (k : ClassId) (c : Class) → slice_get classes k.0 ≡ Some c → c.is_interface ≡ false → same_class k object_class ≡ false → HasSuper k c
  super-of k c there i o =
      let h = two {a = if same_class k object_class || c.is_interface then is_none (superclass_due c) else is_extensible (superclass_due c)} (each-row are_supers_right supers-right k c there) in
      by (superclass_due c) refl (other (is_none (superclass_due c)) (same_class k object_class || c.is_interface) (rw (o, i) refl) h.0)
    where
      of-row : (d : ClassId) → superclass_due c ≡ Some d → (r : Option Class) → slice_get classes d.0 ≡ r → is_row (λ (c : Class). not c.is_interface && not c.is_final) r ≡ true → HasSuper k c
      of-row d e None q h = absurd cc
      of-row d e (Some r) q h = record { super = d; is = e; row = r; there = q; no_interface = is_false (two {a = not r.is_interface} h).0 }

      by : (d : Option ClassId) → superclass_due c ≡ d → is_extensible d ≡ true → HasSuper k c
      by None e h = absurd cc
      by (Some d) e h = of-row d e (slice_get classes d.0) refl h

  -- a class that is no interface goes on with its superclass
  next-up : (n : ℕ) (e : Class) → e.is_interface ≡ false → next_above (class_due s.number n e) ≡ superclass_due e
  next-up n e i = rw i refl

  none-up : (j : CoreMethod) (n : ℕ) → implemented_upwards p n j None ≡ None
  none-up j zero = refl
  none-up j (suc n) = refl

  step-up : (j : CoreMethod) (n : ℕ) (d : ClassId) (e : Class) → slice_get classes d.0 ≡ Some e → e.is_interface ≡ false →
      implemented_upwards p (suc n) j (Some d) ≡ placed d (own_from j 0 (class_due s.number d.0 e).methods) (implemented_upwards p n j (superclass_due e))
  step-up j n d e q i = ap (own_or_above (implemented_upwards p n j) j d) (class-there p s d e q) ∙
      ap (λ x. placed d (own_from j 0 (class_due s.number d.0 e).methods) (implemented_upwards p n j x)) (next-up d.0 e i)

  object-alone : (c : Class) → slice_get classes object_class.0 ≡ Some c → superclass_due c ≡ None
  unfolding object_class library_class
  object-alone c e = ap superclass_due (sym (same_Some _ c e))

  -- ---- where an implementation stands

  module _ (j : CoreMethod) (k : ClassId) (c : Class) (there : slice_get classes k.0 ≡ Some c) where
    own-place : (d : ClassId) (i : ℕ) (x : CoreMethod) (r : Member) → list_any (same_class d) (round_of k) ≡ true → unless_abstract x (record { class = d; at = i }) ≡ Some r →
        list_any (same_class r.class) (round_of k) ≡ true
    own-place d i x r among h = by x.flags.is_abstract h
      where
        by : (b : Bool) → (if b then None else Some (let y : Member = record { class = d; at = i } in y)) ≡ Some r → list_any (same_class r.class) (round_of k) ≡ true
        by true q = absurd cc
        by false q = subst (λ (y : Member). list_any (same_class y.class) (round_of k) ≡ true) (same_Some _ r q) among

    pub implemented-in : (n : ℕ) (d : ClassId) (e : Class) → slice_get classes d.0 ≡ Some e → e.is_interface ≡ false → list_any (same_class d) (round_of k) ≡ true → (r : Member) →
        implemented_upwards p n j (Some d) ≡ Some r → list_any (same_class r.class) (round_of k) ≡ true
    implemented-in zero d e q i among r h = absurd cc
    implemented-in (suc n) d e q i among r h = by (own_from j 0 (class_due s.number d.0 e).methods) (sym (step-up j n d e q i) ∙ h) (implemented-in n)
      where
        More : Type 0
        More = (f : ClassId) (y : Class) → slice_get classes f.0 ≡ Some y → y.is_interface ≡ false → list_any (same_class f) (round_of k) ≡ true → (r : Member) →
            implemented_upwards p n j (Some f) ≡ Some r → list_any (same_class r.class) (round_of k) ≡ true

        on : (b : Bool) → same_class d object_class ≡ b → implemented_upwards p n j (superclass_due e) ≡ Some r → More → list_any (same_class r.class) (round_of k) ≡ true
        on true z g more =
            let top = object-alone e (subst (λ (x : ClassId). slice_get classes x.0 ≡ Some e) (same_class-equal d object_class z) q) in
            absurd (let none : implemented_upwards p n j (superclass_due e) ≡ None = ap (implemented_upwards p n j) top ∙ none-up j n in let no = sym none ∙ g in cc)
        on false z g more =
            let up = super-of d e q i z in
            let here : Contains (supers_of p d) up.super = subst (λ xs. Contains xs up.super) (sym (ap supers_in (class-there p s d e q) ∙ ap (λ x. with_superclass x (interfaces_due e)) up.is)) (contains-here up.super (interfaces_due e)) in
            more up.super up.row up.there up.no_interface (above-within p s k (round_of k) (is-round s.number k c there) d up.super among here) r (sym (ap (implemented_upwards p n j) up.is) ∙ g)

        by : (o : Option (ℕ × CoreMethod)) → placed d o (implemented_upwards p n j (superclass_due e)) ≡ Some r → More → list_any (same_class r.class) (round_of k) ≡ true
        by None g more = on (same_class d object_class) refl g more
        by (Some own) g more = own-place d own.0 own.1 r among g

  -- ---- that there is one

  concrete : (j : CoreMethod) (n : ℕ) (e : Class) → e.is_interface ≡ false → (i : ℕ) (x : CoreMethod) → own_from j 0 (class_due s.number n e).methods ≡ Some (i, x) → x.flags.is_abstract ≡ false
  concrete j n e i at x h =
      let o = own-at j 0 (class_due s.number n e).methods at x h in
      let r = mapped (method_due s.number e) (methods_by e) o.at x o.there in
      ap (λ (y : CoreMethod). y.flags.is_abstract) (sym r.2) ∙ i

  -- a method that stands in a class, which is no interface
  module _ (j : CoreMethod) (own : (is_own j && same_signature j j) ≡ true) (a : ClassId) (at : ℕ) (here : method_at p a at ≡ Some j) where
    -- it is the class's own
    at-itself : (d : ClassId) (e : Class) → slice_get classes d.0 ≡ Some e → same_class d a ≡ true → is_some (own_from j 0 (class_due s.number d.0 e).methods) ≡ true
    at-itself d e q z = own-some j own 0 (class_due s.number d.0 e).methods at
        (sym (ap (λ o. slice_get (methods_in o) at) (class-there p s d e q)) ∙ subst (λ (x : ClassId). method_at p x at ≡ Some j) (sym (same_class-equal d a z)) here)

    -- the class's own one, or what is above it
    here-or : (fuel : ℕ) (d : ClassId) (e : Class) → slice_get classes d.0 ≡ Some e → e.is_interface ≡ false →
        (own_from j 0 (class_due s.number d.0 e).methods ≡ None → is_some (implemented_upwards p fuel j (superclass_due e)) ≡ true) → is_some (implemented_upwards p (suc fuel) j (Some d)) ≡ true
    here-or fuel d e q i higher = ap is_some (step-up j fuel d e q i) ∙ by (own_from j 0 (class_due s.number d.0 e).methods) refl
      where
        by : (o : Option (ℕ × CoreMethod)) → own_from j 0 (class_due s.number d.0 e).methods ≡ o → is_some (placed d o (implemented_upwards p fuel j (superclass_due e))) ≡ true
        by None h = higher h
        by (Some x) h = ap (λ b. is_some (if b then None else Some (let y : Member = record { class = d; at = x.0 } in y))) (concrete j d.0 e i x.0 x.1 h)

    pub found : (n fuel : ℕ) → n < fuel → (d : ClassId) (e : Class) → slice_get classes d.0 ≡ Some e → e.is_interface ≡ false → is_up n d a ≡ true → is_some (implemented_upwards p fuel j (Some d)) ≡ true
    found n zero l d e q i up = absurd (omega (arith, l))
    found zero (suc fuel) l d e q i up = here-or fuel d e q i (λ none. absurd (let z = sym (ap is_some none) ∙ at-itself d e q up in cc))
    found (suc n) (suc fuel) l d e q i up = here-or fuel d e q i (λ none. by (same_class d a) refl (same_class d object_class) refl (ap (by_super (λ s. is_up n s a)) (ap superclass_by q)) none (λ f y z. found n fuel (omega (arith, l)) f y z))
      where
        by : (b : Bool) → same_class d a ≡ b → (o : Bool) → same_class d object_class ≡ o → by_super (λ s. is_up n s a) (superclass_by (slice_get classes d.0)) ≡ by_super (λ s. is_up n s a) (superclass_due e) →
            own_from j 0 (class_due s.number d.0 e).methods ≡ None →
            ((f : ClassId) (y : Class) → slice_get classes f.0 ≡ Some y → y.is_interface ≡ false → is_up n f a ≡ true → is_some (implemented_upwards p fuel j (Some f)) ≡ true) →
            is_some (implemented_upwards p fuel j (superclass_due e)) ≡ true
        by true z o g w none more = absurd (let y = sym (ap is_some none) ∙ at-itself d e q z in cc)
        by false z true g w none more =
            let top = object-alone e (subst (λ (x : ClassId). slice_get classes x.0 ≡ Some e) (same_class-equal d object_class g) q) in
            absurd (let y = sym (w ∙ ap (by_super (λ s. is_up n s a)) top) ∙ (rw z at up) in cc)
        by false z false g w none more =
            let h = super-of d e q i g in
            subst (λ x. is_some (implemented_upwards p fuel j x) ≡ true) (sym h.is)
            (more h.super h.row h.there h.no_interface (sym (w ∙ ap (by_super (λ s. is_up n s a)) h.is) ∙ (rw z at up)))
