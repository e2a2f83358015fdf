-- A lemma for each step on arrays.
use Rattle.std.proofs.Common.{◌≡◌, ℕ, zero, suc, ◌-◌, ◌<◌, ◌≤◌, List, [], ◌∷◌, ◌++◌, length, map, Option, Some, None, refl, sym, ap, subst, ◌∙◌, arith}
use Rattle.std.specs.Prelude.{ℤ, pos, negsuc, Bool, true, false, slice_get, nat_lt, if◌then◌else◌}
use Rattle.std.proofs.lemmas.Option.{same_Some}
use Rattle.std.proofs.lemmas.Bool.Decides.{nat_tests}
use Rattle.je_core.specs.declared.object.Obj.{Obj}
use Rattle.je_core.specs.declared.object.Obj.TheVariants.{Instance, Array, Text, Builder, Row, Cap}
use Rattle.je_core.specs.declared.types.Base.{Base}
use Rattle.je_core.specs.declared.types.Base.TheVariants as base
use Rattle.je_core.specs.declared.types.Ty.{Ty}
use Rattle.je_core.specs.declared.value.ObjId.{ObjId}
use Rattle.je_core.specs.declared.value.Value.{Value}
use Rattle.je_core.specs.declared.value.Value.TheVariants as value
use Rattle.je_core.specs.Core.{CoreProgram}
use Rattle.je_classes.specs.Subtypes.{class_type, array_of, is_reference, is_subtype}
use Rattle.je_fitting.specs.Types.{of, agrees, is_variable_type}
use Rattle.je_java.specs.declared.array.Extent.{Extent}
use Rattle.je_java.specs.Arrays.{length_of, place_within, place_of, read_element, storable, write_element, count_of, counts_of, elements_of, element_of, repeated, filled, nested, make_arrays, array_from}
use Rattle.je_java.specs.Raised.{array_index, array_store, negative_size}
use Rattle.je_java.specs.Steps.{Computation, Nothing, ret, raise, or_raise, get_extent}
use Rattle.je_java.specs.World.{type_in, extent_in, slots_of}
use Rattle.je_sound.specs.Objects.{an_array, slot_type_in}
use Rattle.je_sound.specs.Values.{ValueFits, ValuesFit}
use Rattle.je_sound.proofs.Values.{defaults_fit}
use Rattle.eval_sound.specs.Safety.{Any, Setting, Shape, shape_of, HasShape, Grows, Fitting, Context, Safe}
use Rattle.eval_sound.proofs.Growth.{grows-refl, grows-on}
use Rattle.eval_sound.proofs.Made.{bind_value, bind_object, safe-raise, safe-deref}
use Rattle.eval_sound.proofs.Moves.{any, fits-more, all-more, safe-ret, safe-bind, safe-seq, safe-seq-with, safe-weaker}
use Rattle.eval_sound.proofs.Standing.{raises-store, raises-size, raises-index}
use Rattle.eval_sound.proofs.Steps.{HasSlot, Kept, IsOf, goes, safe-charge, safe-get_type, safe-get_slot, safe-put_slot, safe-new_object}
use Rattle.eval_sound.proofs.Types.{Known, agree-below, agree-itself, fits-above, null-fits, array-there}
use Rattle.eval_sound.proofs.Values.{Formed, bool, byte, short, char, int, long, null, reference, formed, plain-same, reference-agrees, int-fits, int-of}

-- an array of so many elements of a type
pub record HasExtent (S : Setting) (t : Ty) (object : ObjId) (objects : List Obj) (extent : Extent) : Type 0 where
  pub shape : HasShape objects object.0 (record { type = Some (array_of extent.element); count = extent.count })
  pub agree : agrees S.program extent.element t ≡ true

-- a place within the bounds
pub record IsWithin (count : ℕ) (objects : List Obj) (at : ℕ) : Type 0 where
  pub within : at < count

-- values that all fit one type
pub record AllOf (S : Setting) (t : Ty) (objects : List Obj) (values : List Value) : Type 0 where
  pub each : ValuesFit S.program objects (map (λ (v : Value). t) values) values

pub record HasCount (n : ℕ) (objects : List Obj) (counts : List ℕ) : Type 0 where
  pub count : length counts ≡ n

same-element : (s t : Ty) → array_of s ≡ array_of t → s ≡ t
same-element s t e =
    let d : suc s.dims ≡ suc t.dims = ap (λ (u : Ty). u.dims) e in
    let d' : s.dims ≡ t.dims = omega (arith, d) in
    ap (λ (b : Base). let u : Ty = record { base = b; dims = s.dims } in u) (ap (λ (u : Ty). u.base) e) ∙ ap (λ (n : ℕ). let u : Ty = record { base = t.base; dims = n } in u) d'

pub alike-at : (element : Ty) (slots : List Value) (at : ℕ) → at < length slots → slice_get (map (λ (slot : Value). element) slots) at ≡ Some element
alike-at element [] at l = absurd (omega (arith, l))
alike-at element (v ∷ slots) zero l = refl
alike-at element (v ∷ slots) (suc at) l = alike-at element slots at (omega (arith, l))

-- an object of an array's shape has the array's slots
array-slot : (p : CoreProgram) (o : Obj) (t : Ty) (count at : ℕ) → shape_of o ≡ record { type = Some (array_of t); count = count } → at < count → slot_type_in p (Some o) at ≡ Some t
array-slot p o t count at e l = by o (ap (λ (s : Shape). s.type) e) (ap (λ (s : Shape). s.count) e)
  where
    no : {A : Type 0} (own : Ty) → own.dims ≡ 0 → Some own ≡ Some (array_of t) → A
    no own z q = absurd (let d : own.dims ≡ suc t.dims = ap (λ (u : Ty). u.dims) (same_Some own (array_of t) q) in omega (arith, d, z))

    of-array : (element : Ty) (slots : List Value) (b : Bool) → (if b then Some (array_of element) else None) ≡ Some (array_of t) → length slots ≡ count → slot_type_in p (Some (Array element slots)) at ≡ Some t
    of-array element slots true q n = alike-at element slots at (omega (arith, n, l)) ∙ ap Some (same-element element t (same_Some _ _ q))
    of-array element slots false q n = absurd cc

    by : (o : Obj) → type_in (Some o) ≡ Some (array_of t) → length (slots_of o) ≡ count → slot_type_in p (Some o) at ≡ Some t
    by (Instance class slots) q n = no (class_type class) refl q
    by (Array element slots) q n = of-array element slots (nat_lt element.dims 255) q n
    by (Text units) q n = no (class_type _) refl q
    by (Builder units) q n = no (class_type _) refl q
    by (Row class slots) q n = no (class_type class) refl q
    by (Cap device class) q n = no (class_type class) refl q

whole-type : (ty : Ty) (n : ℕ) → suc n ≤ ty.dims → array_of (element_of ty) ≡ ty
whole-type ty n l = let d : suc (ty.dims - 1) ≡ ty.dims = omega (arith, l) in ap (λ (m : ℕ). let u : Ty = record { base = ty.base; dims = m } in u) d

module _ {S : Setting} where
  pub element-slot : {w : List Obj} {t : Ty} {o : ObjId} {extent : Extent} {at : ℕ} → HasExtent S t o w extent → at < extent.count → HasSlot S w o at extent.element
  element-slot {o = o} {extent = extent} {at = at} h l = record {
    there = λ world s g.
        let k = g.kept o.0 h.shape.object h.shape.there in
        ap (λ x. slot_type_in S.program x at) k.there ∙ array-slot S.program k.object extent.element extent.count at (k.alike ∙ h.shape.alike) l;
  }

  pub extent-more : {w later : List Obj} {t : Ty} {o : ObjId} {extent : Extent} → Grows w later → HasExtent S t o w extent → HasExtent S t o later extent
  extent-more {o = o} g h =
      let k = g.kept o.0 h.shape.object h.shape.there in
      record { shape = record { object = k.object; there = k.there; alike = k.alike ∙ h.shape.alike }; agree = h.agree }

module _ {S : Setting} (fit : Known S.program) where
  pub safe-get_extent : {c : Context} {w : List Obj} {t : Ty} {o : ObjId} → ValueFits S.program w (array_of t) (value.Ref o) → Safe S c w (HasExtent S t o) (get_extent o)
  unfolding get_extent
  safe-get_extent {t = t} {o = o} f = record {
    run = λ go exits g x. record {
      from = λ s l st.
          let a = array-there S.program fit s.world t o st.world.sound (fits-more l f) in
          goes (record { element = a.element; count = length a.slots }) (ap extent_in a.there) g l st (record {
            shape = record { object = Array a.element a.slots; there = a.there; alike = ap (λ (own : Option Ty). let shape : Shape = record { type = own; count = length a.slots } in shape) a.own };
            agree = a.agree;
          });
    };
  }

  pub safe-length_of : {c : Context} {w : List Obj} {t : Ty} {v : Value} → ValueFits S.program w (array_of t) v → Safe S c w (Fitting S.program (of base.Int)) (length_of S.program v)
  unfolding length_of
  safe-length_of f = bind_object (safe-deref fit refl f) λ later l o h. safe-bind (safe-get_extent h) λ last l' extent e. safe-ret _ (int-fits S.program last _)

  pub safe-place_of : {c : Context} {w : List Obj} {v : Value} (count : ℕ) → (x : ℤ) × (v ≡ value.Int x) → Safe S c w (IsWithin count) (place_of S.program count v)
  safe-place_of {c = c} {w = w} count (z, e) = subst (λ v. Safe S c w (IsWithin count) (place_of S.program count v)) (sym e) (at-number z)
    where
      by : (at : ℕ) (b : Bool) → nat_lt at count ≡ b → Safe S c w (IsWithin count) (or_raise S.program array_index (if b then Some at else None))
      by at true q = safe-ret _ (record { within = grind (arith, nat_tests) })
      by at false q = safe-raise fit array_index (raises-index S.program fit.library)

      at-number : (z : ℤ) → Safe S c w (IsWithin count) (or_raise S.program array_index (place_within count z))
      at-number (pos at) = by at (nat_lt at count) refl
      at-number (negsuc n) = safe-raise fit array_index (raises-index S.program fit.library)

  pub safe-read_element : {c : Context} {w : List Obj} {t : Ty} {v i : Value} → ValueFits S.program w (array_of t) v → ValueFits S.program w (of base.Int) i →
      Safe S c w (Fitting S.program t) (read_element S.program v i)
  unfolding read_element
  safe-read_element f i = bind_object (safe-deref fit refl f) λ later l o h. safe-bind (safe-get_extent h) λ last l' extent e.
      safe-bind (safe-place_of extent.count (int-of refl i)) λ end l'' at q.
      safe-weaker (λ on m v r. fits-above S.program fit r e.agree) (safe-get_slot at (element-slot (extent-more l'' e) q.within))

  -- a value that may stand among the elements
  safe-storable : {c : Context} {w : List Obj} {t : Ty} {v : Value} (element : Ty) → agrees S.program element t ≡ true → ValueFits S.program w t v →
      Safe S c w (λ objects u. ValueFits S.program objects element v) (storable S.program element v)
  safe-storable {c = c} {w = w} {t = t} element e f = by (formed f) e f
    where
      same : {t : Ty} {v : Value} → is_reference t ≡ false → agrees S.program element t ≡ true → ValueFits S.program w t v → ValueFits S.program w element v
      same {t = t} {v = v} r q h = subst (λ (u : Ty). ValueFits S.program w u v) (sym (plain-same S.program element t r q)) h

      tested : {later : List Obj} {t : Ty} (o : ObjId) (own : Ty) → IsOf S t o later own → (b : Bool) → is_subtype S.program own element ≡ b →
          Safe S c later (λ objects u. ValueFits S.program objects element (value.Ref o)) (if b then ret {A = Nothing} tt else raise S.program array_store)
      tested o own i true q = safe-ret _ (record { own = own; has = i.has; agree = agree-below S.program own element q })
      tested o own i false q = safe-raise fit array_store (raises-store S.program fit.library)

      by : {t : Ty} {v : Value} → Formed t v → agrees S.program element t ≡ true → ValueFits S.program w t v → Safe S c w (λ objects u. ValueFits S.program objects element v) (storable S.program element v)
      by bool q h = safe-ret _ (same refl q h)
      by byte q h = safe-ret _ (same refl q h)
      by short q h = safe-ret _ (same refl q h)
      by char q h = safe-ret _ (same refl q h)
      by int q h = safe-ret _ (same refl q h)
      by long q h = safe-ret _ (same refl q h)
      by (null {t = t} r) q h = safe-ret _ (null-fits S.program fit (reference-agrees S.program element t r q))
      by (reference {o = o} r) q h = safe-bind (safe-get_type h) λ later l own i. tested o own i (is_subtype S.program own element) refl

  pub safe-write_element : {Q : List Obj → Value → Type 0} {c : Context} {w : List Obj} {t : Ty} {v i x : Value} → ValueFits S.program w (array_of t) v → ValueFits S.program w (of base.Int) i →
      ValueFits S.program w t x → Kept w Q x → Safe S c w Q (write_element S.program v i x)
  unfolding write_element
  safe-write_element f i x k = bind_object (safe-deref fit refl f) λ w1 l1 o h. safe-bind (safe-get_extent h) λ w2 l2 extent e.
      safe-bind (safe-place_of extent.count (int-of refl i)) λ w3 l3 at q.
      safe-seq-with (safe-storable extent.element e.agree (fits-more (grows-on l1 (grows-on l2 l3)) x)) λ w4 l4 u r.
      safe-put_slot at (element-slot (extent-more (grows-on l3 l4) e) q.within) r (λ w5 l5. k w5 (grows-on l1 (grows-on l2 (grows-on l3 (grows-on l4 l5)))))

  -- ---- new arrays

  pub all-of-more : {w later : List Obj} {t : Ty} {values : List Value} → Grows w later → AllOf S t w values → AllOf S t later values
  all-of-more {t = t} {values = values} l f = record { each = (all-more l (record { each = f.each })).each }

  pub all-of-push : {w : List Obj} {t : Ty} {values : List Value} {v : Value} → AllOf S t w values → ValueFits S.program w t v → AllOf S t w (values ++ v ∷ [])
  all-of-push {w = w} {t = t} {values = values} {v = v} f x = record { each = by values f.each }
    where
      by : (vs : List Value) → ValuesFit S.program w (map (λ (v : Value). t) vs) vs → ValuesFit S.program w (map (λ (v : Value). t) (vs ++ v ∷ [])) (vs ++ v ∷ [])
      by [] q = (x, tt)
      by (y ∷ vs) q = (q.0, by vs q.1)

  pub safe-filled : {c : Context} {w : List Obj} (element : Ty) (values : List Value) → is_variable_type S.program element ≡ true → element.dims < 255 → AllOf S element w values →
      Safe S c w (Fitting S.program (array_of element)) (filled element values)
  safe-filled element values variable few f =
      bind_object (safe-new_object refl (λ later l. record { kind = an_array variable few; slots = (all-of-more l f).each }) own (agree-itself S.program fit (array_of element) refl)) λ later l o h. safe-ret _ h
    where
      less : nat_lt element.dims 255 ≡ true
      less = grind (arith, nat_tests)

      own : type_in (Some (Array element values)) ≡ Some (array_of element)
      own = ap (λ b. if b then Some (array_of element) else None) less

  safe-repeated : {Q : List Obj → Value → Type 0} {c : Context} {w : List Obj} {t : Ty} {m : Computation Value} {go : List Value → Computation Value} (n : ℕ) (done : List Value) →
      ((later : List Obj) → Safe S c later (Fitting S.program t) m) → ((later : List Obj) → Grows w later → (values : List Value) → AllOf S t later values → Safe S c later Q (go values)) →
      AllOf S t w done → Safe S c w Q (repeated n m go done)
  safe-repeated {w = w} zero done p k f = k w grows-refl done f
  safe-repeated {w = w} (suc n) done p k f = bind_value (p w) λ later l v q. safe-repeated n (done ++ v ∷ []) p (λ last l'. k last (grows-on l l')) (all-of-push (all-of-more l f) q)

  -- an array of arrays
  safe-nested : {c : Context} (ty : Ty) (counts : List ℕ) → is_variable_type S.program ty ≡ true → ty.dims ≤ 255 → length counts ≤ ty.dims → (w : List Obj) →
      Safe S c w (Fitting S.program ty) (nested ty counts)
  safe-nested ty [] variable few l w = safe-ret _ (defaults_fit S.program w ty variable)
  safe-nested {c = c} ty (n ∷ counts) variable few l w =
      safe-repeated n [] (safe-nested (element_of ty) counts variable (omega (arith, few)) (omega (arith, l)))
      (λ later g values f. subst (λ (u : Ty). Safe S c later (Fitting S.program u) (filled (element_of ty) values)) (whole-type ty (length counts) l)
      (safe-filled (element_of ty) values variable (omega (arith, few, l)) f))
      (record { each = tt })

  safe-count_of : {c : Context} {w : List Obj} {v : Value} → (x : ℤ) × (v ≡ value.Int x) → Safe S c w Any (count_of S.program v)
  safe-count_of {c = c} {w = w} (z, e) = subst (λ v. Safe S c w Any (count_of S.program v)) (sym e) (by z)
    where
      by : (z : ℤ) → Safe S c w Any (count_of S.program (value.Int z))
      by (pos n) = safe-ret _ any
      by (negsuc n) = safe-raise fit negative_size (raises-size S.program fit.library)

  safe-counts_of : {c : Context} {w : List Obj} (values : List Value) → AllOf S (of base.Int) w values → Safe S c w (HasCount (length values)) (counts_of S.program values)
  safe-counts_of [] f = safe-ret _ (record { count = refl })
  safe-counts_of (v ∷ values) f = safe-bind (safe-count_of (int-of refl f.each.0)) λ later l n q.
      safe-bind (safe-counts_of values (all-of-more l (record { each = f.each.1 }))) λ last l' ns r. safe-ret _ (record { count = ap suc r.count })

  pub safe-make_arrays : {c : Context} {w : List Obj} (ty : Ty) (values : List Value) → is_variable_type S.program ty ≡ true → ty.dims ≤ 255 → length values ≤ ty.dims → AllOf S (of base.Int) w values →
      Safe S c w (Fitting S.program ty) (make_arrays S.program ty values)
  unfolding make_arrays
  safe-make_arrays ty values variable few l f = safe-bind (safe-counts_of values f) λ later g counts q. safe-seq (safe-charge (elements_of counts)) λ last g'.
      safe-nested ty counts variable few (let n = q.count in omega (arith, n, l)) last

  pub safe-array_from : {c : Context} {w : List Obj} (element : Ty) (values : List Value) → is_variable_type S.program element ≡ true → element.dims < 255 → AllOf S element w values →
      Safe S c w (Fitting S.program (array_of element)) (array_from (array_of element) values)
  unfolding array_from
  safe-array_from {c = c} element values variable few f = safe-seq (safe-charge (length values)) λ later l.
      subst (λ (u : Ty). Safe S c later (Fitting S.program (array_of element)) (filled u values)) (sym back) (safe-filled element values variable few (all-of-more l f))
    where
      back : element_of (array_of element) ≡ element
      back = let d : suc element.dims - 1 ≡ element.dims = omega arith in ap (λ (m : ℕ). let u : Ty = record { base = element.base; dims = m } in u) d
