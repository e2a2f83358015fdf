-- Compound assignments: the place is evaluated once, read and written (JLS 15.26.2).
use Rattle.std.proofs.Common.{◌≡◌, ℕ, List, Some, refl, sym, subst, ◌∙◌, inl, inr}
use Rattle.std.specs.Prelude.{pos, Bool, true, false, not, ◌&&◌, ◌⊎◌, slice_get, if◌then◌else◌}
use Rattle.je_base.specs.declared.span.Span.{Span}
use Rattle.je_core.specs.declared.expr.BinOp.{BinOp}
use Rattle.je_core.specs.declared.expr.BinOp.TheVariants as op
use Rattle.je_core.specs.declared.object.Obj.{Obj}
use Rattle.je_core.specs.declared.types.Base.TheVariants as base
use Rattle.je_core.specs.declared.types.ClassId.{ClassId}
use Rattle.je_core.specs.declared.types.Ty.{Ty}
use Rattle.je_core.specs.declared.value.Value.{Value}
use Rattle.je_core.specs.declared.value.Value.TheVariants as value
use Rattle.je_core.specs.Core.{Core, CoreForm, MaybeCore, CoreProgram, node, no_core, a_core, ty_of, form_of, option_of}
use Rattle.je_core.specs.Core as core
use Rattle.je_classes.specs.Subtypes.{class_type, is_reference, same_type, is_subtype}
use Rattle.je_classes.proofs.Same.{same_type-equal}
use Rattle.je_fitting.specs.Expressions.{Fits, IsPlace, MaybeFits, nothing, something}
use Rattle.je_fitting.specs.Operators.{Sort, arithmetic, shift, comparison, equality, bitwise, sort_of, is_step, is_addition, changes, both_bool, updates}
use Rattle.je_fitting.specs.Types.{of, int, string, is_bool, is_number, is_void, agrees}
use Rattle.je_fitting.proofs.Booleans.{two, both, is_false}
use Rattle.je_java.specs.LibraryClasses.{string_class, to_string_place}
use Rattle.je_java.specs.Meaning.{Meanings, to_string, on_receiver, fetched, stored, given, update_by, update_at, update_object, begin_update}
use Rattle.je_classes.specs.Hierarchy.{object_class}
use Rattle.je_java.specs.Steps.{receiving_class, yields, updated, read_field, read_static}
use Rattle.je_java.specs.Texts.{is_string, concatenated}
use Rattle.je_sound.specs.Values.{ValueFits}
use Rattle.je_sound.proofs.Values.{agree-cases}
use Rattle.eval_sound.specs.Nodes.{Every, EveryPart, EveryIf}
use Rattle.eval_sound.specs.Premises.{ComesTo, Premises, has_objects}
use Rattle.eval_sound.specs.Safety.{Any, Setting, Allowed, Grows, Fitting, Context, Safe}
use Rattle.eval_sound.proofs.Arrays.{safe-read_element, safe-write_element}
use Rattle.eval_sound.proofs.Expressions.{bind_object, bind_array, bind_int}
use Rattle.eval_sound.proofs.Growth.{grows-refl, grows-on}
use Rattle.eval_sound.proofs.Joined.{safe-concatenated, tells}
use Rattle.eval_sound.proofs.Made.{bind_value, safe-read_field, safe-write_field, safe-read_static, safe-write_static}
use Rattle.eval_sound.proofs.Moves.{any, fits-more, safe-yields}
use Rattle.eval_sound.proofs.Nodes.{StaticHas, local-has, field-has, static-has, index-has}
use Rattle.eval_sound.proofs.Operators.{Numeric, a_byte, a_short, a_char, an_int, a_long, numeric, either-way}
use Rattle.eval_sound.specs.Laws.{MeaningsAreSafe}
use Rattle.eval_sound.proofs.Parts.{bind_part}
use Rattle.eval_sound.proofs.Results.{real-by, real-reference}
use Rattle.eval_sound.proofs.Steps.{safe-get_local, safe-put_local}
use Rattle.library_fits.proofs.Table.{apart}
use Rattle.eval_sound.proofs.Types.{Known, fits-above}
use Rattle.eval_sound.proofs.Updates.{safe-updated}
use Rattle.eval_sound.proofs.Values.{reference-below, int-fits}

-- ---- types

number-plain : (t : Ty) → is_number t ≡ true → is_reference t ≡ false
number-plain t e = by (numeric t e)
  where
    by : {t : Ty} → Numeric t → is_reference t ≡ false
    by a_byte = refl
    by a_short = refl
    by a_char = refl
    by an_int = refl
    by a_long = refl

number-no-string : (t : Ty) → is_number t ≡ true → is_string t ≡ false
number-no-string t e = by (numeric t e)
  where
    by : {t : Ty} → Numeric t → is_string t ≡ false
    by a_byte = refl
    by a_short = refl
    by a_char = refl
    by an_int = refl
    by a_long = refl

bool-plain : (t : Ty) → is_bool t ≡ true → is_reference t ≡ false
bool-plain t e = subst (λ (u : Ty). is_reference u ≡ false) (sym (same_type-equal t (of base.Bool) e)) refl

changed-plain : (k : Sort) (u s : Ty) → changes k u s ≡ true → is_reference u ≡ false
changed-plain arithmetic u s e = number-plain u (two {a = is_number u} {b = is_number s} e).0
changed-plain shift u s e = number-plain u (two {a = is_number u} {b = is_number s} e).0
changed-plain bitwise u s e = either-way (is_number u && is_number s) (both_bool u s) e (λ q. number-plain u (two {a = is_number u} {b = is_number s} q).0) (λ q. bool-plain u (two {a = is_bool u} {b = is_bool s} q).0)
changed-plain comparison u s e = absurd cc
changed-plain equality u s e = absurd cc

operand-real : (k : Sort) (u s : Ty) → changes k u s ≡ true → is_void s ≡ false
operand-real arithmetic u s e = real-by is_number s refl (two {a = is_number u} {b = is_number s} e).1
operand-real shift u s e = real-by is_number s refl (two {a = is_number u} {b = is_number s} e).1
operand-real bitwise u s e = either-way (is_number u && is_number s) (both_bool u s) e (λ q. real-by is_number s refl (two {a = is_number u} {b = is_number s} q).1) (λ q. real-by is_bool s refl (two {a = is_bool u} {b = is_bool s} q).1)
operand-real comparison u s e = absurd cc
operand-real equality u s e = absurd cc

-- a primitive type agrees with itself alone
primitive-same : (p : CoreProgram) (u t : Ty) → is_reference u ≡ false → agrees p u t ≡ true → u ≡ t
primitive-same p u t r e = by (agree-cases p u t e)
  where
    by : (u ≡ t) ⊎ (is_subtype p u t ≡ true) → u ≡ t
    by (inl q) = q
    by (inr q) = apart (reference-below p u t q) r

string-is : class_type string_class ≡ string
unfolding string_class
string-is = refl

string-tested : (t : Ty) → same_type t string ≡ is_string t
unfolding string_class
string-tested t = refl

-- `toString()` is come to by objects of a type
abbrev pub Comes : Setting → Ty → Type 0
Comes S t = (own : Ty) → has_objects own ≡ true → agrees S.program own t ≡ true → ComesTo S (receiving_class own.dims own.base) object_class to_string_place

-- ---- places

-- what is done with a place whose object and index have values
record Placed (S : Setting) (c : Context) (t : Ty) (form : CoreForm) (object index : Value) (w : List Obj) : Type 0 where
  fetch : (later : List Obj) → Grows w later → Safe S c later (Fitting S.program t) (fetched S.program form object index)
  store : (later : List Obj) → Grows w later → (v : Value) → ValueFits S.program later t v → Safe S c later Any (stored S.program form object index v)

module _ {S : Setting} (fit : Known S.program) (premises : Premises S) {m : Meanings} (g : MeaningsAreSafe S m) where
  -- an update of a place: what it needs once the place has been evaluated
  module _ {c : Context} (form : CoreForm) (t u : Ty) (span at : Span) (o : BinOp) where
    stored-after : {w : List Obj} {old v object index : Value} (gives_old : Bool) → Placed S c t form object index w → agrees S.program u t ≡ true → (later : List Obj) → Grows w later →
        ValueFits S.program later u v → (gives_old ≡ true → ValueFits S.program later u old) → Safe S c later (Fitting S.program u) (yields (given gives_old old v) (stored S.program form object index v))
    stored-after {old = old} {v = v} gives_old h a later l f k = safe-yields (given gives_old old v) (kept gives_old k) (h.store later l v (fits-above S.program fit f a))
      where
        kept : (b : Bool) → (b ≡ true → ValueFits S.program later u old) → (last : List Obj) → Grows later last → Fitting S.program u last (given b old v)
        kept true k last l' = fits-more l' (k refl)
        kept false k last l' = fits-more l' f

    -- `++` and `--`
    stepped : {w : List Obj} {object index : Value} (gives_old : Bool) → Placed S c t form object index w → agrees S.program u t ≡ true → is_number u ≡ true → is_step o ≡ true →
        Safe S c w (Fitting S.program u) (update_at S.program m u (core.Update (node form t span at) o no_core gives_old) object index)
    unfolding update_at update_by
    stepped {w = w} {object = object} {index = index} gives_old h a number step =
        let same = primitive-same S.program u t (number-plain u number) a in
        bind_value (h.fetch w grows-refl) λ w1 l1 old q.
        let f : ValueFits S.program w1 u old = subst (λ (s : Ty). ValueFits S.program w1 s old) (sym same) q in
        bind_value (subst (λ b. Safe S c w1 (Fitting S.program u) (if b then concatenated (to_string S.program m) old (value.Int (pos 1)) else updated S.program u o old (value.Int (pos 1)))) (sym (number-no-string u number))
        (safe-updated fit o u int (arithmetic-step o step) f (int-fits S.program w1 (pos 1)))) λ w2 l2 v r.
        stored-after gives_old h a w2 (grows-on l1 l2) r (λ z. fits-more l2 f)
      where
        arithmetic-step : (o : BinOp) → is_step o ≡ true → changes (sort_of o) u int ≡ true
        arithmetic-step op.Add e = both number refl
        arithmetic-step op.Sub e = both number refl
        arithmetic-step _ e = absurd cc

    -- an operand
    operated-on : {w : List Obj} {object index : Value} (operand : Core) → Placed S c t form object index w → agrees S.program u t ≡ true → Fits S.program c.body operand → Every (Allowed S) operand →
        updates o u (ty_of operand) ≡ true → (is_string u ≡ true → Comes S t) → (is_string u ≡ true → Comes S (ty_of operand)) →
        Safe S c w (Fitting S.program u) (update_at S.program m u (core.Update (node form t span at) o (a_core operand) false) object index)
    unfolding update_at update_by
    operated-on {w = w} {object = object} {index = index} operand h a f x e target after =
        bind_value (h.fetch w grows-refl) λ w1 l1 old q.
        bind_part fit g f x (either-way (changes (sort_of o) u (ty_of operand)) (is_addition o && same_type u string && not (is_void (ty_of operand))) e
        (λ z. operand-real (sort_of o) u (ty_of operand) z) (λ z. is_false (two {a = is_addition o && same_type u string} {b = not (is_void (ty_of operand))} z).1)) λ w2 l2 b r.
        bind_value (by (is_string u) refl old b w2 (fits-more l2 q) r) λ w3 l3 v z.
        stored-after {old = old} false h a w3 (grows-on l1 (grows-on l2 l3)) z (λ y. apart y refl)
      where
        of-string : is_string u ≡ false → changes (sort_of o) u (ty_of operand) ≡ true
        of-string n = either-way (changes (sort_of o) u (ty_of operand)) (is_addition o && same_type u string && not (is_void (ty_of operand))) e (λ z. z)
            (λ z. apart (sym (string-tested u) ∙ (two {a = is_addition o} {b = same_type u string} (two {a = is_addition o && same_type u string} {b = not (is_void (ty_of operand))} z).0).1) n)

        by : (s : Bool) → is_string u ≡ s → (old b : Value) → (later : List Obj) → ValueFits S.program later t old → ValueFits S.program later (ty_of operand) b →
            Safe S c later (Fitting S.program u) (if s then concatenated (to_string S.program m) old b else updated S.program u o old b)
        by true n old b later q r =
            let is : u ≡ string = same_type-equal u (class_type string_class) n ∙ string-is in
            subst (λ (s : Ty). Safe S c later (Fitting S.program s) (concatenated (to_string S.program m) old b)) (sym is)
            (safe-concatenated fit (to_string S.program m) (tells fit premises g t (target n) c) (tells fit premises g (ty_of operand) (after n) c) q r)
        by false n old b later q r =
            let can = of-string n in
            let same = primitive-same S.program u t (changed-plain (sort_of o) u (ty_of operand) can) a in
            safe-updated fit o u (ty_of operand) can (subst (λ (s : Ty). ValueFits S.program later s old) (sym same) q) r

    -- the object and the index of the place
    with-place : {Q : List Obj → Value → Type 0} {w : List Obj} (operand : MaybeCore) (gives_old : Bool) → IsPlace S.program c.body form → Fits S.program c.body (node form t span at) → EveryPart (Allowed S) form →
        ((later : List Obj) → Grows w later → (object index : Value) → Placed S c t form object index later →
        Safe S c later Q (update_at S.program m u (core.Update (node form t span at) o operand gives_old) object index)) →
        Safe S c w Q (begin_update S.program m u (core.Update (node form t span at) o operand gives_old))
    unfolding update_object
    with-place {Q = Q} {w = w} operand gives_old is f x k = by form is f x k
      where
        placed-local : (n : ℕ) → slice_get c.body.locals n ≡ Some t → (later : List Obj) → Placed S c t (core.Local n) value.Null value.Null later
        placed-local n e later = record { fetch = λ last l. safe-get_local n e; store = λ last l v q. safe-put_local n e q λ end l'. any }

        by : (form : CoreForm) → IsPlace S.program c.body form → Fits S.program c.body (node form t span at) → EveryPart (Allowed S) form →
            ((later : List Obj) → Grows w later → (object index : Value) → Placed S c t form object index later →
            Safe S c later Q (update_at S.program m u (core.Update (node form t span at) o operand gives_old) object index)) →
            Safe S c w Q (begin_update S.program m u (core.Update (node form t span at) o operand gives_old))
        by (core.Local n) is f x k = k w grows-refl value.Null value.Null (placed-local n (local-has f) w)
        by (core.Field object class n) is f x k = let h = field-has f in bind_object fit g class h.object x h.below λ w1 l1 v q. k w1 l1 v value.Null (record {
          fetch = λ last l. subst (λ (s : Ty). Safe S c last (Fitting S.program s) (read_field S.program class n v)) h.type (safe-read_field fit class n h.its h.there h.instance (fits-more l q));
          store = λ last l y r. safe-write_field fit class n h.its h.there h.instance (fits-more l q) (subst (λ (s : Ty). ValueFits S.program last s y) (sym h.type) r) λ end l'. any;
        })
        by (core.Static object class n) is f x k = let h = static-has f in static-place class n h object h.object x k
          where
            placed-static : (class : ClassId) (n : ℕ) (object : MaybeCore) → StaticHas S.program c.body t object class n → (v index : Value) (later : List Obj) → Placed S c t (core.Static object class n) v index later
            placed-static class n object h v index later = record {
              fetch = λ last l. subst (λ (s : Ty). Safe S c last (Fitting S.program s) (read_static S.program class n)) h.type (safe-read_static fit class n h.its h.there h.static);
              store = λ last l y r. safe-write_static fit class n h.its h.there h.static (subst (λ (s : Ty). ValueFits S.program last s y) (sym h.type) r) λ end l'. any;
            }

            static-place : (class : ClassId) (n : ℕ) {object : MaybeCore} (h : StaticHas S.program c.body t object class n) (o' : MaybeCore) → MaybeFits S.program c.body class o' → EveryIf (Allowed S) o' →
                ((later : List Obj) → Grows w later → (object' index : Value) → Placed S c t (core.Static object class n) object' index later →
                Safe S c later Q (update_at S.program m u (core.Update (node (core.Static object class n) t span at) o operand gives_old) object' index)) →
                Safe S c w Q (on_receiver m (option_of o') (update_object S.program m u (core.Update (node (core.Static object class n) t span at) o operand gives_old)))
            static-place class n {object = object} h _ nothing x k = k w grows-refl value.Null value.Null (placed-static class n object h value.Null value.Null w)
            static-place class n {object = object} h _ (something {o = e} f b) x k = bind_part fit g f x (real-reference (ty_of e) (reference-below S.program (ty_of e) (class_type class) b)) λ w1 l1 v q.
                k w1 l1 v value.Null (placed-static class n object h v value.Null w1)
        by (core.Index a i) is f x k = let h = index-has f in bind_array fit g t h.array x.0 h.of_array λ w1 l1 v q. bind_int fit g h.index x.1 h.of_int λ w2 l2 j r. k w2 (grows-on l1 l2) v j (record {
          fetch = λ last l. safe-read_element fit (fits-more (grows-on l2 l) q) (fits-more l r);
          store = λ last l y z. safe-write_element fit (fits-more (grows-on l2 l) q) (fits-more l r) z λ end l'. any;
        })
        by _ is f x k = absurd (elim is [ ])

    pub step-safe : {w : List Obj} (gives_old : Bool) → IsPlace S.program c.body form → Fits S.program c.body (node form t span at) → EveryPart (Allowed S) form → agrees S.program u t ≡ true →
        is_number u ≡ true → is_step o ≡ true → Safe S c w (Fitting S.program u) (begin_update S.program m u (core.Update (node form t span at) o no_core gives_old))
    step-safe gives_old is f x a number step = with-place no_core gives_old is f x λ later l object index h. stepped gives_old h a number step

    pub update-safe : {w : List Obj} (operand : Core) → IsPlace S.program c.body form → Fits S.program c.body (node form t span at) → EveryPart (Allowed S) form → agrees S.program u t ≡ true →
        Fits S.program c.body operand → Every (Allowed S) operand → updates o u (ty_of operand) ≡ true → (is_string u ≡ true → Comes S t) → (is_string u ≡ true → Comes S (ty_of operand)) →
        Safe S c w (Fitting S.program u) (begin_update S.program m u (core.Update (node form t span at) o (a_core operand) false))
    update-safe operand is f x a f' x' e target after = with-place (a_core operand) false is f x λ later l object index h. operated-on operand h a f' x' e target after
