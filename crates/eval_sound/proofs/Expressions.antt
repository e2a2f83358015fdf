-- One lemma a form: an expression is safe where its parts are. Calls, new objects and strings that are joined stand elsewhere.
use Rattle.std.proofs.Common.{◌≡◌, ℕ, List, Some, refl, sym, subst}
use Rattle.std.specs.Prelude.{true}
use Rattle.je_base.specs.declared.span.Span.{Span}
use Rattle.je_core.specs.declared.object.Obj.{Obj}
use Rattle.je_core.specs.declared.types.ClassId.{ClassId}
use Rattle.je_core.specs.declared.types.Ty.{Ty}
use Rattle.je_core.specs.declared.value.Value.{Value}
use Rattle.je_core.specs.declared.value.Value.TheVariants as value
use Rattle.je_core.specs.Core.{Core, CoreForm, MaybeCore, CoreProgram, node, no_core, a_core, ty_of, form_of, option_of}
use Rattle.je_core.specs.Core as core
use Rattle.je_classes.specs.Subtypes.{class_type, array_of, null_type, is_reference, is_subtype}
use Rattle.je_classes.proofs.Same.{same_type-equal}
use Rattle.je_fitting.specs.Expressions.{Fits, IsPlace, a_local, MaybeFits, nothing, something}
use Rattle.je_fitting.specs.Types.{bool, int, is_bool, is_int, agrees, type_of_value}
use Rattle.je_java.specs.Meaning.{Meanings, behind, assign_to, eval_form}
use Rattle.je_java.specs.Steps.{Computation, bind, read_field, read_static}
use Rattle.std.proofs.lemmas.Option.{same_Some}
use Rattle.je_sound.specs.Values.{own_type, ValueFits}
use Rattle.eval_sound.specs.Nodes.{Every, EveryPart, EveryIf}
use Rattle.eval_sound.specs.Safety.{Setting, Allowed, Grows, ResultFits, Fitting, Context, Safe}
use Rattle.eval_sound.proofs.Arrays.{safe-read_element, safe-write_element}
use Rattle.eval_sound.proofs.Growth.{grows-refl, grows-on}
use Rattle.eval_sound.proofs.Made.{safe-read_field, safe-write_field, safe-read_static, safe-write_static}
use Rattle.eval_sound.proofs.Moves.{fits-more}
use Rattle.eval_sound.proofs.Nodes.{FieldHas, StaticHas, IndexHas, local-has, field-has, static-has, index-has}
use Rattle.eval_sound.specs.Laws.{MeaningsAreSafe}
use Rattle.eval_sound.proofs.Parts.{bind_part, bind_to}
use Rattle.eval_sound.proofs.Results.{real-by, real-reference, safe-result, seq_any, whole}
use Rattle.eval_sound.proofs.Steps.{safe-put_local}
use Rattle.eval_sound.proofs.Types.{Known, agree-below, fits-above}

pub constant-fits : (p : CoreProgram) (v : Value) (t : Ty) → type_of_value v ≡ Some t → (objects : List Obj) → ValueFits p objects t v
unfolding is_subtype
constant-fits p v t e objects = record { own = t; has = by v t e; agree = agree v t e }
  where
    by : (v : Value) (t : Ty) → type_of_value v ≡ Some t → own_type objects v ≡ Some t
    by (value.Bool b) t q = q
    by (value.Byte n) t q = q
    by (value.Short n) t q = q
    by (value.Char n) t q = q
    by (value.Int n) t q = q
    by (value.Long n) t q = q
    by value.Null t q = q
    by (value.Ref o) t q = absurd cc

    same : (s t : Ty) → Some s ≡ Some t → agrees p s s ≡ true → agrees p t t ≡ true
    same s t q h = subst (λ (u : Ty). agrees p u u ≡ true) (same_Some s t q) h

    agree : (v : Value) (t : Ty) → type_of_value v ≡ Some t → agrees p t t ≡ true
    agree (value.Bool b) t q = same _ t q refl
    agree (value.Byte n) t q = same _ t q refl
    agree (value.Short n) t q = same _ t q refl
    agree (value.Char n) t q = same _ t q refl
    agree (value.Int n) t q = same _ t q refl
    agree (value.Long n) t q = same _ t q refl
    agree value.Null t q = same null_type t q refl
    agree (value.Ref o) t q = absurd cc

module _ {S : Setting} (fit : Known S.program) {m : Meanings} (g : MeaningsAreSafe S m) where
  abbrev Form : Context → List Obj → Ty → CoreForm → Type 0
  Form c w t form = Safe S c w (ResultFits S.program t) (eval_form S.program m t form)

  abbrev At : Context → List Obj → Ty → Computation Value → Type 0
  At c w t m = Safe S c w (Fitting S.program t) m

  -- an object, an array and an index

  pub bind_object : {B : Type 0} {Q : List Obj → B → Type 0} {c : Context} {w : List Obj} {e : Core} {f : Value → Computation B} (class : ClassId) → Fits S.program c.body e → Every (Allowed S) e →
      is_subtype S.program (ty_of e) (class_type class) ≡ true → ((later : List Obj) → Grows w later → (v : Value) → Fitting S.program (class_type class) later v → Safe S c later Q (f v)) →
      Safe S c w Q (bind (m.eval e) f)
  bind_object {e = e} class f x b k = bind_to fit g (class_type class) f x (agree-below S.program (ty_of e) (class_type class) b) k

  pub bind_array : {B : Type 0} {Q : List Obj → B → Type 0} {c : Context} {w : List Obj} {e : Core} {f : Value → Computation B} (t : Ty) → Fits S.program c.body e → Every (Allowed S) e →
      ty_of e ≡ array_of t → ((later : List Obj) → Grows w later → (v : Value) → Fitting S.program (array_of t) later v → Safe S c later Q (f v)) → Safe S c w Q (bind (m.eval e) f)
  bind_array {e = e} t f x is k = bind_part fit g f x (real-reference (ty_of e) (subst (λ (u : Ty). is_reference u ≡ true) (sym is) refl))
      λ later l v q. k later l v (subst (λ (u : Ty). ValueFits S.program later u v) is q)

  pub bind_int : {B : Type 0} {Q : List Obj → B → Type 0} {c : Context} {w : List Obj} {e : Core} {f : Value → Computation B} → Fits S.program c.body e → Every (Allowed S) e →
      is_int (ty_of e) ≡ true → ((later : List Obj) → Grows w later → (v : Value) → Fitting S.program int later v → Safe S c later Q (f v)) → Safe S c w Q (bind (m.eval e) f)
  bind_int {e = e} f x is k = bind_part fit g f x (real-by is_int (ty_of e) refl is)
      λ later l v q. k later l v (subst (λ (u : Ty). ValueFits S.program later u v) (same_type-equal (ty_of e) int is) q)

  pub bind_bool : {B : Type 0} {Q : List Obj → B → Type 0} {c : Context} {w : List Obj} {e : Core} {f : Value → Computation B} → Fits S.program c.body e → Every (Allowed S) e →
      is_bool (ty_of e) ≡ true → ((later : List Obj) → Grows w later → (v : Value) → Fitting S.program bool later v → Safe S c later Q (f v)) → Safe S c w Q (bind (m.eval e) f)
  bind_bool {e = e} f x is k = bind_part fit g f x (real-by is_bool (ty_of e) refl is)
      λ later l v q. k later l v (subst (λ (u : Ty). ValueFits S.program later u v) (same_type-equal (ty_of e) bool is) q)

  -- a part that is to be a bool
  pub part-bool : {c : Context} {w : List Obj} {e : Core} → Fits S.program c.body e → Every (Allowed S) e → is_bool (ty_of e) ≡ true → At c w bool (m.eval e)
  part-bool {c = c} {w = w} {e = e} f x is = subst (λ (u : Ty). At c w u (m.eval e)) (same_type-equal (ty_of e) bool is) (whole (real-by is_bool (ty_of e) refl is) (g.eval f x w))

  -- what stands before a static member
  pub safe-behind : {Q : List Obj → Value → Type 0} {c : Context} {w : List Obj} {class : ClassId} {o : MaybeCore} {n : Computation Value} → MaybeFits S.program c.body class o → EveryIf (Allowed S) o →
      ((later : List Obj) → Grows w later → Safe S c later Q n) → Safe S c w Q (behind m (option_of o) n)
  safe-behind {w = w} nothing x k = k w grows-refl
  safe-behind {w = w} (something f b) x k = seq_any (g.eval f x w) k

  -- ---- places

  pub read-field : {c : Context} {w : List Obj} {t : Ty} {o : Core} {class : ClassId} {n : ℕ} → FieldHas S.program c.body t o class n → Every (Allowed S) o → Form c w t (core.Field o class n)
  read-field {c = c} {t = t} {class = class} {n = n} h x = safe-result (bind_object class h.object x h.below λ later l v q.
      subst (λ (u : Ty). At c later u (read_field S.program class n v)) h.type (safe-read_field fit class n h.its h.there h.instance q))

  pub read-static : {c : Context} {w : List Obj} {t : Ty} {o : MaybeCore} {class : ClassId} {n : ℕ} → StaticHas S.program c.body t o class n → EveryIf (Allowed S) o → Form c w t (core.Static o class n)
  read-static {c = c} {class = class} {n = n} h x = safe-result (safe-behind h.object x λ later l.
      subst (λ (u : Ty). At c later u (read_static S.program class n)) h.type (safe-read_static fit class n h.its h.there h.static))

  pub read-element : {c : Context} {w : List Obj} {t : Ty} {a i : Core} → IndexHas S.program c.body t a i → Every (Allowed S) a → Every (Allowed S) i → Form c w t (core.Index a i)
  read-element {t = t} h x y = safe-result (bind_array t h.array x h.of_array λ later l v q. bind_int h.index y h.of_int λ last l' i r. safe-read_element fit (fits-more l' q) r)

  -- a value goes to a place, and is what the node gives
  pub assign : {c : Context} {w : List Obj} {span at : Span} {value : Core} (form : CoreForm) (t u : Ty) → Fits S.program c.body (node form t span at) → EveryPart (Allowed S) form → IsPlace S.program c.body form →
      Fits S.program c.body value → Every (Allowed S) value → agrees S.program (ty_of value) u ≡ true → agrees S.program u t ≡ true → At c w u (assign_to S.program m form value)
  assign (core.Local n) t u p x a_local f y a b = bind_to fit g u f y a λ later l v q.
      safe-put_local n (local-has p) (fits-above S.program fit q b) λ last l'. fits-more l' q
  assign (core.Field o class n) t u p x is f y a b = let h = field-has p in bind_object class h.object x h.below λ w1 l1 o q. bind_to fit g u f y a λ w2 l2 v r.
      safe-write_field fit class n h.its h.there h.instance (fits-more l2 q) (subst (λ (s : Ty). ValueFits S.program w2 s v) (sym h.type) (fits-above S.program fit r b)) λ w3 l3. fits-more l3 r
  assign (core.Static o class n) t u p x is f y a b = let h = static-has p in safe-behind h.object x λ w1 l1. bind_to fit g u f y a λ w2 l2 v r.
      safe-write_static fit class n h.its h.there h.static (subst (λ (s : Ty). ValueFits S.program w2 s v) (sym h.type) (fits-above S.program fit r b)) λ w3 l3. fits-more l3 r
  assign (core.Index a i) t u p x is f y e b = let h = index-has p in bind_array t h.array x.0 h.of_array λ w1 l1 o q. bind_int h.index x.1 h.of_int λ w2 l2 j s. bind_to fit g u f y e λ w3 l3 v r.
      safe-write_element fit (fits-more (grows-on l2 l3) q) (fits-more l3 s) (fits-above S.program fit r b) λ w4 l4. fits-more l4 r
  assign _ t u p x is f y a b = absurd (elim is [ ])
