-- An expression of each form is safe where its parts are.
use Rattle.eval_sound.proofs.Members.{bodiless, bodiless-constructor}
use Rattle.std.proofs.Common.{◌≡◌, ℕ, suc, ◌≤◌, List, [], ◌∷◌, length, map, Some, refl, sym, ap, subst, arith}
use Rattle.std.specs.Prelude.{Bool, true, false, not, ◌&&◌, ◌||◌}
use Rattle.std.specs.List.{All}
use Rattle.std.proofs.lemmas.List.Elements.{All-nil, All-cons, All-head, All-tail}
use Rattle.je_base.specs.declared.span.Span.{Span}
use Rattle.je_core.specs.declared.expr.UnOp.{UnOp}
use Rattle.je_core.specs.declared.expr.UnOp.TheVariants.{Minus, Not, Tilde}
use Rattle.je_core.specs.declared.object.Obj.{Obj}
use Rattle.je_core.specs.declared.types.ClassId.{ClassId}
use Rattle.je_core.specs.declared.types.Ty.{Ty}
use Rattle.je_core.specs.declared.value.Value.{Value}
use Rattle.je_core.specs.Core.{Core, CoreForm, Cores, MaybeCore, CoreCapture, CoreMethod, CoreClass, CoreProgram, node, none, more, no_core, a_core, ty_of, form_of, list_of, option_of}
use Rattle.je_core.specs.Core as core
use Rattle.je_classes.specs.Hierarchy.{class_at}
use Rattle.je_classes.specs.Subtypes.{class_type, array_of, same_type, is_subtype}
use Rattle.je_classes.proofs.Same.{same_type-equal}
use Rattle.je_fitting.specs.Expressions.{Fits, const, text, local, this, field, static, index, length_of, assign, step, update, unary, binary, and, or, choose, convert, cast, instance_of, concat, call_virtual, call_exact, call_static, new, new_array, array_with, MaybeFits, nothing, something, AllFit, CapturesFit, method_at, is_constructor, can_be_made}
use Rattle.je_fitting.specs.Operators.{Sort, sort_of, takes_one}
use Rattle.je_fitting.specs.Types.{int, string, is_int, is_number, is_void, agrees, all_agree, is_variable_type, types_of}
use Rattle.je_fitting.proofs.Booleans.{two, is_false}
use Rattle.je_java.specs.Meaning.{Meanings, to_string, apply, start_call, assign_to, begin_update, eval_form}
use Rattle.je_sound.specs.Values.{ValuesFit}
use Rattle.eval_sound.specs.Nodes.{Every}
use Rattle.eval_sound.specs.Premises.{by_call, by_left, by_right, by_target, by_operand, Premises}
use Rattle.eval_sound.specs.Safety.{Setting, Allowed, ResultFits, Fitting, Context, Safe}
use Rattle.eval_sound.proofs.Arrays.{safe-length_of, safe-make_arrays, safe-array_from}
use Rattle.eval_sound.proofs.Bodies.{safe-run_virtual, safe-run_exact}
use Rattle.eval_sound.proofs.Changes.{step-safe, update-safe}
use Rattle.eval_sound.proofs.Expressions.{constant-fits, bind_object, bind_array, bind_bool, part-bool, read-field, read-static, read-element, assign as assigned}
use Rattle.eval_sound.proofs.Joined.{safe-concatenated, tells}
use Rattle.eval_sound.proofs.Made.{safe-constant, safe-branch, safe-is_instance, safe-cast, safe-read_text}
use Rattle.eval_sound.proofs.Moves.{fits-more, safe-ret, safe-weaker}
use Rattle.eval_sound.proofs.News.{safe-run_new}
use Rattle.eval_sound.proofs.Operators.{Taken, ints, longs, int_long, long_int, equal_truths, truths, references, taken}
use Rattle.eval_sound.specs.Laws.{MeaningsAreSafe}
use Rattle.eval_sound.proofs.Parts.{bind_part, safe-values}
use Rattle.eval_sound.proofs.Results.{real-by, real-agrees, real-reference, safe-result, whole}
use Rattle.eval_sound.proofs.Steps.{safe-get_this, safe-get_local}
use Rattle.library_fits.proofs.Table.{apart}
use Rattle.eval_sound.proofs.Types.{agree-below, Known, fits-above}
use Rattle.eval_sound.proofs.Updates.{safe-binary, safe-unary, safe-convert}
use Rattle.eval_sound.proofs.Values.{reference-below, formed, truth-fits}

-- ---- operands have values

left-real : {k : Sort} {s t : Ty} → Taken k s t → is_void s ≡ false
left-real ints = refl
left-real longs = refl
left-real int_long = refl
left-real long_int = refl
left-real equal_truths = refl
left-real truths = refl
left-real (references {s = s} r q) = real-reference s r

right-real : {k : Sort} {s t : Ty} → Taken k s t → is_void t ≡ false
right-real ints = refl
right-real longs = refl
right-real int_long = refl
right-real long_int = refl
right-real equal_truths = refl
right-real truths = refl
right-real (references {t = t} r q) = real-reference t q

one-real : (o : UnOp) (t : Ty) → takes_one o t ≡ true → is_void t ≡ false
one-real Minus t e = real-by (takes_one Minus) t refl e
one-real Tilde t e = real-by (takes_one Tilde) t refl e
one-real Not t e = real-by (takes_one Not) t refl e

-- ---- arguments that all go to one type

all-go : (p : CoreProgram) (t : Ty) (es : List Core) → All (λ s. agrees p s t ≡ true) (types_of es) → all_agree p (types_of es) (map (λ (e : Core). t) es) ≡ true
all-go p t [] a = refl
all-go p t (e ∷ es) a = both-true (All-head (λ s. agrees p s t ≡ true) (ty_of e) (types_of es) a) (all-go p t es (All-tail (λ s. agrees p s t ≡ true) (ty_of e) (types_of es) a))
  where
    both-true : {x y : Bool} → x ≡ true → y ≡ true → (x && y) ≡ true
    both-true {x = true} f g = g
    both-true {x = false} f g = absurd cc

all-of-one : (p : CoreProgram) (objects : List Obj) (t : Ty) (es : List Core) (values : List Value) → ValuesFit p objects (map (λ (e : Core). t) es) values → ValuesFit p objects (map (λ (v : Value). t) values) values
all-of-one p objects t [] [] f = tt
all-of-one p objects t [] (v ∷ values) f = absurd f
all-of-one p objects t (e ∷ es) [] f = absurd f
all-of-one p objects t (e ∷ es) (v ∷ values) f = (f.0, all-of-one p objects t es values f.1)

as-many : (p : CoreProgram) (objects : List Obj) (t : Ty) (es : List Core) (values : List Value) → ValuesFit p objects (map (λ (e : Core). t) es) values → length values ≡ length es
as-many p objects t [] [] f = refl
as-many p objects t [] (v ∷ values) f = absurd f
as-many p objects t (e ∷ es) [] f = absurd f
as-many p objects t (e ∷ es) (v ∷ values) f = ap suc (as-many p objects t es values f.1)

int-agrees : (p : CoreProgram) (ts : List Ty) → All (λ l. is_int l ≡ true) ts → All (λ s. agrees p s int ≡ true) ts
int-agrees p [] a = All-nil (λ s. agrees p s int ≡ true)
int-agrees p (t ∷ ts) a =
    All-cons (λ s. agrees p s int ≡ true) t ts (subst (λ (u : Ty). agrees p u int ≡ true) (sym (same_type-equal t int (All-head (λ l. is_int l ≡ true) t ts a))) refl)
    (int-agrees p ts (All-tail (λ l. is_int l ≡ true) t ts a))

module _ {S : Setting} (fit : Known S.program) (premises : Premises S) {m : Meanings} (g : MeaningsAreSafe S m) where
  abbrev Form : Context → List Obj → Ty → CoreForm → Type 0
  Form c w t form = Safe S c w (ResultFits S.program t) (eval_form S.program m t form)

  -- ---- calls

  virtual : {c : Context} {w : List Obj} {span at : Span} {o : Core} (class : ClassId) (n : ℕ) (args : Cores) (k : CoreMethod) → Fits S.program c.body o → is_subtype S.program (ty_of o) (class_type class) ≡ true →
      method_at S.program class n ≡ Some k → k.flags.is_static ≡ false → is_constructor S.program k ≡ false → AllFit S.program c.body args → all_agree S.program (types_of (list_of args)) k.params ≡ true →
      Every (Allowed S) (node (core.CallVirtual o class n args) k.returns span at) → Form c w k.returns (core.CallVirtual o class n args)
  unfolding start_call apply
  virtual {o = o} class n args k f b is instance plain fs a x =
      let r = reference-below S.program (ty_of o) (class_type class) b in
      bind_part fit g f x.1.0 (real-reference (ty_of o) r) λ w1 l1 v q.
      safe-values fit g k.params args _ [] fs x.1.1 a λ w2 l2 values z.
      safe-run_virtual fit premises g (ty_of o) class n k (λ own y h. by_call own x.0 b y h) is instance plain r (agree-below S.program (ty_of o) (class_type class) b) (fits-more l2 q) z

  exact-on : {c : Context} {w : List Obj} {span at : Span} {o : Core} (class : ClassId) (n : ℕ) (args : Cores) (k : CoreMethod) → Fits S.program c.body o → is_subtype S.program (ty_of o) (class_type class) ≡ true →
      method_at S.program class n ≡ Some k → k.flags.is_abstract ≡ false → is_constructor S.program k ≡ false → AllFit S.program c.body args → all_agree S.program (types_of (list_of args)) k.params ≡ true →
      Every (Allowed S) (node (core.CallExact (a_core o) class n args) k.returns span at) → Form c w k.returns (core.CallExact (a_core o) class n args)
  unfolding start_call apply
  exact-on class n args k f b is concrete plain fs a x =
      bind_object fit g class f x.1.0 b λ w1 l1 v q.
      safe-values fit g k.params args _ [] fs x.1.1 a λ w2 l2 values r.
      safe-run_exact fit premises g class n k is plain (λ e. premises.library.named k x.0 (bodiless S.program fit.whole premises.no_native class n k is concrete e) plain) (λ z. fits-more l2 q) r

  exact-static : {c : Context} {w : List Obj} {span at : Span} (o : MaybeCore) (class : ClassId) (n : ℕ) (args : Cores) (k : CoreMethod) → MaybeFits S.program c.body class o → method_at S.program class n ≡ Some k →
      k.flags.is_static ≡ true → k.flags.is_abstract ≡ false → is_constructor S.program k ≡ false → AllFit S.program c.body args → all_agree S.program (types_of (list_of args)) k.params ≡ true →
      Every (Allowed S) (node (core.CallExact o class n args) k.returns span at) → Form c w k.returns (core.CallExact o class n args)
  unfolding start_call apply
  exact-static _ class n args k nothing is its concrete plain fs a x =
      safe-values fit g k.params args _ [] fs x.1.1 a λ w2 l2 values r.
      safe-run_exact fit premises g class n k is plain (λ e. premises.library.named k x.0 (bodiless S.program fit.whole premises.no_native class n k is concrete e) plain) (λ z. apart its z) r
  exact-static _ class n args k (something f b) is its concrete plain fs a x =
      bind_object fit g class f x.1.0 b λ w1 l1 v q.
      safe-values fit g k.params args _ [] fs x.1.1 a λ w2 l2 values r.
      safe-run_exact fit premises g class n k is plain (λ e. premises.library.named k x.0 (bodiless S.program fit.whole premises.no_native class n k is concrete e) plain) (λ z. apart its z) r

  made-new : {c : Context} {w : List Obj} {word span at : Span} (class : ClassId) (n : ℕ) (args : Cores) (the_class : CoreClass) (k : CoreMethod) (captures : List CoreCapture) → class_at S.program class ≡ Some the_class →
      can_be_made the_class ≡ true → method_at S.program class n ≡ Some k → is_constructor S.program k ≡ true → AllFit S.program c.body args → all_agree S.program (types_of (list_of args)) k.params ≡ true →
      CapturesFit S.program c.body class captures → Every (Allowed S) (node (core.New class n args captures word) (class_type class) span at) → Form c w (class_type class) (core.New class n args captures word)
  unfolding start_call apply
  made-new class n args the_class k captures there made is con fs a captured x =
      safe-result (safe-values fit g k.params args _ [] fs x.1 a λ w2 l2 values r.
      safe-run_new fit premises g class n captures the_class k there made is con (λ e. record {
        library = λ h. premises.library.made k x.0 (bodiless-constructor S.program fit.whole premises.no_native class n k is con e) con h;
        instances = λ h. premises.library.instances k x.0 (bodiless-constructor S.program fit.whole premises.no_native class n k is con e) con h;
        maker = λ h. premises.library.makers k x.0 (bodiless-constructor S.program fit.whole premises.no_native class n k is con e) con h;
      }) captured r)

  arrays : {c : Context} {w : List Obj} {span at : Span} (lengths : Cores) (t : Ty) → AllFit S.program c.body lengths → All (λ l. is_int l ≡ true) (types_of (list_of lengths)) →
      length (list_of lengths) ≤ t.dims → is_variable_type S.program t ≡ true → Every (Allowed S) (node (core.NewArray lengths) t span at) → Form c w t (core.NewArray lengths)
  unfolding start_call apply
  arrays lengths t fs a few variable x =
      safe-result (safe-values fit g (map (λ (e : Core). int) (list_of lengths)) lengths _ [] fs x.1 (all-go S.program int (list_of lengths) (int-agrees S.program (types_of (list_of lengths)) a)) λ w2 l2 values r.
      safe-make_arrays fit t values variable (premises.dimensions.by_lengths x.0) (let n = as-many S.program w2 int (list_of lengths) values r.each in omega (arith, n, few))
      (record { each = all-of-one S.program w2 int (list_of lengths) values r.each }))

  array-of : {c : Context} {w : List Obj} {span at : Span} (values : Cores) (t : Ty) → AllFit S.program c.body values → All (λ v. agrees S.program v t ≡ true) (types_of (list_of values)) →
      is_variable_type S.program t ≡ true → Every (Allowed S) (node (core.ArrayOf values) (array_of t) span at) → Form c w (array_of t) (core.ArrayOf values)
  unfolding start_call apply
  array-of values t fs a variable x =
      safe-result (safe-values fit g (map (λ (e : Core). t) (list_of values)) values _ [] fs x.1 (all-go S.program t (list_of values) a) λ w2 l2 vs r.
      safe-array_from fit t vs variable (let n = premises.dimensions.by_values x.0 in omega (arith, n)) (record { each = all-of-one S.program w2 t (list_of values) vs r.each }))

  -- ---- every form

  pub form-safe : {c : Context} {e : Core} → Fits S.program c.body e → Every (Allowed S) e → (w : List Obj) → Form c w (ty_of e) (form_of e)
  form-safe (const {v = v} {t = t} e uses) x w = safe-result (safe-constant v e (constant-fits S.program v t e))
  form-safe (text {units = units} once uses) x w = safe-result (safe-read_text fit units once)
  form-safe (local {n = n} e) x w = safe-result (safe-get_local n e)
  form-safe (this e) x w = safe-result (safe-get_this e)
  form-safe (field {f = k} f b is instance) x w = read-field fit g (record { object = f; below = b; its = k; there = is; instance = instance; type = refl }) x.1
  form-safe (static {f = k} f is its) x w = read-static fit g (record { object = f; its = k; there = is; static = its; type = refl }) x.1
  form-safe (index f of_array i of_int) x w = read-element fit g (record { array = f; of_array = of_array; index = i; of_int = of_int }) x.1.0 x.1.1
  form-safe (length_of {t = t} f is) x w = safe-result (bind_array fit g t f x.1 is λ w1 l1 v q. safe-length_of fit q)
  form-safe {c = c} (assign {place = place} {value = value} {form = form} {t = t} {u = u} e f is f' a b) x w = safe-result
      (subst (λ k. Fits S.program c.body k → Every (Allowed S) k → Safe S c w (Fitting S.program u) (assign_to S.program m (form_of k) value)) (sym e)
      (λ f x'. assigned fit g form t u f x'.1 is f' x.1.1 a b) f x.1.0)
  form-safe {c = c} (step {place = place} {form = form} {t = t} {u = u} {o = o} {old = old} {span' = s} {at' = s'} e f is a number one) x w = safe-result
      (subst (λ k. Fits S.program c.body k → Every (Allowed S) k → Safe S c w (Fitting S.program u) (begin_update S.program m u (core.Update k o no_core old))) (sym e)
      (λ f x'. step-safe fit premises g form t u s s' o old is f x'.1 a number one) f x.1.0)
  form-safe {c = c} (update {place = place} {operand = operand} {form = form} {t = t} {u = u} {o = o} {span' = s} {at' = s'} e f is a f' h) x w = safe-result
      (subst (λ k. Fits S.program c.body k → Every (Allowed S) k → Safe S c w (Fitting S.program u) (begin_update S.program m u (core.Update k o (a_core operand) false))) (sym e)
      (λ f x'. update-safe fit premises g form t u s s' o operand is f x'.1 a f' x.1.1 h (λ z own i y. by_target own x.0 z i (subst (λ (k : Ty). agrees S.program own k ≡ true) (sym (ap ty_of e)) y)) (λ z own i y. by_operand own x.0 z i y)) f x.1.0)
  form-safe (unary {o = o} {e = e} f h) x w = safe-result (bind_part fit g f x.1 (one-real o (ty_of e) h) λ w1 l1 v q. safe-unary o (ty_of e) h q)
  form-safe (binary {o = o} {l = l} {r = r} f f' h) x w =
      let k = taken (sort_of o) (ty_of l) (ty_of r) h in
      safe-result (bind_part fit g f x.1.0 (left-real k) λ w1 l1 a q. bind_part fit g f' x.1.1 (right-real k) λ w2 l2 b q'. safe-binary fit o (ty_of l) (ty_of r) h (fits-more l2 q) q')
  form-safe (and f f' b b') x w = safe-result (bind_bool fit g f x.1.0 b λ w1 l1 v q. safe-branch (formed q) (part-bool fit g f' x.1.1 b') (safe-ret _ (truth-fits S.program w1 false)))
  form-safe (or f f' b b') x w = safe-result (bind_bool fit g f x.1.0 b λ w1 l1 v q. safe-branch (formed q) (safe-ret _ (truth-fits S.program w1 true)) (part-bool fit g f' x.1.1 b'))
  form-safe (choose {y = y} {n = n} {t = t} f b fy ay fn an same) x w = safe-result (bind_bool fit g f x.1.0 b λ w1 l1 v q.
      safe-branch (formed q) (safe-weaker (λ w2 l2 r z. fits-above S.program fit z ay) (whole (real-agrees S.program (ty_of y) t ay) (g.eval fy x.1.1 w1)))
      (safe-weaker (λ w2 l2 r z. fits-above S.program fit z an) (whole (real-agrees S.program (ty_of n) t an) (g.eval fn x.1.2 w1))))
  form-safe (convert {e = e} {t = t} f h h' other) x w = safe-result (bind_part fit g f x.1 (real-by is_number (ty_of e) refl h) λ w1 l1 v q. safe-convert (ty_of e) t h h' q)
  form-safe (cast {e = e} {t = t} f r r' variable) x w = safe-result (bind_part fit g f x.1 (real-reference (ty_of e) r) λ w1 l1 v q. safe-cast fit t r r' q)
  form-safe (instance_of {e = e} {t = t} f r r' variable) x w = safe-result (bind_part fit g f x.1 (real-reference (ty_of e) r) λ w1 l1 v q. safe-is_instance fit t r q)
  form-safe (concat {l = l} {r = r} f f' h) x w =
      let y = two {a = (same_type (ty_of l) string || same_type (ty_of r) string) && not (is_void (ty_of l))} {b = not (is_void (ty_of r))} h in
      let z = two {a = same_type (ty_of l) string || same_type (ty_of r) string} {b = not (is_void (ty_of l))} y.0 in
      safe-result (bind_part fit g f x.1.0 (is_false z.1) λ w1 l1 a q. bind_part fit g f' x.1.1 (is_false y.1) λ w2 l2 b q'.
      safe-concatenated fit (to_string S.program m) (tells fit premises g (ty_of l) (λ own i y. by_left own x.0 i y) _) (tells fit premises g (ty_of r) (λ own i y. by_right own x.0 i y) _) (fits-more l2 q) q')
  form-safe (call_virtual {c = class} {n = n} {args = args} {m = k} f b is instance plain fs a) x w = virtual class n args k f b is instance plain fs a x
  form-safe (call_exact {c = class} {n = n} {args = args} {m = k} f b is instance concrete plain fs a) x w = exact-on class n args k f b is concrete plain fs a x
  form-safe (call_static {o = o} {c = class} {n = n} {args = args} {m = k} f is its concrete plain fs a) x w = exact-static o class n args k f is its concrete plain fs a x
  form-safe (new {c = class} {n = n} {args = args} {class = the_class} {m = k} {captures = captures} there made is con fs a captured) x w = made-new class n args the_class k captures there made is con fs a captured x
  form-safe (new_array {lengths = lengths} {t = t} fs a one few variable) x w = arrays lengths t fs a few variable x
  form-safe (array_with {values = values} {t = t} fs a variable) x w = array-of values t fs a variable x
