-- A statement of each form is safe where its parts are.
use Rattle.std.proofs.Common.{◌≡◌, ℕ, List, [], ◌∷◌, ◌++◌, Option, Some, None, refl, sym, ap, subst, ◌∙◌, inl, inr}
use Rattle.std.specs.Prelude.{ℤ, Bool, true, false, ◌||◌, ◌⊎◌, nat_eq, slice_get, if◌then◌else◌}
use Rattle.std.specs.List.{All}
use Rattle.std.proofs.lemmas.List.Elements.{All-head, All-tail}
use Rattle.std.proofs.lemmas.Option.{same_Some}
use Rattle.je_base.specs.declared.span.NameId.{NameId}
use Rattle.je_base.specs.declared.span.Span.{Span}
use Rattle.je_core.specs.declared.object.Obj.{Obj}
use Rattle.je_core.specs.declared.types.Base.TheVariants as base
use Rattle.je_core.specs.declared.types.ClassId.{ClassId}
use Rattle.je_core.specs.declared.types.Ty.{Ty}
use Rattle.je_core.specs.declared.value.ObjId.{ObjId}
use Rattle.je_core.specs.declared.value.Value.{Value}
use Rattle.je_core.specs.declared.value.Value.TheVariants as value
use Rattle.je_core.specs.Core.{Core, CoreStmt, CoreStmtForm, CoreStmts, MaybeStmt, CoreGroup, CoreGroups, CoreCatch, CoreCatches, CoreProgram, stmt, no_stmts, more_stmts, no_stmt, a_stmt, group, no_groups, more_groups, catch, no_catches, more_catches, ty_of, stmt_form_of, stmt_list_of, group_list_of, catch_list_of}
use Rattle.je_core.specs.Core as core
use Rattle.je_classes.specs.Members.{same_name}
use Rattle.je_classes.specs.Subtypes.{class_type, same_type}
use Rattle.je_classes.proofs.Below.{below-from}
use Rattle.je_classes.proofs.Same.{same_type-equal}
use Rattle.je_fitting.specs.Expressions.{Body, Fits}
use Rattle.je_fitting.specs.Statements.{Targets, in_loop, in_switch, labelled_by, label_of, is_loop_form, is_selector, Gives, no_value, a_value, StatementFits, StatementsFit, no_statements, more_statements, MaybeFits, no_statement, a_statement, GroupsFit, no_more_groups, one_more_group, CatchesFit, no_more_catches, one_more_catch}
use Rattle.je_fitting.specs.Statements as fitting
use Rattle.je_fitting.specs.Types.{of, int, throwable, is_void, agrees}
use Rattle.je_java.specs.Meaning.{Meanings, block, exec_maybe, labels_of, behind_labels, tested, steps, asked_if, turn, catch_for, handled, caught, with_last, has_number, is_default, groups_from, or_else, selected, parts_in, fallen_through, exec_form}
use Rattle.je_java.specs.Subclasses.{is_subclass}
use Rattle.je_java.specs.Steps.{Computation, Nothing, is_label, takes}
use Rattle.je_sound.specs.Values.{ValueFits}
use Rattle.eval_sound.specs.Nodes.{EveryStep, Throughout, ThroughoutAll, ThroughoutIf, ThroughoutGroups, ThroughoutCatches}
use Rattle.eval_sound.specs.Safety.{Any, Setting, Allowed, Context, CanJump, break, break_to, continue, continue_to, CanBeThrown, Safe}
use Rattle.eval_sound.proofs.Expressions.{bind_bool}
use Rattle.eval_sound.proofs.Landings.{Lands, stands, safe-looped, safe-labelled, safe-broken_by, subclass-below, safe-get_class}
use Rattle.eval_sound.proofs.Loops.{LoopHas, in-loop, loop-has}
use Rattle.eval_sound.proofs.Made.{safe-branch, safe-throw_value}
use Rattle.eval_sound.proofs.Moves.{any, fits-more, safe-ret, safe-bind, safe-seq, safe-throw, safe-leave, safe-jump, safe-catching, safe-finally, bind_need}
use Rattle.eval_sound.proofs.Operators.{Numeric, a_byte, a_short, a_char, an_int, a_long, numbered, either-way}
use Rattle.eval_sound.specs.Laws.{MeaningsAreSafe}
use Rattle.eval_sound.proofs.Parts.{bind_part, bind_to}
use Rattle.eval_sound.proofs.Results.{real-reference, seq_any}
use Rattle.eval_sound.proofs.Steps.{safe-put_local}
use Rattle.eval_sound.proofs.Types.{Known, agree-below, below-agrees, fits-above}
use Rattle.eval_sound.proofs.Values.{formed, reference-below}

selector-number : (t : Ty) → is_selector t ≡ true → Numeric t
selector-number t e = either-way (same_type t int || same_type t (of base.Char) || same_type t (of base.Short)) (same_type t (of base.Byte)) e
    (λ q. either-way (same_type t int || same_type t (of base.Char)) (same_type t (of base.Short)) q
    (λ h. either-way (same_type t int) (same_type t (of base.Char)) h (λ z. is z an_int) (λ z. is z a_char)) (λ h. is h a_short)) (λ q. is q a_byte)
  where
    is : {u : Ty} → same_type t u ≡ true → Numeric u → Numeric t
    is {u = u} z n = subst Numeric (sym (same_type-equal t u z)) n

number-real : {t : Ty} → Numeric t → is_void t ≡ false
number-real a_byte = refl
number-real a_short = refl
number-real a_char = refl
number-real an_int = refl
number-real a_long = refl

-- a loop stands behind a label
through-label : (name : NameId) (s : CoreStmt) → is_loop_form (stmt_form_of s) ≡ true → is_loop_form (behind_labels (core.Labelled name s)) ≡ true
through-label name (stmt (core.Loop c es b) span at) e = refl
through-label name (stmt (core.DoLoop b c) span at) e = refl
through-label name (stmt _ span at) e = absurd cc

-- the label of a statement
lands-label : (name : NameId) (s : CoreStmt) (j : Targets) → Lands (labelled_by name s j) j (is_label name) (is_loop_form (stmt_form_of s))
unfolding is_label
lands-label name s j = record { comes = λ again label k. by k }
  where
    at-break : (n : NameId) (is_loop : Bool) → (b : Bool) → nat_eq name.0 n.0 ≡ b → (if same_name name n then Some (is_loop_form (stmt_form_of s)) else label_of j.labels n) ≡ Some is_loop →
        ((nat_eq name.0 n.0 ≡ true) × (false ≡ true → is_loop_form (stmt_form_of s) ≡ true)) ⊎ ((nat_eq name.0 n.0 ≡ false) × CanJump j false (Some n))
    at-break n is_loop true q e = inl (q, λ z. absurd cc)
    at-break n is_loop false q e = inr (q, break_to (sym (ap (λ b. if b then Some (is_loop_form (stmt_form_of s)) else label_of j.labels n) q) ∙ e))

    at-continue : (n : NameId) → (b : Bool) → nat_eq name.0 n.0 ≡ b → (if same_name name n then Some (is_loop_form (stmt_form_of s)) else label_of j.labels n) ≡ Some true →
        ((nat_eq name.0 n.0 ≡ true) × (true ≡ true → is_loop_form (stmt_form_of s) ≡ true)) ⊎ ((nat_eq name.0 n.0 ≡ false) × CanJump j true (Some n))
    at-continue n true q e = inl (q, λ z. same_Some _ _ (sym (ap (λ b. if b then Some (is_loop_form (stmt_form_of s)) else label_of j.labels n) q) ∙ e))
    at-continue n false q e = inr (q, continue_to (sym (ap (λ b. if b then Some (is_loop_form (stmt_form_of s)) else label_of j.labels n) q) ∙ e))

    by : {again : Bool} {label : Option NameId} → CanJump (labelled_by name s j) again label →
        ((is_label name label ≡ true) × (again ≡ true → is_loop_form (stmt_form_of s) ≡ true)) ⊎ ((is_label name label ≡ false) × CanJump j again label)
    by (break e) = inr (refl, break e)
    by (break_to {name = n} {is_loop = is_loop} e) = at-break n is_loop (nat_eq name.0 n.0) refl e
    by (continue e) = inr (refl, continue e)
    by (continue_to {name = n} e) = at-continue n (nat_eq name.0 n.0) refl e

module _ (S : Setting) where
  -- statements that fit, each
  pub data AllRun (c : Context) : List CoreStmt → Type 0 where
    none_runs : AllRun c []
    one_runs : {s : CoreStmt} {ss : List CoreStmt} → StatementFits S.program c.body c.targets s → Throughout (Allowed S) s → AllRun c ss → AllRun c (s ∷ ss)

  pub data AllGroups (c : Context) : List CoreGroup → Type 0 where
    no_group : AllGroups c []
    a_group : {k : CoreGroup} {gs : List CoreGroup} → AllRun c (parts_in k) → AllGroups c gs → AllGroups c (k ∷ gs)

  pub data AllCatches (c : Context) : List CoreCatch → Type 0 where
    no_catch : AllCatches c []
    a_catch : {local : ℕ} {class : ClassId} {t : Ty} {inner : CoreStmt} {span : Span} {cs : List CoreCatch} → slice_get c.body.locals local ≡ Some t → agrees S.program (class_type class) t ≡ true →
        StatementFits S.program c.body c.targets inner → Throughout (Allowed S) inner → AllCatches c cs → AllCatches c (catch local class span inner ∷ cs)

module _ {S : Setting} (fit : Known S.program) {m : Meanings} (g : MeaningsAreSafe S m) where
  -- ---- blocks

  pub all-run : {body : Body} {j : Targets} {ss : CoreStmts} → StatementsFit S.program body j ss → ThroughoutAll (Allowed S) ss → AllRun S (stands body j) (stmt_list_of ss)
  all-run no_statements x = none_runs
  all-run (more_statements f fs) x = one_runs f x.0 (all-run fs x.1)

  run-both : {c : Context} {ss ts : List CoreStmt} → AllRun S c ss → AllRun S c ts → AllRun S c (ss ++ ts)
  run-both none_runs r = r
  run-both (one_runs f x q) r = one_runs f x (run-both q r)

  pub safe-block : {c : Context} {ss : List CoreStmt} → AllRun S c ss → (w : List Obj) → Safe S c w Any (block m ss)
  safe-block none_runs w = safe-ret _ any
  safe-block (one_runs f x fs) w = safe-seq (g.exec f x w) λ later l. safe-block fs later

  safe-maybe : {c : Context} {s : MaybeStmt} → MaybeFits S.program c.body c.targets s → ThroughoutIf (Allowed S) s → (w : List Obj) → Safe S c w Any (exec_maybe m s)
  safe-maybe no_statement x w = safe-ret _ any
  safe-maybe (a_statement f) x w = g.exec f x w

  -- ---- loops

  safe-tested : {c : Context} {w : List Obj} {v : Value} (node : CoreStmt) → StatementFits S.program c.body c.targets node → Throughout (Allowed S) node → (h : LoopHas S c (stmt_form_of node)) →
      is_loop_form (behind_labels (stmt_form_of node)) ≡ true → ValueFits S.program w (of base.Bool) v → Safe S c w Any (tested m node (stmt_form_of node) v)
  safe-tested {c = c} {w = w} node f x h z q =
      safe-branch (formed q)
      (subst (λ k. Safe S c w Any k) (sym (h.goes m node (labels_of (stmt_form_of node)))) (safe-looped h.targets (takes (labels_of (stmt_form_of node))) h.lands (λ w'. g.again f x z w') (g.exec h.inner_fits h.inner_allowed w)))
      (subst (λ k. Safe S c w Any k) (sym (h.passes m)) (safe-ret _ any))

  safe-steps : {c : Context} {n : Computation Nothing} (es : List Core) → All (Fits S.program c.body) es → EveryStep (Allowed S) es → ((w : List Obj) → Safe S c w Any n) → (w : List Obj) → Safe S c w Any (steps m es n)
  safe-steps [] a x k w = k w
  safe-steps {c = c} (e ∷ es) a x k w = seq_any (g.eval (All-head (Fits S.program c.body) e es a) x.0 w) λ later l. safe-steps es (All-tail (Fits S.program c.body) e es a) x.1 k later

  pub turn-safe : {c : Context} (node : CoreStmt) → StatementFits S.program c.body c.targets node → Throughout (Allowed S) node → is_loop_form (behind_labels (stmt_form_of node)) ≡ true → (w : List Obj) →
      Safe S c w Any (turn m node (stmt_form_of node))
  turn-safe {c = c} node f x z w =
      let h = loop-has {body = c.body} {j = c.targets} f x z in
      safe-steps _ h.steps_fit h.steps_allowed (λ later. subst (λ o. Safe S c later Any (asked_if m node (stmt_form_of node) o)) (sym h.asks)
      (bind_bool fit g h.condition_fits h.condition_allowed h.of_bool λ last l v q. safe-tested node f x h z q)) w

  -- ---- switch

  all-groups : {body : Body} {j : Targets} {gs : CoreGroups} → GroupsFit S.program body j gs → ThroughoutGroups (Allowed S) gs → AllGroups S (stands body j) (group_list_of gs)
  all-groups no_more_groups x = no_group
  all-groups (one_more_group uses f fs) x = a_group (all-run f x.0) (all-groups fs x.1)

  from-groups : {c : Context} {gs : List CoreGroup} (test : CoreGroup → Bool) → AllGroups S c gs → (found : List CoreGroup) → groups_from test gs ≡ Some found → AllGroups S c found
  from-groups test no_group found e = absurd cc
  from-groups {c = c} test (a_group {k = k} {gs = gs} f fs) found e = by (test k) e (from-groups test fs found)
    where
      by : (b : Bool) → (if b then Some (k ∷ gs) else groups_from test gs) ≡ Some found → (groups_from test gs ≡ Some found → AllGroups S c found) → AllGroups S c found
      by true h more = subst (AllGroups S c) (same_Some (k ∷ gs) found h) (a_group f fs)
      by false h more = more h

  selected-groups : {c : Context} {gs : List CoreGroup} (n : ℤ) → AllGroups S c gs → AllGroups S c (selected n gs)
  selected-groups {c = c} {gs = gs} n a = by (groups_from (has_number n) gs) refl (groups_from is_default gs) refl
    where
      by : (o : Option (List CoreGroup)) → groups_from (has_number n) gs ≡ o → (d : Option (List CoreGroup)) → groups_from is_default gs ≡ d → AllGroups S c (or_else o d)
      by (Some found) q d r = from-groups (has_number n) a found q
      by None q (Some found) r = from-groups is_default a found r
      by None q None r = no_group

  fallen : {c : Context} {gs : List CoreGroup} → AllGroups S c gs → AllRun S c (fallen_through gs)
  fallen no_group = none_runs
  fallen (a_group f fs) = run-both f (fallen fs)

  -- ---- exceptions

  all-catches : {body : Body} {j : Targets} {cs : CoreCatches} → CatchesFit S.program body j cs → ThroughoutCatches (Allowed S) cs → AllCatches S (stands body j) (catch_list_of cs)
  all-catches no_more_catches x = no_catch
  all-catches (one_more_catch e a t f fs) x = a_catch e a f x.0 (all-catches fs x.1)

  safe-handled : {c : Context} {w : List Obj} {e : ObjId} {cs : List CoreCatch} (own : ClassId) → AllCatches S c cs → CanBeThrown S w e → ValueFits S.program w (class_type own) (value.Ref e) →
      Safe S c w Any (handled m (catch_for S.program cs own) e)
  safe-handled own no_catch t f = safe-throw t
  safe-handled {c = c} {w = w} {e = e} own (a_catch {local = local} {class = class} {inner = inner} {span = span} {cs = cs} is a h x more) t f = by (is_subclass S.program own class) refl (safe-handled own more t f)
    where
      by : (b : Bool) → is_subclass S.program own class ≡ b → Safe S c w Any (handled m (catch_for S.program cs own) e) →
          Safe S c w Any (handled m (if b then Some (catch local class span inner) else catch_for S.program cs own) e)
      by false q rest = rest
      by true q rest =
          let up = below-agrees S.program own class (below-from S.program (subclass-below S.program own class q)) in
          safe-seq {P = Any} (safe-put_local local is (fits-above S.program fit (fits-above S.program fit f up) a) λ later l. any) λ later l. g.exec h x later

  safe-caught : {c : Context} {w : List Obj} {e : ObjId} {cs : List CoreCatch} → AllCatches S c cs → CanBeThrown S w e → Safe S c w Any (caught S.program m cs e)
  safe-caught a t = safe-bind (safe-get_class fit t) λ later l own f. safe-handled own a (fits-more l t) f

  safe-with_last : {c : Context} {w : List Obj} {n : Computation Nothing} {last : MaybeStmt} → MaybeFits S.program c.body c.targets last → ThroughoutIf (Allowed S) last → Safe S c w Any n → Safe S c w Any (with_last m last n)
  safe-with_last no_statement x p = p
  safe-with_last (a_statement f) x p = safe-finally p (λ later. g.exec f x later)

  -- ---- every form

  safe-return : {c : Context} {w : List Obj} {t : Ty} {v : Option Core} (span at : Span) → c.body.returns ≡ Some t → Gives S.program c.body t v → Throughout (Allowed S) (stmt (core.Return v) span at) →
      Safe S c w Any (exec_form S.program m (stmt (core.Return v) span at) (core.Return v))
  safe-return span at e no_value x = safe-leave e (record { fits = λ z. absurd cc })
  safe-return span at e (a_value {t = t} f a) x = bind_to fit g t f x a λ later l v q. safe-leave e (record { fits = λ z. q })

  pub statement-safe : {c : Context} {s : CoreStmt} → StatementFits S.program c.body c.targets s → Throughout (Allowed S) s → (w : List Obj) → Safe S c w Any (exec_form S.program m s (stmt_form_of s))
  statement-safe fitting.empty x w = safe-ret _ any
  statement-safe (fitting.block there fs) x w = safe-block (all-run fs x) w
  statement-safe (fitting.perform f) x w = seq_any (g.eval f x w) λ later l. safe-ret _ any
  statement-safe (fitting.if_then f is first second) x w = bind_bool fit g f x.0 is λ later l v q. safe-branch (formed q) (g.exec first x.1 later) (safe-maybe second x.2 later)
  statement-safe {c = c} (fitting.loop f is fs b) x w =
      let whole = fitting.loop f is fs b in
      bind_bool fit g f x.0 is λ later l v q. safe-tested _ whole x (loop-has {body = c.body} {j = c.targets} whole x refl) refl q
  statement-safe {c = c} (fitting.do_loop b f is) x w =
      safe-looped (in_loop c.targets) (takes []) (in-loop c.targets) (λ w'. g.again {context = c} (fitting.do_loop b f is) x refl w') (g.exec b x.0 w)
  statement-safe {c = c} (fitting.switch {selector = e} there f is gs) x w = bind_part fit g f x.0 (number-real (selector-number (ty_of e) is)) λ later l v q.
      let n = numbered (selector-number (ty_of e) is) (formed q) in
      bind_need _ n.0 n.1 (safe-broken_by (safe-block (fallen (selected-groups n.0 (all-groups gs x.1))) later))
  statement-safe {c = c} (fitting.labelled {name = name} {inner = inner} f) x w =
      safe-labelled (labelled_by name inner c.targets) (is_label name) (is_loop_form (stmt_form_of inner)) (lands-label name inner c.targets) (λ z w'. g.again (fitting.labelled f) x (through-label name inner z) w') (g.exec f x w)
  statement-safe (fitting.break e) x w = safe-jump false None (break e)
  statement-safe (fitting.break_to e) x w = safe-jump false _ (break_to e)
  statement-safe (fitting.continue e) x w = safe-jump true None (continue e)
  statement-safe (fitting.continue_to e) x w = safe-jump true _ (continue_to e)
  statement-safe {s = stmt _ span at} (fitting.return e h) x w = safe-return span at e h x
  statement-safe (fitting.throw {e = e} f b) x w = bind_part fit g f x (real-reference (ty_of e) (reference-below S.program (ty_of e) throwable b)) λ later l v q.
      safe-throw_value fit (reference-below S.program (ty_of e) throwable b) (agree-below S.program (ty_of e) throwable b) q
  statement-safe (fitting.try f cs last) x w = safe-with_last last x.2 (safe-catching (g.exec f x.0 w) λ later l e t. safe-caught (all-catches cs x.1) t)
