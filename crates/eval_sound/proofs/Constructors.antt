-- The body of a constructor: another constructor first, then the initializers, then its statements (JLS 8.8.7, 12.5).
use Rattle.std.proofs.Common.{◌≡◌, ℕ, suc, ◌+◌, List, [], ◌∷◌, drop, length, Option, Some, None, refl, sym, ap, subst, ◌∙◌, inl, inr, arith}
use Rattle.std.specs.Prelude.{Bool, true, false, ◌⊎◌, nat_eq, slice_get, if◌then◌else◌}
use Rattle.std.specs.List.{Contains}
use Rattle.std.proofs.lemmas.Bool.Decides.{nat_tests}
use Rattle.std.proofs.lemmas.Option.{same_Some}
use Rattle.je_base.specs.declared.span.Span.{Span}
use Rattle.je_core.specs.declared.object.Obj.{Obj}
use Rattle.je_core.specs.declared.types.ClassId.{ClassId}
use Rattle.je_core.specs.declared.types.Ty.{Ty}
use Rattle.je_core.specs.declared.value.Value.{Value}
use Rattle.je_core.specs.Core.{Core, CoreForm, Cores, CoreStmt, CoreStmtForm, CoreStmts, CoreMethod, CoreClass, CoreProgram, node, a_core, stmt, no_stmts, more_stmts, form_of, list_of, stmt_form_of, stmt_list_of}
use Rattle.je_core.specs.Core as core
use Rattle.je_classes.specs.Hierarchy.{class_at, supers_in, supers_of, with_superclass, same, above}
use Rattle.je_classes.specs.Members.{Member, methods_of, method_of, methods_in}
use Rattle.je_classes.specs.Subtypes.{class_type}
use Rattle.je_classes.proofs.Below.{below-from}
use Rattle.je_classes.proofs.Lists.{contains-here}
use Rattle.constructor_calls.specs.Calls.{is_call, is_call_statement, begins_with_call, is_plain_constructor, plain_from, placed_in, plain_constructor, is_constructor_there}
use Rattle.je_fitting.specs.Expressions.{Body, Fits, call_exact, call_static, is_constructor}
use Rattle.je_fitting.specs.Members.{HeadFits, head_call, BodyFits, a_block, behind_a_call, body_of, is_guest}
use Rattle.je_fitting.specs.Statements.{no_targets, StatementFits, StatementsFit, no_statements, more_statements, block, perform}
use Rattle.je_fitting.specs.Types.{agrees}
use Rattle.je_fitting.proofs.Booleans.{two}
use Rattle.je_java.specs.Constructors.{parts_of, call_in, call_in_statement, first_call, called_constructor, is_of}
use Rattle.je_java.specs.Meaning as meaning
use Rattle.je_java.specs.Meaning.{Meanings, construct_by, constructor_from, initialized, completed, construct_above, build_by, build_form}
use Rattle.je_java.specs.Subclasses.{superclass_in, superclass_of}
use Rattle.je_sound.specs.Values.{ValuesFit}
use Rattle.eval_sound.specs.Nodes.{Every, Throughout}
use Rattle.eval_sound.specs.Premises.{IsOfLibrary, MemberIsSafe, Premises}
use Rattle.eval_sound.specs.Safety.{Any, Setting, Allowed, AllFitting, Context, in_body, Safe}
use Rattle.eval_sound.proofs.Bodies.{safe-run_constructor}
use Rattle.eval_sound.proofs.Members.{guest-of-body, bodiless-constructor}
use Rattle.eval_sound.proofs.Made.{bind_value}
use Rattle.eval_sound.proofs.Moves.{any, all-more, safe-ret, safe-seq, bind_need}
use Rattle.eval_sound.specs.Laws.{MeaningsAreSafe}
use Rattle.eval_sound.proofs.Parts.{safe-values}
use Rattle.eval_sound.proofs.Starts.{instance-inits, safe-run_initializers}
use Rattle.eval_sound.proofs.Statements.{AllRun, all-run, safe-block}
use Rattle.eval_sound.proofs.Steps.{safe-get_this}
use Rattle.eval_sound.proofs.Types.{Known, agree-itself, below-agrees, fits-above}
use Rattle.library_fits.proofs.Table.{apart}

-- ---- no expression that fits calls a constructor

not-call : {p : CoreProgram} {body : Body} {e : Core} → Fits p body e → is_call p (form_of e) ≡ false
not-call {p = p} (call_exact f b there instance concrete plain fs a) = ap (is_constructor_there p) there ∙ plain
not-call {p = p} (call_static f there its concrete plain fs a) = ap (is_constructor_there p) there ∙ plain
not-call _ = refl

record NoCall (p : CoreProgram) (form : CoreStmtForm) : Type 0 where
  none : call_in_statement p form ≡ None
  no : is_call_statement p form ≡ false

no-call : {p : CoreProgram} {body : Body} {s : CoreStmt} → StatementFits p body no_targets s → NoCall p (stmt_form_of s)
no-call {p = p} (perform {e = e} f) = record { none = ap (λ b. if b then Some (form_of e) else None) (not-call f); no = not-call f }
no-call _ = record { none = refl; no = refl }

no-first : {p : CoreProgram} {body : Body} {parts : CoreStmts} (locals : List ℕ) (span at : Span) → StatementsFit p body no_targets parts →
    (first_call p (stmt_list_of parts) ≡ None) × (begins_with_call p (stmt (core.Block locals parts) span at) ≡ false)
no-first locals span at no_statements = (refl, refl)
no-first {p = p} locals span at (more_statements f fs) = let h = no-call f in (h.none, h.no)

-- ---- the constructor without parameters

record PlainAt (p : CoreProgram) (n : ℕ) (ms : List CoreMethod) (at : ℕ) : Type 0 where
  index : ℕ
  place : at ≡ n + index
  method : CoreMethod
  there : slice_get ms index ≡ Some method
  plain : is_plain_constructor p method ≡ true

plain-at : (p : CoreProgram) (n : ℕ) (ms : List CoreMethod) (at : ℕ) → plain_from p n ms ≡ Some at → PlainAt p n ms at
plain-at p n [] at e = absurd cc
plain-at p n (m ∷ ms) at e = by (is_plain_constructor p m) refl e (plain-at p (suc n) ms at)
  where
    by : (b : Bool) → is_plain_constructor p m ≡ b → (if b then Some n else plain_from p (suc n) ms) ≡ Some at → (plain_from p (suc n) ms ≡ Some at → PlainAt p (suc n) ms at) → PlainAt p n (m ∷ ms) at
    by true q h more = record { index = 0; place = let z : n ≡ n + 0 = omega arith in sym (same_Some n at h) ∙ z; method = m; there = refl; plain = q }
    by false q h more = let r = more h in let z = r.place in record { index = suc r.index; place = omega (arith, z); method = r.method; there = r.there; plain = r.plain }

record PlainThere (p : CoreProgram) (super : ClassId) (member : Member) : Type 0 where
  of_super : member.class ≡ super
  method : CoreMethod
  there : method_of p member ≡ Some method
  con : is_constructor p method ≡ true
  params : method.params ≡ []

plain-there : (p : CoreProgram) (super : ClassId) (member : Member) → plain_constructor p (Some super) ≡ Some member → PlainThere p super member
plain-there p super member e = by (plain_from p 0 (methods_of p super)) refl e
  where
    by : (o : Option ℕ) → plain_from p 0 (methods_of p super) ≡ o → placed_in p super o ≡ Some member → PlainThere p super member
    by None q h = absurd cc
    by (Some at) q h =
        let r = plain-at p 0 (methods_of p super) at q in
        let one : (let x : Member = record { class = super; at = at } in x) ≡ member = same_Some _ member h in
        let place : at ≡ 0 + r.index = r.place in
        let index : r.index ≡ at = omega (arith, place) in
        let k = two {a = is_constructor p r.method} {b = nat_eq (length r.method.params) 0} r.plain in
        record {
          of_super = sym (ap (λ (x : Member). x.class) one);
          method = r.method;
          there = subst (λ (x : Member). method_of p x ≡ Some r.method) one (ap (slice_get (methods_of p super)) (sym index) ∙ r.there);
          con = k.0;
          params = none r.method.params k.1;
        }
      where
        none : (ts : List Ty) → nat_eq (length ts) 0 ≡ true → ts ≡ []
        none [] z = refl
        none (t ∷ ts) z = absurd (let y : length (t ∷ ts) ≡ 0 = grind (arith, nat_tests) in omega (arith, y))

module _ {S : Setting} (fit : Known S.program) (premises : Premises S) {m : Meanings} (g : MeaningsAreSafe S m) where
  -- another constructor on the object under construction
  safe-construct_by : {c : Context} {w : List Obj} {given : List Value} (member : Member) (k : CoreMethod) → c.body.is_static ≡ false → agrees S.program (class_type c.body.class) (class_type member.class) ≡ true →
      method_of S.program member ≡ Some k → is_constructor S.program k ≡ true → (k.body ≡ None → MemberIsSafe S member.class member.at k) → AllFitting S.program k.params w given →
      Safe S c w Any (construct_by S.program m (Some member) given)
  unfolding construct_by
  safe-construct_by member k instance up there con library a =
      bind_need _ member refl (bind_need _ k there (bind_value (safe-get_this instance) λ later l v q.
      safe-run_constructor fit premises g member k there con library (fits-above S.program fit q up) (all-more l a)))

  safe-initialized : {c : Context} {w : List Obj} (form : CoreStmtForm) (next : ℕ) → c.body.is_static ≡ false → AllRun S c (drop next (parts_of form)) →
      Safe S c w Any (initialized S.program m c.body.class form 0 next)
  safe-initialized {c = c} form next instance r =
      bind_value (safe-get_this instance) λ w1 l1 v q.
      safe-seq (safe-run_initializers fit premises g c.body.class v (instance-inits fit premises c.body.class) (λ z. q)) λ w2 l2. safe-block fit g r w2

  super-agrees : (class super : ClassId) (c : CoreClass) → class_at S.program class ≡ Some c → c.superclass ≡ Some super → agrees S.program (class_type class) (class_type super) ≡ true
  super-agrees class super c there e =
      let up : Contains (supers_of S.program class) super = subst (λ o. Contains (supers_in o) super) (sym there) (subst (λ o. Contains (with_superclass o c.interfaces) super) (sym e) (contains-here super c.interfaces)) in
      below-agrees S.program class super (below-from S.program (above up same))

  module _ (class : ClassId) (c : CoreClass) (at : ℕ) (constructor : CoreMethod) (there : class_at S.program class ≡ Some c) (its : slice_get c.methods at ≡ Some constructor)
      (con : is_constructor S.program constructor ≡ true) (instance : constructor.flags.is_static ≡ false) where
    abbrev here : Context
    here = in_body (body_of S.program class constructor)

    guest : (b : CoreStmt) → constructor.body ≡ Some b → is_guest class ≡ true
    guest b e = guest-of-body S.program fit.whole class at constructor b (ap (λ o. slice_get (methods_in o) at) there ∙ its) e

    -- no other one is called by a word
    safe-above : (b : CoreStmt) → constructor.body ≡ Some b → begins_with_call S.program b ≡ false → (w : List Obj) → Safe S here w Any (construct_above S.program m (superclass_of S.program class))
    safe-above b e n w = subst (λ o. Safe S here w Any (construct_above S.program m o)) (sym (ap superclass_in there)) (by c.superclass refl)
      where
        by : (o : Option ClassId) → c.superclass ≡ o → Safe S here w Any (construct_above S.program m o)
        by None q = safe-ret _ any
        by (Some super) q =
            let f = premises.constructors.above class super c at constructor b there q its con e n in
            let h = plain-there S.program super f.0 f.1 in
            subst (λ o. Safe S here w Any (construct_by S.program m o [])) (sym f.1)
            (safe-construct_by f.0 h.method instance (subst (λ (x : ClassId). agrees S.program (class_type class) (class_type x) ≡ true) (sym h.of_super) (super-agrees class super c there q)) h.there h.con
            (λ z. premises.library.above class f.0.class f.0.at h.method (guest b e) (ap superclass_in there ∙ q ∙ ap Some (sym h.of_super))
            (bodiless-constructor S.program fit.whole premises.no_native f.0.class f.0.at h.method h.there h.con z) h.con) (record { each = subst (λ ts. ValuesFit S.program w ts []) (sym h.params) tt }))

    -- one is called
    safe-called : {super : Option ClassId} {call : Core} (w : List Obj) → is_guest class ≡ true → c.superclass ≡ super → HeadFits S.program (body_of S.program class constructor) super call → Every (Allowed S) call →
        Safe S here w Any (constructor_from S.program m (form_of call) 0 [])
    safe-called {super = super} w own e (head_call {c = d} {n = n} {args = args} {m = k} is f which has con fs a) x =
        safe-values fit g k.params args _ [] fs x.1.1 a λ later l values r.
        safe-construct_by (meaning.member_at d n) k instance (by which) has con (λ z. library (bodiless-constructor S.program fit.whole premises.no_native d n k has con z) which) r
      where
        library : IsOfLibrary S.program d n k → (d ≡ class) ⊎ (super ≡ Some d) → MemberIsSafe S d n k
        library of (inl q) = apart (subst (λ (x : ClassId). is_guest x ≡ true) (sym q) own) of.of_library
        library of (inr q) = premises.library.above class d n k own (ap superclass_in there ∙ e ∙ q) of con

        by : (d ≡ class) ⊎ (super ≡ Some d) → agrees S.program (class_type class) (class_type d) ≡ true
        by (inl q) = subst (λ (x : ClassId). agrees S.program (class_type class) (class_type x) ≡ true) (sym q) (agree-itself S.program fit (class_type class) refl)
        by (inr q) = super-agrees class d c there (e ∙ q)

    is-called : {super : Option ClassId} {call : Core} → HeadFits S.program (body_of S.program class constructor) super call → call_in S.program (form_of call) ≡ Some (form_of call)
    is-called (head_call {o = o} {c = d} {n = n} {args = args} is f which has con fs a) = ap (λ b. if b then Some (core.CallExact (a_core o) d n args) else None) (ap (is_constructor_there S.program) has ∙ con)

    safe-completed : {w : List Obj} (form : CoreStmtForm) (is_initialized : Bool) (next : ℕ) → AllRun S here (drop next (parts_of form)) → Safe S here w Any (completed S.program m class form is_initialized next)
    safe-completed {w = w} form true next r = safe-block fit g r w
    safe-completed form false next r = safe-initialized form next instance r

    pub constructor-safe : {super : Option ClassId} {b : CoreStmt} → c.superclass ≡ super → constructor.body ≡ Some b → BodyFits S.program (body_of S.program class constructor) super b → Throughout (Allowed S) b → (w : List Obj) →
        Safe S here w Any (build_form S.program m class (stmt_form_of b))
    constructor-safe e q (a_block {locals = locals} {parts = parts} {span = span} {at = place} (block l fs)) x w =
        let h = no-first locals span place fs in
        subst (λ o. Safe S here w Any (build_by S.program m class (core.Block locals parts) o)) (sym h.0)
        (safe-seq (safe-above _ q h.1 w) λ later l. safe-completed (core.Block locals parts) false 0 (all-run fit g fs x))
    constructor-safe e q (behind_a_call {locals = locals} {call = call} {parts = parts} {span' = span} {at' = place} code l head fs) x w =
        let form = core.Block locals (more_stmts (stmt (core.Do call) span place) parts) in
        subst (λ o. Safe S here w Any (build_by S.program m class form o)) (sym (is-called head))
        (safe-seq (safe-called w (guest _ q) e head x.0) λ later l. safe-completed form (is_of class (called_constructor (form_of call))) 1 (all-run fit g fs x.1))
