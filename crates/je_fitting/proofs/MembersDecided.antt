-- The tests of fields, methods and initializers decide whether they fit.
use Rattle.std.proofs.Common.{◌≡◌, ℕ, List, [], ◌∷◌, take, length, Some, None, refl, sym, ap, ◌∙◌, subst, inl, inr}
use Rattle.std.specs.Prelude.{Bool, true, false, not, ◌&&◌, ◌||◌, ◌⊎◌, Option, is_some}
use Rattle.std.specs.List.{list_all}
use Rattle.je_base.specs.declared.span.Span.{Span}
use Rattle.je_core.specs.declared.types.ClassId.{ClassId}
use Rattle.je_core.specs.declared.types.Ty.{Ty}
use Rattle.je_core.specs.Core.{Core, Cores, CoreStmt, CoreStmts, CoreField, CoreInitializer, CoreMethod, CoreClass, CoreProgram, node, no_core, a_core, list_of, stmt, no_stmts, more_stmts, form_of, ty_of}
use Rattle.je_core.specs.Core as core
use Rattle.je_classes.specs.Hierarchy.{class_at, same_class, is_below}
use Rattle.je_classes.specs.Subtypes.{same_type, same_types}
use Rattle.je_classes.specs.Members.{is_private}
use Rattle.je_classes.specs.Dispatch.{same_signature}
use Rattle.je_classes.proofs.Same.{same_type-refl, same_type-equal}
use Rattle.je_fitting.specs.Types.{void, is_void, is_variable_type, types_of}
use Rattle.je_fitting.specs.Expressions.{Code, constructor, method, instance_initializer, static_initializer, Body, is_this, method_at, is_constructor, is_interface_sort}
use Rattle.je_fitting.specs.Statements.{no_targets, LocalsThere, StatementFits, StatementsFit}
use Rattle.je_fitting.specs.Statements as fits
use Rattle.je_fitting.specs.Members.{is_guest, is_interface, local_types, AreVariables, static_body, ConstantFits, FieldFits, HeadFits, head_call, BodyFits, a_block, behind_a_call, body_of, StandsFor, IsOverridden, MethodFits, initializer_body, InitializerFits}
use Rattle.je_fitting.specs.way.Deciding.{is_fit, are_fit, is_made_by}
use Rattle.je_fitting.specs.way.DecidingStatements.{locals_there, are_statements_fit}
use Rattle.je_fitting.specs.way.Quantifying.{implies, if_there, each_method}
use Rattle.je_fitting.specs.way.DecidingMembers.{same_bool, is_constructor_code, is_superclass, are_variables, is_constant_fit, is_field_fit, is_head_fit, is_call_first, is_body_fit, is_overridden, stands_for, is_constructor_fit, is_method_head_fit, is_method_body_fit, is_method_fit, is_initializer_fit}
use Rattle.je_fitting.proofs.Booleans.{two, three, four, five, both, is_false, is_not}
use Rattle.je_fitting.proofs.Sound.{sound, all-of, all_sound, makes, same_class-equal}
use Rattle.je_fitting.proofs.Complete.{complete, listed, all_complete, made-by, same_class-refl}
use Rattle.je_fitting.proofs.StatementsDecided.{locals-sound, locals-complete, statement_sound, statement_complete, statements_sound, statements_complete}
use Rattle.je_fitting.proofs.Quantified.{implied, implying, on-there, if-there, each-tested, all-tested}

pub bools-equal : (a b : Bool) → same_bool a b ≡ true → a ≡ b
bools-equal true b e = sym e
bools-equal false b e = sym (is_false e)

pub bools-same : (a b : Bool) → a ≡ b → same_bool a b ≡ true
bools-same true b e = sym e
bools-same false b e = is_not (sym e)

pub types-equal : (xs ys : List Ty) → same_types xs ys ≡ true → xs ≡ ys
types-equal [] [] e = refl
types-equal [] (y ∷ ys) e = absurd cc
types-equal (x ∷ xs) [] e = absurd cc
types-equal (x ∷ xs) (y ∷ ys) e = let q = two {a = same_type x y} {b = same_types xs ys} e in
    ap (λ (z : Ty). z ∷ xs) (same_type-equal x y q.0) ∙ ap (λ (zs : List Ty). y ∷ zs) (types-equal xs ys q.1)

pub types-same : (xs : List Ty) → same_types xs xs ≡ true
types-same [] = refl
types-same (x ∷ xs) = both (same_type-refl x) (types-same xs)

or_cases : (a b : Bool) → (a || b) ≡ true → (a ≡ true) ⊎ (b ≡ true)
or_cases true b e = inl refl
or_cases false b e = inr e

or_left : (a b : Bool) → a ≡ true → (a || b) ≡ true
or_left true b e = refl
or_left false b e = absurd cc

or_right : (a b : Bool) → b ≡ true → (a || b) ≡ true
or_right true b e = refl
or_right false b e = e

code-is : (k : Code) → is_constructor_code k ≡ true → k ≡ constructor
code-is constructor e = refl
code-is method e = absurd cc
code-is instance_initializer e = absurd cc
code-is static_initializer e = absurd cc

-- lemmas of expressions that ask for a body, and don't look at it
pub any_body : Body
any_body = record { class = record { 0 = 0 }; code = method; is_static = true; locals = []; returns = None }

module _ (p : CoreProgram) where
  variables-sound : (ts : List Ty) → are_variables p ts ≡ true → AreVariables p ts
  variables-sound ts e = all-of p any_body (is_variable_type p) ts e

  variables-complete : (ts : List Ty) → AreVariables p ts → are_variables p ts ≡ true
  variables-complete ts a = listed p any_body (is_variable_type p) ts a

  -- ---- fields

  constant-sound : (class : ClassId) (f : CoreField) (e : Core) → is_constant_fit p class f e ≡ true → ConstantFits p class f e
  constant-sound class f e h = let q = five h in
      record { is_static = q.0; is_final = q.1; is_constant = q.2; fits = sound p (static_body class []) e q.3; of_its_type = q.4 }

  constant-complete : (class : ClassId) (f : CoreField) (e : Core) → ConstantFits p class f e → is_constant_fit p class f e ≡ true
  constant-complete class f e k = both (both (both (both k.is_static k.is_final) k.is_constant) (complete p (static_body class []) e k.fits)) k.of_its_type

  pub field_sound : (class : ClassId) (f : CoreField) → is_field_fit p class f ≡ true → FieldFits p class f
  field_sound class f h = let q = three h in record {
    type = q.0;
    of_interface = implied q.1;
    constant = λ e there. constant-sound class f e (on-there (is_constant_fit p class f) f.constant q.2 e there);
  }

  pub field_complete : (class : ClassId) (f : CoreField) → FieldFits p class f → is_field_fit p class f ≡ true
  field_complete class f k = both (both k.type (implying (is_interface (class_at p class)) f.is_static k.of_interface)) (if-there (is_constant_fit p class f) f.constant (λ e there. constant-complete class f e (k.constant e there)))

  -- ---- bodies

  superclass-sound : (s : Option ClassId) (c : ClassId) → is_superclass s c ≡ true → s ≡ Some c
  superclass-sound None c e = absurd cc
  superclass-sound (Some s) c e = ap (λ (d : ClassId). Some d) (same_class-equal p any_body s c e)

  superclass-complete : (s : Option ClassId) (c : ClassId) → s ≡ Some c → is_superclass s c ≡ true
  superclass-complete None c e = absurd cc
  superclass-complete (Some s) c e = let q : s ≡ c = cc in subst (λ (d : ClassId). same_class s d ≡ true) q (same_class-refl p any_body s)

  callee : (b : Body) (s : Option ClassId) (c : ClassId) → (same_class c b.class || is_superclass s c) ≡ true → (c ≡ b.class) ⊎ (s ≡ Some c)
  callee b s c e = by (or_cases (same_class c b.class) (is_superclass s c) e)
    where
      by : (same_class c b.class ≡ true) ⊎ (is_superclass s c ≡ true) → (c ≡ b.class) ⊎ (s ≡ Some c)
      by (inl q) = inl (same_class-equal p any_body c b.class q)
      by (inr q) = inr (superclass-sound s c q)

  called : (b : Body) (s : Option ClassId) (c : ClassId) → (c ≡ b.class) ⊎ (s ≡ Some c) → (same_class c b.class || is_superclass s c) ≡ true
  called b s c (inl q) = or_left (same_class c b.class) (is_superclass s c) (subst (λ (d : ClassId). same_class c d ≡ true) q (same_class-refl p any_body c))
  called b s c (inr q) = or_right (same_class c b.class) (is_superclass s c) (superclass-complete s c q)

  head-sound : (b : Body) (s : Option ClassId) (e : Core) → is_head_fit p b s e ≡ true → HeadFits p b s e
  head-sound b s (node (core.CallExact (a_core o) c n args) t span at) h =
      let q = five {a = is_this o && is_fit p b o} {b = same_class c b.class || is_superclass s c} {c = is_made_by p (method_at p c n) (types_of (list_of args))} {d = are_fit p b args} {f = is_void t} h in
      let m = makes p b (method_at p c n) (types_of (list_of args)) q.2 in
      subst (λ (u : Ty). HeadFits p b s (node (core.CallExact (a_core o) c n args) u span at)) (sym (same_type-equal t void q.4))
      (head_call (two {a = is_this o} {b = is_fit p b o} q.0).0 (sound p b o (two {a = is_this o} {b = is_fit p b o} q.0).1) (callee b s c q.1) m.1 m.2 (all_sound p b args q.3) m.3)
  head-sound b s (node (core.Const v uses) t span at) h = absurd cc
  head-sound b s (node (core.Text u uses) t span at) h = absurd cc
  head-sound b s (node (core.Local n) t span at) h = absurd cc
  head-sound b s (node core.This t span at) h = absurd cc
  head-sound b s (node (core.Field o c n) t span at) h = absurd cc
  head-sound b s (node (core.Static o c n) t span at) h = absurd cc
  head-sound b s (node (core.Index a i) t span at) h = absurd cc
  head-sound b s (node (core.Length a) t span at) h = absurd cc
  head-sound b s (node (core.Assign x y) t span at) h = absurd cc
  head-sound b s (node (core.Update x o q d) t span at) h = absurd cc
  head-sound b s (node (core.Unary o x) t span at) h = absurd cc
  head-sound b s (node (core.Binary o l r) t span at) h = absurd cc
  head-sound b s (node (core.And l r) t span at) h = absurd cc
  head-sound b s (node (core.Or l r) t span at) h = absurd cc
  head-sound b s (node (core.Choose x y z) t span at) h = absurd cc
  head-sound b s (node (core.Convert x) t span at) h = absurd cc
  head-sound b s (node (core.Cast x) t span at) h = absurd cc
  head-sound b s (node (core.InstanceOf x u) t span at) h = absurd cc
  head-sound b s (node (core.Concat l r) t span at) h = absurd cc
  head-sound b s (node (core.CallVirtual o c n es) t span at) h = absurd cc
  head-sound b s (node (core.CallExact no_core c n es) t span at) h = absurd cc
  head-sound b s (node (core.New c n es cs w) t span at) h = absurd cc
  head-sound b s (node (core.NewArray es) t span at) h = absurd cc
  head-sound b s (node (core.ArrayOf es) t span at) h = absurd cc

  head-complete : (b : Body) (s : Option ClassId) (e : Core) → HeadFits p b s e → is_head_fit p b s e ≡ true
  head-complete b s _ (head_call {c = c} {n = n} {args = args} {m = m} q fo k there made all a) =
      both (both (both (both (both q (complete p b _ fo)) (called b s c k)) (made-by p b (method_at p c n) m (types_of (list_of args)) there made a)) (all_complete p b args all)) (same_type-refl void)

  call-sound : (b : Body) (s : Option ClassId) (locals : List ℕ) (parts : CoreStmts) (span at : Span) → LocalsThere p b locals → is_call_first p b s parts ≡ true → BodyFits p b s (stmt (core.Block locals parts) span at)
  call-sound b s locals (more_stmts (stmt (core.Do call) span' at') parts) span at l h = let q = three h in
      behind_a_call (code-is b.code q.0) l (head-sound b s call q.1) (statements_sound p b no_targets parts q.2)
  call-sound b s locals no_stmts span at l h = absurd cc
  call-sound b s locals (more_stmts (stmt core.Empty span' at') parts) span at l h = absurd cc
  call-sound b s locals (more_stmts (stmt (core.If x y z) span' at') parts) span at l h = absurd cc
  call-sound b s locals (more_stmts (stmt (core.Loop x es w) span' at') parts) span at l h = absurd cc
  call-sound b s locals (more_stmts (stmt (core.DoLoop w x) span' at') parts) span at l h = absurd cc
  call-sound b s locals (more_stmts (stmt (core.Switch ks x gs) span' at') parts) span at l h = absurd cc
  call-sound b s locals (more_stmts (stmt (core.Labelled n w) span' at') parts) span at l h = absurd cc
  call-sound b s locals (more_stmts (stmt (core.Jump a k) span' at') parts) span at l h = absurd cc
  call-sound b s locals (more_stmts (stmt (core.Return v) span' at') parts) span at l h = absurd cc
  call-sound b s locals (more_stmts (stmt (core.Throw x) span' at') parts) span at l h = absurd cc
  call-sound b s locals (more_stmts (stmt (core.Try w ks k) span' at') parts) span at l h = absurd cc
  call-sound b s locals (more_stmts (stmt (core.Block ns ss) span' at') parts) span at l h = absurd cc

  body-sound : (b : Body) (s : Option ClassId) (x : CoreStmt) → is_body_fit p b s x ≡ true → BodyFits p b s x
  body-sound b s (stmt (core.Block locals parts) span at) h = let q = two {a = locals_there b locals} {b = are_statements_fit p b no_targets parts || is_call_first p b s parts} h in
      by (or_cases (are_statements_fit p b no_targets parts) (is_call_first p b s parts) q.1) (locals-sound p b locals q.0)
    where
      by : (are_statements_fit p b no_targets parts ≡ true) ⊎ (is_call_first p b s parts ≡ true) → LocalsThere p b locals → BodyFits p b s (stmt (core.Block locals parts) span at)
      by (inl q) l = a_block (fits.block l (statements_sound p b no_targets parts q))
      by (inr q) l = call-sound b s locals parts span at l q
  body-sound b s (stmt core.Empty span at) h = absurd cc
  body-sound b s (stmt (core.Do x) span at) h = absurd cc
  body-sound b s (stmt (core.If x y z) span at) h = absurd cc
  body-sound b s (stmt (core.Loop x es w) span at) h = absurd cc
  body-sound b s (stmt (core.DoLoop w x) span at) h = absurd cc
  body-sound b s (stmt (core.Switch ks x gs) span at) h = absurd cc
  body-sound b s (stmt (core.Labelled n w) span at) h = absurd cc
  body-sound b s (stmt (core.Jump a k) span at) h = absurd cc
  body-sound b s (stmt (core.Return v) span at) h = absurd cc
  body-sound b s (stmt (core.Throw x) span at) h = absurd cc
  body-sound b s (stmt (core.Try w ks k) span at) h = absurd cc

  body-complete : (b : Body) (s : Option ClassId) (x : CoreStmt) → BodyFits p b s x → is_body_fit p b s x ≡ true
  body-complete b s _ (a_block {locals = locals} {parts = parts} k) = let q = two {a = locals_there b locals} {b = are_statements_fit p b no_targets parts} (statement_complete p b no_targets _ k) in
      both q.0 (or_left (are_statements_fit p b no_targets parts) (is_call_first p b s parts) q.1)
  body-complete b s _ (behind_a_call {locals = locals} {call = call} {parts = parts} {span' = span'} {at' = at'} c l k r) =
      let code : is_constructor_code b.code ≡ true = rw c refl in
      both (locals-complete p b locals l) (or_right (are_statements_fit p b no_targets (more_stmts (stmt (core.Do call) span' at') parts)) (is_call_first p b s (more_stmts (stmt (core.Do call) span' at') parts))
      (both (both code (head-complete b s call k)) (statements_complete p b no_targets parts r)))

  -- ---- methods

  stands-sound : (m k : CoreMethod) → stands_for p m k ≡ true → StandsFor p m k
  stands-sound m k e = let q = three e in record { own = is_false q.0; above = is_false q.1; result = q.2 }

  stands-complete : (m k : CoreMethod) → StandsFor p m k → stands_for p m k ≡ true
  stands-complete m k s = both (both (is_not s.own) (is_not s.above)) s.result

  pub stands_sound : (m k : CoreMethod) → stands_for p m k ≡ true → StandsFor p m k
  stands_sound m k e = stands-sound m k e

  pub stands_complete : (m k : CoreMethod) → StandsFor p m k → stands_for p m k ≡ true
  stands_complete m k s = stands-complete m k s

  overrides-sound : (class : ClassId) (m : CoreMethod) → each_method p (λ above at k. implies (is_overridden p class m above k) (stands_for p m k)) ≡ true →
      (above : ClassId) (at : ℕ) (k : CoreMethod) → IsOverridden p class m above at k → StandsFor p m k
  overrides-sound class m e above at k o = stands-sound m k (implied (each-tested p (λ above at k. implies (is_overridden p class m above k) (stands_for p m k)) e above at k o.there)
      (both (both (both (both o.is_above (is_not o.no_hiding)) o.alike) (is_not o.not_private)) (is_not o.no_constructor)))

  overrides-complete : (class : ClassId) (m : CoreMethod) → ((above : ClassId) (at : ℕ) (k : CoreMethod) → IsOverridden p class m above at k → StandsFor p m k) →
      each_method p (λ above at k. implies (is_overridden p class m above k) (stands_for p m k)) ≡ true
  overrides-complete class m f = all-tested p (λ above at k. implies (is_overridden p class m above k) (stands_for p m k))
      (λ above at k there. implying (is_overridden p class m above k) (stands_for p m k)
      (λ o. let q = five {a = is_below p class above} {b = not (m.flags.is_static && k.flags.is_static)} {c = same_signature m k} {d = not (is_private k)} {f = not (is_constructor p k)} o in
      stands-complete m k (f above at k (record { there = there; is_above = q.0; no_hiding = is_false q.1; alike = q.2; not_private = is_false q.3; no_constructor = is_false q.4 }))))

  pub method_sound : (class : ClassId) (c : CoreClass) (m : CoreMethod) → is_method_fit p class c m ≡ true → MethodFits p class c m
  method_sound class c m e =
      let q = three {a = is_method_head_fit p c m} {b = each_method p (λ above at k. implies (is_overridden p class m above k) (stands_for p m k))} {c = is_method_body_fit p class c m} e in
      let h = five {a = are_variables p m.params} {b = is_void m.returns || is_variable_type p m.returns} {c = list_all (λ d. is_some (class_at p d)) m.throws} {d = implies (is_interface_sort c.kind.sort) m.flags.is_abstract} {f = implies (is_constructor p m) (is_constructor_fit p m)} q.0 in
      let b = four {a = same_bool (is_some m.body) (is_guest class && not (m.flags.is_abstract || m.flags.is_native))} {b = are_variables p (local_types m.locals)} {c = implies (is_some m.body) (same_types (take (length m.params) (local_types m.locals)) m.params)} {d = if_there (is_body_fit p (body_of p class m) c.superclass) m.body} q.2 in
      record {
        params = variables-sound m.params h.0;
        result = h.1;
        throws = all-of p any_body (λ d. is_some (class_at p d)) m.throws h.2;
        has_body = bools-equal (is_some m.body) (is_guest class && not (m.flags.is_abstract || m.flags.is_native)) b.0;
        locals = variables-sound (local_types m.locals) b.1;
        first_locals = λ there. types-equal (take (length m.params) (local_types m.locals)) m.params (implied b.2 there);
        of_interface = λ i. implied h.3 i;
        constructor = λ i. let k = three {a = not m.flags.is_static} {b = not m.flags.is_abstract} {c = is_void m.returns} (implied h.4 i) in record { own = is_false k.0; concrete = is_false k.1; result = k.2 };
        overrides = overrides-sound class m q.1;
        body = λ s there. body-sound (body_of p class m) c.superclass s (on-there (is_body_fit p (body_of p class m) c.superclass) m.body b.3 s there);
      }

  pub method_complete : (class : ClassId) (c : CoreClass) (m : CoreMethod) → MethodFits p class c m → is_method_fit p class c m ≡ true
  method_complete class c m k = both (both
      (both (both (both (both (variables-complete m.params k.params) k.result) (listed p any_body (λ d. is_some (class_at p d)) m.throws k.throws))
      (implying (is_interface_sort c.kind.sort) m.flags.is_abstract k.of_interface))
      (implying (is_constructor p m) (is_constructor_fit p m) (λ i. let f = k.constructor i in both (both (is_not f.own) (is_not f.concrete)) f.result)))
      (overrides-complete class m k.overrides))
      (both (both (both (bools-same (is_some m.body) (is_guest class && not (m.flags.is_abstract || m.flags.is_native)) k.has_body) (variables-complete (local_types m.locals) k.locals))
      (implying (is_some m.body) (same_types (take (length m.params) (local_types m.locals)) m.params) (λ there. rw (k.first_locals there) (types-same m.params))))
      (if-there (is_body_fit p (body_of p class m) c.superclass) m.body (λ s there. body-complete (body_of p class m) c.superclass s (k.body s there))))

  -- ---- initializers

  pub initializer_sound : (class : ClassId) (i : CoreInitializer) → is_initializer_fit p class i ≡ true → InitializerFits p class i
  initializer_sound class i e = let q = two e in record { locals = variables-sound (local_types i.locals) q.0; body = statement_sound p (initializer_body class i) no_targets i.body q.1 }

  pub initializer_complete : (class : ClassId) (i : CoreInitializer) → InitializerFits p class i → is_initializer_fit p class i ≡ true
  initializer_complete class i k = both (variables-complete (local_types i.locals) k.locals) (statement_complete p (initializer_body class i) no_targets i.body k.body)
