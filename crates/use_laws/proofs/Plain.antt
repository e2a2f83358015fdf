-- A body without breaks is plain.
use Rattle.std.proofs.Common.{◌≡◌, ℕ, zero, suc, List, [], ◌∷◌, Option, Some, None, refl, sym, ap, ◌∙◌, subst, inl, inr}
use Rattle.std.specs.Prelude.{Bool, true, false, not, ◌&&◌, ◌||◌}
use Rattle.std.specs.List.{list_all}
use Rattle.je_base.specs.declared.span.Span.{Span}
use Rattle.je_core.specs.declared.types.Base.{Base}
use Rattle.je_core.specs.declared.types.Base.TheVariants as base
use Rattle.je_core.specs.declared.types.ClassId.{ClassId}
use Rattle.je_core.specs.declared.types.Ty.{Ty}
use Rattle.je_core.specs.Core.{Core, CoreForm, Cores, MaybeCore, CoreMethod, CoreProgram, node, none as no_cores, more, no_core, a_core, ty_of}
use Rattle.je_core.specs.Core.{CoreStmt, CoreStmtForm, CoreStmts, MaybeStmt, CoreGroup, CoreGroups, CoreCatch, CoreCatches, stmt, no_stmts, more_stmts, no_stmt, a_stmt, group, no_groups, more_groups, catch, no_catches, more_catches}
use Rattle.je_core.specs.Core as core
use Rattle.je_classes.specs.Hierarchy.{object_class}
use Rattle.je_classes.specs.Members.{Found, nothing, one, several, Member, method_of}
use Rattle.je_classes.specs.Methods.{find_method}
use Rattle.je_classes.specs.Subtypes.{same_type}
use Rattle.je_classes.proofs.Lists.{bool_cases}
use Rattle.je_classes.proofs.Same.{same_type-equal}
use Rattle.je_fitting.specs.Types.{string}
use Rattle.je_fitting.proofs.Booleans.{two, both, is_not}
use Rattle.plain_programs.specs.Nodes.{every, every_part, every_if, every_of, every_value, throughout, throughout_parts, throughout_all, throughout_if, throughout_group, throughout_groups, throughout_catch, throughout_catches}
use Rattle.plain_programs.specs.Plain.{is_there, has_finally, names_wild, joins_wild}
use Rattle.plain_programs.specs.Wild.{is_wild, is_wild_found, has_wild_text, has_wild_text_of, is_wild_text, is_wild_text_of, text_place}
use Rattle.plain_programs.proofs.Walking.{through}
use Rattle.taming_db.specs.Rows.{Row}
use Rattle.rule_breaks.specs.declared.rules.ConfinementRule.{ConfinementRule}
use Rattle.rule_breaks.specs.declared.rules.ConfinementRule.TheVariants as kind
use Rattle.rule_breaks.specs.Breaks.{Breaks, ◌∪◌, break_where, of_each}
use Rattle.node_rules.specs.Enabled.{may_use}
use Rattle.node_rules.specs.Uses.{use_breaks, member_breaks}
use Rattle.node_rules.specs.ObjectTexts.{span_of, found_like, found_text, is_disabled, has_disabled_text_of, has_disabled_text, operand_breaks, text_breaks}
use Rattle.node_rules.specs.Nodes.{node_breaks}
use Rattle.use_rules.specs.Exceptions.{finally_breaks}
use Rattle.use_rules.specs.Expressions.{expression_breaks, parts_breaks as the_parts_breaks, maybe_breaks, all_breaks, value_breaks}
use Rattle.use_rules.specs.Statements.{statement_breaks, form_breaks, parts_breaks, part_breaks, group_breaks, groups_breaks, catch_breaks, catches_breaks}
use Rattle.use_laws.specs.Laws.{IsUnbroken, EnablesNoneWild, IsPlainBody, UnbrokenBodiesArePlain}

-- ---- sets without members

pub left : (a b : Breaks) → IsUnbroken (a ∪ b) → IsUnbroken a
left a b u = record { none_among = λ x h. u.none_among x (inl h) }

pub right : (a b : Breaks) → IsUnbroken (a ∪ b) → IsUnbroken b
right a b u = record { none_among = λ x h. u.none_among x (inr h) }

pub not-tested : (test : Bool) (rule : ConfinementRule) (at : Span) → IsUnbroken (break_where test rule at) → test ≡ false
not-tested false rule at u = refl
not-tested true rule at u = absurd (u.none_among (record { rule = rule; span = at }) refl)

module _ (p : CoreProgram) (rows : List Row) (tame : EnablesNoneWild rows) (strings : is_wild_text p string ≡ false) where
  -- ---- members

  not-wild : (m : Member) → not (may_use rows false m) ≡ false → is_wild m ≡ false
  not-wild m e = tame m (bool_cases (λ b. not b ≡ false → b ≡ true) (may_use rows false m) (λ _ _. refl) (λ _ h. sym h) e)

  used : (class : ClassId) (n : ℕ) (at : Span) → IsUnbroken (use_breaks rows false class n at) → not (is_wild (record { class = class; at = n })) ≡ true
  used class n at u = is_not (not-wild (record { class = class; at = n }) (not-tested (not (may_use rows false (record { class = class; at = n }))) kind.NotEnabled at u))

  named : (at : Span) (f : CoreForm) → IsUnbroken (member_breaks rows at f) → not (names_wild f) ≡ true
  named at (core.CallVirtual o c n args) u = used c n at u
  named at (core.CallExact o c n args) u = used c n at u
  named at (core.New c n args captures word) u = used c n at u
  named at _ u = refl

  -- ---- texts

  found : (f : Found) → is_disabled rows f ≡ false → is_wild_found f ≡ false
  found (one m) e = not-wild m e
  found nothing e = refl
  found several e = refl

  text-like : (class : ClassId) (o : Option CoreMethod) → is_disabled rows (found_like p class o) ≡ false → has_wild_text_of p class o ≡ false
  text-like class None e = refl
  text-like class (Some text) e = found (find_method p class text.name []) e

  text-of : (class : ClassId) → is_disabled rows (found_text p class) ≡ false → has_wild_text p class ≡ false
  unfolding has_wild_text
  text-of class e = text-like class (method_of p (record { class = object_class; at = text_place })) e

  text-by : (b : Base) (dims : ℕ) → has_disabled_text_of p rows b dims ≡ false → is_wild_text_of p b dims ≡ false
  text-by b (suc n) e = text-of object_class e
  text-by (base.Class class) zero e = text-of class e
  text-by base.Bool zero e = refl
  text-by base.Byte zero e = refl
  text-by base.Short zero e = refl
  text-by base.Char zero e = refl
  text-by base.Int zero e = refl
  text-by base.Long zero e = refl
  text-by base.Null zero e = refl
  text-by base.Void zero e = refl

  text : (t : Ty) → has_disabled_text p rows t ≡ false → is_wild_text p t ≡ false
  text t e = bool_cases (λ b. same_type t string ≡ b → (not b && has_disabled_text_of p rows t.base t.dims) ≡ false → is_wild_text p t ≡ false) (same_type t string)
      (λ _ s _. subst (λ (u : Ty). is_wild_text p u ≡ false) (sym (same_type-equal t string s)) strings)
      (λ _ _ h. text-by t.base t.dims h) refl e

  operand : (e : Core) → IsUnbroken (operand_breaks p rows e) → is_wild_text p (ty_of e) ≡ false
  operand e u = text (ty_of e) (not-tested (has_disabled_text p rows (ty_of e)) kind.ObjectText (span_of e) u)

  neither : (a b : Bool) → a ≡ false → b ≡ false → not (a || b) ≡ true
  neither a b h k = ap (λ x. not (x || b)) h ∙ is_not k

  joined : (f : CoreForm) → IsUnbroken (text_breaks p rows f) → not (joins_wild p f) ≡ true
  joined (core.Concat l r) u = neither (is_wild_text p (ty_of l)) (is_wild_text p (ty_of r)) (operand l (left _ _ u)) (operand r (right _ _ u))
  joined (core.Update place o no_core old) u = refl
  joined (core.Update place o (a_core e) old) u = is_not (operand e u)
  joined (core.Const v uses) u = refl
  joined (core.Text units uses) u = refl
  joined (core.Local n) u = refl
  joined core.This u = refl
  joined (core.Field o c n) u = refl
  joined (core.Static o c n) u = refl
  joined (core.Index a i) u = refl
  joined (core.Length a) u = refl
  joined (core.Assign a i) u = refl
  joined (core.Unary o e) u = refl
  joined (core.Binary o l r) u = refl
  joined (core.And l r) u = refl
  joined (core.Or l r) u = refl
  joined (core.Choose c l r) u = refl
  joined (core.Convert e) u = refl
  joined (core.Cast e) u = refl
  joined (core.InstanceOf e t) u = refl
  joined (core.CallVirtual o c n args) u = refl
  joined (core.CallExact o c n args) u = refl
  joined (core.New c n args captures word) u = refl
  joined (core.NewArray lengths) u = refl
  joined (core.ArrayOf values) u = refl

  -- ---- expressions

  abbrev tested : CoreForm → Bool
  tested f = not (names_wild f) && not (joins_wild p f)

  judged : (at : Span) (f : CoreForm) → IsUnbroken (node_breaks p rows at f) → tested f ≡ true
  judged at f u = both (named at f (right _ _ (right _ _ u))) (joined f (left _ _ (right _ _ u)))

  mutual
    expression : (e : Core) → IsUnbroken (expression_breaks p rows e) → every tested e ≡ true
    expression (node form ty span at) u = both (judged at form (left _ _ u)) (of-parts form (right _ _ u))

    of-parts : (f : CoreForm) → IsUnbroken (the_parts_breaks p rows f) → every_part tested f ≡ true
    of-parts (core.Const w uses) u = refl
    of-parts (core.Text units uses) u = refl
    of-parts (core.Local n) u = refl
    of-parts core.This u = refl
    of-parts (core.Field o c n) u = expression o u
    of-parts (core.Static o c n) u = maybe o u
    of-parts (core.Index a i) u = both (expression a (left _ _ u)) (expression i (right _ _ u))
    of-parts (core.Length a) u = expression a u
    of-parts (core.Assign a i) u = both (expression a (left _ _ u)) (expression i (right _ _ u))
    of-parts (core.Update a o i old) u = both (expression a (left _ _ u)) (maybe i (right _ _ u))
    of-parts (core.Unary o e) u = expression e u
    of-parts (core.Binary o a i) u = both (expression a (left _ _ u)) (expression i (right _ _ u))
    of-parts (core.And a i) u = both (expression a (left _ _ u)) (expression i (right _ _ u))
    of-parts (core.Or a i) u = both (expression a (left _ _ u)) (expression i (right _ _ u))
    of-parts (core.Choose c a i) u = both (both (expression c (left _ _ u)) (expression a (left _ _ (right _ _ u)))) (expression i (right _ _ (right _ _ u)))
    of-parts (core.Convert e) u = expression e u
    of-parts (core.Cast e) u = expression e u
    of-parts (core.InstanceOf e ty) u = expression e u
    of-parts (core.Concat a i) u = both (expression a (left _ _ u)) (expression i (right _ _ u))
    of-parts (core.CallVirtual o c n args) u = both (expression o (left _ _ u)) (all args (right _ _ u))
    of-parts (core.CallExact o c n args) u = both (maybe o (left _ _ u)) (all args (right _ _ u))
    of-parts (core.New c n args captures word) u = all args u
    of-parts (core.NewArray lengths) u = all lengths u
    of-parts (core.ArrayOf values) u = all values u

    maybe : (o : MaybeCore) → IsUnbroken (maybe_breaks p rows o) → every_if tested o ≡ true
    maybe no_core u = refl
    maybe (a_core e) u = expression e u

    all : (es : Cores) → IsUnbroken (all_breaks p rows es) → every_of tested es ≡ true
    all no_cores u = refl
    all (more e es) u = both (expression e (left _ _ u)) (all es (right _ _ u))

  value : (o : Option Core) → IsUnbroken (value_breaks p rows o) → every_value tested o ≡ true
  value None u = refl
  value (Some e) u = expression e u

  steps : (es : List Core) → IsUnbroken (of_each (expression_breaks p rows) es) → list_all (every tested) es ≡ true
  steps [] u = refl
  steps (e ∷ es) u = both (expression e (left _ _ u)) (steps es (right _ _ u))

  -- ---- statements

  abbrev asked : CoreStmtForm → Bool
  asked f = not (has_finally f)

  none-last : (word : Span) (last : MaybeStmt) → IsUnbroken (finally_breaks word last) → not (is_there last) ≡ true
  none-last word no_stmt u = refl
  none-last word (a_stmt s) u = absurd (u.none_among (record { rule = kind.Finally; span = word }) refl)

  form-asked : (at : Span) (f : CoreStmtForm) → IsUnbroken (form_breaks p rows at f) → asked f ≡ true
  form-asked at (core.Try s cs last) u = none-last at last (left _ _ (right _ _ (right _ _ u)))
  form-asked at core.Empty u = refl
  form-asked at (core.Block locals parts) u = refl
  form-asked at (core.Do e) u = refl
  form-asked at (core.If c s t) u = refl
  form-asked at (core.Loop c es s) u = refl
  form-asked at (core.DoLoop s c) u = refl
  form-asked at (core.Switch locals e gs) u = refl
  form-asked at (core.Labelled name s) u = refl
  form-asked at (core.Jump again label) u = refl
  form-asked at (core.Return e) u = refl
  form-asked at (core.Throw e) u = refl

  mutual
    statement : (s : CoreStmt) → IsUnbroken (statement_breaks p rows s) → throughout tested asked s ≡ true
    statement (stmt form span at) u = both (form-asked at form u) (statement-parts at form u)

    statement-parts : (at : Span) (f : CoreStmtForm) → IsUnbroken (form_breaks p rows at f) → throughout_parts tested asked f ≡ true
    statement-parts at core.Empty u = refl
    statement-parts at (core.Block locals parts) u = statements parts u
    statement-parts at (core.Do e) u = expression e u
    statement-parts at (core.If e s t) u = both (both (expression e (left _ _ u)) (statement s (left _ _ (right _ _ u)))) (maybe-statement t (right _ _ (right _ _ u)))
    statement-parts at (core.Loop e es s) u = both (both (expression e (left _ _ u)) (steps es (left _ _ (right _ _ u)))) (statement s (right _ _ (right _ _ u)))
    statement-parts at (core.DoLoop s e) u = both (statement s (left _ _ u)) (expression e (right _ _ u))
    statement-parts at (core.Switch locals e gs) u = both (expression e (left _ _ u)) (groups gs (right _ _ u))
    statement-parts at (core.Labelled name s) u = statement s u
    statement-parts at (core.Jump again label) u = refl
    statement-parts at (core.Return o) u = value o u
    statement-parts at (core.Throw e) u = expression e u
    statement-parts at (core.Try s cs last) u = both (both (statement s (left _ _ u)) (catches cs (left _ _ (right _ _ u)))) (maybe-statement last (right _ _ (right _ _ (right _ _ u))))

    statements : (ss : CoreStmts) → IsUnbroken (parts_breaks p rows ss) → throughout_all tested asked ss ≡ true
    statements no_stmts u = refl
    statements (more_stmts s ss) u = both (statement s (left _ _ u)) (statements ss (right _ _ u))

    maybe-statement : (s : MaybeStmt) → IsUnbroken (part_breaks p rows s) → throughout_if tested asked s ≡ true
    maybe-statement no_stmt u = refl
    maybe-statement (a_stmt s) u = statement s u

    one-group : (g : CoreGroup) → IsUnbroken (group_breaks p rows g) → throughout_group tested asked g ≡ true
    one-group (group labels parts) u = statements parts (right _ _ u)

    groups : (gs : CoreGroups) → IsUnbroken (groups_breaks p rows gs) → throughout_groups tested asked gs ≡ true
    groups no_groups u = refl
    groups (more_groups g gs) u = both (one-group g (left _ _ u)) (groups gs (right _ _ u))

    one-catch : (x : CoreCatch) → IsUnbroken (catch_breaks p rows x) → throughout_catch tested asked x ≡ true
    one-catch (catch n d span s) u = statement s (right _ _ u)

    catches : (xs : CoreCatches) → IsUnbroken (catches_breaks p rows xs) → throughout_catches tested asked xs ≡ true
    catches no_catches u = refl
    catches (more_catches x xs) u = both (one-catch x (left _ _ u)) (catches xs (right _ _ u))

  pub plain : (s : CoreStmt) → IsUnbroken (statement_breaks p rows s) → IsPlainBody p s
  plain s u = let h : throughout tested asked s ≡ true = statement s u in record {
    no_finally = through tested tested (λ f. true) (λ f _ _. refl) asked asked asked (λ f e _. e) s h h;
    no_wild_named = through tested tested (λ f. not (names_wild f)) (λ f e _. (two {a = not (names_wild f)} {b = not (joins_wild p f)} e).0) asked asked (λ f. true) (λ f _ _. refl) s h h;
    no_wild_joined = through tested tested (λ f. not (joins_wild p f)) (λ f e _. (two {a = not (names_wild f)} {b = not (joins_wild p f)} e).1) asked asked (λ f. true) (λ f _ _. refl) s h h;
  }

pub unbroken_is_plain : UnbrokenBodiesArePlain
unbroken_is_plain p rows s tame strings u = plain p rows tame strings s u
