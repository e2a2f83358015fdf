-- No variable looks at another in expressions: where two sets agree at a variable, so do those that expressions make of them. `G` is
-- what that is known under.
use Rattle.std.proofs.Common.{ℕ, Bool, true, false, Option, Some, None}
use Rattle.je_core.specs.declared.expr.UnOp.{UnOp}
use Rattle.je_core.specs.declared.expr.UnOp.TheVariants as op
use Rattle.je_core.specs.Core.{Core, CoreForm, Cores, MaybeCore, node, none as no_cores, more, no_core, a_core}
use Rattle.je_core.specs.Core as core
use Rattle.flow_base.specs.Constants.{constant_in}
use Rattle.variable_sets.specs.Sets.{Set, everything}
use Rattle.assignment_rules.specs.declared.rules.Rule.{Rule}
use Rattle.assignment_rules.specs.Rules.{Follow}
use Rattle.assignment_rules.proofs.Agree.{Agree, both_agree, marking_agree, same_agree}
use Rattle.assigned_expressions.specs.Places.{variable_of}
use Rattle.assigned_expressions.specs.Expressions.{After, plain, split, whole, when_true, when_false, after_constant, after_unary, after_and, after_or, after_choice, assigning, after, form_after, all_past, maybe_past, place_past, place_form_past}

pub record AgreeAfter (G : Type 0) (v : ℕ) (a b : After) : Type 0 where
  pub all : Agree G v (whole a) (whole b)
  pub on_true : Agree G v (when_true a) (when_true b)
  pub on_false : Agree G v (when_false a) (when_false b)

module _ {G : Type 0} {v : ℕ} where
  pub assigning_agree : (rule : Rule) (x : Option ℕ) {a b : Set} → Agree G v a b → Agree G v (assigning rule x a) (assigning rule x b)
  assigning_agree rule None p = p
  assigning_agree rule (Some x) p = marking_agree rule x p

  -- ---- after an expression

  pub plain_agree : {a b : Set} → Agree G v a b → AgreeAfter G v (plain a) (plain b)
  unfolding whole when_true when_false
  plain_agree p = record { all = p; on_true = p; on_false = p }

  pub split_agree : {a b c d : Set} → Agree G v a b → Agree G v c d → AgreeAfter G v (split a c) (split b d)
  unfolding whole when_true when_false
  split_agree p q = record { all = both_agree p q; on_true = p; on_false = q }

  pub constant_agree : (c : Option Bool) {a b : Set} → Agree G v a b → AgreeAfter G v (after_constant c a) (after_constant c b)
  constant_agree None p = plain_agree p
  constant_agree (Some true) p = split_agree p (same_agree everything)
  constant_agree (Some false) p = split_agree (same_agree everything) p

  pub unary_agree : (o : UnOp) {a b : After} → AgreeAfter G v a b → AgreeAfter G v (after_unary o a) (after_unary o b)
  unary_agree op.Not p = split_agree p.on_false p.on_true
  unary_agree op.Minus p = plain_agree p.all
  unary_agree op.Tilde p = plain_agree p.all

  pub and_agree : {a b c d : After} → AgreeAfter G v a b → AgreeAfter G v c d → AgreeAfter G v (after_and a c) (after_and b d)
  and_agree p q = split_agree q.on_true (both_agree p.on_false q.on_false)

  pub or_agree : {a b c d : After} → AgreeAfter G v a b → AgreeAfter G v c d → AgreeAfter G v (after_or a c) (after_or b d)
  or_agree p q = split_agree (both_agree p.on_true q.on_true) q.on_false

  pub choice_agree : {a b c d : After} → AgreeAfter G v a b → AgreeAfter G v c d → AgreeAfter G v (after_choice a c) (after_choice b d)
  choice_agree p q = split_agree (both_agree p.on_true q.on_true) (both_agree p.on_false q.on_false)

module _ {G : Type 0} {v : ℕ} (f : Follow) where
  mutual
    pub after_agree : (e : Core) {a b : Set} → Agree G v a b → AgreeAfter G v (after f a e) (after f b e)
    after_agree (node form ty span at) p = form_agree form p

    form_agree : (form : CoreForm) {a b : Set} → Agree G v a b → AgreeAfter G v (form_after f a form) (form_after f b form)
    form_agree (core.Const value uses) p = constant_agree (constant_in (core.Const value uses)) p
    form_agree (core.Text units uses) p = plain_agree p
    form_agree (core.Local local) p = plain_agree p
    form_agree core.This p = plain_agree p
    form_agree (core.Field object class field) p = plain_agree (after_agree object p).all
    form_agree (core.Static object class field) p = plain_agree (maybe_agree object p)
    form_agree (core.Index array index) p = plain_agree (after_agree index (after_agree array p).all).all
    form_agree (core.Length array) p = plain_agree (after_agree array p).all
    form_agree (core.Assign place value) p = plain_agree (assigning_agree f.rule (variable_of f.home place) (after_agree value (place_agree place p)).all)
    form_agree (core.Update place op operand gives_old) p = plain_agree (assigning_agree f.rule (variable_of f.home place) (maybe_agree operand (after_agree place p).all))
    form_agree (core.Unary op operand) p = unary_agree op (after_agree operand p)
    form_agree (core.Binary op left right) p = plain_agree (after_agree right (after_agree left p).all).all
    form_agree (core.And left right) p = and_agree (after_agree left p) (after_agree right (after_agree left p).on_true)
    form_agree (core.Or left right) p = or_agree (after_agree left p) (after_agree right (after_agree left p).on_false)
    form_agree (core.Choose condition chosen other) p = choice_agree (after_agree chosen (after_agree condition p).on_true) (after_agree other (after_agree condition p).on_false)
    form_agree (core.Convert operand) p = plain_agree (after_agree operand p).all
    form_agree (core.Cast operand) p = plain_agree (after_agree operand p).all
    form_agree (core.InstanceOf operand of) p = plain_agree (after_agree operand p).all
    form_agree (core.Concat left right) p = plain_agree (after_agree right (after_agree left p).all).all
    form_agree (core.CallVirtual receiver class method args) p = plain_agree (all_agree args (after_agree receiver p).all)
    form_agree (core.CallExact receiver class method args) p = plain_agree (all_agree args (maybe_agree receiver p))
    form_agree (core.New class method args captures word) p = plain_agree (all_agree args p)
    form_agree (core.NewArray lengths) p = plain_agree (all_agree lengths p)
    form_agree (core.ArrayOf values) p = plain_agree (all_agree values p)

    pub all_agree : (es : Cores) {a b : Set} → Agree G v a b → Agree G v (all_past f a es) (all_past f b es)
    all_agree no_cores p = p
    all_agree (more e es) p = all_agree es (after_agree e p).all

    maybe_agree : (e : MaybeCore) {a b : Set} → Agree G v a b → Agree G v (maybe_past f a e) (maybe_past f b e)
    maybe_agree no_core p = p
    maybe_agree (a_core e) p = (after_agree e p).all

    place_agree : (e : Core) {a b : Set} → Agree G v a b → Agree G v (place_past f a e) (place_past f b e)
    place_agree (node form ty span at) p = place_form_agree form p

    place_form_agree : (form : CoreForm) {a b : Set} → Agree G v a b → Agree G v (place_form_past f a form) (place_form_past f b form)
    place_form_agree (core.Field object class field) p = (after_agree object p).all
    place_form_agree (core.Static object class field) p = maybe_agree object p
    place_form_agree (core.Index array index) p = (after_agree index (after_agree array p).all).all
    place_form_agree (core.Const value uses) p = p
    place_form_agree (core.Text units uses) p = p
    place_form_agree (core.Local local) p = p
    place_form_agree core.This p = p
    place_form_agree (core.Length array) p = p
    place_form_agree (core.Assign place value) p = p
    place_form_agree (core.Update place op operand gives_old) p = p
    place_form_agree (core.Unary op operand) p = p
    place_form_agree (core.Binary op left right) p = p
    place_form_agree (core.And left right) p = p
    place_form_agree (core.Or left right) p = p
    place_form_agree (core.Choose condition chosen other) p = p
    place_form_agree (core.Convert operand) p = p
    place_form_agree (core.Cast operand) p = p
    place_form_agree (core.InstanceOf operand of) p = p
    place_form_agree (core.Concat left right) p = p
    place_form_agree (core.CallVirtual receiver class method args) p = p
    place_form_agree (core.CallExact receiver class method args) p = p
    place_form_agree (core.New class method args captures word) p = p
    place_form_agree (core.NewArray lengths) p = p
    place_form_agree (core.ArrayOf values) p = p
