-- Which variables are definitely assigned, or definitely unassigned, after an expression, by those that are before it, and the
-- faults in it: a variable that is read and isn't assigned, a final one that is assigned and isn't unassigned (JLS 16.1). `b` is
-- the set before. What is said of 'assigned' holds of both.
use Rattle.std.specs.Prelude.{ℕ, Bool, true, false, not, ◌&&◌, Option, Some, None}
use Rattle.je_base.specs.declared.span.Span.{Span}
use Rattle.je_core.specs.declared.expr.UnOp.{UnOp}
use Rattle.je_core.specs.declared.expr.UnOp.TheVariants as op
use Rattle.je_core.specs.Core.{Core, CoreForm, Cores, MaybeCore, node, none as no_cores, more, no_core, a_core}
use Rattle.je_core.specs.Core as core
use Rattle.flow_base.specs.declared.faults.FaultKind.TheVariants as kind
use Rattle.flow_base.specs.Constants.{constant_in}
use Rattle.flow_base.specs.FaultSets.{Faults, none, ◌∪◌, fault_where}
use Rattle.variable_sets.specs.Sets.{Set, everything, both}
use Rattle.assignment_rules.specs.declared.rules.Rule.{Rule}
use Rattle.assignment_rules.specs.declared.rules.Rule.TheVariants.{Assigned, Unassigned}
use Rattle.assigned_expressions.specs.Places.{at_of, variable_in, variable_of}
use Rattle.assignment_rules.specs.declared.sites.Site.TheVariants.{Creation}
use Rattle.assigned_expressions.specs.Reads.{read_faults, standing_faults}
use Rattle.assignment_rules.specs.Rules.{Follow, marking}

-- those after an expression; after some boolean ones they depend on the value
pub data After : Type 0 where
  plain : Set → After
  split : Set → Set → After

-- V is assigned after an expression where it is when that is true and when it is false.
unfoldable pub whole : After → Set
whole (plain a) = a
whole (split t f) = both t f

unfoldable pub when_true : After → Set
when_true (plain a) = a
when_true (split t f) = t

unfoldable pub when_false : After → Set
when_false (plain a) = a
when_false (split t f) = f

-- 16.1.1: each V is assigned after `true` when false, and after `false` when true.
abbrev pub after_constant : Option Bool → Set → After
after_constant None b = plain b
after_constant (Some true) b = split b everything
after_constant (Some false) b = split everything b

-- 16.1.4: `!` exchanges the two.
abbrev pub after_unary : UnOp → After → After
after_unary op.Not a = split (when_false a) (when_true a)
after_unary op.Minus a = plain (whole a)
after_unary op.Tilde a = plain (whole a)

-- 16.1.2: V is assigned after a && b when true where it is after b when true, and when false where it is after a and after b when false.
abbrev pub after_and : After → After → After
after_and left right = split (when_true right) (both (when_false left) (when_false right))

-- 16.1.3
abbrev pub after_or : After → After → After
after_or left right = split (both (when_true left) (when_true right)) (when_false right)

-- 16.1.5 and 16.1.6: where it is after both; of a value that isn't boolean the two are the same.
abbrev pub after_choice : After → After → After
after_choice chosen other = split (both (when_true chosen) (when_true other)) (both (when_false chosen) (when_false other))

-- 16.1.8 and 16.1.9: V is assigned after an assignment to V, and not unassigned.
abbrev pub assigning : Rule → Option ℕ → Set → Set
assigning rule None a = a
assigning rule (Some v) a = marking rule v a

-- 16: a final variable that is assigned is unassigned before.
abbrev pub assign_faults : Rule → Set → Span → Set → Option ℕ → Faults
assign_faults rule finals at b None = none
assign_faults Assigned finals at b (Some v) = none
assign_faults Unassigned finals at b (Some v) = fault_where (finals.has v && not (b.has v)) kind.AssignedTwice at

module _ (f : Follow) where
  abbrev mutual
    pub after : Set → Core → After
    after b (node form ty span at) = form_after b form

    pub form_after : Set → CoreForm → After
    form_after b (core.Const value uses) = after_constant (constant_in (core.Const value uses)) b
    form_after b (core.Text units uses) = plain b
    form_after b (core.Local local) = plain b
    form_after b core.This = plain b
    form_after b (core.Field object class field) = plain (whole (after b object))
    form_after b (core.Static object class field) = plain (maybe_past b object)
    form_after b (core.Index array index) = plain (whole (after (whole (after b array)) index))
    form_after b (core.Length array) = plain (whole (after b array))
    form_after b (core.Assign place value) = plain (assigning f.rule (variable_of f.home place) (whole (after (place_past b place) value)))
    form_after b (core.Update place op operand gives_old) = plain (assigning f.rule (variable_of f.home place) (maybe_past (whole (after b place)) operand))
    form_after b (core.Unary op operand) = after_unary op (after b operand)
    form_after b (core.Binary op left right) = plain (whole (after (whole (after b left)) right))
    -- V is assigned before b of a && b where it is after a when true, and of a || b when false.
    form_after b (core.And left right) = after_and (after b left) (after (when_true (after b left)) right)
    form_after b (core.Or left right) = after_or (after b left) (after (when_false (after b left)) right)
    form_after b (core.Choose condition chosen other) =
        after_choice (after (when_true (after b condition)) chosen) (after (when_false (after b condition)) other)
    form_after b (core.Convert operand) = plain (whole (after b operand))
    form_after b (core.Cast operand) = plain (whole (after b operand))
    form_after b (core.InstanceOf operand of) = plain (whole (after b operand))
    form_after b (core.Concat left right) = plain (whole (after (whole (after b left)) right))
    form_after b (core.CallVirtual receiver class method args) = plain (all_past (whole (after b receiver)) args)
    form_after b (core.CallExact receiver class method args) = plain (all_past (maybe_past b receiver) args)
    form_after b (core.New class method args captures word) = plain (all_past b args)
    form_after b (core.NewArray lengths) = plain (all_past b lengths)
    form_after b (core.ArrayOf values) = plain (all_past b values)

    -- 16.1.10: V is assigned before a part where it is after the part before.
    pub all_past : Set → Cores → Set
    all_past b no_cores = b
    all_past b (more e es) = all_past (whole (after b e)) es

    pub maybe_past : Set → MaybeCore → Set
    maybe_past b no_core = b
    maybe_past b (a_core e) = whole (after b e)

    -- past the parts of a place that is assigned, which isn't read itself
    pub place_past : Set → Core → Set
    place_past b (node form ty span at) = place_form_past b form

    pub place_form_past : Set → CoreForm → Set
    place_form_past b (core.Field object class field) = whole (after b object)
    place_form_past b (core.Static object class field) = maybe_past b object
    place_form_past b (core.Index array index) = whole (after (whole (after b array)) index)
    place_form_past b _ = b

  abbrev mutual
    pub faults : Set → Core → Faults
    faults b (node form ty span at) = form_faults at b form

    pub form_faults : Span → Set → CoreForm → Faults
    form_faults at b (core.Const value uses) = none
    form_faults at b (core.Text units uses) = none
    form_faults at b (core.Local local) = read_faults f.rule at b (variable_in f.home (core.Local local))
    form_faults at b core.This = none
    form_faults at b (core.Field object class field) =
        faults b object ∪ read_faults f.rule at (whole (after b object)) (variable_in f.home (core.Field object class field))
    form_faults at b (core.Static object class field) =
        maybe_faults b object ∪ read_faults f.rule at (maybe_past b object) (variable_in f.home (core.Static object class field))
    form_faults at b (core.Index array index) = faults b array ∪ faults (whole (after b array)) index
    form_faults at b (core.Length array) = faults b array
    form_faults at b (core.Assign place value) = place_faults b place ∪ faults (place_past b place) value
        ∪ assign_faults f.rule f.finals (at_of place) (whole (after (place_past b place) value)) (variable_of f.home place)
    form_faults at b (core.Update place op operand gives_old) = faults b place ∪ maybe_faults (whole (after b place)) operand
        ∪ assign_faults f.rule f.finals (at_of place) (maybe_past (whole (after b place)) operand) (variable_of f.home place)
    form_faults at b (core.Unary op operand) = faults b operand
    form_faults at b (core.Binary op left right) = faults b left ∪ faults (whole (after b left)) right
    form_faults at b (core.And left right) = faults b left ∪ faults (when_true (after b left)) right
    form_faults at b (core.Or left right) = faults b left ∪ faults (when_false (after b left)) right
    form_faults at b (core.Choose condition chosen other) =
        faults b condition ∪ faults (when_true (after b condition)) chosen ∪ faults (when_false (after b condition)) other
    form_faults at b (core.Convert operand) = faults b operand
    form_faults at b (core.Cast operand) = faults b operand
    form_faults at b (core.InstanceOf operand of) = faults b operand
    form_faults at b (core.Concat left right) = faults b left ∪ faults (whole (after b left)) right
    form_faults at b (core.CallVirtual receiver class method args) = faults b receiver ∪ all_faults (whole (after b receiver)) args
    form_faults at b (core.CallExact receiver class method args) = maybe_faults b receiver ∪ all_faults (maybe_past b receiver) args
    -- 16: V is assigned before the body of an anonymous class where it is after the arguments.
    form_faults at b (core.New class method args captures word) =
        all_faults b args ∪ standing_faults f.rule (Creation class) (all_past b args) f.standing
    form_faults at b (core.NewArray lengths) = all_faults b lengths
    form_faults at b (core.ArrayOf values) = all_faults b values

    pub all_faults : Set → Cores → Faults
    all_faults b no_cores = none
    all_faults b (more e es) = faults b e ∪ all_faults (whole (after b e)) es

    pub maybe_faults : Set → MaybeCore → Faults
    maybe_faults b no_core = none
    maybe_faults b (a_core e) = faults b e

    pub place_faults : Set → Core → Faults
    place_faults b (node form ty span at) = place_form_faults b form

    pub place_form_faults : Set → CoreForm → Faults
    place_form_faults b (core.Field object class field) = faults b object
    place_form_faults b (core.Static object class field) = maybe_faults b object
    place_form_faults b (core.Index array index) = faults b array ∪ faults (whole (after b array)) index
    place_form_faults b _ = none
