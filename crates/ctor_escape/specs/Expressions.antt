-- Where an object escapes while it is made (Mettler, Wagner, Close, 'Joe-E: A Security-Oriented Subset of Java', NDSS 2010): `this`
-- stands in the code that makes it elsewhere than as the object of a field access (JLS 15.8.3, 15.11).
use Rattle.std.specs.Prelude.{Bool, true, ◌&&◌, List, length, is_none, nat_eq, if◌then◌else◌}
use Rattle.std.specs.List.{list_any}
use Rattle.je_base.specs.declared.span.Span.{Span}
use Rattle.je_core.specs.Core.{Core, CoreForm, CoreCapture, Cores, MaybeCore, CoreProgram, node, none as no_cores, more, no_core, a_core}
use Rattle.je_core.specs.Core as core
use Rattle.je_fitting.specs.Expressions.{is_this}
use Rattle.constructor_calls.specs.Calls.{calls_constructor}
use Rattle.rule_breaks.specs.declared.rules.ConfinementRule.TheVariants as rule
use Rattle.rule_breaks.specs.Breaks.{Breaks, none, ◌∪◌, break_at, break_where}

-- a hidden field that begins with `this` itself, and not with what one of its fields leads to: it keeps an enclosing instance
abbrev pub is_handed_this : CoreCapture → Bool
is_handed_this c = is_none c.local && nat_eq (length c.path) 0

-- a new object whose enclosing instance is this `this` (JLS 15.9.2)
abbrev pub is_enclosed : List CoreCapture → Bool
is_enclosed captures = list_any is_handed_this captures

module _ (p : CoreProgram) where
  abbrev mutual
    pub escapes : Core → Breaks
    escapes (node form ty span at) = form_escapes span at form

    -- `this` is told by its own span, a creation by the name of its class
    pub form_escapes : Span → Span → CoreForm → Breaks
    form_escapes span at (core.Const v uses) = none
    form_escapes span at (core.Text units uses) = none
    form_escapes span at (core.Local n) = none
    form_escapes span at core.This = break_at rule.ThisEscapes span
    form_escapes span at (core.Field o c n) = if is_this o then none else escapes o
    form_escapes span at (core.Static o c n) = selected_escapes true o
    form_escapes span at (core.Index a i) = escapes a ∪ escapes i
    form_escapes span at (core.Length a) = escapes a
    form_escapes span at (core.Assign place value) = escapes place ∪ escapes value
    form_escapes span at (core.Update place o operand old) = escapes place ∪ maybe_escapes operand
    form_escapes span at (core.Unary o e) = escapes e
    form_escapes span at (core.Binary o l r) = escapes l ∪ escapes r
    form_escapes span at (core.And l r) = escapes l ∪ escapes r
    form_escapes span at (core.Or l r) = escapes l ∪ escapes r
    form_escapes span at (core.Choose c chosen other) = escapes c ∪ escapes chosen ∪ escapes other
    form_escapes span at (core.Convert e) = escapes e
    form_escapes span at (core.Cast e) = escapes e
    form_escapes span at (core.InstanceOf e u) = escapes e
    form_escapes span at (core.Concat l r) = escapes l ∪ escapes r
    form_escapes span at (core.CallVirtual o c n args) = escapes o ∪ all_escape args
    form_escapes span at (core.CallExact o c n args) = selected_escapes (calls_constructor p c n) o ∪ all_escape args
    form_escapes span at (core.New c n args captures word) = all_escape args ∪ break_where (is_enclosed captures) rule.ThisEscapes at
    form_escapes span at (core.NewArray lengths) = all_escape lengths
    form_escapes span at (core.ArrayOf values) = all_escape values

    -- what a member is selected from, and whether `this` may stand there: it may before a static field, and where a constructor calls another one
    pub selected_escapes : Bool → MaybeCore → Breaks
    selected_escapes may no_core = none
    selected_escapes may (a_core o) = if may && is_this o then none else escapes o

    pub maybe_escapes : MaybeCore → Breaks
    maybe_escapes no_core = none
    maybe_escapes (a_core e) = escapes e

    pub all_escape : Cores → Breaks
    all_escape no_cores = none
    all_escape (more e es) = escapes e ∪ all_escape es
