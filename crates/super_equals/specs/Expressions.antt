-- The calls of Object's `equals(Object)` by `super` in an expression, each at the name `equals`.
use Rattle.je_base.specs.declared.span.Span.{Span}
use Rattle.je_core.specs.Core.{Core, CoreForm, Cores, MaybeCore, node, none as no_cores, more, no_core, a_core}
use Rattle.je_core.specs.Core as core
use Rattle.rule_breaks.specs.declared.rules.ConfinementRule.TheVariants as rule
use Rattle.rule_breaks.specs.Breaks.{Breaks, none, ◌∪◌, break_where}
use Rattle.super_equals.specs.Calls.{is_super_equals}

abbrev mutual
  pub calls_in : Core → Breaks
  calls_in (node form ty span at) = calls_in_form at form

  pub calls_in_form : Span → CoreForm → Breaks
  calls_in_form at (core.Const v uses) = none
  calls_in_form at (core.Text units uses) = none
  calls_in_form at (core.Local n) = none
  calls_in_form at core.This = none
  calls_in_form at (core.Field o c n) = calls_in o
  calls_in_form at (core.Static o c n) = calls_in_maybe o
  calls_in_form at (core.Index a i) = calls_in a ∪ calls_in i
  calls_in_form at (core.Length a) = calls_in a
  calls_in_form at (core.Assign place value) = calls_in place ∪ calls_in value
  calls_in_form at (core.Update place o operand old) = calls_in place ∪ calls_in_maybe operand
  calls_in_form at (core.Unary o e) = calls_in e
  calls_in_form at (core.Binary o l r) = calls_in l ∪ calls_in r
  calls_in_form at (core.And l r) = calls_in l ∪ calls_in r
  calls_in_form at (core.Or l r) = calls_in l ∪ calls_in r
  calls_in_form at (core.Choose c chosen other) = calls_in c ∪ calls_in chosen ∪ calls_in other
  calls_in_form at (core.Convert e) = calls_in e
  calls_in_form at (core.Cast e) = calls_in e
  calls_in_form at (core.InstanceOf e u) = calls_in e
  calls_in_form at (core.Concat l r) = calls_in l ∪ calls_in r
  calls_in_form at (core.CallVirtual o c n args) = calls_in o ∪ calls_in_all args
  calls_in_form at (core.CallExact o c n args) = break_where (is_super_equals o c n) rule.SelflessClass at ∪ calls_in_maybe o ∪ calls_in_all args
  calls_in_form at (core.New c n args captures word) = calls_in_all args
  calls_in_form at (core.NewArray lengths) = calls_in_all lengths
  calls_in_form at (core.ArrayOf values) = calls_in_all values

  pub calls_in_maybe : MaybeCore → Breaks
  calls_in_maybe no_core = none
  calls_in_maybe (a_core e) = calls_in e

  pub calls_in_all : Cores → Breaks
  calls_in_all no_cores = none
  calls_in_all (more e es) = calls_in e ∪ calls_in_all es
