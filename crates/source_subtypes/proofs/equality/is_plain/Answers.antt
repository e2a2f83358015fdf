use Rattle.std.proofs.Common.{List, sym, ap, ◌∙◌}
use Rattle.je_core.specs.declared.types.Base.TheVariants as base
use Rattle.je_classes.specs.Subtypes.{same_base}
use Rattle.je_scopes.specs.SourceTypes.{no_source_types, same_source_type, same_source_types}
use Rattle.name_types.specs.declared.types.SrcTy.{SrcTy}
use Rattle.name_types.specs.View.{all_shown, plain_shown}
use Rattle.source_subtypes.proofs.Equal.{first-true, first-false, plain-same, plain-made, plain-variable, plain-shape, made-shape, variable-shape}
use Rattle.source_subtypes.proofs.equality.is_plain.Goals as goal

pub returns-in-Plain : goal.returns-in-Plain
returns-in-Plain c = λ n. c.is_same_plain.ensures ∙ plain-same c.args.plain c.in-Plain.other n
    ∙ ap (same_source_type (plain_shown c.args.plain n)) (sym (plain-shape c.args.base.now c.in-Plain.other n c.in-Plain.is))

pub returns-then-is_same_plain : goal.returns-then-is_same_plain
returns-then-is_same_plain c = λ n. c.are_none.ensures
    ∙ ap (λ (ts : List SrcTy). same_source_types no_source_types (all_shown ts)) c.deref.ensures.value
    ∙ first-true (same_base c.args.plain (base.Class c.in-Made.class)) (same_source_types no_source_types (all_shown c.in-Made.args.items)) _
    (sym c.is_same_plain-in-Made.ensures ∙ c.if-is_same_plain.true)
    (plain-made c.args.plain c.in-Made.class (all_shown c.in-Made.args.items) n
    ∙ ap (same_source_type (plain_shown c.args.plain n)) (sym (made-shape c.args.base.now c.in-Made.class c.in-Made.args n c.in-Made.is)))

pub returns-else-is_same_plain : goal.returns-else-is_same_plain
returns-else-is_same_plain c = λ n. c.is_same_plain-in-Made.ensures
    ∙ first-false (same_base c.args.plain (base.Class c.in-Made.class)) (same_source_types no_source_types (all_shown c.in-Made.args.items)) _
    (sym c.is_same_plain-in-Made.ensures ∙ c.if-is_same_plain.false)
    (plain-made c.args.plain c.in-Made.class (all_shown c.in-Made.args.items) n
    ∙ ap (same_source_type (plain_shown c.args.plain n)) (sym (made-shape c.args.base.now c.in-Made.class c.in-Made.args n c.in-Made.is)))

pub returns-in-Var : goal.returns-in-Var
returns-in-Var c = λ n. plain-variable c.args.plain c.in-Var.field-0.0 c.in-Var.field-1 n
    ∙ ap (same_source_type (plain_shown c.args.plain n)) (sym (variable-shape c.args.base.now c.in-Var.field-0 c.in-Var.field-1 n c.in-Var.is))
