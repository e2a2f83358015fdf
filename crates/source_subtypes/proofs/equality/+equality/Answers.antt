use Rattle.std.proofs.Common.{List, sym, ap, ◌∙◌, nat_eq}
use Rattle.je_core.specs.declared.types.Base.TheVariants as base
use Rattle.je_classes.specs.Subtypes.{same_base}
use Rattle.je_scopes.specs.SourceTypes.{SourceType, no_source_types, of_class, same_source_type, same_source_types}
use Rattle.name_types.specs.declared.types.SrcTy.{SrcTy}
use Rattle.name_types.specs.View.{all_shown, base_shown}
use Rattle.source_subtypes.proofs.Equal.{first-true, first-false, number-same, number-other, made-plain, made-made, plain-shape, made-shape, variable-shape, same-types, other-types}
use Rattle.source_subtypes.proofs.equality.+equality.Goals as goal

pub is_made-returns-then-is_same_plain : goal.is_made-returns-then-is_same_plain
is_made-returns-then-is_same_plain t c = λ n. c.are_none.ensures
    ∙ first-true (same_base (base.Class c.args.class) c.in-Plain.plain) (same_source_types no_source_types (all_shown c.args.args.now)) _
    (sym c.is_same_plain.ensures ∙ c.if-is_same_plain.true)
    (made-plain c.args.class c.in-Plain.plain (all_shown c.args.args.now) n
    ∙ ap (same_source_type (of_class c.args.class.0 (all_shown c.args.args.now) n)) (sym (plain-shape c.args.base.now c.in-Plain.plain n c.in-Plain.is)))

pub is_made-returns-else-is_same_plain : goal.is_made-returns-else-is_same_plain
is_made-returns-else-is_same_plain t c = λ n. c.is_same_plain.ensures
    ∙ first-false (same_base (base.Class c.args.class) c.in-Plain.plain) (same_source_types no_source_types (all_shown c.args.args.now)) _
    (sym c.is_same_plain.ensures ∙ c.if-is_same_plain.false)
    (made-plain c.args.class c.in-Plain.plain (all_shown c.args.args.now) n
    ∙ ap (same_source_type (of_class c.args.class.0 (all_shown c.args.args.now) n)) (sym (plain-shape c.args.base.now c.in-Plain.plain n c.in-Plain.is)))

pub is_made-returns-then-class-other : goal.is_made-returns-then-class-other
is_made-returns-then-class-other t c = λ n. c.are_same.ensures
    ∙ ap (λ (ts : List SrcTy). same_source_types (all_shown c.args.args.now) (all_shown ts)) c.deref.ensures.value
    ∙ first-true (nat_eq c.args.class.0 c.in-Made.other.0) (same_source_types (all_shown c.args.args.now) (all_shown c.in-Made.others.items)) _ (number-same c.args.class.0 c.in-Made.other.0 c.if-class-other.true)
    (made-made c.args.class.0 c.in-Made.other.0 n (all_shown c.args.args.now) (all_shown c.in-Made.others.items)
    ∙ ap (same_source_type (of_class c.args.class.0 (all_shown c.args.args.now) n)) (sym (made-shape c.args.base.now c.in-Made.other c.in-Made.others n c.in-Made.is)))

pub is_made-returns-else-class-other : goal.is_made-returns-else-class-other
is_made-returns-else-class-other t c = λ n.
    first-false (nat_eq c.args.class.0 c.in-Made.other.0) (same_source_types (all_shown c.args.args.now) (all_shown c.in-Made.others.items)) _ (number-other c.args.class.0 c.in-Made.other.0 c.if-class-other.false)
    (made-made c.args.class.0 c.in-Made.other.0 n (all_shown c.args.args.now) (all_shown c.in-Made.others.items)
    ∙ ap (same_source_type (of_class c.args.class.0 (all_shown c.args.args.now) n)) (sym (made-shape c.args.base.now c.in-Made.other c.in-Made.others n c.in-Made.is)))

pub is_made-returns-in-Var : goal.is_made-returns-in-Var
is_made-returns-in-Var t c = λ n.
    ap (same_source_type (of_class c.args.class.0 (all_shown c.args.args.now) n)) (sym (variable-shape c.args.base.now c.in-Var.field-0 c.in-Var.field-1 n c.in-Var.is))

pub is_same-returns-then-a-b : goal.is_same-returns-then-a-b
is_same-returns-then-a-b t c = same-types c.args.a.now c.args.b.now c.is_same_base.result c.is_same_base.ensures c.if-a-b.true

pub is_same-returns-else-a-b : goal.is_same-returns-else-a-b
is_same-returns-else-a-b t c = other-types c.args.a.now c.args.b.now c.if-a-b.false

pub is_same_base-returns-in-Plain : goal.is_same_base-returns-in-Plain
is_same_base-returns-in-Plain t c = λ n. c.is_plain.ensures n
    ∙ ap (λ (u : SourceType). same_source_type u (base_shown c.args.b.now n)) (sym (plain-shape c.args.a.now c.in-Plain.plain n c.in-Plain.is))

pub is_same_base-returns-in-Made : goal.is_same_base-returns-in-Made
is_same_base-returns-in-Made t c = λ n. c.is_made.ensures n
    ∙ ap (λ (ts : List SrcTy). same_source_type (of_class c.in-Made.class.0 (all_shown ts) n) (base_shown c.args.b.now n)) c.deref.ensures.value
    ∙ ap (λ (u : SourceType). same_source_type u (base_shown c.args.b.now n)) (sym (made-shape c.args.a.now c.in-Made.class c.in-Made.args n c.in-Made.is))

pub is_same_base-returns-in-Var : goal.is_same_base-returns-in-Var
is_same_base-returns-in-Var t c = λ n. c.is_variable.ensures n
    ∙ ap (λ (u : SourceType). same_source_type u (base_shown c.args.b.now n)) (sym (variable-shape c.args.a.now c.in-Var.class c.in-Var.at n c.in-Var.is))
