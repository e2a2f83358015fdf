use Rattle.std.proofs.Common.{◌∷◌, [], sym, ap, ◌∙◌}
use Rattle.je_scopes.specs.SourceTypes.{SourceType}
use Rattle.source_subtypes.proofs.Equal.{plain-shape, made-shape, variable-shape}
use Rattle.class_heads.specs.Headers.{begins_with_class}
use Rattle.class_heads.specs.View.{classes_of}
use Rattle.class_heads.proofs.headers.is_class_base.Goals as goal

pub returns-in-Plain : goal.returns-in-Plain
returns-in-Plain c = λ n. c.is_class_plain.ensures n
    ∙ ap (λ (t : SourceType). begins_with_class (classes_of c.args.classes) (t ∷ [])) (sym (plain-shape c.args.base.now c.in-Plain.plain n c.in-Plain.is))

pub returns-in-Made : goal.returns-in-Made
returns-in-Made c = λ n. c.is_no_interface.ensures
    ∙ ap (λ (t : SourceType). begins_with_class (classes_of c.args.classes) (t ∷ [])) (sym (made-shape c.args.base.now c.in-Made.class c.in-Made.field-1 n c.in-Made.is))

pub returns-in-Var : goal.returns-in-Var
returns-in-Var c = λ n. ap (λ (t : SourceType). begins_with_class (classes_of c.args.classes) (t ∷ []))
    (sym (variable-shape c.args.base.now c.in-Var.field-0 c.in-Var.field-1 n c.in-Var.is))
