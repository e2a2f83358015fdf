use Rattle.std.proofs.Common.{List, sym, ap, ◌∙◌}
use Rattle.std.specs.Prelude.{Some}
use Rattle.name_types.specs.declared.types.SrcTy.{SrcTy}
use Rattle.name_types.specs.View.{all_shown}
use Rattle.source_subtypes.proofs.Equal.{plain-shape, made-shape, variable-shape}
use Rattle.class_methods.specs.way.Parts.{Parts, parts_of}
use Rattle.class_methods.proofs.Types.{parts}
use Rattle.class_methods.proofs.seen.parts_of_base.Goals as goal

pub returns-in-Plain : goal.returns-in-Plain
returns-in-Plain c = λ n. c.parts_of_plain.ensures n ∙ ap parts_of (sym (plain-shape c.args.base.now c.in-Plain.plain n c.in-Plain.is))

pub returns-in-Made : goal.returns-in-Made
returns-in-Made c = λ n. ap (λ (ts : List SrcTy). Some (parts c.in-Made.class.0 (all_shown ts))) c.deref.ensures.value
    ∙ ap parts_of (sym (made-shape c.args.base.now c.in-Made.class c.in-Made.types n c.in-Made.is))

pub returns-in-Var : goal.returns-in-Var
returns-in-Var c = λ n. ap parts_of (sym (variable-shape c.args.base.now c.in-Var.field-0 c.in-Var.field-1 n c.in-Var.is))
