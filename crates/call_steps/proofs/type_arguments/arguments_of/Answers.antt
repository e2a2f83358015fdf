use Rattle.std.proofs.Common.{List, sym, ap, ◌∙◌}
use Rattle.std.specs.Prelude.{Some}
use Rattle.name_types.specs.declared.types.SrcTy.{SrcTy}
use Rattle.name_types.specs.View.{all_shown}
use Rattle.class_methods.specs.way.Parts.{parts_of}
use Rattle.class_methods.proofs.Types.{parts}
use Rattle.reference_tests.proofs.Shapes.{plain_type, made_type, variable_type}
use Rattle.call_steps.proofs.type_arguments.arguments_of.Goals as goal

pub returns-in-Plain : goal.returns-in-Plain
returns-in-Plain c =
    c.plain_arguments.ensures c.args.ty.now.dims ∙ ap parts_of (sym (plain_type c.args.ty.now c.in-Plain.base c.in-Plain.is))

pub returns-in-Made : goal.returns-in-Made
returns-in-Made c =
    ap (λ (ts : List SrcTy). Some (parts c.in-Made.class.0 (all_shown ts))) c.deref.ensures.value
    ∙ ap parts_of (sym (made_type c.args.ty.now c.in-Made.class c.in-Made.types c.in-Made.is))

pub returns-in-Var : goal.returns-in-Var
returns-in-Var c = ap parts_of (sym (variable_type c.args.ty.now c.in-Var.field-0 c.in-Var.field-1 c.in-Var.is))
