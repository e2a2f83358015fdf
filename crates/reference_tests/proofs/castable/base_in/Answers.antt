use Rattle.std.proofs.Common.{sym, ap, ◌∙◌}
use Rattle.reference_tests.specs.way.Shapes.{base_in}
use Rattle.reference_tests.proofs.Shapes.{plain_type, made_type}
use Rattle.reference_tests.proofs.castable.base_in.Goals as goal

pub returns-in-Plain : goal.returns-in-Plain
returns-in-Plain c = c.unless_class.ensures c.args.ty.now.dims ∙ ap base_in (sym (plain_type c.args.ty.now c.in-Plain.plain c.in-Plain.is))

pub returns-in-Made : goal.returns-in-Made
returns-in-Made c = ap base_in (sym (made_type c.args.ty.now c.in-Made.field-0 c.in-Made.field-1 c.in-Made.is))
