use Rattle.std.proofs.Common.{sym, ap, ◌∙◌}
use Rattle.source_types.specs.Subtypes.{is_null}
use Rattle.source_subtypes.proofs.Equal.{plain-shape}
use Rattle.member_values.proofs.types.is_null_in.Goals as goal

pub returns-in-Plain : goal.returns-in-Plain
returns-in-Plain c = λ n. c.is_null_base.ensures n ∙ ap is_null (sym (plain-shape c.args.base.now c.in-Plain.plain n c.in-Plain.is))
