use Rattle.std.proofs.Common.{◌∙◌}
use Rattle.name_types.specs.View.{shown}
use Rattle.source_subtypes.specs.View.{heads_of}
use Rattle.call_steps.proofs.Tables.{by_table}
use Rattle.call_steps.proofs.sought.candidates.Goals as goal

pub returns : goal.returns
returns c = λ classes has. c.in_ok-candidates.ensures ∙ by_table (heads_of c.args.heads.now) classes c.args.table.now c.args.name (shown c.args.ty.now) has
