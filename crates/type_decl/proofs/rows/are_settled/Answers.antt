use Rattle.std.proofs.Common.{arith}
use Rattle.type_decl.specs.way.Asked.{is_asked}
use Rattle.type_decl.proofs.Due.{same_there}
use Rattle.type_decl.proofs.rows.are_settled.Goals as goal

pub returns : goal.returns
returns c = λ _ m e. same_there (is_asked c.args.asked.now) c.args.rows.now c.args.constants.now c.requires (λ d l h. c.loop-at.invariant d (omega (arith, l)) h) m e
