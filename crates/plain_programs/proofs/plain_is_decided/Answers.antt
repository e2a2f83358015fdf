use Rattle.plain_programs.proofs.Decided.{plain-where, where-plain}
use Rattle.plain_programs.proofs.plain_is_decided.Goals as goal

pub returns : goal.returns
returns c = λ program. (plain-where program, where-plain program)
