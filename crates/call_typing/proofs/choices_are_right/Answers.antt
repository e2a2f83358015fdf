use Rattle.call_typing.proofs.Choices.{choice-right}
use Rattle.call_typing.proofs.choices_are_right.Goals as goal

pub returns : goal.returns
returns c = choice-right
