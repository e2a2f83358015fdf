use Rattle.binary_names.specs.Texts.{Stays}
use Rattle.binary_names.proofs.names.add_number.Goals as goal

pub returns-then-not-is_local-clause-stays : goal.returns-then-not-is_local-clause-stays
unfolding Stays
returns-then-not-is_local-clause-stays c = λ n t h. h
