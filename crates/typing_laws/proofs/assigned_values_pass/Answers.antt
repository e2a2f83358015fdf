use Rattle.typing_laws.proofs.Assigned.{assigned_values_pass}
use Rattle.typing_laws.proofs.assigned_values_pass.Goals as goal

pub returns : goal.returns
returns c = assigned_values_pass
