use Rattle.type_laws.proofs.Names.{dims_sound, dims_exact}
use Rattle.type_laws.proofs.written_types.dims_are_read.Goals as goal

pub returns : goal.returns
returns c = record {
  sound = dims_sound;
  exact = λ n s e ts rest d. dims_exact d;
}
