use Rattle.je_worlds.specs.Agree.{Renames}
use Rattle.je_worlds.proofs.Agreements.{kinds, units, devices}
use Rattle.je_worlds.proofs.kinds_units_and_devices_count.Goals as goal

pub returns : goal.returns
returns c = record {
  kinds = λ renaming. kinds (Renames renaming);
  units = λ renaming. units (Renames renaming);
  devices = λ renaming. devices (Renames renaming);
}
