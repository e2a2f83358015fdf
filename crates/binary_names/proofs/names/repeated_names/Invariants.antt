use Rattle.std.proofs.Common.{◌≡◌, length}
use Rattle.name_sites.specs.View.{source_of}
use Rattle.binary_names.specs.Names.{AreNamed}
use Rattle.binary_names.proofs.names.repeated_names.Given as goal

abbrev pub invariant-loop-at : goal.invariant-loop-at
invariant-loop-at l = record {
  named : AreNamed (source_of l.sites) l.texts l.names.items;
  count : length l.names.items ≡ l.at;
}
