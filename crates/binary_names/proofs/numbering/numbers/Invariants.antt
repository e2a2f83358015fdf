use Rattle.std.proofs.Common.{◌≡◌, ℕ, ◌<◌, length, get_or}
use Rattle.je_scopes.specs.BinaryNames.{number_in}
use Rattle.name_sites.specs.View.{source_of}
use Rattle.binary_names.specs.Names.{AreCounted}
use Rattle.binary_names.proofs.numbering.numbers.Given as goal

abbrev pub invariant-loop-at : goal.invariant-loop-at
invariant-loop-at l = record {
  counted : AreCounted (source_of l.sites) l.at l.counts;
  count : length l.numbers.items ≡ l.at;
  numbers : (c : ℕ) → c < l.at → get_or l.numbers.items c 0 ≡ number_in (source_of l.sites) c;
}
