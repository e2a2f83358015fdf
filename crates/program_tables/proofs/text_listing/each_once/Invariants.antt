use Rattle.std.proofs.Common.{◌≡◌, [], drop, map}
use Rattle.class_typing.specs.Texts.{each_once, units_of}
use Rattle.program_tables.specs.way.Once.{Has}
use Rattle.program_tables.specs.way.Seen.{found_seen}
use Rattle.program_tables.proofs.text_listing.each_once.Given as goal

abbrev pub invariant-loop-text : goal.invariant-loop-text
invariant-loop-text l = record {
  has : Has l.seen l.texts.items;
  texts : each_once l.texts.items (map units_of (map found_seen (drop l.text-index l.found))) ≡ each_once [] (map units_of (map found_seen l.found));
}
