use Rattle.std.proofs.Common.{◌≡◌, ◌++◌, drop, map}
use Rattle.std.specs.Prelude.{string_bytes}
use Rattle.je_scopes.specs.Source.{part_text}
use Rattle.name_sites.specs.Library.{further_text}
use Rattle.name_sites.proofs.library.push_further.Given as goal

abbrev pub invariant-loop-part : goal.invariant-loop-part
invariant-loop-part l = string_bytes l.text ++ further_text (map (part_text l.names) (drop l.part-index l.parts)) ≡ string_bytes l.initial.text ++ further_text (map (part_text l.names) l.parts)
