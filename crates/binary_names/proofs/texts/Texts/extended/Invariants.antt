use Rattle.std.proofs.Common.{ℕ, List, ◌++◌, take}
use Rattle.binary_names.specs.Texts.{IsText, Stays}
use Rattle.binary_names.proofs.texts.Texts.extended.Given as goal

abbrev pub invariant-loop-byte : goal.invariant-loop-byte
invariant-loop-byte l = record {
  stays : Stays l.initial.self l.self;
  text : (t : List ℕ) → IsText l.initial.self l.fn.text t → IsText l.self l.end (t ++ take l.byte-index l.bytes);
}
