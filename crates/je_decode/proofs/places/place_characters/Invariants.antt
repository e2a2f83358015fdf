use Rattle.std.proofs.Common.{length}
use Rattle.std.specs.Str.{chars}
use Rattle.je_decode.proofs.Placing.{IsPlaced}
use Rattle.je_decode.proofs.places.place_characters.Given as goal

abbrev pub invariant-loop-c : goal.invariant-loop-c
invariant-loop-c l = IsPlaced (chars l.text) (length l.yielded) l.start l.all.items
