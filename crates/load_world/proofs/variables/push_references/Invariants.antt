use Rattle.std.proofs.Common.{◌≡◌, ◌+◌, ◌++◌, drop}
use Rattle.je_load.specs.Loading.{text_references}
use Rattle.load_world.proofs.variables.push_references.Given as goal

abbrev pub invariant-loop-place : goal.invariant-loop-place
invariant-loop-place l =
    l.statics ++ text_references (l.number + l.place) (drop l.place l.texts) ≡ l.fn.statics ++ text_references l.number l.texts
