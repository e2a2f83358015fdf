use Rattle.std.proofs.Common.{◌≡◌, drop}
use Rattle.je_fitting.specs.Classes.{same_places}
use Rattle.fit_classes.proofs.bridges.same_places.Given as goal

abbrev pub invariant-loop-ty : goal.invariant-loop-ty
invariant-loop-ty l = same_places (drop l.ty-index l.a) l.left ≡ same_places l.a l.fn.b
