use Rattle.std.proofs.Common.{◌≡◌, drop}
use Rattle.je_classes.specs.Subtypes.{same_types}
use Rattle.class_members.proofs.members.same_types.Given as goal

abbrev pub invariant-loop-ty : goal.invariant-loop-ty
invariant-loop-ty l = same_types (drop l.ty-index l.a) l.left ≡ same_types l.a l.fn.b
