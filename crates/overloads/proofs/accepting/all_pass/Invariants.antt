use Rattle.std.proofs.Common.{◌≡◌, drop, map}
use Rattle.call_typing.specs.Overloads.{all_pass}
use Rattle.name_types.specs.View.{shown}
use Rattle.source_subtypes.specs.View.{heads_of}
use Rattle.overloads.proofs.accepting.all_pass.Given as goal

abbrev pub invariant-loop-ty : goal.invariant-loop-ty
invariant-loop-ty l =
    all_pass (heads_of l.heads) (map shown (drop l.ty-index l.types)) (map shown l.left)
    ≡ all_pass (heads_of l.heads) (map shown l.types) (map shown l.parameters)
