use Rattle.std.proofs.Common.{◌≡◌, ◌++◌, drop, map}
use Rattle.call_typing.specs.Constructors.{constructors_from}
use Rattle.call_typing.specs.Methods.{candidate_of}
use Rattle.class_methods.specs.View.{arguments_seen}
use Rattle.class_methods.specs.way.Parts.{put_arguments}
use Rattle.declarations.specs.View.{method_shown}
use Rattle.overloads.specs.View.{candidate_seen}
use Rattle.call_steps.proofs.constructors.constructors_among.Given as goal

abbrev pub invariant-loop-place : goal.invariant-loop-place
invariant-loop-place l =
    map candidate_seen l.candidates.items ++ map candidate_of (map (put_arguments (arguments_seen l.arguments))
    (constructors_from l.arguments.class.0 l.place (map method_shown (drop l.place l.methods))))
    ≡ map candidate_of (map (put_arguments (arguments_seen l.arguments))
    (constructors_from l.arguments.class.0 0 (map method_shown l.methods)))
