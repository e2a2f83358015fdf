use Rattle.std.proofs.Common.{◌≡◌, ◌++◌, drop, map}
use Rattle.call_typing.specs.Methods.{candidate_of, named}
use Rattle.class_methods.specs.View.{arguments_seen, method_seen}
use Rattle.class_methods.specs.way.Parts.{put_arguments}
use Rattle.overloads.specs.View.{candidate_seen}
use Rattle.call_steps.proofs.seeking.named_among.Given as goal

abbrev pub invariant-loop-at : goal.invariant-loop-at
invariant-loop-at l =
    map candidate_seen l.candidates.items ++ map candidate_of (map (put_arguments (arguments_seen l.arguments)) (named l.name (map method_seen (drop l.at l.methods))))
    ≡ map candidate_of (map (put_arguments (arguments_seen l.arguments)) (named l.name (map method_seen l.methods)))
