use Rattle.std.proofs.Common.{◌≡◌, drop, map}
use Rattle.std.specs.List.{list_all}
use Rattle.je_core.specs.View.{program_view}
use Rattle.je_classes.specs.Methods.{all_pass, params_of}
use Rattle.class_members.specs.Places.{member_of}
use Rattle.method_lookup.proofs.choice.is_best.Given as goal

abbrev pub invariant-loop-other : goal.invariant-loop-other
invariant-loop-other l = list_all (λ n. all_pass (program_view l.program) l.params_of_one (params_of (program_view l.program) n)) (map member_of (drop l.other-index l.candidates)) ≡ list_all (λ n. all_pass (program_view l.program) l.params_of_one (params_of (program_view l.program) n)) (map member_of l.candidates)
