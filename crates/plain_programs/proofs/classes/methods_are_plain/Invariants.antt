use Rattle.std.proofs.Common.{◌≡◌, drop, map}
use Rattle.std.specs.List.{list_all}
use Rattle.je_core.specs.View.{method_view, program_view}
use Rattle.plain_programs.specs.way.Deciding.{is_plain_method}
use Rattle.plain_programs.proofs.classes.methods_are_plain.Given as goal

abbrev pub invariant-loop-method : goal.invariant-loop-method
invariant-loop-method l = list_all (is_plain_method (program_view l.program)) (map method_view (drop l.method-index l.methods)) ≡ list_all (is_plain_method (program_view l.program)) (map method_view l.methods)
