use Rattle.std.proofs.Common.{map}
use Rattle.je_core.specs.View.{field_view}
use Rattle.declarations.specs.View.{field_shown}
use Rattle.body_places.specs.View.{program_seen}
use Rattle.core_making.proofs.Declared.{AllWith}
use Rattle.core_making.proofs.fields.add_declared.Given as goal

abbrev pub invariant-loop-constant : goal.invariant-loop-constant
invariant-loop-constant l =
    AllWith (program_seen l.program) (map field_view l.fn.fields.items) (map field_shown l.declared) (map field_view l.fields.items) l.left l.yielded
