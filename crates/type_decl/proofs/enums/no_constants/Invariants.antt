use Rattle.std.proofs.Common.{◌≡◌, ◌++◌, drop, map}
use Rattle.std.specs.Prelude.{option_map}
use Rattle.je_core.specs.View.{view}
use Rattle.type_decl.specs.way.Walks.{no_constant}
use Rattle.type_decl.proofs.enums.no_constants.Given as goal

abbrev pub invariant-loop-constant : goal.invariant-loop-constant
invariant-loop-constant l =
    map (option_map view) l.all.items ++ map (no_constant l.walk) (drop l.constant-index l.constants) ≡ map (no_constant l.walk) l.constants
