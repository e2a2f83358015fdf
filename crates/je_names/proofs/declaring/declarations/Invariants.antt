use Rattle.std.proofs.Common.{◌≡◌, map}
use Rattle.je_scopes.specs.Faults.{below}
use Rattle.name_sites.specs.View.{source_of}
use Rattle.declarations.specs.Declarations.{declared_class}
use Rattle.declarations.specs.View.{class_shown}
use Rattle.je_names.proofs.declaring.declarations.Given as goal

abbrev pub invariant-loop-at : goal.invariant-loop-at
invariant-loop-at l = map class_shown l.classes.items ≡ map (declared_class (source_of l.sites)) (below l.at)
