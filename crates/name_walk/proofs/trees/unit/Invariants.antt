use Rattle.std.proofs.Common.{◌≡◌, drop, map}
use Rattle.je_ast.specs.View.{declaration_view}
use Rattle.je_scopes.specs.Sites.{at_top, in_declarations}
use Rattle.name_walk.specs.Collected.{collected, spot_of}
use Rattle.name_walk.proofs.trees.unit.Given as goal

abbrev pub invariant-loop-decl : goal.invariant-loop-decl
invariant-loop-decl l =
    (spot_of l.collector ≡ at_top l.at)
    × (in_declarations l.at (map declaration_view (drop l.decl-index l.unit.decls.items)) (collected l.collector)
    ≡ in_declarations l.at (map declaration_view l.unit.decls.items) (collected l.initial.collector))
