use Rattle.std.proofs.Common.{◌≡◌, map, take}
use Rattle.je_ast.specs.Types.{formal_view}
use Rattle.je_scopes.specs.Members.{formal_type}
use Rattle.name_sites.specs.View.{source_of}
use Rattle.name_lookup.specs.View.{known_of, part_view}
use Rattle.name_types.specs.View.{shown, in_limit}
use Rattle.name_types.proofs.resolving.parameter_types.Given as goal

abbrev pub invariant-loop-formal : goal.invariant-loop-formal
invariant-loop-formal l = map shown l.types.items ≡ map (λ f. in_limit (formal_type (source_of l.sites) (known_of l.headers) l.place.class.0 (part_view l.place.part) f)) (map formal_view (take l.formal-index l.formals))
