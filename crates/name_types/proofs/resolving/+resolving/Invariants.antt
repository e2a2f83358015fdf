use Rattle.std.proofs.Common.{◌≡◌, length, map, take}
use Rattle.je_ast.specs.Types.{type_view}
use Rattle.je_scopes.specs.SourceTypes.{source_type}
use Rattle.name_sites.specs.View.{source_of}
use Rattle.name_lookup.specs.View.{known_of, part_view}
use Rattle.name_types.specs.View.{shown, in_limit}
use Rattle.name_types.proofs.resolving.+resolving.Given as goal

abbrev pub invariant-types_named-loop-arg : goal.invariant-types_named-loop-arg
invariant-types_named-loop-arg l = record {
  types : map shown l.types.items ≡ map (λ a. in_limit (source_type (source_of l.sites) (known_of l.headers) l.place.class.0 (part_view l.place.part) (type_view a))) (take l.arg-index l.args);
  count : length l.types.items ≡ l.arg-index;
}
