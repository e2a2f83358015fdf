use Rattle.std.proofs.Common.{◌≡◌, drop}
use Rattle.je_ast.specs.Types.{type_views_of}
use Rattle.name_types.specs.View.{all_shown}
use Rattle.source_subtypes.specs.View.{heads_of}
use Rattle.header_typing.specs.WrittenTypes.{bounded_from}
use Rattle.written_types.proofs.arguments.bounded_arguments.Given as goal

abbrev pub invariant-loop-at : goal.invariant-loop-at
invariant-loop-at l =
    bounded_from (heads_of l.heads) l.arguments.class.0 (all_shown l.arguments.types.now) 0 (type_views_of l.written)
    ≡ bounded_from (heads_of l.heads) l.arguments.class.0 (all_shown l.arguments.types.now) l.at (type_views_of (drop l.at l.written))
