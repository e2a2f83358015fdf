-- What contracts see of a part in memory with its span.
use Rattle.je_typing.specs.Arrays.{Part}
use Rattle.typed_nodes.specs.Seen.{seen}
use Rattle.operator_steps.specs.declared.part.Part.{Part as PartExpr}

abbrev pub part_seen : PartExpr → Part
part_seen p = record { value = seen p.value; span = p.span }
