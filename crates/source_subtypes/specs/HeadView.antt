-- What contracts see of a header.
use Rattle.std.specs.Prelude.{map}
use Rattle.name_types.specs.View.{shown}
use Rattle.source_types.specs.Heads.{ClassHead}
use Rattle.source_subtypes.specs.declared.heads.ClassHead.{ClassHead as Head}

abbrev pub head_shown : Head → ClassHead
head_shown h = record { kind = h.kind; bounds = map shown h.bounds.items; supers = map shown h.supers.items }
