-- What contracts see of what an expression is for.
use Rattle.body_typing.specs.Expressions as words
use Rattle.name_types.specs.View.{shown}
use Rattle.type_expr.specs.declared.purpose.Purpose.{Purpose}
use Rattle.type_expr.specs.declared.purpose.Purpose.TheVariants.{Read, Assigned, Updated, Initial}

abbrev pub purpose_seen : Purpose → words.Purpose
purpose_seen Read = words.read
purpose_seen Assigned = words.assigned
purpose_seen Updated = words.updated
purpose_seen (Initial t) = words.initial (shown t.now)
