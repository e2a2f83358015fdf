-- What the code holds of makings, as contracts see it.
use Rattle.std.specs.Prelude.{List, map}
use Rattle.je_core.specs.declared.types.ClassId.{ClassId}
use Rattle.reported_exceptions.specs.declared.making.Making.{Making}

abbrev pub row : Making → List ClassId
row m = m.classes.items

abbrev pub rows : List Making → List (List ClassId)
rows ms = map row ms
