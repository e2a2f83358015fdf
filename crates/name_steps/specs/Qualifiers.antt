-- What contracts see of what stands before a point.
use Rattle.name_typing.specs.Qualified as words
use Rattle.name_typing.specs.Qualified.{a_beginning, a_class, a_value}
use Rattle.typed_nodes.specs.Seen.{seen}
use Rattle.name_steps.specs.declared.qualifier.Qualifier.{Qualifier}
use Rattle.name_steps.specs.declared.qualifier.Qualifier.TheVariants.{Value, Class, Beginning}

abbrev pub qualifier_seen : Qualifier → words.Qualifier
qualifier_seen (Value t) = a_value (seen t)
qualifier_seen (Class c) = a_class c.0
qualifier_seen (Beginning first further) = a_beginning first further.items
