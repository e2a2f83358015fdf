-- Which fields of a class have no value.
use Rattle.std.specs.Prelude.{Bool, true, false, List, map}
use Rattle.std.specs.declared.vec.Vec.{Vec}
use Rattle.std.specs.declared.alloc.Global.{Global}
use Rattle.class_typing.specs.ConstantFields as words
use Rattle.field_values.specs.declared.values.FieldValue.{FieldValue}
use Rattle.field_values.specs.Values.{value_seen}

abbrev pub has_none : words.FieldValue → Bool
has_none words.no_value = true
has_none v = false

abbrev pub flags : Vec Bool Global → List Bool
flags blank = blank.items

abbrev pub flags_due : Vec FieldValue Global → List Bool
flags_due values = map has_none (map value_seen values.items)
