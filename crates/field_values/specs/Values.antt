-- What contracts see of the values that are written of fields, and of counts for each class.
use Rattle.std.specs.Prelude.{ℕ, List, [], map, Option, Some, None, slice_get, unwrap_or}
use Rattle.std.specs.declared.vec.Vec.{Vec}
use Rattle.std.specs.declared.alloc.Global.{Global}
use Rattle.je_ast.specs.View.{view}
use Rattle.je_classes.specs.Members.{Member}
use Rattle.class_typing.specs.ConstantFields as words
use Rattle.field_values.specs.declared.values.FieldValue.{FieldValue}
use Rattle.field_values.specs.declared.values.FieldValue.TheVariants.{Unwritten, NoValue, By}

abbrev pub value_seen : FieldValue → words.FieldValue
value_seen Unwritten = words.unwritten
value_seen NoValue = words.no_value
value_seen (By e) = words.by (view e.now)

abbrev pub values_in : Option (Vec FieldValue Global) → List words.FieldValue
values_in None = []
values_in (Some values) = map value_seen values.items

-- of a field, by the values of each class; past the last there is nothing written
abbrev pub value_at : List (Vec FieldValue Global) → Member → words.FieldValue
value_at values m = unwrap_or (slice_get (values_in (slice_get values m.class.0)) m.at) words.unwritten

-- of a class; none past the last
abbrev pub count_at : List ℕ → ℕ → ℕ
count_at counts c = unwrap_or (slice_get counts c) 0
