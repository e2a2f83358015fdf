-- A builder's units, which grow and shrink at their end.
use Rattle.std.specs.Prelude.{ℕ, List, [], ◌++◌, take, Option, Some, None, slice_get, slice_set}
use Rattle.je_core.specs.declared.object.Obj.{Obj}
use Rattle.je_core.specs.declared.object.Obj.TheVariants.{Text, Builder}
use Rattle.je_java.specs.World.{with_units}

-- the units of an object; none of one that is no text and no builder
abbrev pub units_within : Obj → List ℕ
units_within (Text units) = units
units_within (Builder units) = units
units_within _ = []

abbrev pub lengthened_in : List Obj → ℕ → List ℕ → Option Obj → List Obj
lengthened_in objects id more None = objects
lengthened_in objects id more (Some object) = slice_set objects id (with_units object (units_within object ++ more))

-- the objects after units were put behind those of a builder
abbrev pub lengthened : List Obj → ℕ → List ℕ → List Obj
lengthened objects id more = lengthened_in objects id more (slice_get objects id)

abbrev pub shortened_in : List Obj → ℕ → ℕ → Option Obj → List Obj
shortened_in objects id count None = objects
shortened_in objects id count (Some object) = slice_set objects id (with_units object (take count (units_within object)))

-- the objects after a builder was left so many of its units, from the front
abbrev pub shortened : List Obj → ℕ → ℕ → List Obj
shortened objects id count = shortened_in objects id count (slice_get objects id)
