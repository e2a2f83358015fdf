-- Of which class and type an object of a shape is.
use Rattle.std.specs.Prelude.{ℕ, Option, Some, None}
use Rattle.je_core.specs.declared.types.Base.{Base}
use Rattle.je_core.specs.declared.types.Base.TheVariants.{Class}
use Rattle.je_core.specs.declared.types.ClassId.{ClassId}
use Rattle.je_core.specs.declared.types.Ty.{Ty}
use Rattle.je_heap.specs.declared.shape.Shape.{Shape}
use Rattle.je_heap.specs.declared.shape.Tag.{Tag}
use Rattle.je_heap.specs.declared.shape.Tag.TheVariants.{Array, Row}
use Rattle.je_java.specs.declared.array.Extent.{Extent}
use Rattle.je_java.specs.World.{array_type}

abbrev pub class_in_base : Base → Option ClassId
class_in_base (Class class) = Some class
class_in_base _ = None

abbrev pub class_by_tag : Tag → Ty → Option ClassId
class_by_tag Array ty = None
class_by_tag _ ty = class_in_base ty.base

abbrev pub class_by : Option Shape → Option ClassId
class_by None = None
class_by (Some shape) = class_by_tag shape.tag shape.ty

abbrev pub type_by_tag : Tag → Ty → Option Ty
type_by_tag Array ty = array_type ty
type_by_tag _ ty = Some ty

abbrev pub type_by : Option Shape → Option Ty
type_by None = None
type_by (Some shape) = type_by_tag shape.tag shape.ty

abbrev pub extent_by_tag : Tag → Shape → Option Extent
extent_by_tag Array shape = Some (record { element = shape.ty; count = shape.len })
extent_by_tag _ shape = None

abbrev pub extent_by : Option Shape → Option Extent
extent_by None = None
extent_by (Some shape) = extent_by_tag shape.tag shape

abbrev pub count_by_tag : Tag → ℕ → Option ℕ
count_by_tag Row count = Some count
count_by_tag _ count = None

abbrev pub count_by_shape : Option Shape → Option ℕ
count_by_shape None = None
count_by_shape (Some shape) = count_by_tag shape.tag shape.len
