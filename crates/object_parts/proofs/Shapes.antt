-- What an object's shape says of its class and type.
use Rattle.std.proofs.Common.{◌≡◌, ℕ, List, Option, Some, None, refl}
use Rattle.std.specs.Prelude.{option_map, slice_get}
use Rattle.je_core.specs.declared.object.Obj.{Obj}
use Rattle.je_core.specs.declared.object.Obj.TheVariants.{Instance, Array, Text, Builder, Row, Cap}
use Rattle.je_heap.specs.Shape.{shape_of, shape_at}
use Rattle.je_java.specs.World.{class_in, class_of, type_in, type_of, extent_in, extent_of, count_in, count_of}
use Rattle.object_parts.specs.way.Shapes.{class_by, type_by, extent_by, count_by_shape}

class_seen_in : (o : Option Obj) → class_by (option_map shape_of o) ≡ class_in o
class_seen_in None = refl
class_seen_in (Some (Instance class slots)) = refl
class_seen_in (Some (Array element slots)) = refl
class_seen_in (Some (Text units)) = refl
class_seen_in (Some (Builder units)) = refl
class_seen_in (Some (Row class slots)) = refl
class_seen_in (Some (Cap device class)) = refl

pub class_seen : (objects : List Obj) (id : ℕ) → class_by (shape_at objects id) ≡ class_of objects id
class_seen objects id = class_seen_in (slice_get objects id)

type_seen_in : (o : Option Obj) → type_by (option_map shape_of o) ≡ type_in o
type_seen_in None = refl
type_seen_in (Some (Instance class slots)) = refl
type_seen_in (Some (Array element slots)) = refl
type_seen_in (Some (Text units)) = refl
type_seen_in (Some (Builder units)) = refl
type_seen_in (Some (Row class slots)) = refl
type_seen_in (Some (Cap device class)) = refl

pub type_seen : (objects : List Obj) (id : ℕ) → type_by (shape_at objects id) ≡ type_of objects id
type_seen objects id = type_seen_in (slice_get objects id)

extent_seen_in : (o : Option Obj) → extent_by (option_map shape_of o) ≡ extent_in o
extent_seen_in None = refl
extent_seen_in (Some (Instance class slots)) = refl
extent_seen_in (Some (Array element slots)) = refl
extent_seen_in (Some (Text units)) = refl
extent_seen_in (Some (Builder units)) = refl
extent_seen_in (Some (Row class slots)) = refl
extent_seen_in (Some (Cap device class)) = refl

pub extent_seen : (objects : List Obj) (id : ℕ) → extent_by (shape_at objects id) ≡ extent_of objects id
extent_seen objects id = extent_seen_in (slice_get objects id)

count_seen_in : (o : Option Obj) → count_by_shape (option_map shape_of o) ≡ count_in o
count_seen_in None = refl
count_seen_in (Some (Instance class slots)) = refl
count_seen_in (Some (Array element slots)) = refl
count_seen_in (Some (Text units)) = refl
count_seen_in (Some (Builder units)) = refl
count_seen_in (Some (Row class slots)) = refl
count_seen_in (Some (Cap device class)) = refl

pub count_seen : (objects : List Obj) (id : ℕ) → count_by_shape (shape_at objects id) ≡ count_of objects id
count_seen objects id = count_seen_in (slice_get objects id)
