-- Objects whose slots stand in one row, one object's behind those of the one before, and whose units stand in one list of
-- texts, in the order in which the objects were made.
use Rattle.std.specs.Prelude.{◌≡◌, ℕ, ◌+◌, Bool, true, false, if◌then◌else◌, List, [], take, drop, ◌∷◌, slice_index_or}
use Rattle.je_core.specs.declared.object.Obj.{Obj}
use Rattle.je_core.specs.declared.object.Obj.TheVariants as obj
use Rattle.je_core.specs.declared.types.Ty.{Ty}
use Rattle.je_core.specs.declared.value.Value.{Value}
use Rattle.je_classes.specs.Subtypes.{class_type}
use Rattle.je_java.specs.LibraryClasses.{string_class, builder_class}
use Rattle.je_heap.specs.declared.entry.Entry.{Entry}
use Rattle.je_heap.specs.declared.entry.Kind.{Kind}
use Rattle.je_heap.specs.declared.entry.Kind.TheVariants as kind
use Rattle.je_heap.specs.declared.shape.Shape.{Shape}
use Rattle.je_heap.specs.declared.shape.Tag.{Tag}
use Rattle.je_heap.specs.declared.shape.Tag.TheVariants as tag

-- ---- kinds

abbrev pub has_units : Kind → Bool
has_units kind.Text = true
has_units kind.Builder = true
has_units _ = false

abbrev pub is_of_builders : Kind → Bool
is_of_builders kind.Builder = true
is_of_builders _ = false

-- how many texts an object has
abbrev pub text_count : Kind → ℕ
text_count k = if has_units k then 1 else 0

-- An object of a kind may have so many slots: a text, a builder and a capability have none.
abbrev pub MayHave : Kind → ℕ → Type 0
MayHave kind.Text count = count ≡ 0
MayHave kind.Builder count = count ≡ 0
MayHave (kind.Cap device class) count = count ≡ 0
MayHave _ count = Unit {0}

abbrev pub object_of : Kind → List Value → List ℕ → Obj
object_of (kind.Instance class) slots units = obj.Instance class slots
object_of (kind.Array element) slots units = obj.Array element slots
object_of kind.Text slots units = obj.Text units
object_of kind.Builder slots units = obj.Builder units
object_of (kind.Row class) slots units = obj.Row class slots
object_of (kind.Cap device class) slots units = obj.Cap device class

abbrev pub tag_of : Kind → Tag
tag_of (kind.Instance class) = tag.Instance
tag_of (kind.Array element) = tag.Array
tag_of kind.Text = tag.Text
tag_of kind.Builder = tag.Builder
tag_of (kind.Row class) = tag.Row
tag_of (kind.Cap device class) = tag.Cap

abbrev pub type_by : Kind → Ty
type_by (kind.Instance class) = class_type class
type_by (kind.Array element) = element
type_by kind.Text = class_type string_class
type_by kind.Builder = class_type builder_class
type_by (kind.Row class) = class_type class
type_by (kind.Cap device class) = class_type class

abbrev pub device_of : Kind → ℕ
device_of (kind.Cap device class) = device
device_of _ = 0

abbrev pub shape_by : Kind → ℕ → Shape
shape_by k len = record { tag = tag_of k; ty = type_by k; device = device_of k; len = len }

-- ---- entries

-- the object of an entry, whose slots stand in a row, and whose units among texts
abbrev pub object_in : List Value → List (List ℕ) → Entry → Obj
object_in row texts e = object_of e.kind (take e.len (drop e.first row)) (slice_index_or texts e.text [])

-- From one place to another each entry's slots begin where those before end.
abbrev pub AreLaid : ℕ → List Entry → ℕ → Type 0
AreLaid from [] end = from ≡ end
AreLaid from (e ∷ es) end = (e.first ≡ from) × MayHave e.kind e.len × AreLaid (from + e.len) es end

-- From one number to another each entry has as many texts before it as it says.
abbrev pub AreNumbered : ℕ → List Entry → ℕ → Type 0
AreNumbered from [] end = from ≡ end
AreNumbered from (e ∷ es) end = (e.text ≡ from) × AreNumbered (from + text_count e.kind) es end
