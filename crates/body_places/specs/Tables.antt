-- What contracts see of what is known of fields by their classes.
use Rattle.std.specs.Prelude.{ℕ, ◌&&◌, List, [], ◌∷◌, length, Option, Some, None, nat_eq, slice_get, if◌then◌else◌}
use Rattle.std.specs.declared.vec.Vec.{Vec}
use Rattle.std.specs.declared.alloc.Global.{Global}
use Rattle.je_classes.specs.Members.{Member}
use Rattle.declarations.specs.Declarations.{DeclaredClass}
use Rattle.name_typing.specs.Fields.{fields_of}
use Rattle.name_typing.specs.Program.{Constant, text_constant, value_constant}
use Rattle.body_places.specs.declared.tables.Captured.{Captured}
use Rattle.body_places.specs.declared.tables.Constant.{Constant as Kept}
use Rattle.body_places.specs.declared.tables.Constant.TheVariants.{Value, Text}

abbrev pub constant_seen : Kept → Constant
constant_seen (Value v) = value_constant v
constant_seen (Text units) = text_constant units

abbrev pub values_in : Option (Vec (Option Kept) Global) → List (Option Kept)
values_in None = []
values_in (Some values) = values.items

abbrev pub constant_in : Option (Option Kept) → Option Constant
constant_in (Some (Some c)) = Some (constant_seen c)
constant_in _ = None

abbrev pub constant_at : List (Vec (Option Kept) Global) → Member → Option Constant
constant_at constants m = constant_in (slice_get (values_in (slice_get constants m.class.0)) m.at)

abbrev pub or_first : Option ℕ → ℕ
or_first None = 0
or_first (Some n) = n

abbrev pub outer_of : List ℕ → ℕ → ℕ
outer_of outer c = or_first (slice_get outer c)

-- the field for a local of a body of a class; past all fields where there is none
abbrev pub field_from : List Captured → ℕ → ℕ → ℕ → ℕ
field_from [] past owner local = past
field_from (f ∷ fs) past owner local =
    if nat_eq f.owner.0 owner && nat_eq f.local local then f.field else field_from fs past owner local

abbrev pub fields_in : Option (Vec Captured Global) → List Captured
fields_in None = []
fields_in (Some fields) = fields.items

abbrev pub captured_in : List (Vec Captured Global) → List DeclaredClass → ℕ → ℕ → ℕ → ℕ
captured_in captured classes c owner local =
    field_from (fields_in (slice_get captured c)) (length (fields_of classes c)) owner local
