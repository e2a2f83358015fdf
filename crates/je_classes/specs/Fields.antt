-- The field that a name means in a class (JLS 6.5, 8.3, 9.3).
use Rattle.std.specs.Prelude.{◌≡◌, ℕ, zero, suc, Bool, true, false, not, ◌&&◌, List, [], ◌∷◌, length, Option, Some, None, slice_get, if◌then◌else◌}
use Rattle.std.specs.List.{Contains}
use Rattle.je_base.specs.declared.span.NameId.{NameId}
use Rattle.je_core.specs.declared.types.ClassId.{ClassId}
use Rattle.je_core.specs.Core.{CoreField, CoreClass, CoreProgram}
use Rattle.je_classes.specs.Hierarchy.{class_at, supers_of, IsAcyclic}
use Rattle.je_classes.specs.Members.{Member, same_name, is_private_access, is_hidden_access, Found, nothing, one, several, IsFound, joined_over}

abbrev pub fields_in : Option CoreClass → List CoreField
fields_in None = []
fields_in (Some class) = class.fields

abbrev pub fields_of : CoreProgram → ClassId → List CoreField
fields_of program class = fields_in (class_at program class)

-- a hidden field is found by no name
abbrev pub is_field_named : NameId → CoreField → Bool
is_field_named name field = same_name field.name name && not (is_hidden_access field.access)

-- the first field of a name, by its place, counted from there on
abbrev pub place_from : ℕ → List CoreField → NameId → Option ℕ
place_from n [] name = None
place_from n (f ∷ fs) name = if is_field_named name f then Some n else place_from (suc n) fs name

abbrev pub declared_field : CoreProgram → NameId → ClassId → Option ℕ
declared_field program name class = place_from 0 (fields_of program class) name

abbrev pub is_inherited_field : Option CoreField → Bool
is_inherited_field None = false
is_inherited_field (Some field) = not (is_private_access field.access)

-- a private field is inherited by no class (JLS 8.2)
abbrev pub can_inherit_field : CoreProgram → Member → Bool
can_inherit_field program m = is_inherited_field (slice_get (fields_of program m.class) m.at)

-- A class has the field of that name that it declares, and else each that one of its supers has and that isn't private.
pub data HasField (program : CoreProgram) (name : NameId) : ClassId → Member → Type 0 where
  own : {c : ClassId} {at : ℕ} → declared_field program name c ≡ Some at → HasField program name c (record { class = c; at = at })
  inherited : {c d : ClassId} {m : Member} → declared_field program name c ≡ None → Contains (supers_of program c) d → HasField program name d m →
      can_inherit_field program m ≡ true → HasField program name c m

-- ---- the same, by a function

abbrev pub inheriting : CoreProgram → Found → Found
inheriting program nothing = nothing
inheriting program (one m) = if can_inherit_field program m then one m else nothing
inheriting program several = several

abbrev pub own_or_inherited : ClassId → Option ℕ → Found → Found
own_or_inherited c (Some at) above = one (record { class = c; at = at })
own_or_inherited c None above = above

-- among the classes so many steps upwards at most
abbrev pub field_within : CoreProgram → ℕ → NameId → ClassId → Found
field_within program zero name c = nothing
field_within program (suc n) name c = own_or_inherited c (declared_field program name c) (joined_over (λ d. inheriting program (field_within program n name d)) (supers_of program c))

unfoldable pub find_field : CoreProgram → ClassId → NameId → Found
find_field program c name = field_within program (length program.classes) name c

abbrev pub FieldsAreFound : Type 0
FieldsAreFound = (program : CoreProgram) (c : ClassId) (name : NameId) → IsAcyclic program →
    IsFound (HasField program name c) (find_field program c name)
