-- The fields that a type has under a name (JLS 4.4, 6.5.6, 8.2, 8.3, 9.3, 10.7), and the type of one of them.
use Rattle.std.specs.Prelude.{◌≡◌, ℕ, zero, suc, Bool, true, false, not, ◌&&◌, ◌||◌, List, [], ◌∷◌, Option, Some, None, slice_get, nat_eq, if◌then◌else◌}
use Rattle.std.specs.List.{Contains, find, list_any}
use Rattle.je_base.specs.declared.span.NameId.{NameId}
use Rattle.je_classes.specs.Members.{Member, is_private_access, Found, nothing, one, several, IsFound, joined}
use Rattle.je_scopes.specs.Headers.{same_name, top_of}
use Rattle.je_scopes.specs.SourceTypes.{SourceType, of_class, same_source_type}
use Rattle.source_types.specs.Erasure.{class_numbered}
use Rattle.source_types.specs.Heads.{ClassHead}
use Rattle.source_types.specs.Laws.{IsAcyclic}
use Rattle.source_types.specs.Substitution.{substituted}
use Rattle.source_types.specs.Supertypes.{directly_above, most_steps, supertypes}
use Rattle.declarations.specs.Declarations.{DeclaredClass, DeclaredField}
use Rattle.je_typing.specs.Castable.{is_of_class}
use Rattle.name_typing.specs.Program.{Program}

-- ---- of a class

abbrev pub fields_in : Option DeclaredClass → List DeclaredField
fields_in None = []
fields_in (Some d) = d.fields

abbrev pub fields_of : List DeclaredClass → ℕ → List DeclaredField
fields_of classes c = fields_in (slice_get classes c)

abbrev pub member : ℕ → ℕ → Member
member c at = record { class = class_numbered c; at = at }

abbrev pub field_at : List DeclaredClass → Member → Option DeclaredField
field_at classes m = slice_get (fields_of classes m.class.0) m.at

-- the first field of a name, counted from there on
abbrev pub field_from : ℕ → ℕ → List DeclaredField → NameId → Option Member
field_from c at [] x = None
field_from c at (f ∷ fs) x = if same_name f.name.name x then Some (member c at) else field_from c (suc at) fs x

-- the field that the class of a type declares; an array and a type variable have no class
abbrev pub own_field : List DeclaredClass → NameId → SourceType → Option Member
own_field classes x (of_class c args zero) = field_from c 0 (fields_of classes c) x
own_field classes x t = None

-- ---- of a type

abbrev pub is_public_in : Option DeclaredField → Bool
is_public_in None = false
is_public_in (Some f) = not (is_private_access f.access)

-- a private field is inherited by no class (JLS 8.2)
abbrev pub can_inherit : List DeclaredClass → Member → Bool
can_inherit classes m = is_public_in (field_at classes m)

-- A type has the field of that name that its class declares, and else each that a type directly above it has and that isn't
-- private. So a type variable has those of its bound (JLS 4.4).
pub data HasField (heads : List ClassHead) (classes : List DeclaredClass) (x : NameId) : SourceType → Member → Type 0 where
  own : {t : SourceType} {m : Member} → own_field classes x t ≡ Some m → HasField heads classes x t m
  inherited : {t u : SourceType} {m : Member} → own_field classes x t ≡ None → Contains (directly_above heads t) u → HasField heads classes x u m →
      can_inherit classes m ≡ true → HasField heads classes x t m

-- ---- the same, by a function

abbrev pub inheriting : List DeclaredClass → Found → Found
inheriting classes nothing = nothing
inheriting classes (one m) = if can_inherit classes m then one m else nothing
inheriting classes several = several

abbrev pub own_or_inherited : Option Member → Found → Found
own_or_inherited (Some m) above = one m
own_or_inherited None above = above

-- the union of what each type has
abbrev pub joined_over : (SourceType → Found) → List SourceType → Found
joined_over f [] = nothing
joined_over f (t ∷ ts) = joined (f t) (joined_over f ts)

-- among the types so many steps upwards at most
abbrev pub field_within : List ClassHead → List DeclaredClass → ℕ → NameId → SourceType → Found
field_within heads classes zero x t = nothing
field_within heads classes (suc n) x t =
    own_or_inherited (own_field classes x t) (joined_over (λ u. inheriting classes (field_within heads classes n x u)) (directly_above heads t))

unfoldable pub find_field : List ClassHead → List DeclaredClass → SourceType → NameId → Found
find_field heads classes t x = field_within heads classes (suc (most_steps heads)) x t

abbrev pub FieldsAreFound : Type 0
FieldsAreFound = (heads : List ClassHead) (classes : List DeclaredClass) (t : SourceType) (x : NameId) → IsAcyclic heads →
    IsFound (HasField heads classes x t) (find_field heads classes t x)

-- ---- one field, seen from a type

abbrev pub put_in : Option SourceType → SourceType → SourceType
put_in (Some (of_class c args n)) t = substituted c args t
put_in _ t = t

-- the type of a class among those above a type; none where the class has two lists of type arguments there, which no
-- header may say (JLS 8.1.5)
abbrev pub is_other_list : ℕ → SourceType → SourceType → Bool
is_other_list c t u = is_of_class c u && not (same_source_type t u)

abbrev pub if_one_list : ℕ → List SourceType → Option SourceType → Option SourceType
if_one_list c types None = None
if_one_list c types (Some t) = if list_any (is_other_list c t) types then None else Some t

abbrev pub only_of_class : ℕ → List SourceType → Option SourceType
only_of_class c types = if_one_list c types (find (is_of_class c) types)

-- the type arguments that a class has above a type are put in for its variables (JLS 4.5.2)
abbrev pub type_seen : List ClassHead → SourceType → Member → DeclaredField → SourceType
type_seen heads t m f = put_in (only_of_class m.class.0 (supertypes heads t)) f.ty

-- a private member may be named in the top-level class that it stands in alone (JLS 6.6.1)
abbrev pub is_accessible : Program → ℕ → Member → DeclaredField → Bool
is_accessible p c m f = not (is_private_access f.access) || nat_eq (top_of p.source.sites c) (top_of p.source.sites m.class.0)
