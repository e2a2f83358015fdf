-- Members of classes by their numbers, and how many a set of them has.
use Rattle.std.specs.Prelude.{◌≡◌, ℕ, Bool, true, false, ◌&&◌, List, [], ◌∷◌, Option, Some, None, filter, slice_get, nat_eq, unwrap_or, codes, if◌then◌else◌}
use Rattle.std.specs.List.{position}
use Rattle.std.specs.Str.{bytes_eq}
use Rattle.je_base.specs.declared.span.NameId.{NameId}
use Rattle.je_core.specs.declared.program.Access.{Access}
use Rattle.je_core.specs.declared.program.Access.TheVariants as access
use Rattle.je_core.specs.declared.types.ClassId.{ClassId}
use Rattle.je_core.specs.Core.{CoreMethod, CoreClass, CoreProgram}
use Rattle.je_table.specs.Library.{library, class_row}
use Rattle.je_table.specs.Library as table
use Rattle.je_classes.specs.Hierarchy.{class_at, same_class, object_class}

-- a field or a method by its class and its place there
pub record Member : Type 0 where
  pub class : ClassId
  pub at : ℕ

abbrev pub same_member : Member → Member → Bool
same_member m n = same_class m.class n.class && nat_eq m.at n.at

abbrev pub same_name : NameId → NameId → Bool
same_name x y = nat_eq x.0 y.0

abbrev pub is_private_access : Access → Bool
is_private_access access.Private = true
is_private_access _ = false

abbrev pub is_hidden_access : Access → Bool
is_hidden_access access.Hidden = true
is_hidden_access _ = false

-- ---- methods

abbrev pub methods_in : Option CoreClass → List CoreMethod
methods_in None = []
methods_in (Some class) = class.methods

abbrev pub methods_of : CoreProgram → ClassId → List CoreMethod
methods_of program class = methods_in (class_at program class)

abbrev pub method_of : CoreProgram → Member → Option CoreMethod
method_of program m = slice_get (methods_of program m.class) m.at

abbrev pub is_private : CoreMethod → Bool
is_private m = is_private_access m.flags.access

abbrev pub is_object_row : table.Member → Bool
is_object_row m = bytes_eq (class_row m.class).name (codes "java.lang.Object")

-- the place of Object's constructor among its methods, which stand in the order of their rows
unfoldable pub constructor_place : ℕ
constructor_place = unwrap_or (position (λ m. bytes_eq m.name (codes "new")) (filter is_object_row library)) 0

abbrev pub is_name_of : NameId → Option CoreMethod → Bool
is_name_of name None = false
is_name_of name (Some m) = same_name m.name name

-- whether it is the name under which constructors stand
abbrev pub names_constructors : CoreProgram → NameId → Bool
names_constructors program name = is_name_of name (method_of program (record { class = object_class; at = constructor_place }))

-- ---- how many members a set has

pub data Found : Type 0 where
  nothing : Found
  one : Member → Found
  several : Found

pub data IsFound (P : Member → Type 0) : Found → Type 0 where
  is_nothing : ((m : Member) → ¬ P m) → IsFound P nothing
  is_one : {m : Member} → P m → ((n : Member) → P n → n ≡ m) → IsFound P (one m)
  are_several : {m n : Member} → P m → P n → ¬ m ≡ n → IsFound P several

-- the union of two sets, by what they have
abbrev pub joined : Found → Found → Found
joined nothing f = f
joined (one m) nothing = one m
joined (one m) (one n) = if same_member m n then one m else several
joined (one m) several = several
joined several f = several

-- what the members of a list are, each maybe there more than once
abbrev pub found_in : List Member → Found
found_in [] = nothing
found_in (m ∷ ms) = joined (one m) (found_in ms)

-- the union of what each class has
abbrev pub joined_over : (ClassId → Found) → List ClassId → Found
joined_over f [] = nothing
joined_over f (c ∷ cs) = joined (f c) (joined_over f cs)

-- an element of a list
pub data In {A : Type 0} : List A → A → Type 0 where
  first : {x : A} {xs : List A} → In (x ∷ xs) x
  further : {x y : A} {xs : List A} → In xs y → In (x ∷ xs) y
