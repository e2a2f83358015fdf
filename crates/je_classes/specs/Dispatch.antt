-- The method that an object's class has for a method of a class (JLS 8.4.8, 15.12.4.4).
use Rattle.std.specs.Prelude.{ℕ, zero, suc, true, false, List, [], ◌∷◌, length, Bool, not, ◌&&◌, ◌||◌, Option, Some, None, if◌then◌else◌}
use Rattle.je_core.specs.declared.program.Bridge.{Bridge}
use Rattle.je_core.specs.declared.program.Sort.{Sort}
use Rattle.je_core.specs.declared.program.Sort.TheVariants as sort
use Rattle.je_core.specs.declared.types.ClassId.{ClassId}
use Rattle.je_core.specs.Core.{CoreMethod, CoreClass, CoreProgram}
use Rattle.je_classes.specs.Hierarchy.{class_at, object_class}
use Rattle.je_classes.specs.Members.{Member, same_member, same_name, is_private, method_of}
use Rattle.je_classes.specs.Subtypes.{same_types}

-- of one name and the same erased parameter types (JLS 8.4.2)
abbrev pub same_signature : CoreMethod → CoreMethod → Bool
same_signature m n = same_name m.name n.name && same_types m.params n.params

-- a method that can override one of its signature
abbrev pub is_own : CoreMethod → Bool
is_own m = not (m.flags.is_static || is_private m)

-- the first of a class's methods that overrides one, and its place, counted from there on
abbrev pub own_from : CoreMethod → ℕ → List CoreMethod → Option (ℕ × CoreMethod)
own_from m n [] = None
own_from m n (k ∷ ks) = if is_own k && same_signature k m then Some (n, k) else own_from m (suc n) ks

-- an abstract method is no implementation
abbrev pub unless_abstract : CoreMethod → Member → Option Member
unless_abstract m at = if m.flags.is_abstract then None else Some at

-- one that is abstract again hides what the classes above have (JLS 8.1.1.1, 8.4.3.1)
abbrev pub placed : ClassId → Option (ℕ × CoreMethod) → Option Member → Option Member
placed class (Some own) higher = unless_abstract own.1 (record { class = class; at = own.0 })
placed class None higher = higher

abbrev pub is_interface_class : Sort → Bool
is_interface_class sort.Interface = true
is_interface_class _ = false

-- an interface has Object's methods (JLS 9.2)
abbrev pub next_above : CoreClass → Option ClassId
next_above c = if is_interface_class c.kind.sort then Some object_class else c.superclass

abbrev pub own_or_above : (Option ClassId → Option Member) → CoreMethod → ClassId → Option CoreClass → Option Member
own_or_above above m class None = None
own_or_above above m class (Some c) = placed class (own_from m 0 c.methods) (above (next_above c))

-- the class's own one, else that of the nearest class above it, among so many classes at most
abbrev pub implemented_upwards : CoreProgram → ℕ → CoreMethod → Option ClassId → Option Member
implemented_upwards program n m None = None
implemented_upwards program zero m (Some class) = None
implemented_upwards program (suc n) m (Some class) = own_or_above (implemented_upwards program n m) m class (class_at program class)

-- the method that implements one in a class, by name and parameter types
unfoldable pub implemented : CoreProgram → ClassId → CoreMethod → Option Member
implemented program class m = implemented_upwards program (length program.classes) m (Some class)

-- the method that the class's bridges name for one of other parameter types
abbrev pub bridged_in : List Bridge → Member → Option Member
bridged_in [] m = None
bridged_in (b ∷ bs) m = if same_member (record { class = b.method.0; at = b.method.1 }) m then Some (record { class = b.by.0; at = b.by.1 }) else bridged_in bs m

abbrev pub bridged : Option CoreClass → Member → Option Member
bridged None m = None
bridged (Some class) m = bridged_in class.bridges m

-- a private method is no object's but its class's (JLS 8.4.8)
abbrev pub implemented_or_private : CoreProgram → ClassId → Member → Option CoreMethod → Option Member
implemented_or_private program class at None = None
implemented_or_private program class at (Some m) = if is_private m then unless_abstract m at else implemented program class m

abbrev pub bridged_or : Option Member → Option Member → Option Member
bridged_or (Some by) otherwise = Some by
bridged_or None otherwise = otherwise

-- the method that an object of this class has for a method, if it has one
unfoldable pub dispatched : CoreProgram → ClassId → Member → Option Member
dispatched program own m = bridged_or (bridged (class_at program own) m) (implemented_or_private program own m (method_of program m))
