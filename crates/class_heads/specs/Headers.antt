-- The headers of all classes, by what these declare, with what is implicit in them (JLS 4.4, 8.1.2, 8.1.4, 8.9, 9.1.3).
use Rattle.std.specs.Prelude.{ℕ, suc, Bool, false, not, ◌||◌, List, [], ◌∷◌, map, Option, Some, None, slice_get, nat_eq, if◌then◌else◌}
use Rattle.je_classes.specs.Hierarchy.{object_class}
use Rattle.je_scopes.specs.Headers.{is_interface_sort}
use Rattle.je_scopes.specs.SourceTypes.{SourceType, of_class}
use Rattle.source_types.specs.Heads.{ClassHead, object_type, or_object}
use Rattle.declarations.specs.Declarations.{DeclaredClass, DeclaredParameter}

abbrev pub bound_of : DeclaredParameter → SourceType
bound_of q = or_object q.bound

abbrev pub is_interface_in : Option DeclaredClass → Bool
is_interface_in None = false
is_interface_in (Some d) = is_interface_sort d.kind.sort

-- whether the first of some types is a class and no interface, as the one behind `extends` is
abbrev pub begins_with_class : List DeclaredClass → List SourceType → Bool
begins_with_class classes [] = false
begins_with_class classes (of_class d args n ∷ heads) = not (is_interface_in (slice_get classes d))
begins_with_class classes (t ∷ heads) = false

-- no superclass is to be added: it is an interface, Object, or names one
abbrev pub is_whole : List DeclaredClass → ℕ → DeclaredClass → Bool
is_whole classes c d = is_interface_sort d.kind.sort || nat_eq c object_class.0 || begins_with_class classes d.heads

-- Object is the superclass of a class that names none
abbrev pub supers_of : List DeclaredClass → ℕ → DeclaredClass → List SourceType
supers_of classes c d = if is_whole classes c d then d.heads else object_type ∷ d.heads

-- of the class of a number
abbrev pub head_of : List DeclaredClass → ℕ → DeclaredClass → ClassHead
head_of classes c d = record { kind = d.kind; bounds = map bound_of d.parameters; supers = supers_of classes c d }

-- of classes of which the first has this number
abbrev pub heads_from : List DeclaredClass → ℕ → List DeclaredClass → List ClassHead
heads_from classes c [] = []
heads_from classes c (d ∷ ds) = head_of classes c d ∷ heads_from classes (suc c) ds

unfoldable pub class_heads : List DeclaredClass → List ClassHead
class_heads classes = heads_from classes 0 classes
