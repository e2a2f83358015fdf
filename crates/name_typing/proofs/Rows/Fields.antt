-- Worked rows of the fields that a type has under a name.
use Rattle.std.proofs.Common.{◌≡◌, refl}
use Rattle.std.specs.Prelude.{[], ◌∷◌, Some, None, false}
use Rattle.je_core.specs.declared.program.Access.TheVariants as access
use Rattle.je_classes.specs.Hierarchy.{object_class, library_class}
use Rattle.je_classes.specs.Members.{nothing, one, several}
use Rattle.je_scopes.specs.SourceTypes.{of_class, of_variable, no_source_types}
use Rattle.source_types.specs.Supertypes.{supertypes}
use Rattle.name_typing.specs.Fields.{find_field, member, only_of_class, type_seen}
use Rattle.name_typing.proofs.Rows.Parts.{of, string, name, field, heads, classes}

declared_there : find_field heads classes (of 2 []) (name 0) ≡ one (member 2 0)
unfolding find_field heads classes object_class library_class
declared_there = refl

from_above : find_field heads classes (of 4 []) (name 0) ≡ one (member 2 0)
unfolding find_field heads classes object_class library_class
from_above = refl

private_there : find_field heads classes (of 2 []) (name 2) ≡ one (member 2 2)
unfolding find_field heads classes object_class library_class
private_there = refl

-- a private field isn't inherited
private_above : find_field heads classes (of 4 []) (name 2) ≡ nothing
unfolding find_field heads classes object_class library_class
private_above = refl

-- one of A, one of I
from_both : find_field heads classes (of 8 []) (name 0) ≡ several
unfolding find_field heads classes object_class library_class
from_both = refl

from_one : find_field heads classes (of 8 []) (name 1) ≡ one (member 2 1)
unfolding find_field heads classes object_class library_class
from_one = refl

-- of a type variable: what its bound has and isn't private
of_a_bound : find_field heads classes (of_variable 9 0 0) (name 0) ≡ one (member 2 0)
unfolding find_field heads classes object_class library_class
of_a_bound = refl

private_of_a_bound : find_field heads classes (of_variable 9 0 0) (name 2) ≡ nothing
unfolding find_field heads classes object_class library_class
private_of_a_bound = refl

of_an_array : find_field heads classes (of_class 2 no_source_types 1) (name 0) ≡ nothing
unfolding find_field heads classes object_class library_class
of_an_array = refl

-- ---- its type

arguments_put_in : type_seen heads (of 6 []) (member 5 0) (field 4 (of_variable 5 0 0) false false access.Package) ≡ string
unfolding supertypes heads object_class library_class
arguments_put_in = refl

variable_in_its_class : type_seen heads (of 5 (of_variable 5 0 0 ∷ [])) (member 5 0) (field 4 (of_variable 5 0 0) false false access.Package) ≡ of_variable 5 0 0
unfolding supertypes heads object_class library_class
variable_in_its_class = refl

list_twice : only_of_class 5 (of 5 (string ∷ []) ∷ of 6 [] ∷ of 5 (string ∷ []) ∷ []) ≡ Some (of 5 (string ∷ []))
list_twice = refl

two_lists : only_of_class 5 (of 5 (string ∷ []) ∷ of 6 [] ∷ of 5 (of 2 [] ∷ []) ∷ []) ≡ None
two_lists = refl
