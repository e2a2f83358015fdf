-- How it is tested that a class has a method of another one, and the candidates among the methods of some classes.
use Rattle.std.specs.Prelude.{Bool, false, not, ◌&&◌, ◌||◌, List, [], ◌∷◌, ◌++◌, filter, length, if◌then◌else◌}
use Rattle.std.specs.List.{flat_map}
use Rattle.je_base.specs.declared.span.NameId.{NameId}
use Rattle.je_core.specs.declared.types.ClassId.{ClassId}
use Rattle.je_core.specs.declared.types.Ty.{Ty}
use Rattle.je_core.specs.Core.{CoreMethod, CoreProgram}
use Rattle.je_classes.specs.Hierarchy.{supers_of, same_class, object_class}
use Rattle.je_classes.specs.Members.{Member, same_name, method_of, methods_of, names_constructors}
use Rattle.je_classes.specs.Methods.{params_of, declared, is_interface, is_top_interface, is_private_in, accepts}
use Rattle.je_classes.specs.Subtypes.{same_types}
use Rattle.je_classes.specs.way.Reaching.{has}
use Rattle.class_lookup.specs.way.Walk.{reached_by}

-- whether one of some methods has the name and the parameters
abbrev pub any_named : NameId → List Ty → List CoreMethod → Bool
any_named name params [] = false
any_named name params (m ∷ ms) = (same_name m.name name && same_types m.params params) || any_named name params ms

-- what a class has of a super's methods, of which some are Object's
abbrev pub hands_on : CoreProgram → Bool → ClassId → ClassId → Bool
hands_on program of_object c d = is_interface program c || not (is_interface program d && of_object)

abbrev pub object_if : Bool → List ClassId
object_if b = if b then object_class ∷ [] else []

abbrev pub unless : Bool → List ClassId → List ClassId
unless b cs = if b then [] else cs

-- on from a class that declares no method of the name and the parameters
abbrev pub next_method : CoreProgram → NameId → List Ty → Bool → ClassId → List ClassId
next_method program name params of_object c =
    unless (any_named name params (methods_of program c)) (filter (hands_on program of_object c) (supers_of program c) ++ object_if (is_top_interface program c && of_object))

abbrev pub is_of_object : Member → Bool
is_of_object m = same_class m.class object_class

abbrev pub can_inherit_method : CoreProgram → NameId → Member → Bool
can_inherit_method program name m = not (names_constructors program name || is_private_in (method_of program m))

abbrev pub comes_to : CoreProgram → ClassId → NameId → Member → Bool
comes_to program own name m = has (reached_by (next_method program name (params_of program m) (is_of_object m)) (length program.classes) own) m.class

abbrev pub has_way : CoreProgram → ClassId → NameId → Member → Bool
has_way program own name m = same_class m.class own || (can_inherit_method program name m && comes_to program own name m)

abbrev pub is_candidate : CoreProgram → ClassId → NameId → List Ty → Member → Bool
is_candidate program own name types m = accepts program types m && has_way program own name m

abbrev pub candidates_of : CoreProgram → ClassId → NameId → List Ty → ClassId → List Member
candidates_of program own name types d = filter (is_candidate program own name types) (declared program name d)

abbrev pub candidates_in : CoreProgram → ClassId → NameId → List Ty → List ClassId → List Member
candidates_in program own name types ds = flat_map (candidates_of program own name types) ds
