-- How the classes above one are reached, each once, in the order in which they are come by.
use Rattle.std.specs.Prelude.{ℕ, zero, suc, List, [], ◌∷◌, ◌++◌, length, slice_get, Option, Some, None, Bool, true, false, not, ◌&&◌, nat_lt, if◌then◌else◌}
use Rattle.std.specs.List.{list_any}
use Rattle.je_core.specs.declared.types.ClassId.{ClassId}
use Rattle.je_core.specs.Core.{CoreProgram}
use Rattle.je_classes.specs.Hierarchy.{supers_of, same_class}

-- whether a class is one of a list
abbrev pub has : List ClassId → ClassId → Bool
has classes c = list_any (same_class c) classes

-- one more class, unless it is there, or there is none of that number among so many
abbrev pub with_reached : ℕ → List ClassId → ClassId → List ClassId
with_reached count reached c = if nat_lt c.0 count && not (has reached c) then reached ++ c ∷ [] else reached

abbrev pub with_all : ℕ → List ClassId → List ClassId → List ClassId
with_all count reached [] = reached
with_all count reached (c ∷ cs) = with_all count (with_reached count reached c) cs

abbrev pub found_at : (List ClassId → Bool) → CoreProgram → ClassId → List ClassId → Option ClassId → Bool
found_at further program d reached None = false
found_at further program d reached (Some c) =
    if has (supers_of program c) d then true else further (with_all (length program.classes) reached (supers_of program c))

-- whether a class is a super of one of those that are reached, from a place on, or of one that is reached from there
unfoldable pub found_from : CoreProgram → ClassId → ℕ → ℕ → List ClassId → Bool
found_from program d zero at reached = false
found_from program d (suc left) at reached = found_at (found_from program d left (suc at)) program d reached (slice_get reached at)

abbrev pub found : CoreProgram → ClassId → ClassId → Bool
found program own d = found_from program d (length program.classes) 0 (with_reached (length program.classes) [] own)
