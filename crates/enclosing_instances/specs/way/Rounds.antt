-- How many classes outwards the innermost body stands that has the instance which objects of a class need round them.
use Rattle.std.specs.Prelude.{ℕ, suc, Bool, false, List, [], ◌∷◌, Option, Some, None, if◌then◌else◌}
use Rattle.name_typing.specs.Instances.{has_instance}
use Rattle.name_typing.specs.Program.{Frame, Program}
use Rattle.call_typing.specs.Creations.{is_round}

abbrev pub first_round : Program → ℕ → ℕ → List Frame → Option ℕ
first_round p c n [] = None
first_round p c n (f ∷ fs) = if is_round p c f then Some n else first_round p c (suc n) fs

abbrev pub has_instance_if : List Frame → Option ℕ → Bool
has_instance_if all None = false
has_instance_if all (Some n) = has_instance n all
