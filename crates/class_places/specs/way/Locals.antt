-- The locals that are in scope where a class stands, and whether it captures them.
use Rattle.std.specs.Prelude.{ℕ, ◌&&◌, Bool, List, flat_map, map, nat_eq}
use Rattle.std.specs.List.{list_any}
use Rattle.name_typing.specs.Program.{Frame, LocalVariable}
use Rattle.class_typing.specs.Captures.{reversed}
use Rattle.class_typing.specs.Programs.{CapturedLocal}
use Rattle.class_places.specs.declared.kept.Kept.{Kept}

abbrev pub is_one : ℕ → CapturedLocal → Kept → Bool
is_one c l k = nat_eq c k.class.0 && (nat_eq l.owner k.owner.0 && nat_eq l.variable.number k.local)

abbrev pub is_kept : List Kept → ℕ → CapturedLocal → Bool
is_kept keys c l = list_any (is_one c l) keys

abbrev pub own : ℕ → LocalVariable → CapturedLocal
own owner v = record { owner = owner; variable = v }

abbrev pub locals_in : Frame → List CapturedLocal
locals_in f = map (own f.class) (reversed f.locals)

abbrev pub locals_from : List Frame → List CapturedLocal
locals_from fs = flat_map locals_in (reversed fs)
