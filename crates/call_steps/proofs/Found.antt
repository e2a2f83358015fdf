-- What type arguments are put into is found as before.
use Rattle.std.proofs.Common.{◌≡◌, List, [], ◌∷◌, map, refl}
use Rattle.overriding.specs.Methods.{Method}
use Rattle.class_methods.specs.way.Parts.{Parts, put_arguments}
use Rattle.call_typing.specs.Calls.{has_some}
use Rattle.call_typing.specs.Methods.{candidate_of}
use Rattle.call_steps.specs.way.Found.{any}

pub any_put : (p : Parts) (ms : List Method) → any (map candidate_of (map (put_arguments p) ms)) ≡ has_some ms
any_put p [] = refl
any_put p (m ∷ ms) = refl
