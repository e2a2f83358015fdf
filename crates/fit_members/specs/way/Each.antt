-- Tests of the methods of some classes, each by its class and its place there.
use Rattle.std.specs.Prelude.{ℕ, suc, Bool, true, not, ◌&&◌, List, [], ◌∷◌}
use Rattle.std.specs.List.{list_all}
use Rattle.je_core.specs.declared.types.ClassId.{ClassId}
use Rattle.je_core.specs.Core.{CoreMethod, CoreProgram}
use Rattle.je_classes.specs.Dispatch.{same_signature}
use Rattle.je_classes.specs.Members.{is_private, methods_of}
use Rattle.je_fitting.specs.Expressions.{is_constructor}
use Rattle.je_fitting.specs.way.DecidingMembers.{stands_for}
use Rattle.je_fitting.specs.way.Quantifying.{implies}

-- of methods from a place on
abbrev pub tested_from : (ℕ → CoreMethod → Bool) → ℕ → List CoreMethod → Bool
tested_from test n [] = true
tested_from test n (k ∷ ks) = test n k && tested_from test (suc n) ks

-- of the methods of each of some classes
abbrev pub each_of : CoreProgram → (ClassId → ℕ → CoreMethod → Bool) → List ClassId → Bool
each_of program test classes = list_all (λ d. tested_from (test d) 0 (methods_of program d)) classes

-- a method of the one's signature that it overrides, where it stands above
abbrev pub overrides : CoreProgram → CoreMethod → CoreMethod → Bool
overrides program m k = not (m.flags.is_static && k.flags.is_static) && same_signature m k && not (is_private k) && not (is_constructor program k)

abbrev pub override_fits : CoreProgram → CoreMethod → CoreMethod → Bool
override_fits program m k = implies (overrides program m k) (stands_for program m k)
