-- What is asked of a class for one method that stands above it.
use Rattle.std.specs.Prelude.{ℕ, Bool, not, ◌&&◌, is_some}
use Rattle.je_core.specs.declared.types.ClassId.{ClassId}
use Rattle.je_core.specs.Core.{CoreMethod, CoreProgram}
use Rattle.je_classes.specs.Dispatch.{implemented, dispatched}
use Rattle.je_classes.specs.Members.{is_private}
use Rattle.je_fitting.specs.Expressions.{is_constructor}
use Rattle.je_fitting.specs.way.DecidingClasses.{is_inherited_fit, is_unbridged}
use Rattle.je_fitting.specs.way.Quantifying.{implies}

-- a method of objects
abbrev pub is_of_objects : CoreProgram → CoreMethod → Bool
is_of_objects program k = not k.flags.is_static && not (is_constructor program k)

-- so, not a private one, and no bridge of the class runs another one for it
abbrev pub is_asked : CoreProgram → ClassId → ClassId → ℕ → CoreMethod → Bool
is_asked program class above at k = is_of_objects program k && not (is_private k) && is_unbridged program class above at

abbrev pub inherits : CoreProgram → ClassId → ClassId → ℕ → CoreMethod → Bool
inherits program class above at k = implies (is_asked program class above at k) (is_inherited_fit program class k (implemented program class k))

abbrev pub has_method : CoreProgram → ClassId → ClassId → ℕ → CoreMethod → Bool
has_method program class above at k = implies (is_of_objects program k) (is_some (dispatched program class (record { class = above; at = at })))
