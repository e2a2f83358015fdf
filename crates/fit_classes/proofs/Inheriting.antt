-- What is asked of a class for every method of a program is asked for those of the classes above.
use Rattle.std.proofs.Common.{◌≡◌, List, refl}
use Rattle.std.specs.Prelude.{not, ◌&&◌, is_some}
use Rattle.je_core.specs.declared.types.ClassId.{ClassId}
use Rattle.je_core.specs.Core.{CoreProgram}
use Rattle.je_classes.specs.Dispatch.{implemented, dispatched}
use Rattle.je_classes.specs.Members.{is_private}
use Rattle.je_fitting.specs.way.DecidingClasses.{is_instance_method, is_inherited_fit, is_unbridged, are_inherited_fit, implements_all}
use Rattle.je_fitting.specs.way.Quantifying.{implies}
use Rattle.class_lookup.specs.Above.{AreAbove}
use Rattle.fit_members.specs.way.Each.{each_of}
use Rattle.fit_members.proofs.Each.{each_above}
use Rattle.fit_classes.specs.way.Inheriting.{inherits, has_method}

pub inheriting : (p : CoreProgram) (class : ClassId) (ds : List ClassId) → AreAbove p class ds → each_of p (inherits p class) ds ≡ are_inherited_fit p class
inheriting p class ds a = each_above p class ds a (λ above at k. implies (is_instance_method p class above k && not (is_private k) && is_unbridged p class above at) (is_inherited_fit p class k (implemented p class k))) (inherits p class)
    (λ d n k e. rw e refl) (λ d n k e. rw e refl)

pub implementing : (p : CoreProgram) (class : ClassId) (ds : List ClassId) → AreAbove p class ds → each_of p (has_method p class) ds ≡ implements_all p class
implementing p class ds a = each_above p class ds a (λ above at k. implies (is_instance_method p class above k) (is_some (dispatched p class (record { class = above; at = at })))) (has_method p class)
    (λ d n k e. rw e refl) (λ d n k e. rw e refl)
