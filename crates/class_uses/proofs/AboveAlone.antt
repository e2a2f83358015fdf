-- A test of each method of a program that asks for a class above one is a test of the methods of the classes above.
use Rattle.std.proofs.Common.{◌≡◌, ℕ, suc, List, [], ◌∷◌, Some, refl, sym, ap, ◌∙◌}
use Rattle.std.specs.Prelude.{true, false, ◌&&◌}
use Rattle.je_core.specs.declared.types.ClassId.{ClassId}
use Rattle.je_core.specs.Core.{CoreMethod, CoreClass, CoreProgram}
use Rattle.je_classes.specs.Hierarchy.{class_at, is_below}
use Rattle.je_classes.specs.Dispatch.{dispatched}
use Rattle.je_fitting.specs.Classes.{is_interface}
use Rattle.je_fitting.specs.Expressions.{is_interface_sort}
use Rattle.je_fitting.specs.way.Quantifying.{implies}
use Rattle.class_lookup.specs.Above.{AreAbove}
use Rattle.fit_members.specs.way.Each.{tested_from, each_of}
use Rattle.fit_members.proofs.Each.{each_above}
use Rattle.taming_db.specs.Rows.{Row}
use Rattle.class_uses.specs.Implemented.{may_use_if, implements_one, implements_all}

pub above_alone : (p : CoreProgram) (rows : List Row) (class : ClassId) (ds : List ClassId) → AreAbove p class ds →
    each_of p (λ d n k. implements_one p rows class d n) ds ≡ implements_all p rows class
above_alone p rows class ds a = each_above p class ds a (λ d n k. implies (is_below p class d) (implements_one p rows class d n)) (λ d n k. implements_one p rows class d n)
    (λ d n k e. rw e refl) (λ d n k e. rw e refl)

-- what stands above a class and is no interface asks nothing
pub passed_over : (p : CoreProgram) (rows : List Row) (class above : ClassId) (k : CoreClass) → class_at p above ≡ Some k → is_interface_sort k.kind.sort ≡ false →
    (n : ℕ) (ms : List CoreMethod) → true ≡ tested_from (λ at m. implements_one p rows class above at) n ms
passed_over p rows class above k e f n [] = refl
passed_over p rows class above k e f n (m ∷ ms) = passed_over p rows class above k e f (suc n) ms
    ∙ sym (ap (λ b. implies b (may_use_if rows (dispatched p class (record { class = above; at = n }))) && tested_from (λ at j. implements_one p rows class above at) (suc n) ms) (ap is_interface e ∙ f))
