-- A test of each method of a program that asks for a class above one is a test of the methods of the classes above.
use Rattle.std.proofs.Common.{◌≡◌, ℕ, suc, List, [], ◌∷◌, Some, refl, sym, ap, ◌∙◌}
use Rattle.std.specs.Prelude.{true, false, not, ◌&&◌}
use Rattle.je_core.specs.declared.types.ClassId.{ClassId}
use Rattle.je_core.specs.Core.{CoreMethod, CoreClass, CoreProgram}
use Rattle.je_classes.specs.Hierarchy.{class_at, is_below}
use Rattle.je_classes.specs.Dispatch.{dispatched}
use Rattle.je_fitting.specs.Classes.{is_interface}
use Rattle.je_fitting.specs.Expressions.{is_interface_sort}
use Rattle.je_fitting.specs.way.Quantifying.{implies, each_method}
use Rattle.class_lookup.specs.Above.{AreAbove}
use Rattle.fit_members.specs.way.Each.{tested_from, each_of}
use Rattle.fit_members.proofs.Each.{each_above}
use Rattle.plain_programs.specs.way.Deciding.{is_wild_if, implements_plainly}

pub above_alone : (p : CoreProgram) (class : ClassId) (ds : List ClassId) → AreAbove p class ds →
    each_of p (λ d n k. implements_plainly p class d n) ds ≡ each_method p (λ d n k. implies (is_below p class d) (implements_plainly p class d n))
above_alone p class ds a = each_above p class ds a (λ d n k. implies (is_below p class d) (implements_plainly p class d n)) (λ d n k. implements_plainly p class d n)
    (λ d n k e. rw e refl) (λ d n k e. rw e refl)

-- what stands above a class and is no interface asks nothing
pub passed_over : (p : CoreProgram) (class above : ClassId) (k : CoreClass) → class_at p above ≡ Some k → is_interface_sort k.kind.sort ≡ false →
    (n : ℕ) (ms : List CoreMethod) → true ≡ tested_from (λ at m. implements_plainly p class above at) n ms
passed_over p class above k e f n [] = refl
passed_over p class above k e f n (m ∷ ms) = passed_over p class above k e f (suc n) ms
    ∙ sym (ap (λ b. implies b (not (is_wild_if (dispatched p class (record { class = above; at = n })))) && tested_from (λ at j. implements_plainly p class above at) (suc n) ms) (ap is_interface e ∙ f))
