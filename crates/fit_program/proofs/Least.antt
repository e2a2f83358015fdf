-- The least number for which a test fails, come by in order.
use Rattle.std.proofs.Common.{◌≡◌, ℕ, zero, suc, ◌+◌, ◌<◌, List, [], ◌∷◌, length, map, get_or, Option, Some, None, refl, sym, ap, ◌∙◌, subst, arith}
use Rattle.std.specs.Prelude.{Bool, true, false, option_map, nat_lt, slice_get, if◌then◌else◌}
use Rattle.std.proofs.lemmas.Bool.Decides.{nat_tests}
use Rattle.std.proofs.lemmas.Option.{none-some, slice_get-map, slice_get-get_or}
use Rattle.je_core.specs.declared.types.ClassId.{ClassId}
use Rattle.je_core.specs.declared.program.Class.{Class}
use Rattle.je_core.specs.declared.program.Field.{Field}
use Rattle.je_core.specs.declared.program.Method.{Method}
use Rattle.je_core.specs.Core.{CoreClass, CoreProgram}
use Rattle.je_core.specs.View.{class_view, field_view, method_view}
use Rattle.je_classes.specs.Hierarchy.{class_at}
use Rattle.je_classes.proofs.Lists.{bool_cases}
use Rattle.je_fitting.specs.Program.{Part}
use Rattle.je_fitting.specs.way.DecidingClasses.{is_whole_fit}
use Rattle.je_fitting.specs.way.DecidingMembers.{is_field_fit, is_method_fit}
use Rattle.je_fitting.specs.way.Misfits.{earlier_or, least_failing, class_passes, field_passes, method_passes, first_part, in_class, part_of, misfit_in, first_misfit}
use Rattle.je_fitting.specs.way.Quantifying.{if_there}
use Rattle.je_fitting.proofs.FirstMisfit.{whole_without, not_whole_with}

pub none_more : (test : ℕ → Bool) (n : ℕ) → least_failing test n ≡ None → test n ≡ true → least_failing test (n + 1) ≡ None
none_more test n e h = let s : n + 1 ≡ suc n = omega arith in
    ap (least_failing test) s ∙ ap (λ o. earlier_or o (if test n then None else Some n)) e ∙ ap (λ b. if◌then◌else◌ {A = Option ℕ} b None (Some n)) h

found-here : (test : ℕ → Bool) (n : ℕ) → least_failing test n ≡ None → test n ≡ false → least_failing test (suc n) ≡ Some n
found-here test n e h = ap (λ o. earlier_or o (if test n then None else Some n)) e ∙ ap (λ b. if◌then◌else◌ {A = Option ℕ} b None (Some n)) h

pub found_at : (test : ℕ → Bool) (n m : ℕ) → least_failing test n ≡ None → test n ≡ false → n < m → least_failing test m ≡ Some n
found_at test n zero e h l = absurd (omega arith)
found_at test n (suc m) e h l = bool_cases (λ b. nat_lt n m ≡ b → least_failing test (suc m) ≡ Some n) (nat_lt n m)
    (λ _ t. let lt : n < m = grind (arith, nat_tests) in ap (λ o. earlier_or o (if test m then None else Some m)) (found_at test n m e h lt))
    (λ _ f. let is : n ≡ m = (let g : ¬ n < m = grind (arith, nat_tests) in omega (arith, g, l)) in subst (λ k. least_failing test (suc k) ≡ Some n) is (found-here test n e h)) refl

-- the test of an element at its place
pub tested_at : {A B : Type 0} (see : A → B) (test : B → Bool) (xs : List A) (n : ℕ) (x : A) →
    n < length xs → x ≡ get_or xs n x → if_there test (slice_get (map see xs) n) ≡ test (see x)
tested_at see test xs n x l e =
    ap (if_there test) (slice_get-map see xs n ∙ ap (option_map see) (slice_get-get_or xs n x l ∙ ap Some (sym e)))

-- a field and a method at their places
pub field_tested : (p : CoreProgram) (id : ClassId) (c : Class) (n : ℕ) (f : Field) → n < length c.fields.items →
    f ≡ get_or c.fields.items n f → field_passes p id (class_view c) n ≡ is_field_fit p id (field_view f)
field_tested p id c n f l e = tested_at field_view (is_field_fit p id) c.fields.items n f l e

pub method_tested : (p : CoreProgram) (id : ClassId) (c : Class) (n : ℕ) (m : Method) → n < length c.methods.items →
    m ≡ get_or c.methods.items n m → method_passes p id (class_view c) n ≡ is_method_fit p id (class_view c) (method_view m)
method_tested p id c n m l e = tested_at method_view (is_method_fit p id (class_view c)) c.methods.items n m l e

-- no class is wanting below their number
none_past : {A : Type 0} (xs : List A) (n : ℕ) → n < length xs → slice_get xs n ≡ None → ⊥
none_past [] n l e = omega arith
none_past (x ∷ xs) zero l e = none-some x (sym e)
none_past (x ∷ xs) (suc n) l e = none_past xs n (omega arith) e

pub no_class : (p : CoreProgram) (n : ℕ) → n < length p.classes → class_at p (record { 0 = n }) ≡ None → ⊥
no_class p n l e = none_past p.classes n l e

-- ---- of the program

module _ (p : CoreProgram) (n : ℕ) (c : CoreClass) (there : class_at p (record { 0 = n }) ≡ Some c) where
  pub passes : first_part p (record { 0 = n }) c ≡ None → class_passes p n ≡ true
  passes e = ap (if_there (is_whole_fit p (record { 0 = n }))) there ∙ whole_without p (record { 0 = n }) c e

  pub fails : (part : Part) → first_part p (record { 0 = n }) c ≡ Some part → class_passes p n ≡ false
  fails part e = ap (if_there (is_whole_fit p (record { 0 = n }))) there ∙ not_whole_with p (record { 0 = n }) c part e

  pub misfit_at : (part : Part) → least_failing (class_passes p) n ≡ None → n < length p.classes → first_part p (record { 0 = n }) c ≡ Some part → first_misfit p ≡ Some (record { 0 = n }, part)
  unfolding first_misfit
  misfit_at part e l h = ap (misfit_in p) (found_at (class_passes p) n (length p.classes) e (fails part h) l)
      ∙ ap (part_of p (record { 0 = n })) there ∙ ap (in_class (record { 0 = n })) h

pub none_misfit : (p : CoreProgram) → least_failing (class_passes p) (length p.classes) ≡ None → first_misfit p ≡ None
unfolding first_misfit
none_misfit p e = ap (misfit_in p) e
