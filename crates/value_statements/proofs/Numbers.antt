-- The numbers of labels, in a set.
use Rattle.std.proofs.Common.{◌≡◌, ℕ, refl, ap, ◌∙◌, arith}
use Rattle.std.specs.Prelude.{ℤ, pos, negsuc, Bool, true, false, cond, ◌&&◌, ◌||◌, Some, None, ltb, leb}
use Rattle.std.specs.declared.cmp.Ordering.TheVariants.{Less, Greater, Equal}
use Rattle.std.specs.Ordering.{int_eq, is_eq}
use Rattle.std.specs.HashSet.{contains}
use Rattle.std.proofs.lemmas.Bool.Decides.{nat_tests}
use Rattle.je_arith.specs.Comparison.{is_same}
use Rattle.statement_steps.specs.Switches.{Met, met_value}
use Rattle.value_statements.specs.declared.met.LabelsMet.{LabelsMet}
use Rattle.value_statements.specs.Labels.{Knows}

same_naturals : (a b : ℕ) → is_eq (cond (ltb a b) Less (cond (ltb b a) Greater Equal)) ≡ (leb b a && leb a b)
same_naturals a b = grind (arith, nat_tests)

pub same_numbers : (x y : ℤ) → int_eq x y ≡ is_same y x
same_numbers (pos a) (pos b) = same_naturals a b
same_numbers (pos a) (negsuc b) = refl
same_numbers (negsuc a) (pos b) = refl
same_numbers (negsuc a) (negsuc b) = same_naturals b a

either : (b c : Bool) → cond b true c ≡ (b || c)
either true c = refl
either false c = refl

-- one more number is met
pub number_met : (old new : LabelsMet) (met : Met) (n : ℤ) → ((q : ℤ) → contains int_eq new.numbers q ≡ cond (int_eq n q) true (contains int_eq old.numbers q)) →
    new.has_default ≡ old.has_default → Knows old met → Knows new (met_value met (Some n))
number_met old new met n more same k = record {
  numbers = λ q. more q ∙ either (int_eq n q) (contains int_eq old.numbers q) ∙ (λ i. same_numbers n q i || k.numbers q i);
  default = same ∙ k.default;
}

-- `default` is met
pub default_met : (old new : LabelsMet) (met : Met) → new.numbers ≡ old.numbers → new.has_default ≡ true → Knows old met → Knows new (met_value met None)
default_met old new met numbers is k = record {
  numbers = λ q. ap (λ s. contains int_eq s q) numbers ∙ k.numbers q;
  default = is;
}
