-- What the table's rows are in a program.
use Rattle.std.proofs.Common.{◌≡◌, ℕ, zero, suc, ◌+◌, List, [], ◌∷◌, Some, option_map, sym, ap, ◌∙◌, arith}
use Rattle.std.specs.Prelude.{Bool, true, false, slice_get}
use Rattle.je_base.specs.declared.span.NameId.{NameId}
use Rattle.je_core.specs.declared.types.ClassId.{ClassId}
use Rattle.je_core.specs.Core.{CoreProgram}
use Rattle.je_table.specs.Library.{Class, classes}
use Rattle.je_classes.specs.Hierarchy.{class_at}
use Rattle.je_sound.proofs.Library.{there-too}
use Rattle.library_classes.specs.Library.{LibraryStands, all_due, class_due, classes_due}

pub apart : {A : Type 0} {b : Bool} → b ≡ true → b ≡ false → A
apart e f = absurd (let z = sym e ∙ f in no z)
  where
    no : ¬ (true ≡ false)
    no q = absurd cc

due-at : (number : List ℕ → NameId) (n : ℕ) (cs : List Class) (at : ℕ) (c : Class) → slice_get cs at ≡ Some c → slice_get (classes_due number n cs) at ≡ Some (class_due number (at + n) c)
due-at number n [] at c e = absurd cc
due-at number n (d ∷ cs) zero c e = let p : n ≡ 0 + n = omega arith in ap (option_map (class_due number n)) e ∙ ap (λ i. Some (class_due number i c)) p
due-at number n (d ∷ cs) (suc at) c e = let p : at + suc n ≡ suc at + n = omega arith in due-at number (suc n) cs at c e ∙ ap (λ i. Some (class_due number i c)) p

module _ (p : CoreProgram) (s : LibraryStands p) where
  pub class-due : (k : ClassId) (c : Class) → slice_get classes k.0 ≡ Some c → slice_get (all_due s.number) k.0 ≡ Some (class_due s.number k.0 c)
  unfolding all_due
  class-due k c e = let q : k.0 + 0 ≡ k.0 = omega arith in due-at s.number 0 classes k.0 c e ∙ ap (λ i. Some (class_due s.number i c)) q

  pub class-there : (k : ClassId) (c : Class) → slice_get classes k.0 ≡ Some c → class_at p k ≡ Some (class_due s.number k.0 c)
  class-there k c e = there-too p s k (class_due s.number k.0 c) (class-due k c e)
