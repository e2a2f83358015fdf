-- Classes, one after the other.
use Rattle.std.proofs.Common.{◌≡◌, ℕ, suc, ◌+◌, ◌-◌, ◌<◌, ap, sym, ◌∙◌, add-one, arith}
use Rattle.je_typing.specs.declared.fault.Refusal.{Refusal}
use Rattle.je_typing.specs.Answers.{IsFault}
use Rattle.je_typing.specs.Judged.{Judged, gives, bind}
use Rattle.je_typing.proofs.Walks.{bind_gives, bind_faults}
use Rattle.signature_typing.specs.Signatures.{Setting, class_signatures, signatures_from}
use Rattle.written_types.proofs.Walking.{fault_of}

module _ (s : Setting) (at n : ℕ) (whole : Judged (Unit {0})) (within : at < n) (met : whole ≡ signatures_from s at (n - at)) where
  here : whole ≡ bind (class_signatures s at) (λ (done : Unit {0}). signatures_from s (suc at) (n - (at + 1)))
  here = let left : n - at ≡ suc (n - (at + 1)) = omega arith in met ∙ ap (signatures_from s at) left

  pub class_on : (done : Unit {0}) → class_signatures s at ≡ gives done → whole ≡ signatures_from s (at + 1) (n - (at + 1))
  class_on done g =
      here ∙ bind_gives (class_signatures s at) (λ (d : Unit {0}). signatures_from s (suc at) (n - (at + 1))) done g
      ∙ ap (λ (m : ℕ). signatures_from s m (n - (at + 1))) (sym (add-one at))

  pub class_fails : (r : Refusal) → IsFault (class_signatures s at) r → IsFault whole r
  class_fails r f = fault_of here (bind_faults (class_signatures s at) (λ (d : Unit {0}). signatures_from s (suc at) (n - (at + 1))) r f)
